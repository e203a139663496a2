-- Futures are closed.
use Rattle.std.proofs.Common.{◌≡◌, ℕ, List, Option, Some, None, refl, ap, ◌∙◌}
use Rattle.usb_device_host.specs.HostState.{HostState}
use Rattle.usb_device.specs.Futures.{FutureState, future_closed}
use Rattle.usb_device.proofs.FutureFrames.{stays-closed}
use Rattle.usb_session_calls.specs.Names.{named, freed}
use Rattle.usb_session_calls.specs.State.{State}
use Rattle.usb_session.specs.Ends.{future_closed_under}
use Rattle.usb_session_calls.specs.SessionState.{SessionState, IsSound}
use Rattle.usb_session_calls.specs.Relation.{Represents}
use Rattle.usb_session_calls.proofs.FutureSessions.{leaves-closed, sound-future_freed}
use Rattle.usb_session_calls.proofs.NameLemmas.{freed-none}

pub future-sound_same : (s : SessionState) (after : List (Option FutureState)) (n : ℕ) → IsSound s → named s.futures n ≡ None → after ≡ freed s.futures n → IsSound (record s { futures = after })
future-sound_same s after n sound none rest = rw (rest, freed-none s.futures n none) sound

pub future-closed_sound : (s : SessionState) (now : HostState) (after : List (Option FutureState)) (n : ℕ) (f : FutureState) → IsSound s → named s.futures n ≡ Some f → after ≡ freed s.futures n → now ≡ future_closed s.host f → IsSound (record s { host = now; futures = after })
future-closed_sound s now after n f sound was rest is =
    rw is
    (sound-future_freed s (future_closed s.host f) after n f sound was rest (leaves-closed s.host f sound.idle (sound.futures_wait n f was) (sound.futures_stand n f was)))

pub future-closed_spare : (h now : HostState) (f : FutureState) → now ≡ future_closed h f → now.kernel.spare ≡ h.kernel.spare
future-closed_spare h now f is = ap (λ (g : HostState). g.kernel.spare) is ∙ (stays-closed h f).line.spare

-- the state behind the close
pub close_future-code : (S s : SessionState) (now : HostState) (after : List (Option FutureState)) (n : ℕ) (f : FutureState) → s ≡ S → named s.futures n ≡ Some f → after ≡ freed s.futures n → now ≡ future_closed s.host f → (state : State) → Represents S state → Represents (record s { host = now; futures = after }) (future_closed_under state n)
unfolding future_closed_under
close_future-code S s now after n f view was rest closed state r =
    rw (rw (view ∙ r) at was, rest, closed, view ∙ r) refl

pub future-nothing : (S s : SessionState) (after : List (Option FutureState)) (n : ℕ) → s ≡ S → named s.futures n ≡ None → after ≡ freed s.futures n → (state : State) → Represents S state → Represents (record s { futures = after }) (future_closed_under state n)
unfolding future_closed_under
future-nothing S s after n view none rest state r =
    rw (rw (view ∙ r) at none, rest, freed-none s.futures n none) (view ∙ r)
