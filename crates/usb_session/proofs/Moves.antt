-- An endpoint that is open moves to another name: it becomes a reader's or a writer's, or comes back.
use Rattle.std.proofs.Common.{◌≡◌, ◌≢◌, ℕ, List, Option, Some, None, Bool, true, false, refl, ap, sym, ◌∙◌}
use Rattle.std.specs.Prelude.{if◌then◌else◌}
use Rattle.usb_desc.specs.declared.types.Direction.{Direction}
use Rattle.usb_desc.specs.declared.types.Direction.TheVariants.{In, Out}
use Rattle.usb_desc.specs.Fields.{direction_of_address}
use Rattle.usb_device_endpoint.specs.EndpointState.{EndpointState}
use Rattle.usb_device_host.specs.EndpointRefusals.{same_direction}
use Rattle.usb_io.specs.Readers.{ReaderState}
use Rattle.usb_io.specs.Writers.{WriterState}
use Rattle.usb_session_text.specs.Calls.{condition_line}
use Rattle.usb_session_calls.specs.Names.{named, freed, set_name}
use Rattle.usb_session_calls.specs.EndpointNames.{EndpointName}
use Rattle.usb_session_calls.specs.State.{State}
use Rattle.usb_session_calls.specs.Submits.{has_direction}
use Rattle.usb_session_calls.specs.Answer.{Answer, condition_answer, if_open}
use Rattle.usb_session_calls.specs.SessionState.{SessionState, IsSound, open_under}
use Rattle.usb_session_calls.specs.Relation.{Represents}
use Rattle.usb_session_calls.proofs.Answering.{Gives, barred-gives}
use Rattle.usb_session_calls.proofs.Called.{SameCounts, with_open, sound-over}
use Rattle.usb_session_calls.proofs.Moved.{Moves, over-moved}
use Rattle.usb_session_calls.proofs.SoundOver.{over-session}
use Rattle.usb_session_calls.proofs.NameLemmas.{put-back}

pub sound-moved : (s : SessionState) (es : List (Option EndpointState)) (rs : List (Option ReaderState)) (ws : List (Option WriterState)) (p q : EndpointName) (x : EndpointState) → IsSound s → SameCounts s es rs ws s.clients → Moves (open_under s) (open_under (with_open s s.host es rs ws s.clients)) p q x → IsSound (with_open s s.host es rs ws s.clients)
sound-moved s es rs ws p q x sound counts moves =
    sound-over s s.host es rs ws s.clients sound counts (over-moved (open_under s) (open_under (with_open s s.host es rs ws s.clients)) p q x moves s s.host (over-session s sound))

-- an endpoint has the direction of its address, and no other
same-direction : (d : Direction) → same_direction d d ≡ true
same-direction In = refl
same-direction Out = refl

other-direction : (d e : Direction) → d ≢ e → same_direction d e ≡ false
other-direction In In apart = absurd (apart refl)
other-direction In Out apart = refl
other-direction Out In apart = refl
other-direction Out Out apart = absurd (apart refl)

pub is-direction : (d : Direction) (x : EndpointState) → direction_of_address x.address ≡ d → has_direction d x ≡ true
is-direction d x is = ap (λ e. same_direction e d) is ∙ same-direction d

pub not-direction : (d : Direction) (x : EndpointState) → direction_of_address x.address ≢ d → has_direction d x ≡ false
not-direction d x apart = other-direction (direction_of_address x.address) d apart

-- a call is barred whose name is in use, whatever is open under the other
pub barred-used : {X : Type 0} (s : SessionState) (state : State) (o : Option X) (b : Bool) (call : X → Answer) → Represents s state → b ≡ false → Gives s condition_line (if_open o (λ x. if b then call x else condition_answer state) (condition_answer state))
barred-used s state None b call r used = barred-gives s state r
barred-used s state (Some x) b call r used = rw used (barred-gives s state r)

-- so is one that needs the other direction, whether a name is free or not
pub barred-direction : (s : SessionState) (state : State) (b : Bool) (a : Answer) → Represents s state → Gives s condition_line (if b then (if false then a else condition_answer state) else condition_answer state)
barred-direction s state true a r = barred-gives s state r
barred-direction s state false a r = barred-gives s state r

-- what was taken out and did not change is put back
pub put_same : {X : Type 0} (es mid after : List (Option X)) (e : ℕ) (x : X) → named es e ≡ Some x → mid ≡ freed es e → after ≡ set_name mid e x → after ≡ es
put_same es mid after e x was rest put = put ∙ ap (λ l. set_name l e x) rest ∙ put-back es e x was
