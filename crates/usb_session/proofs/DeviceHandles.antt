-- Handles of devices are cloned and closed.
use Rattle.std.proofs.Common.{◌≡◌, ℕ, arith, true, false, List, length, Option, Some, None, refl, ap, sym, ◌∙◌, subst, inl, inr}
use Rattle.std.specs.Prelude.{◌==◌}
use Rattle.std.specs.List.{count_by}
use Rattle.std.proofs.lemmas.Bool.{eq-eqb, ne_eqb}
use Rattle.usb_session_text.specs.Calls.{ok_line, condition_line}
use Rattle.usb_device_ledger.specs.OwnerRows.{one_if}
use Rattle.usb_device_host.specs.HostState.{HostState}
use Rattle.usb_device_host.specs.HandleStates.{StandsDevice}
use Rattle.usb_device_ledger.specs.Devices.{handle_more, handle_less}
use Rattle.usb_device_host.specs.Handles.{device_cloned, device_closed}
use Rattle.usb_device_host.proofs.HeldDevices.{held-device_cloned, held-device_closed}
use Rattle.usb_session_calls.specs.Names.{named, is_free, freed, set_name}
use Rattle.usb_session_calls.specs.State.{State}
use Rattle.usb_session_calls.specs.Clones.{clone_device_answer}
use Rattle.usb_session_calls.specs.SessionState.{SessionState, IsSound, is_device_of}
use Rattle.usb_session_calls.specs.Relation.{Represents}
use Rattle.usb_session_calls.proofs.NameLemmas.{length-set_name, length-freed, names-set}
use Rattle.usb_session_calls.proofs.Answering.{Gives, barred-gives}
use Rattle.usb_session_calls.proofs.Called.{names-freed}
use Rattle.usb_session_calls.proofs.CountedDevices.{count-opened, count-closed, devices-changed, stands-changed}
use Rattle.usb_session_calls.proofs.SoundDevices.{sound-device}
use Rattle.usb_device.proofs.OwnerLaw.{claims_stay_owned}
use Rattle.usb_session_streams.proofs.AccountLemmas.{accounts-kept}

-- one more handle is open
cloned-here : (s : SessionState) (after : List (Option ℕ)) (n d key : ℕ) → IsSound s → named s.devices d ≡ Some key → is_free s.devices n ≡ true → after ≡ set_name s.devices n key → IsSound (record s { host = device_cloned s.host key; devices = after })
cloned-here s after n d key sound at free put =
    let now = device_cloned s.host key in
    let stands = sound.devices_stand d key at in
    let one : one_if (key == key) ≡ 1 = ap one_if (eq-eqb key key refl) in
    let here : count_by (is_device_of key) after ≡ (handle_more stands.device).handles =
    ap (count_by (is_device_of key)) put ∙ omega (arith, one, count-opened key s.devices n key free, sound.devices_counted key stands.device stands.at) in
    sound-device s now after sound refl refl refl (ap (λ (l : List (Option ℕ)). length l) put ∙ length-set_name s.devices n key)
    (λ e k open_. stands-changed s.host now after key handle_more stands.device stands.at refl here e k open_
    (elim (names-set s.devices after n e key k free put open_) [
      | inl same ↦ subst (StandsDevice s.host) (sym same.1) stands
      | inr there ↦ sound.devices_stand e k there.1
    ]))
    (devices-changed s.host.devices now.devices s.devices after key handle_more stands.device stands.at refl here
    (λ k apart.
    let none : one_if (key == k) ≡ 0 = ap one_if (ne_eqb key k apart) in
    ap (count_by (is_device_of k)) put ∙ omega (arith, none, count-opened k s.devices n key free))
    sound.devices_counted)
    (held-device_cloned s.host key stands sound.devices_held)
    (accounts-kept s.host now (claims_stay_owned.clone_device s.host key).kept refl refl)

pub sound-device_cloned : (s : SessionState) (now : HostState) (after : List (Option ℕ)) (n d key : ℕ) → IsSound s → now ≡ device_cloned s.host key → named s.devices d ≡ Some key → is_free s.devices n ≡ true → after ≡ set_name s.devices n key → IsSound (record s { host = now; devices = after })
sound-device_cloned s now after n d key sound is at free put = rw is (cloned-here s after n d key sound at free put)

-- a handle is closed
closed-here : (s : SessionState) (after : List (Option ℕ)) (d key : ℕ) → IsSound s → named s.devices d ≡ Some key → after ≡ freed s.devices d → IsSound (record s { host = device_closed s.host key; devices = after })
closed-here s after d key sound at rest =
    let now = device_closed s.host key in
    let stands = sound.devices_stand d key at in
    let one : one_if (key == key) ≡ 1 = ap one_if (eq-eqb key key refl) in
    let here : count_by (is_device_of key) after ≡ (handle_less stands.device).handles =
    ap (count_by (is_device_of key)) rest ∙ omega (arith, one, count-closed key s.devices d key at, sound.devices_counted key stands.device stands.at) in
    sound-device s now after sound refl refl refl (ap (λ (l : List (Option ℕ)). length l) rest ∙ length-freed s.devices d)
    (λ e k open_. stands-changed s.host now after key handle_less stands.device stands.at refl here e k open_
    (sound.devices_stand e k (names-freed s.devices after d e k rest open_).1))
    (devices-changed s.host.devices now.devices s.devices after key handle_less stands.device stands.at refl here
    (λ k apart.
    let none : one_if (key == k) ≡ 0 = ap one_if (ne_eqb key k apart) in
    ap (count_by (is_device_of k)) rest ∙ omega (arith, none, count-closed k s.devices d key at))
    sound.devices_counted)
    (held-device_closed s.host key stands sound.devices_held)
    (accounts-kept s.host now (claims_stay_owned.close_device s.host key).kept refl refl)

pub sound-device_closed : (s : SessionState) (now : HostState) (after : List (Option ℕ)) (d key : ℕ) → IsSound s → named s.devices d ≡ Some key → after ≡ freed s.devices d → now ≡ device_closed s.host key → IsSound (record s { host = now; devices = after })
sound-device_closed s now after d key sound at rest is = rw is (closed-here s after d key sound at rest)

pub clone_device-none : (s : SessionState) (state : State) (n d : ℕ) → named s.devices d ≡ None → Represents s state → Gives s condition_line (clone_device_answer state n d)
unfolding clone_device_answer
clone_device-none s state n d none r = rw (rw r at none) (barred-gives s state r)

pub clone_device-used : (s : SessionState) (state : State) (n d key : ℕ) → named s.devices d ≡ Some key → is_free s.devices n ≡ false → Represents s state → Gives s condition_line (clone_device_answer state n d)
unfolding clone_device_answer
clone_device-used s state n d key at used r = rw (rw r at at, rw r at used) (barred-gives s state r)

pub clone_device-gives : (s : SessionState) (state : State) (now : HostState) (after : List (Option ℕ)) (n d key : ℕ) → named s.devices d ≡ Some key → is_free s.devices n ≡ true → now ≡ device_cloned s.host key → after ≡ set_name s.devices n key → Represents s state → Gives (record s { host = now; devices = after }) ok_line (clone_device_answer state n d)
unfolding clone_device_answer
clone_device-gives s state now after n d key at free is put r = rw (rw r at at, rw r at free) (record { state = rw (is, put, r) refl; same = refl })
