-- Interfaces are claimed.
use Rattle.std.proofs.Common.{◌≡◌, ℕ, Bool, List, length, Option, Some, None, Result, Ok, Err, true, false, refl, ap, ◌∙◌}
use Rattle.usb_device_tables.specs.History.{value_at}
use Rattle.usb_desc.specs.declared.error.Fail.{Fail}
use Rattle.usb_error.specs.ErrorState.{ErrorState}
use Rattle.usb_session_text.specs.Calls.{ok_line, condition_line, error_line}
use Rattle.usb_device_endpoint.specs.BusState.{BusState}
use Rattle.usb_device_ledger.specs.declared.opened.OpenDevice.{OpenDevice}
use Rattle.usb_device_host.specs.HostState.{HostState}
use Rattle.usb_device_host.specs.HandleStates.{InterfaceState}
use Rattle.usb_device_host.specs.CallErrors.{Leaves}
use Rattle.usb_device_host.specs.InterfaceClaims.{claim_tried, host_claimed, claimed_key}
use Rattle.usb_device_host.proofs.Left.{left}
use Rattle.usb_device_host.proofs.InterfaceFrames.{bus-claimed, line-claimed}
use Rattle.usb_session_calls.specs.Names.{named, is_free, set_name}
use Rattle.usb_session_calls.specs.State.{State, with_host}
use Rattle.usb_session.specs.Claims.{claim_answer, claimed_as}
use Rattle.usb_session_calls.specs.SessionState.{SessionState}
use Rattle.usb_session_calls.specs.Relation.{Represents, session_of}
use Rattle.usb_session_calls.proofs.DeviceCalls.{device-none, device-some}
use Rattle.usb_session_calls.proofs.Answering.{Gives, barred-gives}

-- the state in which it is claimed
claim-by : (state : State) (host now : HostState) (after : List (Option InterfaceState)) (i number : ℕ) (f : InterfaceState) (t : Result ℕ ErrorState) → t ≡ Ok f.key → f.number ≡ number → now ≡ host → after ≡ set_name state.interfaces i f → Gives (record (session_of state) { host = now; interfaces = after }) ok_line (claimed_as (with_host state host) number i t)
claim-by state host now after i number f (Err error) tried numbered is put = absurd (cc)
claim-by state host now after i number f (Ok key) tried numbered is put =
    let next : f.key ≡ key = cc in
    let handle : ℕ → ℕ → InterfaceState = λ k n. record { key = k; number = n } in
    let same : f ≡ handle key number = ap (λ (k : ℕ). handle k f.number) next ∙ ap (handle key) numbered in
    record { state = rw (is, put, same) refl; same = refl }

pub claim-gives : (s : SessionState) (state : State) (now : HostState) (after : List (Option InterfaceState)) (d i key number : ℕ) (reattach : Bool) (o : OpenDevice) (f : InterfaceState) → Represents s state → named s.devices d ≡ Some key → value_at s.host.devices key ≡ Some o → is_free s.interfaces i ≡ true → claimed_key (length s.host.interfaces) (claim_tried s.host o number reattach) ≡ Ok f.key → f.number ≡ number → now ≡ host_claimed s.host key number reattach → after ≡ set_name s.interfaces i f → Gives (record s { host = now; interfaces = after }) ok_line (claim_answer state d number i reattach)
unfolding claim_answer
claim-gives s state now after d i key number reattach o f r at there free tried numbered is put =
    rw (device-some s state d key o r at there, rw r at free, r)
    (claim-by state (host_claimed state.host key number reattach) now after i number f (claimed_key (length state.host.interfaces) (claim_tried state.host o number reattach)) (rw r at tried) numbered (rw r at is) (rw r at put))

-- or that in which it is refused
refused-by : (state : State) (host now : HostState) (i number : ℕ) (error : ErrorState) (t : Result ℕ ErrorState) → t ≡ Err error → now ≡ host → Gives (record (session_of state) { host = now }) (error_line error) (claimed_as (with_host state host) number i t)
refused-by state host now i number error (Err other) tried is =
    let same : other ≡ error = cc in record { state = rw is refl; same = ap error_line same }
refused-by state host now i number error (Ok key) tried is = absurd (cc)

pub claim-refused : (s : SessionState) (state : State) (now : HostState) (d i key number : ℕ) (reattach : Bool) (o : OpenDevice) (error : ErrorState) → Represents s state → named s.devices d ≡ Some key → value_at s.host.devices key ≡ Some o → is_free s.interfaces i ≡ true → claimed_key (length s.host.interfaces) (claim_tried s.host o number reattach) ≡ Err error → now ≡ host_claimed s.host key number reattach → Gives (record s { host = now }) (error_line error) (claim_answer state d number i reattach)
unfolding claim_answer
claim-refused s state now d i key number reattach o error r at there free tried is =
    rw (device-some s state d key o r at there, rw r at free, r)
    (refused-by state (host_claimed state.host key number reattach) now i number error (claimed_key (length state.host.interfaces) (claim_tried state.host o number reattach)) (rw r at tried) (rw r at is))

-- or that in which it is barred
pub claim-none : (s : SessionState) (state : State) (d number i : ℕ) (reattach : Bool) → named s.devices d ≡ None → Represents s state → Gives s condition_line (claim_answer state d number i reattach)
unfolding claim_answer
claim-none s state d number i reattach none r = rw (device-none s state d r none) (barred-gives s state r)

pub claim-used : (s : SessionState) (state : State) (d key number i : ℕ) (reattach : Bool) (o : OpenDevice) → named s.devices d ≡ Some key → value_at s.host.devices key ≡ Some o → is_free s.interfaces i ≡ false → Represents s state → Gives s condition_line (claim_answer state d number i reattach)
unfolding claim_answer
claim-used s state d key number i reattach o at there used r =
    rw (device-some s state d key o r at there, rw r at used) (barred-gives s state r)

pub claim-spare : {A : Type 0} (h now : HostState) (key number : ℕ) (reattach : Bool) (r : Result A (Fail ErrorState)) → Leaves r now (host_claimed h key number reattach) h → now.kernel.spare ≡ h.kernel.spare
claim-spare h now key number reattach r is = left (λ (g : HostState). g.kernel.spare ≡ h.kernel.spare) r now (host_claimed h key number reattach) h is (line-claimed h key number reattach).spare refl

pub claim-past : {A : Type 0} (h now : HostState) (key number : ℕ) (reattach : Bool) (r : Result A (Fail ErrorState)) → Leaves r now (host_claimed h key number reattach) h → now.kernel.past ≡ h.kernel.past
claim-past h now key number reattach r is =
    left (λ (g : HostState). g.kernel.past ≡ h.kernel.past) r now (host_claimed h key number reattach) h is (ap (λ (b : BusState). b.past) (bus-claimed h key number reattach)) refl
