-- What opening both endpoints answers, step by step.
use Rattle.std.proofs.Common.{ℕ, ◌≡◌, ◌∙◌, false, ap, sym, refl, subst, Some, Result, Ok, Err}
use Rattle.std.specs.Option.{ForSome}
use Rattle.std.proofs.lemmas.Option.{same_Some}
use Rattle.usb_desc.specs.declared.error.Fail.{Fail}
use Rattle.usb_desc.specs.declared.error.Fail.TheVariants.{Cause, Memory}
use Rattle.usb_desc.specs.declared.types.Direction.TheVariants.{Out, In}
use Rattle.usb_desc.specs.declared.types.TransferType.TheVariants.{Bulk}
use Rattle.usb_error.specs.ErrorState.{ErrorState}
use Rattle.usb_error.specs.Outcomes.{◌>>=◌, Tried, result_map}
use Rattle.usb_device_tables.specs.History.{value_at}
use Rattle.usb_device_ledger.specs.Entries.{ClaimedInterface}
use Rattle.usb_device_endpoint.specs.EndpointState.{EndpointState}
use Rattle.usb_device_host.specs.HostState.{HostState}
use Rattle.usb_device_host.specs.EndpointOpens.{OpensEndpoint}
use Rattle.usb_device_host.proofs.InterfaceFrames.{asked-is}
use Rattle.usb_device.specs.HandleCalls.{OpensAndCloses}
use Rattle.usb_device.specs.InterfaceAnswers.{interface_answer}
use Rattle.example_echo.specs.Pipes.{EchoState}
use Rattle.example_echo.specs.Claims.{claimed, claimed_as}
use Rattle.example_echo.specs.Opening.{echo_answer, endpoints_answer, out_answer}

-- the device or its interface is refused
pub echo-refused : (h : HostState) (bus address : ℕ) (error : Fail ErrorState) →
    Tried {A = Unit {0}} (Err error) (interface_answer h bus address 0 false) →
    Tried {A = Unit {0}} (Err error) (echo_answer h bus address)
unfolding echo_answer
echo-refused h bus address (Cause error) tried = rw tried refl
echo-refused h bus address Memory tried = tt

-- behind the claim
pub echo-claimed : (h mid : HostState) (bus address key : ℕ) (r : Result (Unit {0}) (Fail ErrorState)) →
    interface_answer h bus address 0 false ≡ Ok tt → mid ≡ claimed h bus address → key ≡ claimed_as h bus address →
    Tried r (endpoints_answer mid key (value_at mid.interfaces key)) → Tried r (echo_answer h bus address)
unfolding echo_answer
echo-claimed h mid bus address key r answer host key_is tried = rw (answer, ← host, ← key_is) tried

-- the IN endpoint is refused
pub in-refused : (h new : HostState) (key : ℕ) (error : Fail ErrorState) → OpensEndpoint h new key 129 Bulk In (Err error) →
    Tried {A = Unit {0}} (Err error) (endpoints_answer h key (value_at h.interfaces key))
in-refused h new key (Cause error) opens = rw (opens.at, opens.tried) refl
in-refused h new key Memory opens = tt

-- the OUT endpoint is tried
pub out-tried : (h new : HostState) (key : ℕ) (r : Result EndpointState (Fail ErrorState)) → OpensAndCloses h new key 2 Bulk Out r →
    ForSome (value_at h.interfaces key) (λ (c : ClaimedInterface). Tried (result_map (λ (e : EndpointState). e.maximum) r) (out_answer h key c))
out-tried h new key r both = λ c at.
    let same = same_Some both.opens.interface c (sym both.opens.at ∙ at) in
    rw (← same) both.opens.tried

answered : (r : Result EchoState (Fail ErrorState)) (t : Result ℕ ErrorState) →
    Tried (result_map (λ (e : EchoState). e.output.maximum) r) t →
    Tried (result_map (λ (e : EchoState). tt {0}) r) (t >>= (λ size. Ok tt))
answered (Ok e) t tried = rw tried refl
answered (Err (Cause error)) t tried = rw tried refl
answered (Err Memory) t tried = tt

-- so is it behind the IN endpoint
pub both-tried : (h mid : HostState) (key : ℕ) (input : EndpointState) (r : Result EchoState (Fail ErrorState)) →
    OpensEndpoint h mid key 129 Bulk In (Ok input) →
    ForSome (value_at mid.interfaces key) (λ (c : ClaimedInterface). Tried (result_map (λ (e : EchoState). e.output.maximum) r) (out_answer mid key c)) →
    Tried (result_map (λ (e : EchoState). tt {0}) r) (endpoints_answer h key (value_at h.interfaces key))
both-tried h mid key input r opens tried =
    let c = opens.interface in
    let kept : value_at mid.interfaces key ≡ Some c =
    ap (λ (x : HostState). value_at x.interfaces key) opens.ok ∙ (ap (λ (x : HostState). value_at x.interfaces key) (asked-is h c.opened) ∙ opens.at) in
    let given : Tried (result_map (λ (e : EchoState). e.output.maximum) r) (out_answer mid key c) = tried c kept in
    rw (opens.at, opens.tried)
    (subst (λ (x : HostState). Tried (result_map (λ (e : EchoState). tt {0}) r) (out_answer x key c >>= (λ size. Ok tt))) opens.ok
    (answered r (out_answer mid key c) given))
