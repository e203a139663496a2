-- What is opened and closed leaves the journal.
use Rattle.std.proofs.Common.{ℕ, ◌≡◌, ◌∙◌, Bool, ap, Result, Ok, Err, OnOk, OnErr}
use Rattle.usb_desc.specs.declared.error.Fail.{Fail}
use Rattle.usb_desc.specs.declared.error.Fail.TheVariants.{Cause, Memory}
use Rattle.usb_desc.specs.declared.types.Direction.{Direction}
use Rattle.usb_desc.specs.declared.types.TransferType.{TransferType}
use Rattle.usb_error.specs.ErrorState.{ErrorState}
use Rattle.usb_device_endpoint.specs.BusState.{BusState}
use Rattle.usb_device_endpoint.specs.EndpointState.{EndpointState}
use Rattle.usb_device_host.specs.HostState.{HostState}
use Rattle.usb_device_host.specs.CallErrors.{Leaves}
use Rattle.usb_device_host.specs.Opens.{host_opened}
use Rattle.usb_device_host.specs.InterfaceClaims.{host_claimed}
use Rattle.usb_device_host.specs.EndpointOpens.{host_asked, with_endpoint}
use Rattle.usb_device_host.proofs.InterfaceFrames.{bus-claimed, bus-handle_closed, asked-is, opened-is}
use Rattle.usb_device_host.specs.HandleStates.{InterfaceState}
use Rattle.usb_device.specs.HandleCalls.{ClaimsAndCloses, OpensAndCloses}

past-leaves : {A : Type 0} (r : Result A (Fail ErrorState)) (new called old : HostState) → Leaves r new called old →
    called.kernel.past ≡ old.kernel.past → new.kernel.past ≡ old.kernel.past
past-leaves (Ok x) new called old leaves same = ap (λ (h : HostState). h.kernel.past) leaves ∙ same
past-leaves (Err (Cause error)) new called old leaves same = ap (λ (h : HostState). h.kernel.past) leaves ∙ same
past-leaves (Err Memory) new called old leaves same = ap (λ (h : HostState). h.kernel.past) leaves

pub past-opened : {A : Type 0} (r : Result A (Fail ErrorState)) (new old : HostState) (bus address : ℕ) →
    Leaves r new (host_opened old bus address) old → new.kernel.past ≡ old.kernel.past
past-opened r new old bus address leaves =
    past-leaves r new (host_opened old bus address) old leaves
    (ap (λ (h : HostState). h.kernel.past) (opened-is old bus address))

pub past-claimed : (r : Result InterfaceState (Fail ErrorState)) (old new : HostState) (key number : ℕ) (reattach : Bool) →
    ClaimsAndCloses old new key number reattach r → new.kernel.past ≡ old.kernel.past
past-claimed r old new key number reattach claims =
    ap (λ (h : HostState). h.kernel.past) claims.closed
    ∙ past-leaves r claims.between (host_claimed old key number reattach) old claims.claims.host
    (ap (λ (b : BusState). b.past) (bus-claimed old key number reattach))

past-asked : (h : HostState) (key : ℕ) → (host_asked h key).kernel.past ≡ h.kernel.past
past-asked h key = ap (λ (h : HostState). h.kernel.past) (asked-is h key)

past-endpoint : {A E : Type 0} (r : Result A E) (old new : HostState) (device key address : ℕ) →
    OnOk r (new ≡ with_endpoint (host_asked old device) key address) → OnErr r (new ≡ host_asked old device) →
    new.kernel.past ≡ old.kernel.past
past-endpoint (Ok x) old new device key address ok err = ap (λ (h : HostState). h.kernel.past) ok ∙ past-asked old device
past-endpoint (Err e) old new device key address ok err = ap (λ (h : HostState). h.kernel.past) err ∙ past-asked old device

pub past-endpoint_opened :
    (r : Result EndpointState (Fail ErrorState)) (old new : HostState) (key address : ℕ) (kind : TransferType) (direction : Direction) →
    OpensAndCloses old new key address kind direction r → new.kernel.past ≡ old.kernel.past
past-endpoint_opened r old new key address kind direction opens =
    ap (λ (h : HostState). h.kernel.past) opens.closed
    ∙ ap (λ (b : BusState). b.past) (bus-handle_closed opens.between key)
    ∙ past-endpoint r old opens.between opens.opens.interface.opened key address opens.opens.ok opens.opens.err
