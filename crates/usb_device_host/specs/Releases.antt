-- When the last owner of an interface goes, its claim ends, and what the host keeps of it goes. An `EndedClaim` is a claim that ends: the device, the interface, and
-- whether its driver is to be attached again (usb_device_ledger/src/owners.rt).
use Rattle.std.specs.Prelude.{ℕ, Option, Some, None, if◌then◌else◌}
use Rattle.usb_kernel_devices.specs.declared.step.KernelCall.TheVariants as call
use Rattle.usb_kernel_devices.specs.Claims.{after_release}
use Rattle.usb_kernel_devices.specs.Calls.{attach_rules, with_driver}
use Rattle.usb_kernel.specs.Calls.{called}
use Rattle.usb_kernel.specs.Value.{KernelState}
use Rattle.usb_device_ledger.specs.declared.owners.EndedClaim.{EndedClaim}
use Rattle.usb_device_host.specs.HostState.{HostState}
use Rattle.usb_device_ledger.specs.Releases.{claim_ended, interface_at, claim_of, without_claim, endpoints_left}

-- the kernel when a claim ends: the interface is released
abbrev pub released : KernelState → EndedClaim → KernelState
released k claim = record k { devices = after_release k.devices claim.device claim.number }

-- and its kernel driver is attached, where the claim was made by detaching it; what the kernel
-- answers to that is ignored
abbrev pub reattached : KernelState → EndedClaim → KernelState
reattached k claim =
    if claim.reattach
    then called k claim.device call.Attach (attach_rules claim.number) (with_driver claim.number)
    else k

-- the same, if a claim ends
abbrev pub without_ended : KernelState → Option EndedClaim → KernelState
without_ended k None = k
without_ended k (Some claim) = reattached (released k claim) claim

-- the host when the claim of an interface ends, if one does: devices of the kernel change, and what
-- is armed there, and the interface's entry goes
abbrev pub with_ended : HostState → Option ℕ → Option EndedClaim → HostState
with_ended h i ended =
    record h {
      kernel = record h.kernel {
        devices = (without_ended h.kernel ended).devices;
        armed = (without_ended h.kernel ended).armed;
      };
      interfaces = without_claim h.interfaces i ended;
    }

-- an owner of the interface is there no more: its claim ends if nothing owns it
unfoldable pub owner_gone : HostState → ℕ → HostState
owner_gone h i = with_ended h (Some i) (claim_ended h.interfaces h.tickets h.endpoints i)

-- the endpoint of a key may live no more: what the host keeps of it goes then
unfoldable pub endpoint_left : HostState → ℕ → HostState
endpoint_left h k = record h { endpoints = endpoints_left h.tickets h.endpoints k }

-- and it may have been the last owner of its interface: the claim ends if nothing owns it
unfoldable pub settled : HostState → ℕ → HostState
settled h k =
    endpoint_left
    (with_ended h (interface_at h.endpoints k) (claim_of h.interfaces h.tickets h.endpoints k)) k
