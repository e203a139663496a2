-- An interface of an open device is claimed: with its kernel driver detached, which is noted to be
-- attached again when the claim ends, or as it is.
use Rattle.std.specs.Prelude.{ℕ, Bool, true, false, [], ◌∷◌, ◌++◌, Result, Ok, Err, Option, Some, None}
use Rattle.usb_kernel_devices.specs.declared.step.KernelCall.TheVariants as call
use Rattle.usb_kernel_devices.specs.Claims.{claim_rules, with_claim, ok_unless}
use Rattle.usb_kernel_devices.specs.Calls.{detach_and_claim_rules, with_claimed_only}
use Rattle.usb_kernel.specs.Calls.{errno_of, called}
use Rattle.usb_kernel.specs.Value.{KernelState}
use Rattle.usb_error.specs.ErrorState.{ErrorState}
use Rattle.usb_error.specs.Errors.{claim_error}
use Rattle.usb_device_endpoint.specs.CallErrors.{or_error}
use Rattle.usb_device_tables.specs.History.{value_at}
use Rattle.usb_device_ledger.specs.declared.opened.OpenDevice.{OpenDevice}
use Rattle.usb_device_ledger.specs.Entries.{ClaimedInterface, fresh_interface}
use Rattle.usb_device_host.specs.HostState.{HostState}
use Rattle.usb_device_ledger.specs.Devices.{device_changed, interface_more}

-- the errno of the claim at the kernel
abbrev pub claim_errno : KernelState → OpenDevice → ℕ → Bool → Option ℕ
claim_errno k o number false = errno_of k o.device call.Claim (claim_rules number)
claim_errno k o number true = errno_of k o.device call.DetachClaim (detach_and_claim_rules number)

-- the kernel's answer to the claim
abbrev pub claim_tried : HostState → OpenDevice → ℕ → Bool → Result (Unit {0}) ErrorState
claim_tried h o number reattach =
    or_error claim_error (ok_unless (claim_errno h.kernel o number reattach))

-- what is left of the kernel
abbrev pub kernel_claimed : KernelState → OpenDevice → ℕ → Bool → KernelState
kernel_claimed k o number false =
    called k o.device call.Claim (claim_rules number) (with_claim number)
kernel_claimed k o number true =
    called k o.device call.DetachClaim (detach_and_claim_rules number) (with_claimed_only number)

-- one more interface is claimed, where the kernel did not refuse, and holds its open device
abbrev pub claimed_by : HostState → ClaimedInterface → Result (Unit {0}) ErrorState → HostState
claimed_by h c (Err error) = h
claimed_by h c (Ok done) =
    record h {
      devices = device_changed h.devices c.opened interface_more;
      interfaces = h.interfaces ++ Some c ∷ [];
    }

-- the host after a claim for which there was memory enough
abbrev pub claimed_on : HostState → ℕ → ℕ → Bool → Option OpenDevice → HostState
claimed_on h key number reattach None = h
claimed_on h key number reattach (Some o) =
    claimed_by (record h { kernel = kernel_claimed h.kernel o number reattach })
    (fresh_interface key o.device number reattach) (claim_tried h o number reattach)

unfoldable pub host_claimed : HostState → ℕ → ℕ → Bool → HostState
host_claimed h key number reattach = claimed_on h key number reattach (value_at h.devices key)

-- the claimed interface has the next key
abbrev pub claimed_key : ℕ → Result (Unit {0}) ErrorState → Result ℕ ErrorState
claimed_key key (Err error) = Err error
claimed_key key (Ok done) = Ok key
