-- What the end of a claim and a claim leave of the kernel.
use Rattle.std.proofs.Common.{ℕ, ◌≡◌, Bool, true, false, cond, Option, Some, None, refl, ◌∙◌}
use Rattle.usb_kernel_devices.specs.declared.step.KernelCall.TheVariants as call
use Rattle.usb_kernel_devices.specs.Claims.{claim_rules, with_claim}
use Rattle.usb_kernel_devices.specs.Calls.{attach_rules, with_driver, detach_and_claim_rules, with_claimed_only}
use Rattle.usb_kernel.specs.Calls.{called}
use Rattle.usb_kernel.specs.Value.{KernelState}
use Rattle.usb_kernel.proofs.Answered.{called-is}
use Rattle.usb_device_ledger.specs.declared.opened.OpenDevice.{OpenDevice}
use Rattle.usb_device_ledger.specs.declared.owners.EndedClaim.{EndedClaim}
use Rattle.usb_device_host.specs.Releases.{released, without_ended}
use Rattle.usb_device_host.specs.InterfaceClaims.{kernel_claimed}

-- its devices, and what is armed, are those of another
abbrev pub changed_as : KernelState → KernelState → KernelState
changed_as k left = record k { devices = left.devices; armed = left.armed }

-- a driver is attached or not
attached-is : (k : KernelState) (c : EndedClaim) (b : Bool) →
    cond b (called (released k c) c.device call.Attach (attach_rules c.number) (with_driver c.number)) (released k c) ≡
    changed_as k (cond b (called (released k c) c.device call.Attach (attach_rules c.number) (with_driver c.number)) (released k c))
attached-is k c true = called-is (released k c) c.device call.Attach (attach_rules c.number) (with_driver c.number)
attached-is k c false = refl

-- the end of a claim changes devices and what is armed
pub released-is : (k : KernelState) (ended : Option EndedClaim) → without_ended k ended ≡ changed_as k (without_ended k ended)
released-is k None = refl
released-is k (Some c) = attached-is k c c.reattach

pub released-as : (k next : KernelState) (ended : Option EndedClaim) → next ≡ without_ended k ended → next ≡ changed_as k (without_ended k ended)
released-as k next ended is = is ∙ released-is k ended

-- so does a claim
pub kernel_claimed-is : (k : KernelState) (o : OpenDevice) (number : ℕ) (reattach : Bool) → kernel_claimed k o number reattach ≡ changed_as k (kernel_claimed k o number reattach)
kernel_claimed-is k o number false = called-is k o.device call.Claim (claim_rules number) (with_claim number)
kernel_claimed-is k o number true = called-is k o.device call.DetachClaim (detach_and_claim_rules number) (with_claimed_only number)
