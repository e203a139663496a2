use Rattle.std.proofs.Common.{◌∙◌, ap, sym}
use Rattle.usb_kernel_devices.specs.declared.step.KernelCall.TheVariants as call
use Rattle.usb_kernel_devices.specs.Calls.{attach_rules, with_driver}
use Rattle.usb_kernel.specs.Value.{KernelState}
use Rattle.usb_kernel.proofs.Answered.{called-is}
use Rattle.usb_device_host.proofs.KernelFrames.{changed_as}
use Rattle.usb_device_host.proofs.host.release.Goals as goal

pub returns-then-claim-clause-rest : goal.returns-then-claim-clause-rest
returns-then-claim-clause-rest c =
    let between = c.release.new.self in
    let claim = c.in-Some.claim in
    c.attach.ensures.rest
    ∙ called-is between claim.device call.Attach (attach_rules claim.number) (with_driver claim.number)
    ∙ ap (changed_as between) (sym c.attach.ensures.rest)
    ∙ ap (λ (k : KernelState). changed_as k c.attach.new.self) c.release.ensures.rest
