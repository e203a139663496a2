use Rattle.std.proofs.Common.{◌∙◌}
use Rattle.usb_kernel_devices.specs.declared.devices.DeviceState.{DeviceState}
use Rattle.usb_kernel_devices.specs.declared.step.KernelCall.TheVariants as call
use Rattle.usb_kernel_devices.specs.Claims.{no_rules}
use Rattle.usb_kernel.proofs.Answered.{asked-uses_none}
use Rattle.usb_device_host.proofs.opening.read_descriptors.Goals as goal

pub returns-in-Err-clone-clause-kernel : goal.returns-in-Err-clone-clause-kernel
returns-in-Err-clone-clause-kernel c =
    c.read_descriptors.follows.holds-at-none ∙ asked-uses_none c.args.kernel.now c.args.device call.ReadDesc no_rules (λ (d : DeviceState). d.bytes) _ c.in-Ok.ensures.bytes
