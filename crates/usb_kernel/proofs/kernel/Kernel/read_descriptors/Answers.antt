use Rattle.std.proofs.Common.{◌≡◌, Some, refl, ap, sym, ◌∙◌}
use Rattle.usb_kernel_devices.specs.declared.devices.DeviceState.{DeviceState}
use Rattle.usb_kernel_devices.specs.declared.step.KernelCall.TheVariants as call
use Rattle.usb_kernel_devices.specs.Devices.{plugged_device}
use Rattle.usb_kernel_devices.specs.Claims.{no_rules}
use Rattle.usb_kernel_devices.specs.Calls.{same}
use Rattle.usb_kernel.specs.Value.{KernelState}
use Rattle.usb_kernel.proofs.CallLemmas.{called-refused, called-asked, asked-refused, asked-found}
use Rattle.usb_kernel.proofs.kernel.Kernel.read_descriptors.Goals as goal

pub returns-in-Some : goal.returns-in-Some
returns-in-Some c =
    let k = c.args.self.now in
    let refused = sym c.in-Some.ensures.errno in (
      (refl, λ kernel. tt, c.refusal.ensures.armed ∙ called-refused k c.args.device c.in-Some.errno call.ReadDesc no_rules same refused),
      record {
        bytes = tt;
        err = sym (asked-refused k c.args.device c.in-Some.errno call.ReadDesc (λ (d : DeviceState). d.bytes) refused);
        rest = tt;
      },
    )

pub returns-in-Some-plugged : goal.returns-in-Some-plugged
returns-in-Some-plugged c =
    let k = c.args.self.now in
    let device = c.in-Some-plugged.device.now in
    let none = sym c.in_default.ensures.errno in
    let before = c.self.view_is ∙ c.refusal.ensures.armed in
    let devices = c.deref.ensures.value ∙ ap (λ (v : KernelState). v.devices) before in
    let found : plugged_device k.devices c.args.device ≡ Some device = ap (λ ds. plugged_device ds c.args.device) (sym devices) ∙ sym c.in-Some-plugged.ensures.device in (
      (refl, λ kernel. tt, before ∙ called-asked k c.args.device call.ReadDesc none),
      record {
        bytes = sym (asked-found k c.args.device call.ReadDesc (λ (d : DeviceState). d.bytes) device none found);
        err = tt;
        rest = tt;
      },
    )
