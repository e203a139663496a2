use Rattle.std.proofs.Common.{sym, ◌∙◌}
use Rattle.usb_kernel_devices.specs.declared.step.KernelCall.TheVariants as call
use Rattle.usb_kernel_devices.specs.Claims.{no_rules}
use Rattle.usb_kernel_devices.specs.Calls.{same}
use Rattle.usb_kernel.proofs.CallLemmas.{called-refused, called-asked}
use Rattle.usb_kernel.proofs.kernel.Kernel.configuration.Goals as goal

pub returns-in-Some-clause-rest : goal.returns-in-Some-clause-rest
returns-in-Some-clause-rest c =
    c.refusal.ensures.armed ∙ called-refused c.args.self.now c.args.device c.in-Some.errno call.GetConfig no_rules same (sym c.in-Some.ensures.errno)

pub returns-clause-rest : goal.returns-clause-rest
returns-clause-rest c =
    c.refusal.ensures.armed ∙ called-asked c.args.self.now c.args.device call.GetConfig (sym c.in_default.ensures.errno)
