use Rattle.std.proofs.Common.{◌∙◌, ap}
use Rattle.usb_kernel_devices.specs.declared.step.KernelCall.TheVariants as call
use Rattle.usb_kernel_devices.specs.Claims.{no_rules}
use Rattle.usb_kernel.specs.Value.{KernelState}
use Rattle.usb_kernel.proofs.Answered.{asks-is}
use Rattle.usb_device_host.specs.HostBus.{bus_of}
use Rattle.usb_device_host.proofs.host.HostBus.clear_halt.Goals as goal

pub returns-clause-state : goal.returns-clause-state
returns-clause-state c =
    let now = c.args.self.now in
    ap bus_of (c.ask_clear_halt.ensures.cleared ∙ ap (λ (k : KernelState). record now { kernel = k }) (asks-is now.kernel c.args.device call.Halt no_rules))
