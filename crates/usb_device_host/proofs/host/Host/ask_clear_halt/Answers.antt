use Rattle.std.proofs.Common.{◌∙◌, ap, arith}
use Rattle.usb_kernel_devices.specs.declared.step.KernelCall.TheVariants as call
use Rattle.usb_kernel_devices.specs.Claims.{no_rules}
use Rattle.usb_kernel.specs.Value.{KernelState}
use Rattle.usb_kernel.proofs.Answered.{asks-is}
use Rattle.usb_device_host.proofs.host.Host.ask_clear_halt.Goals as goal

pub invariant_of-self : goal.invariant_of-self
invariant_of-self c =
    let rest = c.clear_halt.ensures.rest ∙ asks-is c.self.inside.kernel c.args.device call.Halt no_rules in
    record {
      agree = rw (ap (λ (k : KernelState). k.past) rest) c.self.invariant.agree;
      room = omega (arith, ap (λ (k : KernelState). k.spare) rest, c.self.invariant.room);
      errnos = c.self.invariant.errnos;
    }
