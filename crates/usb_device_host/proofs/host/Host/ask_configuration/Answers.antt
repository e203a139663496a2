use Rattle.std.proofs.Common.{arith, ◌∙◌, ap, sym, Some, set}
use Rattle.usb_kernel_devices.specs.declared.step.KernelCall.TheVariants as call
use Rattle.usb_kernel_devices.specs.Claims.{no_rules}
use Rattle.usb_kernel_devices.specs.Calls.{same}
use Rattle.usb_kernel.specs.Calls.{called}
use Rattle.usb_kernel.specs.Value.{KernelState}
use Rattle.usb_kernel.proofs.Answered.{asks-is}
use Rattle.usb_device_host.specs.HostFacts.{host_made}
use Rattle.usb_device_host.specs.EndpointOpens.{host_asked}
use Rattle.usb_device_host.proofs.EndpointLemmas.{asked-at}
use Rattle.usb_device_host.proofs.host.Host.ask_configuration.Goals as goal

pub returns : goal.returns
returns c =
    let k = c.self.inside.kernel in
    let l = c.self.inside.ledger in
    let devices = c.self.inside.devices in
    let steps = c.self.inside.steps.items in
    let o = c.get.result.now in
    let at = c.get.ensures.device in
    let kernel = c.active_value-value.ensures.kernel in
    let value = c.active_value-value.ensures.value in
    record {
      asked =
          ap (λ (x : KernelState). host_made x c.set_configuration.new.self l steps) kernel
          ∙ ap (λ ds. host_made (called k o.device call.GetConfig no_rules same) ds l steps) (c.set_configuration.ensures.kept o at)
          ∙ ap (λ v. host_made (called k o.device call.GetConfig no_rules same) (set devices c.args.device.serial (Some (record o { configuration = v }))) l steps) value
          ∙ sym (asked-at (host_made k devices l steps) c.args.device.serial o at) ∙ ap (λ h. host_asked h c.args.device.serial) c.self.view_is;
    }

pub invariant_of-self : goal.invariant_of-self
invariant_of-self c =
    let rest = c.active_value-value.ensures.kernel ∙ asks-is c.self.inside.kernel c.get.result.now.device call.GetConfig no_rules in
    record {
      agree = rw (ap (λ (k : KernelState). k.past) rest) c.self.invariant.agree;
      room = omega (arith, ap (λ (k : KernelState). k.spare) rest, c.self.invariant.room);
      errnos = c.self.invariant.errnos;
    }
