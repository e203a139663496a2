use Rattle.std.proofs.Common.{◌∙◌, List, ap, length, arith}
use Rattle.usb_kernel_devices.specs.declared.step.KernelStep.{KernelStep}
use Rattle.usb_kernel_devices.specs.declared.step.KernelStep.TheVariants as step
use Rattle.usb_bot_disk.proofs.ActLemmas.{all-more, steps-after, spare-after}
use Rattle.usb_bot_disk.proofs.disk_bus.fail_open.Goals as goal

pub step-requires-clause-room : goal.step-requires-clause-room
step-requires-clause-room c =
    let same = ap {A = List KernelStep} length c.loop.invariant.steps in
    omega (arith, same, c.loop.invariant.spare, c.requires)

pub loop-preserved : goal.loop-preserved
loop-preserved c =
    let fail = step.Fail c.args.device c.args.endpoint 32 in
    let h = c.loop.host in
    let same = ap {A = List KernelStep} length c.loop.invariant.steps in
    record {
      host_is = all-more c.args.host.now h c.step.new.self fail c.loop.counter c.loop.invariant.host_is c.step.ensures.stepped;
      steps = steps-after h c.step.new.self fail c.step.ensures.stepped ∙ c.loop.invariant.steps;
      spare = omega (arith, spare-after h c.step.new.self fail c.step.ensures.stepped (omega (arith, same, c.loop.invariant.spare, c.requires)), c.loop.invariant.spare);
    }
