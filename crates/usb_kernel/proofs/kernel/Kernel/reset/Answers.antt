use Rattle.std.proofs.Common.{sym, ◌∙◌}
use Rattle.usb_kernel.proofs.CallLemmas.{reset-refused, reset-done}
use Rattle.usb_kernel.proofs.kernel.Kernel.reset.Goals as goal

pub returns-in-Some-clause-rest : goal.returns-in-Some-clause-rest
returns-in-Some-clause-rest c =
    c.refusal.ensures.armed ∙ reset-refused c.args.self.now c.args.device c.in-Some.errno (sym c.in-Some.ensures.errno)

pub returns-clause-rest : goal.returns-clause-rest
returns-clause-rest c =
    let before = c.refusal.ensures.armed in
    reset-done c.args.self.now c.unplug_with.new.kernel c.args.device (sym c.in_default.ensures.errno) (rw before at c.unplug_with.ensures.past) (rw before at c.unplug_with.ensures.devices) (rw before at c.unplug_with.ensures.spare) (rw before at c.unplug_with.ensures.rest)
