use Rattle.usb_kernel.proofs.Deadlines.{none-up}
use Rattle.usb_kernel.proofs.timer.take_due.Goals as goal

pub returns-then-first-clock-clause-none : goal.returns-then-first-clock-clause-none
returns-then-first-clock-clause-none c = none-up c.args.clock c.in_ok-first.first.now c.args.deadlines.now.keys c.if-first-clock.true c.in_ok-first.ensures.all_from
