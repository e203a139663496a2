use Rattle.std.proofs.Common.{refl}
use Rattle.usb_kernel.proofs.Deadlines.{keeps-added}
use Rattle.usb_kernel.proofs.timer.add_deadline.Goals as goal

pub returns-in-Ok-clause-kept : goal.returns-in-Ok-clause-kept
returns-in-Ok-clause-kept c =
    λ past s has number kept. keeps-added past s c.args.deadline c.args.ticket c.args.deadlines.now.keys c.insert.new.self.keys (rw c.in-Some.is c.in-Ok.ensures.keys) has number kept

pub returns-in_default-clause-kept : goal.returns-in_default-clause-kept
returns-in_default-clause-kept c =
    λ past s has number kept. keeps-added past s c.args.deadline c.args.ticket c.args.deadlines.now.keys c.args.deadlines.now.keys (rw c.in_default.is refl) has number kept
