use Rattle.std.proofs.Common.{refl}
use Rattle.usb_kernel.proofs.transfers.submitted.Goals as goal

pub returns-clause-kept : goal.returns-clause-kept
returns-clause-kept c = λ past number kept. c.in_ok-add_deadline.ensures.kept past c.args.s.now refl number kept
