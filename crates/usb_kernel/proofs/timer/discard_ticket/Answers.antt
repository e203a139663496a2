use Rattle.std.proofs.Common.{reverse, sym, ap, ◌∙◌}
use Rattle.usb_kernel.specs.Timers.{without_deadline}
use Rattle.usb_kernel.proofs.Deadlines.{keeps-dropped, keeps-undropped}
use Rattle.usb_kernel.proofs.timer.discard_ticket.Goals as goal

pub returns-in_default-clause-kept : goal.returns-in_default-clause-kept
returns-in_default-clause-kept g c =
    rw c.drop_ticket.ensures.journal (keeps-undropped (reverse c.args.journal.now.items) c.args.ticket c.args.deadlines.now.keys (sym c.in_default.ensures.acts) c.requires.kept)

pub returns-clause-kept : goal.returns-clause-kept
returns-clause-kept g c =
    let past = reverse c.args.journal.now.items in
    let keys = c.forget_deadline.ensures.keys ∙ ap (λ o. without_deadline c.args.deadlines.now.keys o c.args.ticket) c.in-Some.ensures.deadline in
    rw (c.drop_ticket.ensures.journal, keys) (keeps-dropped past c.args.ticket c.args.deadlines.now.keys (sym c.in-Some.ensures.acts) c.requires.kept)
