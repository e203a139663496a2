use Rattle.std.proofs.Common.{ap, ◌∙◌, reverse, length}
use Rattle.usb_kernel.specs.Journal.{open_tickets}
use Rattle.usb_kernel.proofs.Kept.{past_is}
use Rattle.usb_kernel.proofs.FrontLemmas.{count-tickets}
use Rattle.usb_kernel.proofs.kernel.Kernel.open_count.Goals as goal

pub returns : goal.returns
returns c =
    let d = c.args.device in
    let e = c.args.endpoint in
    let past = reverse c.self.inside.journal.items in
    record {
      count = c.count_with.ensures.count ∙ (count-tickets past c.self.inside.tickets.rows d e c.self.invariant.agrees ∙ ap (λ p. length (open_tickets p d e)) (past_is c.self.inside c.self.view_is));
    }
