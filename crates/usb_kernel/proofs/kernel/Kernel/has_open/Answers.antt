use Rattle.std.proofs.Common.{ap, ◌∙◌, reverse}
use Rattle.std.specs.Prelude.{is_some}
use Rattle.usb_kernel.specs.Journal.{oldest}
use Rattle.usb_kernel.proofs.Kept.{past_is}
use Rattle.usb_kernel.proofs.FrontLemmas.{position-oldest}
use Rattle.usb_kernel.proofs.kernel.Kernel.has_open.Goals as goal

pub returns : goal.returns
returns c =
    let d = c.args.device in
    let e = c.args.endpoint in
    let past = reverse c.self.inside.journal.items in
    record {
      open_one = c.has_open.ensures.open_one ∙ ap is_some (position-oldest past c.self.inside.tickets.rows d e c.self.invariant.agrees ∙ ap (λ p. oldest p d e) (past_is c.self.inside c.self.view_is));
    }
