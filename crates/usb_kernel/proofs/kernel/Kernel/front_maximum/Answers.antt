use Rattle.std.proofs.Common.{ap, ◌∙◌, sym, reverse}
use Rattle.usb_kernel.specs.Fronts.{front_maximum}
use Rattle.usb_kernel.proofs.Kept.{past_is}
use Rattle.usb_kernel.proofs.FrontLemmas.{front-none, front-found, front_maximum-none, front_maximum-found}
use Rattle.usb_kernel.proofs.kernel.Kernel.front_maximum.Goals as goal

pub returns-in_err-row : goal.returns-in_err-row
returns-in_err-row c =
    let d = c.args.device in
    let e = c.args.endpoint in
    let past = reverse c.self.inside.journal.items in
    let none = front-none past c.self.inside.tickets.rows d e c.self.invariant.agrees (sym c.in_err-row.ensures.row) in
    record {
      maximum = c.from_residual.ensures ∙ (sym (front_maximum-none past d e none) ∙ ap (λ p. front_maximum p d e) (past_is c.self.inside c.self.view_is));
    }

pub returns : goal.returns
returns c =
    let d = c.args.device in
    let e = c.args.endpoint in
    let past = reverse c.self.inside.journal.items in
    let row = c.in_ok-row.row.now in
    let found = front-found past c.self.inside.tickets.rows d e row c.self.invariant.agrees (sym c.in_ok-row.ensures.row) in
    record {
      maximum = sym (front_maximum-found past d e found.0 row found.1) ∙ ap (λ p. front_maximum p d e) (past_is c.self.inside c.self.view_is);
    }
