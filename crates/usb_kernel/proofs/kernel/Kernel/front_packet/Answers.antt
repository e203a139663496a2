use Rattle.std.proofs.Common.{arith, ap, ◌∙◌, sym, reverse}
use Rattle.usb_kernel.specs.Fronts.{front_packet}
use Rattle.usb_kernel.proofs.Kept.{past_is}
use Rattle.usb_kernel.proofs.FrontLemmas.{front-none, front-found, front_packet-none, front_packet-found}
use Rattle.usb_kernel.proofs.kernel.Kernel.front_packet.Goals as goal

pub returns-in_err-row : goal.returns-in_err-row
returns-in_err-row c =
    let d = c.args.device in
    let e = c.args.endpoint in
    let past = reverse c.self.inside.journal.items in
    let none = front-none past c.self.inside.tickets.rows d e c.self.invariant.agrees (sym c.in_err-row.ensures.row) in
    record {
      packet = rw c.from_residual.ensures (sym (front_packet-none past d e none) ∙ ap (λ p. front_packet p d e) (past_is c.self.inside c.self.view_is));
    }

pub next_packet-requires : goal.next_packet-requires
next_packet-requires c =
    let d = c.args.device in
    let e = c.args.endpoint in
    let past = reverse c.self.inside.journal.items in
    let row = c.in_ok-row.row.now in
    let found = front-found past c.self.inside.tickets.rows d e row c.self.invariant.agrees (sym c.in_ok-row.ensures.row) in
    record { output = omega (arith, found.1.endpoint, c.if-endpoint-ge128.false); unfinished = found.1.unfinished; roomy = found.1.roomy }

pub returns : goal.returns
returns c =
    let d = c.args.device in
    let e = c.args.endpoint in
    let past = reverse c.self.inside.journal.items in
    let row = c.in_ok-row.row.now in
    let found = front-found past c.self.inside.tickets.rows d e row c.self.invariant.agrees (sym c.in_ok-row.ensures.row) in
    record {
      packet = c.next_packet.ensures.packet ∙ (sym (front_packet-found past d e found.0 row c.if-endpoint-ge128.false found.1) ∙ ap (λ p. front_packet p d e) (past_is c.self.inside c.self.view_is));
    }
