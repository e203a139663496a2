use Rattle.std.proofs.Common.{◌≡◌, Some, None, sym, ap, ◌∙◌}
use Rattle.std.specs.Prelude.{position}
use Rattle.std.specs.List.{sum_by}
use Rattle.usb_kernel.specs.Rows.{Agrees, is_open_row, owed}
use Rattle.usb_kernel.specs.Listed.{rows_of}
use Rattle.usb_kernel.proofs.StepLemmas.{oldest-none}
use Rattle.usb_kernel.proofs.Passing.{after_echo-none_out, after_echo-none_in, sends-of, takes-of, Agrees-pass}
use Rattle.usb_kernel.proofs.RecordLemmas.{seen_rows}
use Rattle.usb_kernel.proofs.Freed.{after_echo-from_in, after_echo-to_out, no_more}
use Rattle.usb_kernel.proofs.table.TicketTable.give_echo.Goals as goal
use Rattle.usb_kernel.proofs.table.TicketTable.give_echo.Goals.{then-output-ge128-via-then-output-ge128, then-output-ge128-via-else-output-ge128+then-input-lt128}

pub returns-in_err-from-clause-agrees : goal.returns-in_err-from-clause-agrees
returns-in_err-from-clause-agrees g c =
    let records = c.self.inside.tickets.records.items in
    let none : position (is_open_row c.args.device c.args.output) (rows_of records) ≡ None = sym (c.in_err-from.ensures.oldest records c.self.invariant) in
    λ past agreed.
    let agrees : Agrees past (rows_of records) = rw (seen_rows c.self.view_is) agreed in
    rw (after_echo-none_out past c.args.device c.args.output c.args.input (oldest-none past (rows_of records) c.args.device c.args.output agrees none)) agreed

pub returns-in_err-from-clause-acts : goal.returns-in_err-from-clause-acts
returns-in_err-from-clause-acts g c =
    let records = c.self.inside.tickets.records.items in
    let none : position (is_open_row c.args.device c.args.output) (rows_of records) ≡ None = sym (c.in_err-from.ensures.oldest records c.self.invariant) in
    λ past agreed.
    let agrees : Agrees past (rows_of records) = rw (seen_rows c.self.view_is) agreed in
    rw c.from_residual.ensures (after_echo-none_out past c.args.device c.args.output c.args.input (oldest-none past (rows_of records) c.args.device c.args.output agrees none))

pub returns-in_err-from-clause-places : goal.returns-in_err-from-clause-places
returns-in_err-from-clause-places g c = rw c.from_residual.ensures (no_more (sum_by owed c.args.self.now.rows))

pub returns-in_err-to-clause-agrees : goal.returns-in_err-to-clause-agrees
returns-in_err-to-clause-agrees g c =
    let records = c.self.inside.tickets.records.items in
    let none : position (is_open_row c.args.device c.args.input) (rows_of records) ≡ None = sym (c.in_err-to.ensures.oldest records c.self.invariant) in
    λ past agreed.
    let agrees : Agrees past (rows_of records) = rw (seen_rows c.self.view_is) agreed in
    rw (after_echo-none_in past c.args.device c.args.output c.args.input (oldest-none past (rows_of records) c.args.device c.args.input agrees none)) agreed

pub returns-in_err-to-clause-acts : goal.returns-in_err-to-clause-acts
returns-in_err-to-clause-acts g c =
    let records = c.self.inside.tickets.records.items in
    let none : position (is_open_row c.args.device c.args.input) (rows_of records) ≡ None = sym (c.in_err-to.ensures.oldest records c.self.invariant) in
    λ past agreed.
    let agrees : Agrees past (rows_of records) = rw (seen_rows c.self.view_is) agreed in
    rw c.from_residual-in_err-to.ensures (after_echo-none_in past c.args.device c.args.output c.args.input (oldest-none past (rows_of records) c.args.device c.args.input agrees none))

pub returns-in_err-to-clause-places : goal.returns-in_err-to-clause-places
returns-in_err-to-clause-places g c = rw c.from_residual-in_err-to.ensures (no_more (sum_by owed c.args.self.now.rows))

pub returns-then-output-ge128-clause-agrees : goal.returns-then-output-ge128-clause-agrees
returns-then-output-ge128-clause-agrees g c =
    λ past agreed.
    elim c.then-output-ge128.branch [
      | then-output-ge128-via-then-output-ge128 w ↦ rw (after_echo-from_in past c.args.device c.args.output c.args.input w.if-output-ge128.true) agreed
      | then-output-ge128-via-else-output-ge128+then-input-lt128 w ↦ rw (after_echo-to_out past c.args.device c.args.output c.args.input w.if-input-lt128.true) agreed
    ]

pub returns-then-output-ge128-clause-acts : goal.returns-then-output-ge128-clause-acts
returns-then-output-ge128-clause-acts g c =
    λ past agreed.
    elim c.then-output-ge128.branch [
      | then-output-ge128-via-then-output-ge128 w ↦ after_echo-from_in past c.args.device c.args.output c.args.input w.if-output-ge128.true
      | then-output-ge128-via-else-output-ge128+then-input-lt128 w ↦ after_echo-to_out past c.args.device c.args.output c.args.input w.if-input-lt128.true
    ]

pub returns-then-output-ge128-clause-places : goal.returns-then-output-ge128-clause-places
returns-then-output-ge128-clause-places g c = no_more (sum_by owed c.args.self.now.rows)

pub pass_packet-requires-clause-sends : goal.pass_packet-requires-clause-sends
pass_packet-requires-clause-sends g c =
    let records = c.self.inside.tickets.records.items in
    sends-of (rows_of records) c.args.device c.args.output c.in_ok-from.from (rw (seen_rows c.self.view_is) c.requires.roomy) c.if-output-ge128.false (sym (c.in_ok-from.ensures.oldest records c.self.invariant))

pub pass_packet-requires-clause-takes : goal.pass_packet-requires-clause-takes
pass_packet-requires-clause-takes g c =
    let records = c.self.inside.tickets.records.items in
    takes-of (rows_of records) c.args.device c.args.input c.in_ok-to.to (rw (seen_rows c.self.view_is) c.requires.roomy) c.if-input-lt128.false (sym (c.in_ok-to.ensures.oldest records c.self.invariant))

pub returns-clause-agrees : goal.returns-clause-agrees
returns-clause-agrees g c =
    let records = c.self.inside.tickets.records.items in
    let from : position (is_open_row c.args.device c.args.output) (rows_of records) ≡ Some c.in_ok-from.from = sym (c.in_ok-from.ensures.oldest records c.self.invariant) in
    let to : position (is_open_row c.args.device c.args.input) (rows_of records) ≡ Some c.in_ok-to.to = sym (c.in_ok-to.ensures.oldest records c.self.invariant) in
    λ past agreed.
    let agrees : Agrees past (rows_of records) = rw (seen_rows c.self.view_is) agreed in
    rw c.pass_packet.ensures.rows (Agrees-pass past (rows_of records) c.args.device c.args.output c.args.input c.in_ok-from.from c.in_ok-to.to agrees c.if-output-ge128.false c.if-input-lt128.false from to).0

pub returns-clause-acts : goal.returns-clause-acts
returns-clause-acts g c =
    let records = c.self.inside.tickets.records.items in
    let from : position (is_open_row c.args.device c.args.output) (rows_of records) ≡ Some c.in_ok-from.from = sym (c.in_ok-from.ensures.oldest records c.self.invariant) in
    let to : position (is_open_row c.args.device c.args.input) (rows_of records) ≡ Some c.in_ok-to.to = sym (c.in_ok-to.ensures.oldest records c.self.invariant) in
    λ past agreed.
    let agrees : Agrees past (rows_of records) = rw (seen_rows c.self.view_is) agreed in
    (Agrees-pass past (rows_of records) c.args.device c.args.output c.args.input c.in_ok-from.from c.in_ok-to.to agrees c.if-output-ge128.false c.if-input-lt128.false from to).1

pub returns-clause-places : goal.returns-clause-places
returns-clause-places g c = c.pass_packet.ensures.places ∙ ap (sum_by owed) (seen_rows c.self.view_is)
