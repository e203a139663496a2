use Rattle.std.proofs.Common.{◌≡◌, Some, None, arith, sym, ap, ◌∙◌}
use Rattle.std.specs.List.{sum_by}
use Rattle.std.specs.Prelude.{position}
use Rattle.usb_kernel.specs.declared.record.Record.{Record}
use Rattle.usb_kernel.specs.Rows.{Agrees, is_open_row, owed}
use Rattle.usb_kernel.specs.Listed.{GoesOn, rows_of}
use Rattle.usb_kernel.proofs.StepLemmas.{found, oldest-none, Agrees-packet, after_packet-none, after_packet-some}
use Rattle.usb_kernel.proofs.RecordLemmas.{seen_rows, found-inside, row-read, rows-now, open-here, first-next, goes_on-packet, freed-now}
use Rattle.usb_kernel.proofs.Freed.{after_packet-out, no_more}
use Rattle.usb_kernel.proofs.table.TicketTable.give_packet.Goals as goal

pub returns-in_err-at-clause-acts : goal.returns-in_err-at-clause-acts
returns-in_err-at-clause-acts g c =
    let records = c.self.inside.tickets.records.items in
    let none : position (is_open_row c.args.device c.args.endpoint) (rows_of records) ≡ None = sym (c.in_err-at.ensures.oldest records c.self.invariant) in
    λ past agreed.
    let agrees : Agrees past (rows_of records) = rw (seen_rows c.self.view_is) agreed in
    rw c.from_residual.ensures (after_packet-none past c.args.device c.args.endpoint c.args.bytes.now (oldest-none past (rows_of records) c.args.device c.args.endpoint agrees none))

pub returns-in_err-at-clause-agrees : goal.returns-in_err-at-clause-agrees
returns-in_err-at-clause-agrees g c =
    let records = c.self.inside.tickets.records.items in
    let none : position (is_open_row c.args.device c.args.endpoint) (rows_of records) ≡ None = sym (c.in_err-at.ensures.oldest records c.self.invariant) in
    λ past agreed.
    let agrees : Agrees past (rows_of records) = rw (seen_rows c.self.view_is) agreed in
    rw (after_packet-none past c.args.device c.args.endpoint c.args.bytes.now (oldest-none past (rows_of records) c.args.device c.args.endpoint agrees none)) agreed

pub returns-in_err-at-clause-places : goal.returns-in_err-at-clause-places
returns-in_err-at-clause-places g c = rw c.from_residual.ensures (no_more (sum_by owed c.args.self.now.rows))

pub returns-then-endpoint-lt128-clause-agrees : goal.returns-then-endpoint-lt128-clause-agrees
returns-then-endpoint-lt128-clause-agrees g c = λ past agreed. rw (after_packet-out past c.args.device c.args.endpoint c.args.bytes.now c.if-endpoint-lt128.true) agreed

pub returns-then-endpoint-lt128-clause-acts : goal.returns-then-endpoint-lt128-clause-acts
returns-then-endpoint-lt128-clause-acts g c = λ past agreed. after_packet-out past c.args.device c.args.endpoint c.args.bytes.now c.if-endpoint-lt128.true

pub returns-then-endpoint-lt128-clause-places : goal.returns-then-endpoint-lt128-clause-places
returns-then-endpoint-lt128-clause-places g c = no_more (sum_by owed c.args.self.now.rows)

pub at_mut-reached-requires : goal.at_mut-reached-requires
at_mut-reached-requires g c =
    let records = c.self.inside.tickets.records.items in
    record { within = found-inside records c.args.device c.args.endpoint c.in_ok-at.at (sym (c.in_ok-at.ensures.oldest records c.self.invariant)) }

pub take_packet-requires : goal.take_packet-requires
take_packet-requires g c =
    let records = c.self.inside.tickets.records.items in
    let reached = c.at_mut-reached.result.now in
    let at = c.at_mut-reached.ensures.record in
    let first : position (is_open_row c.args.device c.args.endpoint) (rows_of records) ≡ Some c.in_ok-at.at = sym (c.in_ok-at.ensures.oldest records c.self.invariant) in
    let row = open-here records c.in_ok-at.at reached at c.args.device c.args.endpoint (rw (seen_rows c.self.view_is) c.requires.roomy) first in
    record { input = omega (arith, row.endpoint); unfinished = row.unfinished; roomy = row.roomy }

pub follow-requires : goal.follow-requires
follow-requires g c =
    let records = c.self.inside.tickets.records.items in
    let reached = c.at_mut-reached.result.now in
    let at = c.at_mut-reached.ensures.record in
    let first : position (is_open_row c.args.device c.args.endpoint) (rows_of records) ≡ Some c.in_ok-at.at = sym (c.in_ok-at.ensures.oldest records c.self.invariant) in
    let row = open-here records c.in_ok-at.at reached at c.args.device c.args.endpoint (rw (seen_rows c.self.view_is) c.requires.roomy) first in
    let next : Record = record reached { row = c.take_packet.new.self } in
    let goes : GoesOn records c.in_ok-at.at next = goes_on-packet records c.in_ok-at.at reached at c.args.bytes.now c.take_packet.new.self row.unfinished row.roomy c.take_packet.ensures.row in
    record { following = record { records = records; listed = c.self.invariant; goes_on = goes } }

pub invariant_of-self : goal.invariant_of-self
invariant_of-self g c =
    let records = c.self.inside.tickets.records.items in
    let reached = c.at_mut-reached.result.now in
    let at = c.at_mut-reached.ensures.record in
    let first : position (is_open_row c.args.device c.args.endpoint) (rows_of records) ≡ Some c.in_ok-at.at = sym (c.in_ok-at.ensures.oldest records c.self.invariant) in
    let row = open-here records c.in_ok-at.at reached at c.args.device c.args.endpoint (rw (seen_rows c.self.view_is) c.requires.roomy) first in
    let next : Record = record reached { row = c.take_packet.new.self } in
    let goes : GoesOn records c.in_ok-at.at next = goes_on-packet records c.in_ok-at.at reached at c.args.bytes.now c.take_packet.new.self row.unfinished row.roomy c.take_packet.ensures.row in
    let at_first = first-next records c.in_ok-at.at reached at c.args.device c.args.endpoint next (rw (seen_rows c.self.view_is) c.requires.roomy) first goes in
    c.follow.ensures.listed records c.self.invariant goes at_first

pub returns-clause-agrees : goal.returns-clause-agrees
returns-clause-agrees g c =
    let records = c.self.inside.tickets.records.items in
    let reached = c.at_mut-reached.result.now in
    let at = c.at_mut-reached.ensures.record in
    let first : position (is_open_row c.args.device c.args.endpoint) (rows_of records) ≡ Some c.in_ok-at.at = sym (c.in_ok-at.ensures.oldest records c.self.invariant) in
    let next : Record = record reached { row = c.take_packet.new.self } in
    λ past agreed.
    let agrees : Agrees past (rows_of records) = rw (seen_rows c.self.view_is) agreed in
    let row = found past (rows_of records) c.args.device c.args.endpoint c.in_ok-at.at reached.row agrees first (row-read records c.in_ok-at.at reached at) in
    rw (rows-now records c.in_ok-at.at reached at next) (Agrees-packet past _ (rows_of records) c.args.device c.args.endpoint c.in_ok-at.at c.args.bytes.now reached.row c.take_packet.new.self agrees row c.if-endpoint-lt128.false c.take_packet.ensures.row c.take_packet.ensures.roomy (after_packet-some past c.args.device c.args.endpoint c.in_ok-at.at c.args.bytes.now c.if-endpoint-lt128.false row.first))

pub returns-clause-acts : goal.returns-clause-acts
returns-clause-acts g c =
    let records = c.self.inside.tickets.records.items in
    let reached = c.at_mut-reached.result.now in
    let at = c.at_mut-reached.ensures.record in
    let first : position (is_open_row c.args.device c.args.endpoint) (rows_of records) ≡ Some c.in_ok-at.at = sym (c.in_ok-at.ensures.oldest records c.self.invariant) in
    λ past agreed.
    let agrees : Agrees past (rows_of records) = rw (seen_rows c.self.view_is) agreed in
    let row = found past (rows_of records) c.args.device c.args.endpoint c.in_ok-at.at reached.row agrees first (row-read records c.in_ok-at.at reached at) in
    after_packet-some past c.args.device c.args.endpoint c.in_ok-at.at c.args.bytes.now c.if-endpoint-lt128.false row.first

pub returns-clause-places : goal.returns-clause-places
returns-clause-places g c =
    let records = c.self.inside.tickets.records.items in
    let reached = c.at_mut-reached.result.now in
    let at = c.at_mut-reached.ensures.record in
    let first : position (is_open_row c.args.device c.args.endpoint) (rows_of records) ≡ Some c.in_ok-at.at = sym (c.in_ok-at.ensures.oldest records c.self.invariant) in
    let row = open-here records c.in_ok-at.at reached at c.args.device c.args.endpoint (rw (seen_rows c.self.view_is) c.requires.roomy) first in
    let next : Record = record reached { row = c.take_packet.new.self } in
    let goes : GoesOn records c.in_ok-at.at next = goes_on-packet records c.in_ok-at.at reached at c.args.bytes.now c.take_packet.new.self row.unfinished row.roomy c.take_packet.ensures.row in
    rw (rows-now records c.in_ok-at.at reached at next, c.follow.ensures.freed) (freed-now records c.in_ok-at.at reached at next goes ∙ ap (sum_by owed) (seen_rows c.self.view_is))
