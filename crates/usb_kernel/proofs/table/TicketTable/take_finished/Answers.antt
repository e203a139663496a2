use Rattle.std.proofs.Common.{◌≤◌, arith, length, refl, sym, ap, ◌∙◌}
use Rattle.std.specs.Prelude.{is_some}
use Rattle.std.specs.List.{sum_by}
use Rattle.std.proofs.lemmas.Bool.{and_parts}
use Rattle.usb_kernel.specs.declared.record.Record.{Record}
use Rattle.usb_kernel.specs.Rows.{Agrees, owed}
use Rattle.usb_kernel.specs.Listed.{rows_of}
use Rattle.usb_kernel.proofs.StepLemmas.{row_at, deadline-row, reapable-row, reapable-none, row_done-none, after_reap-none, after_reap-some, Agrees-reap}
use Rattle.usb_kernel.proofs.RecordLemmas.{seen_rows, rows-length, row-read, row-inside, set-same, rows-now, is_reaped-done}
use Rattle.usb_kernel.proofs.Freed.{no_more, freed-reap}
use Rattle.usb_kernel.proofs.table.TicketTable.take_finished.Goals as goal

pub returns-then-ticket-len-clause-done : goal.returns-then-ticket-len-clause-done
returns-then-ticket-len-clause-done g c =
    let records = c.self.inside.tickets.records.items in
    let beyond : length (rows_of records) ≤ c.args.ticket = omega (arith, rows-length records, c.len.ensures.len, c.if-ticket-len.true) in
    λ past agreed.
    let agrees : Agrees past (rows_of records) = rw (seen_rows c.self.view_is) agreed in
    reapable-none past (rows_of records) c.args.ticket agrees beyond

pub returns-then-ticket-len-clause-agrees : goal.returns-then-ticket-len-clause-agrees
returns-then-ticket-len-clause-agrees g c =
    let records = c.self.inside.tickets.records.items in
    let beyond : length (rows_of records) ≤ c.args.ticket = omega (arith, rows-length records, c.len.ensures.len, c.if-ticket-len.true) in
    λ past agreed.
    let agrees : Agrees past (rows_of records) = rw (seen_rows c.self.view_is) agreed in
    rw (after_reap-none past c.args.ticket (reapable-none past (rows_of records) c.args.ticket agrees beyond)) agreed

pub returns-then-ticket-len-clause-places : goal.returns-then-ticket-len-clause-places
returns-then-ticket-len-clause-places g c = no_more (sum_by owed c.args.self.now.rows)

pub at_mut-reached-requires : goal.at_mut-reached-requires
at_mut-reached-requires g c = record { within = omega (arith, c.len.ensures.len, c.if-ticket-len.false) }

pub invariant_of-self : goal.invariant_of-self
invariant_of-self g c = rw (set-same c.self.inside.tickets.records.items c.args.ticket c.at_mut-reached.result.now c.at_mut-reached.ensures.record) c.self.invariant

pub returns-then-not-is_reapable-clause-done : goal.returns-then-not-is_reapable-clause-done
returns-then-not-is_reapable-clause-done g c =
    let records = c.self.inside.tickets.records.items in
    let reached = c.at_mut-reached.result.now in
    let at = c.at_mut-reached.ensures.record in
    λ past agreed.
    let agrees : Agrees past (rows_of records) = rw (seen_rows c.self.view_is) agreed in
    let row = row_at past (rows_of records) c.args.ticket reached.row agrees (row-inside records c.args.ticket reached at) (row-read records c.args.ticket reached at) in
    reapable-row past c.args.ticket reached.row row ∙ row_done-none c.args.ticket reached.row (sym c.if-not-is_reapable.ensures.reapable)

pub returns-then-not-is_reapable-clause-agrees : goal.returns-then-not-is_reapable-clause-agrees
returns-then-not-is_reapable-clause-agrees g c =
    let records = c.self.inside.tickets.records.items in
    let reached = c.at_mut-reached.result.now in
    let at = c.at_mut-reached.ensures.record in
    λ past agreed.
    let agrees : Agrees past (rows_of records) = rw (seen_rows c.self.view_is) agreed in
    let row = row_at past (rows_of records) c.args.ticket reached.row agrees (row-inside records c.args.ticket reached at) (row-read records c.args.ticket reached at) in
    let none = reapable-row past c.args.ticket reached.row row ∙ row_done-none c.args.ticket reached.row (sym c.if-not-is_reapable.ensures.reapable) in
    rw (after_reap-none past c.args.ticket none, set-same records c.args.ticket reached at) agrees

pub returns-then-not-is_reapable-clause-places : goal.returns-then-not-is_reapable-clause-places
returns-then-not-is_reapable-clause-places g c =
    no_more _ ∙ ap (sum_by owed) (ap rows_of (set-same c.self.inside.tickets.records.items c.args.ticket c.at_mut-reached.result.now c.at_mut-reached.ensures.record) ∙ seen_rows c.self.view_is)

pub take_done-done-requires : goal.take_done-done-requires
take_done-done-requires g c =
    let row = c.at_mut-reached.result.now.row in
    let both = and_parts (is_some row.status) (is_some row.buffer) (sym c.if-not-is_reapable.ensures.reapable) in
    record { finished = both.0; waiting = both.1 }

pub forget-requires : goal.forget-requires
forget-requires g c =
    let records = c.self.inside.tickets.records.items in
    let reached = c.at_mut-reached.result.now in
    record {
      reaping = record {
        records = records;
        next = record reached { row = c.take_done-done.new.self };
        listed = c.self.invariant;
        reaped = is_reaped-done records c.args.ticket reached c.at_mut-reached.ensures.record c.take_done-done.new.self (sym c.if-not-is_reapable.ensures.reapable) c.take_done-done.ensures.row;
        is = refl;
        unreaped = refl;
      };
    }

pub returns-clause-done : goal.returns-clause-done
returns-clause-done g c =
    let records = c.self.inside.tickets.records.items in
    let reached = c.at_mut-reached.result.now in
    let at = c.at_mut-reached.ensures.record in
    λ past agreed.
    let agrees : Agrees past (rows_of records) = rw (seen_rows c.self.view_is) agreed in
    let row = row_at past (rows_of records) c.args.ticket reached.row agrees (row-inside records c.args.ticket reached at) (row-read records c.args.ticket reached at) in
    reapable-row past c.args.ticket reached.row row ∙ c.take_done-done.ensures.done

pub returns-clause-agrees : goal.returns-clause-agrees
returns-clause-agrees g c =
    let records = c.self.inside.tickets.records.items in
    let reached = c.at_mut-reached.result.now in
    let at = c.at_mut-reached.ensures.record in
    let next : Record = record reached { row = c.take_done-done.new.self } in
    let finished = and_parts (is_some reached.row.status) (is_some reached.row.buffer) (sym c.if-not-is_reapable.ensures.reapable) in
    λ past agreed.
    let agrees : Agrees past (rows_of records) = rw (seen_rows c.self.view_is) agreed in
    let row = row_at past (rows_of records) c.args.ticket reached.row agrees (row-inside records c.args.ticket reached at) (row-read records c.args.ticket reached at) in
    let some = reapable-row past c.args.ticket reached.row row ∙ c.take_done-done.ensures.done in
    rw (c.forget.ensures.rows, rows-now records c.args.ticket reached at next) (Agrees-reap past _ (rows_of records) c.args.ticket reached.row c.take_done-done.new.self agrees row finished.0 c.take_done-done.ensures.row (after_reap-some past c.args.ticket _ some))

pub returns-clause-deadline : goal.returns-clause-deadline
returns-clause-deadline g c =
    let records = c.self.inside.tickets.records.items in
    let reached = c.at_mut-reached.result.now in
    let at = c.at_mut-reached.ensures.record in
    λ past agreed.
    let agrees : Agrees past (rows_of records) = rw (seen_rows c.self.view_is) agreed in
    deadline-row past c.args.ticket reached.row (row_at past (rows_of records) c.args.ticket reached.row agrees (row-inside records c.args.ticket reached at) (row-read records c.args.ticket reached at))

pub returns-clause-places : goal.returns-clause-places
returns-clause-places g c =
    let records = c.self.inside.tickets.records.items in
    let reached = c.at_mut-reached.result.now in
    let at = c.at_mut-reached.ensures.record in
    let next : Record = record reached { row = c.take_done-done.new.self } in
    let both = and_parts (is_some reached.row.status) (is_some reached.row.buffer) (sym c.if-not-is_reapable.ensures.reapable) in
    rw (c.forget.ensures.rows, rows-now records c.args.ticket reached at next) (freed-reap (rows_of records) c.args.ticket reached.row c.take_done-done.new.self (row-inside records c.args.ticket reached at) (row-read records c.args.ticket reached at) both.0 both.1 c.take_done-done.ensures.row ∙ ap (sum_by owed) (seen_rows c.self.view_is))
