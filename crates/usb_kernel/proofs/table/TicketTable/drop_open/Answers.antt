use Rattle.std.proofs.Common.{◌≤◌, arith, length, refl, ap, ◌∙◌}
use Rattle.std.specs.List.{sum_by}
use Rattle.usb_kernel.specs.declared.record.Record.{Record}
use Rattle.usb_kernel.specs.Rows.{Agrees, owed}
use Rattle.usb_kernel.specs.Listed.{rows_of}
use Rattle.usb_kernel.proofs.StepLemmas.{row_at, deadline-row}
use Rattle.usb_kernel.proofs.Discards.{after_discard-none, after_discard-some, is_unfinished-beyond, is_unfinished-row, Agrees-discard, none_when, not_none_when}
use Rattle.usb_kernel.proofs.RecordLemmas.{seen_rows, rows-length, row-read, row-inside, set-same, rows-now, roomy-here, goes_on-fail}
use Rattle.usb_kernel.proofs.Freed.{no_more, freed-one}
use Rattle.usb_kernel.proofs.table.TicketTable.drop_open.Goals as goal

pub returns-then-ticket-len-clause-acts : goal.returns-then-ticket-len-clause-acts
returns-then-ticket-len-clause-acts g c =
    let records = c.self.inside.tickets.records.items in
    let beyond : length (rows_of records) ≤ c.args.ticket = omega (arith, rows-length records, c.len.ensures.len, c.if-ticket-len.true) in
    λ past agreed.
    let agrees : Agrees past (rows_of records) = rw (seen_rows c.self.view_is) agreed in
    after_discard-none past c.args.ticket (is_unfinished-beyond past (rows_of records) c.args.ticket agrees beyond)

pub returns-then-ticket-len-clause-agrees : goal.returns-then-ticket-len-clause-agrees
returns-then-ticket-len-clause-agrees g c =
    let records = c.self.inside.tickets.records.items in
    let beyond : length (rows_of records) ≤ c.args.ticket = omega (arith, rows-length records, c.len.ensures.len, c.if-ticket-len.true) in
    λ past agreed.
    let agrees : Agrees past (rows_of records) = rw (seen_rows c.self.view_is) agreed in
    rw (after_discard-none past c.args.ticket (is_unfinished-beyond past (rows_of records) c.args.ticket agrees beyond)) agreed

pub returns-then-ticket-len-clause-places : goal.returns-then-ticket-len-clause-places
returns-then-ticket-len-clause-places g c = no_more (sum_by owed c.args.self.now.rows)

pub at_mut-reached-requires : goal.at_mut-reached-requires
at_mut-reached-requires g c = record { within = omega (arith, c.len.ensures.len, c.if-ticket-len.false) }

pub invariant_of-self : goal.invariant_of-self
invariant_of-self g c = rw (set-same c.self.inside.tickets.records.items c.args.ticket c.at_mut-reached.result.now c.at_mut-reached.ensures.record) c.self.invariant

pub returns-then-is_some-clause-acts : goal.returns-then-is_some-clause-acts
returns-then-is_some-clause-acts g c =
    let records = c.self.inside.tickets.records.items in
    let reached = c.at_mut-reached.result.now in
    let at = c.at_mut-reached.ensures.record in
    λ past agreed.
    let agrees : Agrees past (rows_of records) = rw (seen_rows c.self.view_is) agreed in
    let inside = row-inside records c.args.ticket reached at in
    let row = row_at past (rows_of records) c.args.ticket reached.row agrees inside (row-read records c.args.ticket reached at) in
    after_discard-none past c.args.ticket (is_unfinished-row past (rows_of records) c.args.ticket reached.row agrees inside row ∙ not_none_when reached.row.status c.if-is_some.ensures)

pub returns-then-is_some-clause-agrees : goal.returns-then-is_some-clause-agrees
returns-then-is_some-clause-agrees g c =
    let records = c.self.inside.tickets.records.items in
    let reached = c.at_mut-reached.result.now in
    let at = c.at_mut-reached.ensures.record in
    λ past agreed.
    let agrees : Agrees past (rows_of records) = rw (seen_rows c.self.view_is) agreed in
    let inside = row-inside records c.args.ticket reached at in
    let row = row_at past (rows_of records) c.args.ticket reached.row agrees inside (row-read records c.args.ticket reached at) in
    rw (after_discard-none past c.args.ticket (is_unfinished-row past (rows_of records) c.args.ticket reached.row agrees inside row ∙ not_none_when reached.row.status c.if-is_some.ensures), set-same records c.args.ticket reached at) agrees

pub returns-then-is_some-clause-places : goal.returns-then-is_some-clause-places
returns-then-is_some-clause-places g c =
    no_more _ ∙ ap (sum_by owed) (ap rows_of (set-same c.self.inside.tickets.records.items c.args.ticket c.at_mut-reached.result.now c.at_mut-reached.ensures.record) ∙ seen_rows c.self.view_is)

pub fail-requires-clause-unfinished : goal.fail-requires-clause-unfinished
fail-requires-clause-unfinished g c = none_when c.at_mut-reached.result.now.row.status c.if-is_some.ensures

pub fail-requires-clause-roomy : goal.fail-requires-clause-roomy
fail-requires-clause-roomy g c = roomy-here c.self.inside.tickets.records.items c.args.ticket c.at_mut-reached.result.now c.at_mut-reached.ensures.record (rw (seen_rows c.self.view_is) c.requires.roomy)

pub finish-requires : goal.finish-requires
finish-requires g c =
    let records = c.self.inside.tickets.records.items in
    let reached = c.at_mut-reached.result.now in
    let at = c.at_mut-reached.ensures.record in
    let open_one = none_when reached.row.status c.if-is_some.ensures in
    let roomy = roomy-here records c.args.ticket reached at (rw (seen_rows c.self.view_is) c.requires.roomy) in
    record {
      finishing = record {
        records = records;
        next = record reached { row = c.fail.new.self };
        listed = c.self.invariant;
        goes_on = goes_on-fail records c.args.ticket reached at 2 c.fail.new.self open_one roomy c.fail.ensures.row;
        finished = rw c.fail.ensures.row refl;
        is = refl;
        device = refl;
        endpoint = refl;
        queue = refl;
      };
    }

pub returns-clause-acts : goal.returns-clause-acts
returns-clause-acts g c =
    let records = c.self.inside.tickets.records.items in
    let reached = c.at_mut-reached.result.now in
    let at = c.at_mut-reached.ensures.record in
    let open_one = none_when reached.row.status c.if-is_some.ensures in
    λ past agreed.
    let agrees : Agrees past (rows_of records) = rw (seen_rows c.self.view_is) agreed in
    let inside = row-inside records c.args.ticket reached at in
    let row = row_at past (rows_of records) c.args.ticket reached.row agrees inside (row-read records c.args.ticket reached at) in
    after_discard-some past c.args.ticket (is_unfinished-row past (rows_of records) c.args.ticket reached.row agrees inside row ∙ rw open_one refl)

pub returns-clause-agrees : goal.returns-clause-agrees
returns-clause-agrees g c =
    let records = c.self.inside.tickets.records.items in
    let reached = c.at_mut-reached.result.now in
    let at = c.at_mut-reached.ensures.record in
    let next : Record = record reached { row = c.fail.new.self } in
    let open_one = none_when reached.row.status c.if-is_some.ensures in
    λ past agreed.
    let agrees : Agrees past (rows_of records) = rw (seen_rows c.self.view_is) agreed in
    let inside = row-inside records c.args.ticket reached at in
    let row = row_at past (rows_of records) c.args.ticket reached.row agrees inside (row-read records c.args.ticket reached at) in
    let acts = after_discard-some past c.args.ticket (is_unfinished-row past (rows_of records) c.args.ticket reached.row agrees inside row ∙ rw open_one refl) in
    rw (c.finish.ensures.rows, rows-now records c.args.ticket reached at next) (Agrees-discard past _ (rows_of records) c.args.ticket reached.row _ agrees row open_one c.fail.ensures.row acts)

pub returns-clause-deadline : goal.returns-clause-deadline
returns-clause-deadline g c =
    let records = c.self.inside.tickets.records.items in
    let reached = c.at_mut-reached.result.now in
    let at = c.at_mut-reached.ensures.record in
    λ past agreed.
    let agrees : Agrees past (rows_of records) = rw (seen_rows c.self.view_is) agreed in
    deadline-row past c.args.ticket reached.row (row_at past (rows_of records) c.args.ticket reached.row agrees (row-inside records c.args.ticket reached at) (row-read records c.args.ticket reached at))

pub returns-clause-places : goal.returns-clause-places
returns-clause-places g c =
    let records = c.self.inside.tickets.records.items in
    let reached = c.at_mut-reached.result.now in
    let at = c.at_mut-reached.ensures.record in
    let next : Record = record reached { row = c.fail.new.self } in
    rw (c.finish.ensures.rows, rows-now records c.args.ticket reached at next) (freed-one (rows_of records) c.args.ticket reached.row c.fail.new.self (row-inside records c.args.ticket reached at) (row-read records c.args.ticket reached at) c.fail.ensures.places ∙ ap (sum_by owed) (seen_rows c.self.view_is))
