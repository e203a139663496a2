use Rattle.std.proofs.Common.{◌≡◌, Some, None, sym, ap, ◌∙◌}
use Rattle.std.specs.List.{sum_by}
use Rattle.std.specs.Prelude.{position}
use Rattle.usb_kernel.specs.declared.record.Record.{Record}
use Rattle.usb_kernel.specs.Rows.{Agrees, is_open_row, owed}
use Rattle.usb_kernel.specs.Listed.{GoesOn, rows_of}
use Rattle.usb_kernel.proofs.StepLemmas.{found, oldest-none, Agrees-fail, after_fail-none, after_fail-some}
use Rattle.usb_kernel.proofs.RecordLemmas.{seen_rows, found-inside, row-read, row-inside, rows-now, open-here, first-next, goes_on-fail}
use Rattle.usb_kernel.proofs.Freed.{no_more, freed-one}
use Rattle.usb_kernel.proofs.table.TicketTable.fail_oldest.Goals as goal

pub returns-in_default-clause-acts : goal.returns-in_default-clause-acts
returns-in_default-clause-acts g c =
    let records = c.self.inside.tickets.records.items in
    let none : position (is_open_row c.args.device c.args.endpoint) (rows_of records) ≡ None = sym (c.in_default.ensures.oldest records c.self.invariant) in
    λ past agreed.
    let agrees : Agrees past (rows_of records) = rw (seen_rows c.self.view_is) agreed in
    after_fail-none past c.args.device c.args.endpoint c.args.errno (oldest-none past (rows_of records) c.args.device c.args.endpoint agrees none)

pub returns-in_default-clause-agrees : goal.returns-in_default-clause-agrees
returns-in_default-clause-agrees g c =
    let records = c.self.inside.tickets.records.items in
    let none : position (is_open_row c.args.device c.args.endpoint) (rows_of records) ≡ None = sym (c.in_default.ensures.oldest records c.self.invariant) in
    λ past agreed.
    let agrees : Agrees past (rows_of records) = rw (seen_rows c.self.view_is) agreed in
    rw (after_fail-none past c.args.device c.args.endpoint c.args.errno (oldest-none past (rows_of records) c.args.device c.args.endpoint agrees none)) agreed

pub returns-in_default-clause-places : goal.returns-in_default-clause-places
returns-in_default-clause-places g c = no_more (sum_by owed c.args.self.now.rows)

pub at_mut-reached-requires : goal.at_mut-reached-requires
at_mut-reached-requires g c =
    let records = c.self.inside.tickets.records.items in
    record { within = found-inside records c.args.device c.args.endpoint c.in-Some.at (sym (c.in-Some.ensures.oldest records c.self.invariant)) }

pub fail-requires : goal.fail-requires
fail-requires g c =
    let records = c.self.inside.tickets.records.items in
    let reached = c.at_mut-reached.result.now in
    let at = c.at_mut-reached.ensures.record in
    let first : position (is_open_row c.args.device c.args.endpoint) (rows_of records) ≡ Some c.in-Some.at = sym (c.in-Some.ensures.oldest records c.self.invariant) in
    let row = open-here records c.in-Some.at reached at c.args.device c.args.endpoint (rw (seen_rows c.self.view_is) c.requires.roomy) first in
    record { unfinished = row.unfinished; roomy = row.roomy }

pub follow-requires : goal.follow-requires
follow-requires g c =
    let records = c.self.inside.tickets.records.items in
    let reached = c.at_mut-reached.result.now in
    let at = c.at_mut-reached.ensures.record in
    let first : position (is_open_row c.args.device c.args.endpoint) (rows_of records) ≡ Some c.in-Some.at = sym (c.in-Some.ensures.oldest records c.self.invariant) in
    let row = open-here records c.in-Some.at reached at c.args.device c.args.endpoint (rw (seen_rows c.self.view_is) c.requires.roomy) first in
    let next : Record = record reached { row = c.fail.new.self } in
    let goes : GoesOn records c.in-Some.at next = goes_on-fail records c.in-Some.at reached at c.args.errno c.fail.new.self row.unfinished row.roomy c.fail.ensures.row in
    record { following = record { records = records; listed = c.self.invariant; goes_on = goes } }

pub invariant_of-self : goal.invariant_of-self
invariant_of-self g c =
    let records = c.self.inside.tickets.records.items in
    let reached = c.at_mut-reached.result.now in
    let at = c.at_mut-reached.ensures.record in
    let first : position (is_open_row c.args.device c.args.endpoint) (rows_of records) ≡ Some c.in-Some.at = sym (c.in-Some.ensures.oldest records c.self.invariant) in
    let row = open-here records c.in-Some.at reached at c.args.device c.args.endpoint (rw (seen_rows c.self.view_is) c.requires.roomy) first in
    let next : Record = record reached { row = c.fail.new.self } in
    let goes : GoesOn records c.in-Some.at next = goes_on-fail records c.in-Some.at reached at c.args.errno c.fail.new.self row.unfinished row.roomy c.fail.ensures.row in
    let at_first = first-next records c.in-Some.at reached at c.args.device c.args.endpoint next (rw (seen_rows c.self.view_is) c.requires.roomy) first goes in
    c.follow.ensures.listed records c.self.invariant goes at_first

pub returns-clause-agrees : goal.returns-clause-agrees
returns-clause-agrees g c =
    let records = c.self.inside.tickets.records.items in
    let reached = c.at_mut-reached.result.now in
    let at = c.at_mut-reached.ensures.record in
    let first : position (is_open_row c.args.device c.args.endpoint) (rows_of records) ≡ Some c.in-Some.at = sym (c.in-Some.ensures.oldest records c.self.invariant) in
    let next : Record = record reached { row = c.fail.new.self } in
    λ past agreed.
    let agrees : Agrees past (rows_of records) = rw (seen_rows c.self.view_is) agreed in
    let row = found past (rows_of records) c.args.device c.args.endpoint c.in-Some.at reached.row agrees first (row-read records c.in-Some.at reached at) in
    rw (rows-now records c.in-Some.at reached at next) (Agrees-fail past _ (rows_of records) c.args.device c.args.endpoint c.args.errno c.in-Some.at reached.row c.fail.new.self agrees row c.fail.ensures.row (after_fail-some past c.args.device c.args.endpoint c.args.errno c.in-Some.at row.first))

pub returns-clause-acts : goal.returns-clause-acts
returns-clause-acts g c =
    let records = c.self.inside.tickets.records.items in
    let reached = c.at_mut-reached.result.now in
    let at = c.at_mut-reached.ensures.record in
    let first : position (is_open_row c.args.device c.args.endpoint) (rows_of records) ≡ Some c.in-Some.at = sym (c.in-Some.ensures.oldest records c.self.invariant) in
    λ past agreed.
    let agrees : Agrees past (rows_of records) = rw (seen_rows c.self.view_is) agreed in
    let row = found past (rows_of records) c.args.device c.args.endpoint c.in-Some.at reached.row agrees first (row-read records c.in-Some.at reached at) in
    after_fail-some past c.args.device c.args.endpoint c.args.errno c.in-Some.at row.first

pub returns-clause-places : goal.returns-clause-places
returns-clause-places g c =
    let records = c.self.inside.tickets.records.items in
    let reached = c.at_mut-reached.result.now in
    let at = c.at_mut-reached.ensures.record in
    let next : Record = record reached { row = c.fail.new.self } in
    rw (rows-now records c.in-Some.at reached at next) (freed-one (rows_of records) c.in-Some.at reached.row c.fail.new.self (row-inside records c.in-Some.at reached at) (row-read records c.in-Some.at reached at) c.fail.ensures.places ∙ ap (sum_by owed) (seen_rows c.self.view_is))
