use Rattle.std.proofs.Common.{◌≡◌, Some, set, refl, ap, sym, ◌∙◌}
use Rattle.std.specs.List.{sum_by}
use Rattle.std.proofs.lemmas.List.Elements.{All-set}
use Rattle.std.proofs.lemmas.Option.{none-some}
use Rattle.usb_kernel.specs.declared.slot.TicketRow.{TicketRow}
use Rattle.usb_kernel.specs.declared.record.Record.{Record}
use Rattle.usb_kernel.specs.declared.tickets.Tickets.{Tickets}
use Rattle.usb_kernel.specs.Rows.{IsRoomy, owed, row_unplugged}
use Rattle.usb_kernel.specs.Listed.{rows_of}
use Rattle.usb_kernel.proofs.RecordLemmas.{none_there, row-read, row-inside, set-same, rows-now, roomy-here, same-row, goes_on-fail}
use Rattle.usb_kernel.proofs.Unplugs.{unplugged-open, unplugged-other, unplugged-finished}
use Rattle.usb_kernel.proofs.Freed.{no_more, freed-one}
use Rattle.usb_kernel.proofs.table.unplug_ticket.Given.{Over}
use Rattle.usb_kernel.proofs.table.unplug_ticket.Goals as goal
use Rattle.usb_kernel.proofs.table.unplug_ticket.Goals.{then-reached-device-via-then-reached-device, then-reached-device-via-else-reached-device+then-is_some}

-- where nothing was written, the records are what they were
kept : (g : Over) (c : goal.Joined-then-reached-device g) → c.then-reached-device.tickets.records.items ≡ c.args.tickets.now.records.items
kept g c =
    let same = set-same c.args.tickets.now.records.items c.args.at c.at_mut-reached.result.now c.at_mut-reached.ensures.record in
    elim c.then-reached-device.branch [
      | then-reached-device-via-then-reached-device w ↦ ap (λ (t : Tickets). t.records.items) w.tickets-is ∙ same
      | then-reached-device-via-else-reached-device+then-is_some w ↦ ap (λ (t : Tickets). t.records.items) w.tickets-is ∙ same
    ]

pub returns-then-reached-device-clause-rows : goal.returns-then-reached-device-clause-rows
returns-then-reached-device-clause-rows g c =
    let records = c.args.tickets.now.records.items in
    let reached = c.at_mut-reached.result.now in
    let at = c.at_mut-reached.ensures.record in
    let stays : row_unplugged c.args.device reached.row ≡ reached.row = elim c.then-reached-device.branch [
      | then-reached-device-via-then-reached-device w ↦ unplugged-other c.args.device reached.row w.if-reached-device.true
      | then-reached-device-via-else-reached-device+then-is_some w ↦ unplugged-finished c.args.device reached.row w.if-is_some.ensures
    ] in
    λ r here.
    ap rows_of (kept g c ∙ sym (set-same records c.args.at reached at))
    ∙ (rows-now records c.args.at reached at reached ∙ ap (set (rows_of records) c.args.at) (sym stays ∙ ap (λ (x : Record). row_unplugged c.args.device x.row) (same-row records c.args.at reached at r here)))

pub returns-then-reached-device-clause-places : goal.returns-then-reached-device-clause-places
returns-then-reached-device-clause-places g c = no_more _ ∙ ap (λ records. sum_by owed (rows_of records)) (kept g c)

pub returns-then-reached-device-clause-roomy : goal.returns-then-reached-device-clause-roomy
returns-then-reached-device-clause-roomy g c = rw (kept g c) c.requires.roomy

pub returns-then-reached-device-clause-listed : goal.returns-then-reached-device-clause-listed
returns-then-reached-device-clause-listed g c = rw (kept g c) c.requires.listed

pub fail-requires-clause-roomy : goal.fail-requires-clause-roomy
fail-requires-clause-roomy g c = roomy-here c.args.tickets.now.records.items c.args.at c.at_mut-reached.result.now c.at_mut-reached.ensures.record c.requires.roomy

pub fail-requires-clause-unfinished : goal.fail-requires-clause-unfinished
fail-requires-clause-unfinished g c = none_there c.at_mut-reached.result.now.row.status (sym c.if-is_some.ensures)

pub finish-requires : goal.finish-requires
finish-requires g c =
    let records = c.args.tickets.now.records.items in
    let reached = c.at_mut-reached.result.now in
    let at = c.at_mut-reached.ensures.record in
    let open_now = none_there reached.row.status (sym c.if-is_some.ensures) in
    record {
      finishing = record {
        records = records;
        next = record reached { row = c.fail.new.self };
        listed = c.requires.listed;
        goes_on = goes_on-fail records c.args.at reached at 108 c.fail.new.self open_now (roomy-here records c.args.at reached at c.requires.roomy) c.fail.ensures.row;
        finished = rw c.fail.ensures.row refl;
        is = refl;
        device = rw c.fail.ensures.row c.if-reached-device.false;
        endpoint = refl;
        queue = refl;
      };
    }

pub returns-clause-rows : goal.returns-clause-rows
returns-clause-rows g c =
    let records = c.args.tickets.now.records.items in
    let reached = c.at_mut-reached.result.now in
    let at = c.at_mut-reached.ensures.record in
    let next : Record = record reached { row = c.fail.new.self } in
    let open_now = none_there reached.row.status (sym c.if-is_some.ensures) in
    λ r here.
    c.finish.ensures.rows
    ∙ (rows-now records c.args.at reached at next ∙ ap (set (rows_of records) c.args.at) (c.fail.ensures.row ∙ (sym (unplugged-open c.args.device reached.row c.if-reached-device.false open_now) ∙ ap (λ (x : Record). row_unplugged c.args.device x.row) (same-row records c.args.at reached at r here))))

pub returns-clause-places : goal.returns-clause-places
returns-clause-places g c =
    let records = c.args.tickets.now.records.items in
    let reached = c.at_mut-reached.result.now in
    let at = c.at_mut-reached.ensures.record in
    rw (c.finish.ensures.rows, rows-now records c.args.at reached at (record reached { row = c.fail.new.self })) (freed-one (rows_of records) c.args.at reached.row c.fail.new.self (row-inside records c.args.at reached at) (row-read records c.args.at reached at) c.fail.ensures.places)

pub returns-clause-roomy : goal.returns-clause-roomy
returns-clause-roomy g c =
    let records = c.args.tickets.now.records.items in
    let reached = c.at_mut-reached.result.now in
    let at = c.at_mut-reached.ensures.record in
    let finished : c.fail.new.self.status ≡ Some 108 = ap (λ (x : TicketRow). x.status) c.fail.ensures.row in
    rw (c.finish.ensures.rows, rows-now records c.args.at reached at (record reached { row = c.fail.new.self })) (All-set IsRoomy (rows_of records) c.args.at c.fail.new.self (λ none. absurd (none-some 108 (sym none ∙ finished))) c.requires.roomy)
