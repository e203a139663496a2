use Rattle.std.proofs.Common.{Some, None, arith, ap, ◌∙◌}
use Rattle.std.specs.List.{All, sum_by, count_by}
use Rattle.usb_kernel.specs.Rows.{Agrees, IsRoomy, is_unreaped_row, owed}
use Rattle.usb_kernel.specs.Listed.{rows_of}
use Rattle.usb_kernel.proofs.RecordLemmas.{seen_rows}
use Rattle.usb_kernel.proofs.Unplugs.{agrees_unplug}
use Rattle.usb_kernel.proofs.WalkLemmas.{HasUnplugged, record_there, unplug-start, unplug-inside, unplug-far, unplug-on, unplug-less, unplug-end}
use Rattle.usb_kernel.proofs.table.TicketTable.unplug_tickets.Goals as goal

pub walk-init : goal.walk-init
walk-init g c = rw c.ticket-next.ensures.ticket (unplug-start c.args.device c.self.inside.tickets.records.items c.self.inside.lists c.args.steps.now c.self.invariant (rw (seen_rows c.self.view_is) c.requires.roomy))

pub unplug_ticket-passed-requires : goal.unplug_ticket-passed-requires
unplug_ticket-passed-requires g c =
    let records = c.walk.self-inside.tickets.records.items in
    let rows = rows_of c.self.inside.tickets.records.items in
    let w : HasUnplugged c.args.device rows records c.walk.self-inside.lists (Some c.in-Some.at) c.args.steps.now c.walk.steps c.walk.freed = rw c.in-Some.is at c.walk.invariant in
    record { inside = unplug-inside c.args.device rows records c.walk.self-inside.lists c.in-Some.at c.args.steps.now c.walk.steps c.walk.freed w; roomy = w.roomy; listed = w.listed }

pub overflow_add-freed : goal.overflow_add-freed
overflow_add-freed g c =
    let records = c.walk.self-inside.tickets.records.items in
    let rows = rows_of c.self.inside.tickets.records.items in
    let w : HasUnplugged c.args.device rows records c.walk.self-inside.lists (Some c.in-Some.at) c.args.steps.now c.walk.steps c.walk.freed = rw c.in-Some.is at c.walk.invariant in
    let inside = unplug-inside c.args.device rows records c.walk.self-inside.lists c.in-Some.at c.args.steps.now c.walk.steps c.walk.freed w in
    let far = unplug-far c.args.device rows records c.walk.self-inside.lists c.in-Some.at c.args.steps.now c.walk.steps c.walk.freed w in
    omega (arith, inside, far, c.unplug_ticket-passed.ensures.few, c.walk.self-inside.tickets.records.ok)

pub walk-smaller : goal.walk-smaller
walk-smaller g c =
    let records = c.walk.self-inside.tickets.records.items in
    let rows = rows_of c.self.inside.tickets.records.items in
    let w : HasUnplugged c.args.device rows records c.walk.self-inside.lists (Some c.in-Some.at) c.args.steps.now c.walk.steps c.walk.freed = rw c.in-Some.is at c.walk.invariant in
    let r = record_there records c.in-Some.at (unplug-inside c.args.device rows records c.walk.self-inside.lists c.in-Some.at c.args.steps.now c.walk.steps c.walk.freed w) in
    let roomy : All IsRoomy rows = rw (seen_rows c.self.view_is) c.requires.roomy in
    rw (c.in-Some.is, c.unplug_ticket-passed.ensures.next r.0 r.1) (unplug-less c.args.device rows records c.walk.self-inside.lists c.in-Some.at c.args.steps.now c.walk.steps c.walk.freed w roomy r.0 r.1)

pub walk-preserved : goal.walk-preserved
walk-preserved g c =
    let records = c.walk.self-inside.tickets.records.items in
    let rows = rows_of c.self.inside.tickets.records.items in
    let w : HasUnplugged c.args.device rows records c.walk.self-inside.lists (Some c.in-Some.at) c.args.steps.now c.walk.steps c.walk.freed = rw c.in-Some.is at c.walk.invariant in
    let r = record_there records c.in-Some.at (unplug-inside c.args.device rows records c.walk.self-inside.lists c.in-Some.at c.args.steps.now c.walk.steps c.walk.freed w) in
    let roomy : All IsRoomy rows = rw (seen_rows c.self.view_is) c.requires.roomy in
    let done = c.unplug_ticket-passed.ensures in
    rw (done.next r.0 r.1) (unplug-on c.args.device rows records c.walk.self-inside.lists c.in-Some.at c.args.steps.now c.walk.steps c.walk.freed w roomy r.0 r.1 c.unplug_ticket-passed.new.tickets.records.items c.unplug_ticket-passed.new.lists (done.rows r.0 r.1) c.unplug_ticket-passed.new.steps c.unplug_ticket-passed.result.freed done.listed done.roomy done.places done.few done.looks)

pub invariant_of-self : goal.invariant_of-self
invariant_of-self g c = c.walk.invariant.listed

pub returns-clause-agrees : goal.returns-clause-agrees
returns-clause-agrees g c =
    let records = c.walk.self-inside.tickets.records.items in
    let rows = rows_of c.self.inside.tickets.records.items in
    let w : HasUnplugged c.args.device rows records c.walk.self-inside.lists None c.args.steps.now c.walk.steps c.walk.freed = rw c.in_default.is at c.walk.invariant in
    let roomy : All IsRoomy rows = rw (seen_rows c.self.view_is) c.requires.roomy in
    let end = unplug-end c.args.device rows records c.walk.self-inside.lists c.args.steps.now c.walk.steps c.walk.freed roomy w in
    λ past agreed.
    let agrees : Agrees past rows = rw (seen_rows c.self.view_is) agreed in
    rw end.0 (agrees_unplug past rows c.args.device agrees)

pub returns-clause-places : goal.returns-clause-places
returns-clause-places g c = c.walk.invariant.places ∙ ap (sum_by owed) (seen_rows c.self.view_is)

pub returns-clause-looks : goal.returns-clause-looks
returns-clause-looks g c =
    let records = c.walk.self-inside.tickets.records.items in
    let rows = rows_of c.self.inside.tickets.records.items in
    let w : HasUnplugged c.args.device rows records c.walk.self-inside.lists None c.args.steps.now c.walk.steps c.walk.freed = rw c.in_default.is at c.walk.invariant in
    let roomy : All IsRoomy rows = rw (seen_rows c.self.view_is) c.requires.roomy in
    let end = unplug-end c.args.device rows records c.walk.self-inside.lists c.args.steps.now c.walk.steps c.walk.freed roomy w in
    omega (arith, end.1, ap (count_by is_unreaped_row) (seen_rows c.self.view_is))
