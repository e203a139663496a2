use Rattle.std.proofs.Common.{Some, None, ap, ◌∙◌}
use Rattle.std.specs.List.{count_by}
use Rattle.usb_kernel.specs.Rows.{is_open_row}
use Rattle.usb_kernel.proofs.RecordLemmas.{seen_rows}
use Rattle.usb_kernel.proofs.CountLemmas.{HasCounted, count-start, count-inside, count-on, count-less, count-all}
use Rattle.usb_kernel.proofs.table.TicketTable.open_count.Goals as goal

pub walk-init : goal.walk-init
walk-init g c =
    rw (c.ticket-next.ensures.ticket, c.ends.ensures.ends) (count-start c.args.device c.args.endpoint c.self.inside.tickets.records.items c.self.inside.lists c.args.steps.now c.self.invariant)

pub at-reached-requires : goal.at-reached-requires
at-reached-requires g c =
    let records = c.self.inside.tickets.records.items in
    let w : HasCounted c.args.device c.args.endpoint records (Some c.in-Some.at) c.args.steps.now c.walk.steps c.walk.count = rw c.in-Some.is at c.walk.invariant in
    record { within = count-inside c.args.device c.args.endpoint records c.self.inside.lists c.self.invariant c.args.steps.now c.walk.steps c.walk.count c.in-Some.at w }

pub walk-smaller : goal.walk-smaller
walk-smaller g c =
    let records = c.self.inside.tickets.records.items in
    let w : HasCounted c.args.device c.args.endpoint records (Some c.in-Some.at) c.args.steps.now c.walk.steps c.walk.count = rw c.in-Some.is at c.walk.invariant in
    rw (c.in-Some.is, c.ticket-next-in-Some.ensures.ticket) (count-less c.args.device c.args.endpoint records c.self.inside.lists c.self.invariant c.args.steps.now c.walk.steps c.walk.count c.in-Some.at w c.at-reached.result.now c.at-reached.ensures.record)

pub walk-preserved : goal.walk-preserved
walk-preserved g c =
    let records = c.self.inside.tickets.records.items in
    let w : HasCounted c.args.device c.args.endpoint records (Some c.in-Some.at) c.args.steps.now c.walk.steps c.walk.count = rw c.in-Some.is at c.walk.invariant in
    rw (c.ticket-next-in-Some.ensures.ticket, c.at-reached.ensures.look) (count-on c.args.device c.args.endpoint records c.self.inside.lists c.self.invariant c.args.steps.now c.walk.steps c.walk.count c.in-Some.at w c.at-reached.result.now c.at-reached.ensures.record)

pub returns-clause-count : goal.returns-clause-count
returns-clause-count g c =
    let records = c.self.inside.tickets.records.items in
    let w : HasCounted c.args.device c.args.endpoint records None c.args.steps.now c.walk.steps c.walk.count = rw c.in_default.is at c.walk.invariant in
    count-all c.args.device c.args.endpoint records c.self.inside.lists c.self.invariant c.args.steps.now c.walk.steps c.walk.count w ∙ ap (count_by (is_open_row c.args.device c.args.endpoint)) (seen_rows c.self.view_is)
