use Rattle.std.proofs.Common.{ap, ◌∙◌}
use Rattle.usb_kernel.specs.declared.record.Chain.TheVariants.{Queue}
use Rattle.usb_kernel.specs.Listed.{rows_of}
use Rattle.usb_kernel.proofs.FinishLemmas.{finishing-within, finishing-has, finishing-finishes, finishing-room, finishing-listed}
use Rattle.usb_kernel.proofs.UnlinkLemmas.{unlinked-rows}
use Rattle.usb_kernel.proofs.lists.TicketLists.finish.Goals as goal

pub unlink-requires : goal.unlink-requires
unlink-requires g c = record {
  within = λ other. finishing-within c.args.tickets.now.records.items c.args.self.now c.args.ticket c.args.device c.args.endpoint c.args.link c.requires.finishing (rw c.ends-ends.ensures.ends at other);
}

pub add_finished-requires : goal.add_finished-requires
add_finished-requires g c = record { room = finishing-room c.args.tickets.now.records.items c.args.self.now c.args.ticket c.args.device c.args.endpoint c.args.link c.requires.finishing }

pub returns-clause-listed : goal.returns-clause-listed
returns-clause-listed g c =
    let items = c.args.tickets.now.records.items in
    let lists = c.args.self.now in
    let f = c.requires.finishing in
    let set_to = c.set.ensures.ends (finishing-has items lists c.args.ticket c.args.device c.args.endpoint c.args.link f) in
    let numbers = c.add_finished.ensures.numbers (rows_of f.records) f.next.row f.listed.finished (finishing-finishes items lists c.args.ticket c.args.device c.args.endpoint c.args.link f) in
    rw (c.unlink.ensures.records, c.ends-ends.ensures.ends) (finishing-listed items lists c.args.ticket c.args.device c.args.endpoint c.args.link f c.set.new.self c.add_finished.new.finished (rw (c.unlink.ensures.ends, c.ends-ends.ensures.ends) at set_to) numbers c.add_finished.ensures.capacity)

pub returns-clause-rows : goal.returns-clause-rows
returns-clause-rows g c = ap rows_of c.unlink.ensures.records ∙ unlinked-rows Queue c.args.ticket c.args.link c.ends-ends.result c.args.tickets.now.records.items
