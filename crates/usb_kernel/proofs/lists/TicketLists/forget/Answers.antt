use Rattle.std.proofs.Common.{ap, ◌∙◌}
use Rattle.usb_kernel.specs.declared.record.Chain.TheVariants.{Unreaped}
use Rattle.usb_kernel.specs.Listed.{rows_of}
use Rattle.usb_kernel.proofs.FinishLemmas.{reaping-within, reaping-some, reaping-reaps, reaping-listed}
use Rattle.usb_kernel.proofs.UnlinkLemmas.{unlinked-rows}
use Rattle.usb_kernel.proofs.lists.TicketLists.forget.Goals as goal

pub unlink-requires : goal.unlink-requires
unlink-requires g c = record {
  within = λ other. reaping-within c.args.tickets.now.records.items c.args.self.now c.args.ticket c.args.link c.requires.reaping other;
}

pub overflow_sub-self : goal.overflow_sub-self
overflow_sub-self g c = reaping-some c.args.tickets.now.records.items c.args.self.now c.args.ticket c.args.link c.requires.reaping

pub returns-clause-listed : goal.returns-clause-listed
returns-clause-listed g c =
    let items = c.args.tickets.now.records.items in
    let lists = c.args.self.now in
    let f = c.requires.reaping in
    let numbers = c.drop_finished.ensures.numbers (rows_of f.records) f.next.row f.listed.finished (reaping-reaps items lists c.args.ticket c.args.link f) in
    rw (c.unlink.ensures.records, c.unlink.ensures.ends) (reaping-listed items lists c.args.ticket c.args.link f c.drop_finished.new.finished numbers c.drop_finished.ensures.capacity)

pub returns-clause-rows : goal.returns-clause-rows
returns-clause-rows g c = ap rows_of c.unlink.ensures.records ∙ unlinked-rows Unreaped c.args.ticket c.args.link c.args.self.now.unreaped c.args.tickets.now.records.items
