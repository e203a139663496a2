use Rattle.std.proofs.Common.{◌++◌, ◌∷◌, [], ap, ◌∙◌, length, arith}
use Rattle.std.proofs.lemmas.List.{map-append}
use Rattle.usb_kernel.specs.declared.record.Record.{Record}
use Rattle.usb_kernel.specs.declared.record.Chain.TheVariants.{Queue, Unreaped}
use Rattle.usb_kernel.specs.Listed.{rows_of}
use Rattle.usb_kernel.specs.Queues.{ends_at}
use Rattle.usb_kernel.proofs.AddLemmas.{last-there, last-rows, listed-add}
use Rattle.usb_kernel.proofs.lists.TicketLists.add.Goals as goal

pub link_last-queue-requires : goal.link_last-queue-requires
link_last-queue-requires g c = record {
  fits = omega (arith, c.len-ticket.ensures.len, c.requires.room, c.args.tickets.now.records.ok);
  within = λ t some is.
      let lists = c.args.self.now in
      let ends = ends_at lists.queues c.args.row.device c.args.row.endpoint in
      (last-there _ _ (length c.args.tickets.now.records.items) ends (c.requires.listed.queues c.args.row.device c.args.row.endpoint) (rw c.ends-ends.ensures.ends at some) t (rw c.ends-ends.ensures.ends at is)).0;
}

pub link_last-unreaped-requires : goal.link_last-unreaped-requires
link_last-unreaped-requires g c = record {
  fits = omega (arith, c.len-ticket.ensures.len, c.requires.room, c.args.tickets.now.records.ok);
  within = λ t some is.
      let there = (last-there _ _ (length c.args.tickets.now.records.items) c.args.self.now.unreaped c.requires.listed.unreaped some t is).0 in
      omega (arith, there, c.link_last-queue.ensures.len);
}

pub returns-clause-listed : goal.returns-clause-listed
returns-clause-listed g c =
    let records = c.args.tickets.now.records.items in
    let lists = c.args.self.now in
    let next : Record = record { row = c.args.row; queue = c.link_last-queue.result; unreaped = c.link_last-unreaped.result } in
    let ends = c.ends-ends.ensures.ends in
    let len = c.len-ticket.ensures.len in
    let queue = rw ends at c.link_last-queue.ensures.link in
    let set_to = rw (c.link_last-queue.ensures.ends, ends, len) at (c.set.ensures.ends c.requires.opened) in
    rw (c.push.ensures.records, c.link_last-unreaped.ensures.records, c.link_last-unreaped.ensures.ends, c.link_last-queue.ensures.records, ends, len)
    (listed-add records lists c.requires.listed next c.set.new.self c.requires.unfinished c.requires.waiting queue c.link_last-unreaped.ensures.link set_to c.requires.places)

pub returns-clause-rows : goal.returns-clause-rows
returns-clause-rows g c =
    let records = c.args.tickets.now.records.items in
    let first = ap rows_of c.link_last-queue.ensures.records ∙ last-rows Queue c.len-ticket.result c.ends-ends.result records in
    let both = ap rows_of c.link_last-unreaped.ensures.records ∙ (last-rows Unreaped c.len-ticket.result c.args.self.now.unreaped c.link_last-queue.new.self.records.items ∙ first) in
    ap rows_of c.push.ensures.records ∙ (map-append (λ (x : Record). x.row) c.link_last-unreaped.new.self.records.items _ ∙ ap (λ rows. rows ++ c.args.row ∷ []) both)
