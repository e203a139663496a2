use Rattle.std.proofs.Common.{◌≡◌, ◌∙◌, Some, true}
use Rattle.std.specs.Prelude.{is_some}
use Rattle.usb_kernel.specs.Rows.{is_open_row}
use Rattle.usb_kernel.specs.Queues.{ends_at}
use Rattle.usb_kernel.specs.Listed.{rows_of}
use Rattle.usb_kernel.proofs.ListedLemmas.{first-position, listed-front, listed-open, has-queue, none_unless, goes_on-finishes, goes_on-room}
use Rattle.usb_kernel.proofs.lists.TicketLists.follow.Goals as goal

pub add_finished-requires : goal.add_finished-requires
add_finished-requires c =
    let f = c.requires.following in
    record { room = goes_on-room f.records c.args.self.now c.args.ticket c.args.written.now f.listed f.goes_on }

pub returns-then-is_none-clause-listed : goal.returns-then-is_none-clause-listed
returns-then-is_none-clause-listed c = λ records listed goes oldest. listed-open records c.args.self.now c.args.ticket c.args.written.now listed goes (none_unless c.args.written.now.row.status c.if-is_none.ensures)

pub returns-clause-listed : goal.returns-clause-listed
returns-clause-listed c =
    let next = c.args.written.now in
    let queues = c.args.self.now.queues in
    let d = next.row.device in
    let e = next.row.endpoint in
    let some : is_some next.row.status ≡ true = c.if-is_none.ensures in
    λ records listed goes oldest.
    let first : (ends_at queues d e).first ≡ Some c.args.ticket = first-position (is_open_row d e) records _ (listed.queues d e).first ∙ oldest in
    let set_to = c.set_first.ensures.ends (has-queue queues d e c.args.ticket first) in
    let numbers = c.add_finished.ensures.numbers (rows_of records) next.row listed.finished (goes_on-finishes records c.args.ticket next goes some) in
    listed-front records c.args.self.now c.args.ticket next listed goes some c.set_first.new.self c.add_finished.new.finished first set_to numbers c.add_finished.ensures.capacity
