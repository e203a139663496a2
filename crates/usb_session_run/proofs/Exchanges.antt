-- The messages that a reader ended are the first of those that a writer ended, over each script.
use Rattle.std.proofs.Common.{ℕ, List, ◌++◌, sym, subst}
use Rattle.usb_kernel.specs.declared.event.Event.{Event}
use Rattle.usb_kernel.specs.Legal.{IsLawful}
use Rattle.usb_script_lines.specs.declared.item.Item.{Item}
use Rattle.usb_io.specs.Streams.{Mark, Each, stream_of, delivered}
use Rattle.usb_io.specs.Following.{IsMine, IsPrefixOf}
use Rattle.usb_io.specs.Writes.{NoMidFlush, marks_of, written}
use Rattle.usb_io.specs.Carried.{AllCarry}
use Rattle.usb_session_streams.specs.Told.{WriterCalls}
use Rattle.usb_io.specs.Messages.{messages, AreFirstOf}
use Rattle.usb_io.proofs.EchoedMessages.{messages_are_first}
use Rattle.usb_session_calls.specs.State.{Reader, Writer, tickets_at, endpoint_of_reader, endpoint_of_writer}
use Rattle.usb_session.specs.Output.{start, final_host, behind}
use Rattle.usb_session.proofs.HandleLemmas.{scripts-go_on}
use Rattle.usb_session.proofs.WrittenWriters.{TellsAt, at-later, tell-at}
use Rattle.usb_session.proofs.FramedReaders.{FollowsAt}
use Rattle.usb_session.proofs.FramedEnds.{prefix-at}
use Rattle.usb_session.proofs.FramedBehind.{follow-at}
use Rattle.usb_session.proofs.LinesBehind.{behind-extends}
use Rattle.usb_session_run.specs.Exchanges.{exchange_of, OnlyExchange, MessagesAlwaysArrive, MessagesKeepArriving}

arrive : (past : List Event) (x : Writer) (y : Reader) (c : WriterCalls) (consumed : List Mark) → TellsAt past x c → FollowsAt past y consumed → OnlyExchange past x y c → AreFirstOf (messages consumed) (messages (marks_of c.accepted))
arrive past x y c consumed tells follows only =
    let m = x.state.endpoint.maximum in
    let size = tells.whole.1 in
    let ins = tickets_at (endpoint_of_reader y) in
    messages_are_first (exchange_of x y) past m tells.whole.0 c.accepted consumed only.echoes
    (subst (λ (n : ℕ). NoMidFlush m n c.accepted) (sym size) only.whole)
    (subst (λ (n : ℕ). AllCarry past x.state.endpoint.device x.state.endpoint.address m (tickets_at (endpoint_of_writer x)) (written m n c.accepted).transfers) (sym size) tells.tells.carries.0)
    tells.tells.carries.1
    (subst (λ (d : ℕ). Each (IsMine past d y.state.endpoint.address m) ins) only.device
    (subst (λ (n : ℕ). Each (IsMine past y.state.endpoint.device y.state.endpoint.address n) ins) only.maximum follows.follows.mine))
    (subst (λ (n : ℕ). IsPrefixOf consumed (stream_of n (delivered ins past))) only.maximum (prefix-at past y consumed follows))

pub messages-arrive : (items : List Item) → IsLawful (final_host items).kernel.past → MessagesAlwaysArrive items
messages-arrive items lawful before after all w r x y c consumed writer calls reader framed only =
    arrive (behind (start items) before).host.kernel.past x y c consumed (tell-at scripts-go_on items before w x writer c calls)
    (follow-at scripts-go_on items lawful before after all r y reader consumed framed) only

-- so it is of the writer as it was before
pub messages-keep-arriving : (items : List Item) → IsLawful (final_host items).kernel.past → MessagesKeepArriving items
messages-keep-arriving items lawful before middle after all w r x y c consumed writer calls reader framed only =
    let old = (behind (start items) before).host.kernel.past in
    let new = (behind (start items) (before ++ middle)).host.kernel.past in
    arrive new x y c consumed
    (at-later old new x c (behind-extends scripts-go_on items before middle) (tell-at scripts-go_on items before w x writer c calls))
    (follow-at scripts-go_on items lawful (before ++ middle) after all r y reader consumed framed) only
