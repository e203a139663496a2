-- Messages that a writer sends and a reader reads, over a device that echoes.
use Rattle.std.specs.Prelude.{ℕ, ◌≡◌, List, ◌++◌, Some}
use Rattle.usb_kernel.specs.declared.event.Event.{Event}
use Rattle.usb_script_lines.specs.declared.item.Item.{Item}
use Rattle.usb_io.specs.Streams.{Mark}
use Rattle.usb_io.specs.Writes.{marks_of, NoMidFlush}
use Rattle.usb_session_streams.specs.Told.{WriterCalls}
use Rattle.usb_io.specs.Messages.{messages, AreFirstOf}
use Rattle.usb_io.specs.Exchange.{Exchange, OnlyEchoes}
use Rattle.usb_session_calls.specs.Names.{named}
use Rattle.usb_session_calls.specs.State.{State, Reader, Writer, tickets_at, endpoint_of_reader, endpoint_of_writer}
use Rattle.usb_session.specs.Output.{start, behind}

-- the endpoints of a writer and of a reader, with all tickets of both
abbrev pub exchange_of : Writer → Reader → Exchange
exchange_of x y =
    record {
      device = x.state.endpoint.device;
      output = x.state.endpoint.address;
      input = y.state.endpoint.address;
      outs = tickets_at (endpoint_of_writer x);
      ins = tickets_at (endpoint_of_reader y);
    }

-- a writer, with its calls, and a reader are on one device, whose endpoints have one maximum; on these endpoints nothing happened
-- yet but submissions by the two, reaps, and echoes from the one to the other; and no flush found bytes that were not submitted
pub record OnlyExchange (past : List Event) (x : Writer) (y : Reader) (c : WriterCalls) : Type 0 where
  pub device : y.state.endpoint.device ≡ x.state.endpoint.device
  pub maximum : y.state.endpoint.maximum ≡ x.state.endpoint.maximum
  pub echoes : OnlyEchoes (exchange_of x y) past
  pub whole : NoMidFlush x.state.endpoint.maximum x.state.size c.accepted

-- then the messages that the reader ended are the first of those that the writer ended. (The writer alone used its endpoint, and
-- the reader is framed)
abbrev pub MessagesArrive : State → Type 0
MessagesArrive state =
    (w r : ℕ) (x : Writer) (y : Reader) (c : WriterCalls) (consumed : List Mark) →
    named state.writers w ≡ Some x → x.calls ≡ Some c → named state.readers r ≡ Some y → y.consumed ≡ Some consumed →
    OnlyExchange state.host.kernel.past x y c → AreFirstOf (messages consumed) (messages (marks_of c.accepted))

-- before the first line of a script and behind each
abbrev pub MessagesAlwaysArrive : List Item → Type 0
MessagesAlwaysArrive items = (before after : List Item) → before ++ after ≡ items → MessagesArrive (behind (start items) before)

-- a writer as it is in one state, and a framed reader as it is in a later one: if up to then nothing else happened on the two
-- endpoints, with the tickets that the writer has in the first, then the messages that the reader ended are the first of those
-- that the writer ended by the first. (So the writer may be closed in the later state, or have given its endpoint back)
abbrev pub MessagesStillArrive : State → State → Type 0
MessagesStillArrive state later =
    (w r : ℕ) (x : Writer) (y : Reader) (c : WriterCalls) (consumed : List Mark) →
    named state.writers w ≡ Some x → x.calls ≡ Some c → named later.readers r ≡ Some y → y.consumed ≡ Some consumed →
    OnlyExchange later.host.kernel.past x y c → AreFirstOf (messages consumed) (messages (marks_of c.accepted))

-- behind lines of a script, and behind the lines that follow them
abbrev pub MessagesKeepArriving : List Item → Type 0
MessagesKeepArriving items =
    (before middle after : List Item) → (before ++ middle) ++ after ≡ items →
    MessagesStillArrive (behind (start items) before) (behind (start items) (before ++ middle))
