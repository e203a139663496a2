-- What clients of messages ask and answer, over a script.
use Rattle.std.specs.Prelude.{ℕ, ◌≡◌, ◌≤◌, List, ◌++◌, length, slice_get, Some, None}
use Rattle.usb_kernel.specs.declared.event.Event.{Event}
use Rattle.usb_kernel.specs.Legal.{IsLawful}
use Rattle.usb_script_lines.specs.declared.item.Item.{Item}
use Rattle.usb_io.specs.Streams.{Mark, stream_of, delivered}
use Rattle.usb_io.specs.Writers.{WriterState}
use Rattle.usb_io.specs.Writes.{Call, written, marks_of, NoMidFlush}
use Rattle.usb_io.specs.Carried.{AllCarry}
use Rattle.usb_io.specs.Messages.{messages, AreFirstOf}
use Rattle.usb_msg.specs.Frames.{framed, frames_from}
use Rattle.usb_session_calls.specs.Names.{named}
use Rattle.usb_session_calls.specs.State.{State, Client}
use Rattle.usb_session.specs.Output.{start, behind, final_host}

-- the tickets of a client: of its writer's endpoint those that its writer took and those that are
-- pending, and so of its reader's
abbrev pub tickets_out : Client → List ℕ
tickets_out x = x.sent ++ x.state.writer.endpoint.pending

abbrev pub tickets_in : Client → List ℕ
tickets_in x = x.received ++ x.state.reader.endpoint.pending

-- these tickets carry, one each and in order, the transfers of calls of a writer
abbrev pub CarryCalls : List Event → WriterState → List ℕ → List Call → Type 0
CarryCalls past w tickets calls =
    AllCarry past w.endpoint.device w.endpoint.address w.endpoint.maximum tickets
    (written w.endpoint.maximum w.size calls).transfers

-- the messages of the packets that came to a client's reader, in the order of the journal: a packet
-- that is shorter than the maximum ends one
abbrev pub messages_in : List Event → Client → List (List ℕ)
messages_in past x = messages (stream_of x.state.reader.endpoint.maximum (delivered (tickets_in x) past))

-- of each request that has a message at its place this is f of the request, under the same tag
abbrev pub AnswersBy : (List ℕ → List ℕ) → List (List ℕ) → List (List ℕ) → Type 0
AnswersBy f requests came =
    (k : ℕ) (request message : List ℕ) → slice_get requests k ≡ Some request →
    slice_get came k ≡ Some message → message ≡ framed k (f request)

-- The tickets of a client's writer carry calls (`carried`) whose messages are the frames of the
-- requests (`sent`). While the client goes on no frame is split by a flush, so each is one message of
-- the packets too (`whole`). The frames of the responses are the first messages that came to its reader
-- (`first`): the k-th response is the k-th of these, behind the tag k (`response`). There are never
-- more responses than requests (`asked`). So where the device answers each request with f of it,
-- under the request's tag, the k-th response is f of the k-th request (`back`)
pub record IsClientServed (past : List Event) (x : Client) : Type 0 where
  pub calls : List Call
  pub carried : CarryCalls past x.state.writer (tickets_out x) calls
  pub sent : messages (marks_of calls) ≡ frames_from 0 x.requests
  pub whole : x.state.ended ≡ None →
      NoMidFlush x.state.writer.endpoint.maximum x.state.writer.size calls
  pub first : AreFirstOf (frames_from 0 x.responses) (messages_in past x)
  pub response : (k : ℕ) (body : List ℕ) → slice_get x.responses k ≡ Some body →
      slice_get (messages_in past x) k ≡ Some (framed k body)
  pub asked : length x.responses ≤ length x.requests
  pub back : (f : List ℕ → List ℕ) → AnswersBy f x.requests (messages_in past x) →
      (k : ℕ) (request body : List ℕ) → slice_get x.requests k ≡ Some request →
      slice_get x.responses k ≡ Some body → body ≡ f request

-- so it is of each open client
abbrev pub ClientsServe : State → Type 0
ClientsServe state =
    (m : ℕ) (x : Client) → named state.clients m ≡ Some x → IsClientServed state.host.kernel.past x

-- before the first line of a script and behind each
abbrev pub ClientsAreServed : List Item → Type 0
ClientsAreServed items =
    (before after : List Item) → before ++ after ≡ items → ClientsServe (behind (start items) before)

-- the law: so it is of each script at whose end the journal is lawful
abbrev pub ScriptsServeClients : Type 0
ScriptsServeClients =
    (items : List Item) → IsLawful (final_host items).kernel.past → ClientsAreServed items
