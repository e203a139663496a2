-- Laws of messages with tags.
use Rattle.std.specs.Prelude.{ℕ, ◌≡◌, ◌≤◌, List, [], ◌++◌, length, map, Some, slice_get}
use Rattle.usb_kernel.specs.declared.event.Event.{Event}
use Rattle.usb_kernel.specs.Extends.{Extends}
use Rattle.usb_device_endpoint.specs.EndpointState.{EndpointState}
use Rattle.usb_io.specs.Streams.{Byte}
use Rattle.usb_io.specs.Following.{stream}
use Rattle.usb_io.specs.Writes.{marks_of}
use Rattle.usb_io.specs.Messages.{messages, AreFirstOf}
use Rattle.usb_msg.specs.Frames.{framed, frames_from, marks_from}
use Rattle.usb_msg.specs.Clients.{ClientState, fresh_client}
use Rattle.usb_msg.specs.Histories.{ClientHistory, nothing_done, Keeps}

-- the messages of frames are the frames, whatever bytes come behind them
abbrev pub FramesAreMessages : Type 0
FramesAreMessages =
    (tag : ℕ) (bodies : List (List ℕ)) (bytes : List ℕ) →
    messages (marks_from tag bodies ++ map Byte bytes) ≡ frames_from tag bodies

-- a client to begin with did nothing
abbrev pub FreshKeeps : Type 0
FreshKeeps = (past : List Event) (out inp : EndpointState) → out.pending ≡ [] → inp.pending ≡ [] → Keeps past (fresh_client out inp) nothing_done

-- whatever comes
abbrev pub LaterKeeps : Type 0
LaterKeeps = (old new : List Event) (c : ClientState) (h : ClientHistory) → Extends old new → Keeps old c h → Keeps new c h

-- the frames of the accepted requests are, in order, the messages that the writer ended
abbrev pub RequestsAreMessages : Type 0
RequestsAreMessages =
    (past : List Event) (c : ClientState) (h : ClientHistory) → Keeps past c h →
    messages (marks_of h.written.calls) ≡ frames_from 0 h.requests

-- the frames of the responses are the first messages of the stream of the reader's tickets
abbrev pub ResponsesAreFirst : Type 0
ResponsesAreFirst =
    (past : List Event) (c : ClientState) (h : ClientHistory) → Keeps past c h →
    AreFirstOf (frames_from 0 h.responses) (messages (stream past c.reader h.read))

-- so the k-th response, counted from 0, is the k-th message of that stream without its first four
-- bytes, which are the tag k
abbrev pub ResponsesAreMessages : Type 0
ResponsesAreMessages =
    (past : List Event) (c : ClientState) (h : ClientHistory) (k : ℕ) (body : List ℕ) → Keeps past c h →
    slice_get h.responses k ≡ Some body →
    slice_get (messages (stream past c.reader h.read)) k ≡ Some (framed k body)

-- there are never more responses than requests
abbrev pub ResponsesAreAsked : Type 0
ResponsesAreAsked =
    (past : List Event) (c : ClientState) (h : ClientHistory) → Keeps past c h → length h.responses ≤ length h.requests

-- where a device answers the k-th request's body with f of it, under the same tag, the k-th response
-- is f of that body
abbrev pub AnswersComeBack : Type 0
AnswersComeBack =
    (past : List Event) (c : ClientState) (h : ClientHistory) (f : List ℕ → List ℕ) → Keeps past c h →
    ((k : ℕ) (asked message : List ℕ) → slice_get h.requests k ≡ Some asked →
    slice_get (messages (stream past c.reader h.read)) k ≡ Some message → message ≡ framed k (f asked)) →
    (k : ℕ) (asked body : List ℕ) → slice_get h.requests k ≡ Some asked → slice_get h.responses k ≡ Some body → body ≡ f asked
