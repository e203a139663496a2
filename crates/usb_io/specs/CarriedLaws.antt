-- What it means that a writer's tickets carry the transfers of its calls.
use Rattle.std.specs.Prelude.{ℕ, ◌≡◌, ◌+◌, ◌*◌, ◌<◌, List, [], ◌∷◌, ◌++◌, map, unwrap_or}
use Rattle.usb_kernel.specs.declared.event.Event.{Event}
use Rattle.usb_kernel.specs.Extends.{Extends}
use Rattle.usb_device_endpoint.specs.EndpointState.{EndpointState}
use Rattle.usb_io.specs.Streams.{Byte, stream_of}
use Rattle.usb_io.specs.Writers.{WriterState, fresh_writer}
use Rattle.usb_io.specs.Writes.{Call, Finish, written, packets_of, marks_of, NoMidFlush, IsMessage, after_writes}
use Rattle.usb_io.specs.Carried.{HandleCarries, WriterHistory, nothing_written, Tells}

-- a writer with nothing pending and no buffer wrote nothing
abbrev pub FreshTells : Type 0
FreshTells = (past : List Event) (e : EndpointState) (size : ℕ) → e.pending ≡ [] → Tells past (fresh_writer e size) nothing_written

-- whatever comes
abbrev pub LaterTells : Type 0
LaterTells = (old new : List Event) (w : WriterState) (h : WriterHistory) → Extends old new → Tells old w h → Tells new w h

-- the packets of the tickets say what was written, up to the bytes that stand
abbrev pub TicketsSayMarks : Type 0
TicketsSayMarks =
    (past : List Event) (w : WriterState) (h : WriterHistory) (more : ℕ) → 0 < w.endpoint.maximum → (more + 1) * w.endpoint.maximum ≡ w.size → NoMidFlush w.endpoint.maximum w.size h.calls → Tells past w h →
    (sent : List (List ℕ)) × HandleCarries past w.endpoint h.taken sent × (stream_of w.endpoint.maximum (packets_of w.endpoint.maximum sent) ++ map Byte (unwrap_or w.buffer []) ≡ marks_of h.calls)

-- from one end, or from a new writer on, to the next end, with no submit or flush between, the
-- packets of the tickets are full ones and one last shorter one
abbrev pub TicketsAreFramed : Type 0
TicketsAreFramed =
    (past : List Event) (w : WriterState) (taken : List ℕ) (writes : List (List ℕ)) (before : List Call) (more : ℕ) → 0 < w.endpoint.maximum → (more + 1) * w.endpoint.maximum ≡ w.size → (written w.endpoint.maximum w.size before).standing ≡ [] →
    Tells past w (record { taken = taken; calls = Finish ∷ after_writes writes before }) → (sent : List (List ℕ)) × (message : List (List ℕ)) × HandleCarries past w.endpoint taken sent ×
    (packets_of w.endpoint.maximum sent ≡ packets_of w.endpoint.maximum (written w.endpoint.maximum w.size before).transfers ++ message) × IsMessage w.endpoint.maximum message
