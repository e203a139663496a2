-- What the writes and flushes of a writer answer, on any bus.
use Rattle.std.specs.Prelude.{ℕ, ◌≡◌, ◌<◌, ◌+◌, ◌-◌, ◌++◌, ◌==◌, ◌⊎◌, false, true, List, [], length, take, min, Option, Some, None, unwrap_or, Result, Ok, Err, if◌then◌else◌}
use Rattle.usb_desc.specs.declared.error.Fail.{Fail}
use Rattle.usb_device_endpoint.specs.BusCalls.{BusCalls}
use Rattle.usb_io.specs.declared.fault.WriteFault.{WriteFault}
use Rattle.usb_io.specs.declared.fault.WriteFault.TheVariants.{Transfer, TimedOut}
use Rattle.usb_io.specs.Answered.{Answered, answered, FailedAs}
use Rattle.usb_io.specs.Fronts.{Drained, drained}
use Rattle.usb_io.specs.Writers.{WriterState, Writing, out_buffer, not_begun, send, sent, sent_end, EndShort}

-- these bytes stand, or are submitted where they are a whole transfer
abbrev pub accepted : {S : Type 0} → BusCalls S → List ℕ → Writing S → Writing S
accepted k c w = if length c == w.writer.size then send k (out_buffer w.writer.size c) w else record w { writer = record w.writer { buffer = Some c } }

-- what fits
abbrev pub accepted_count : List ℕ → WriterState → ℕ
accepted_count src w = min (length src) (w.size - length (unwrap_or w.buffer []))

-- a writer accepts what fits, and submits a full buffer
abbrev pub accepts : {S : Type 0} → BusCalls S → List ℕ → Writing S → Writing S
accepts k src w = accepted k (unwrap_or w.writer.buffer [] ++ take (accepted_count src w.writer) src) w

-- a buffer that stands, or an empty one
abbrev pub or_empty : Option (List ℕ) → Option (List ℕ)
or_empty buffer = Some (unwrap_or buffer [])

-- without memory it accepts nothing. Either none was there for a buffer, where none stood; or what stood goes on to stand (an
-- empty buffer where none did), and the transfer that became full was not submitted
abbrev pub AcceptsNone : {S : Type 0} → List ℕ → Writing S → Writing S → Type 0
AcceptsNone src old new =
    ((old.writer.buffer ≡ None) × (new ≡ old))
    ⊎ ((length (unwrap_or old.writer.buffer []) + accepted_count src old.writer ≡ old.writer.size)
    × (new ≡ record old { writer = record old.writer { buffer = or_empty old.writer.buffer } }))

-- the fronts that a write takes. No end has begun then
abbrev pub write_drained : {S : Type 0} → BusCalls S → ℕ → Writing S → Drained S
write_drained k timeout w = drained k false timeout (not_begun w)

-- then bytes are accepted, as many as fit
abbrev pub accepting : {S : Type 0} → BusCalls S → List ℕ → Result (Unit {0}) WriteFault → Writing S → Answered ℕ WriteFault (Writing S)
accepting k src (Ok u) w = answered (Ok (accepted_count src w.writer)) (accepts k src w)
accepting k src (Err f) w = answered (Err f) w

abbrev pub accepting_of : {S : Type 0} → BusCalls S → List ℕ → Drained S → Answered ℕ WriteFault (Writing S)
accepting_of k src d = accepting k src d.answer d.left

-- a write of bytes: how many it accepts
abbrev pub write_came : {S : Type 0} → BusCalls S → ℕ → List ℕ → Writing S → Answered ℕ WriteFault (Writing S)
write_came k timeout src w = accepting_of k src (write_drained k timeout w)

-- what a flush submits before it takes fronts, and what one to an end does
abbrev pub submit_came : {S : Type 0} → BusCalls S → Writing S → Writing S
submit_came k w = sent k w.writer.buffer (not_begun w)

abbrev pub submit_end_came : {S : Type 0} → BusCalls S → Writing S → Writing S
submit_end_came k w = sent_end k w.writer.buffer (not_begun w)

-- a flush: what stands is submitted, and all that is pending is taken
abbrev pub flush_came : {S : Type 0} → BusCalls S → ℕ → Writing S → Drained S
flush_came k timeout w = drained k true timeout (submit_came k w)

-- a flush to an end: an end is submitted, and all that is pending is taken
abbrev pub flush_end_came : {S : Type 0} → BusCalls S → ℕ → Writing S → Drained S
flush_end_came k timeout w = drained k true timeout (submit_end_came k w)

-- a poll to an end submits one where none has begun, which has begun then
abbrev pub with_end_begun : {S : Type 0} → Writing S → Writing S
with_end_begun w = record w { writer = record w.writer { begun = true } }

abbrev pub begun_end : {S : Type 0} → BusCalls S → Writing S → Writing S
begun_end k w = if w.writer.begun then w else with_end_begun (sent_end k w.writer.buffer w)

-- and begins anew behind one that is ready
abbrev pub ending : {S : Type 0} → Result (Unit {0}) WriteFault → Writing S → Drained S
ending (Ok u) w = answered (Ok u) (not_begun w)
ending (Err (Transfer e)) w = answered (Err (Transfer e)) (not_begun w)
ending (Err TimedOut) w = answered (Err TimedOut) w

abbrev pub ending_of : {S : Type 0} → Drained S → Drained S
ending_of d = ending d.answer d.left

-- a poll of a flush to an end
abbrev pub poll_flush_end_came : {S : Type 0} → BusCalls S → Writing S → Drained S
poll_flush_end_came k w = ending_of (drained k true 0 (begun_end k w))

-- a write without memory took its fronts, and accepted nothing
pub record WriteShort {S : Type 0} (k : BusCalls S) (timeout : ℕ) (src : List ℕ) (old new : Writing S) : Type 0 where
  pub drained : (write_drained k timeout old).answer ≡ Ok tt
  pub none : AcceptsNone src (write_drained k timeout old).left new

-- why a write failed
abbrev pub WriteFails : {S : Type 0} → BusCalls S → ℕ → List ℕ → Writing S → Writing S → Fail WriteFault → Type 0
WriteFails k timeout src old new e = FailedAs (write_came k timeout src old) (WriteShort k timeout src old new) new e

-- a submission or a flush without memory had bytes to submit, and submitted nothing
pub record SubmitShort {S : Type 0} (old new : Writing S) : Type 0 where
  pub some : 0 < length (unwrap_or old.writer.buffer [])
  pub none : new ≡ not_begun old

abbrev pub FlushFails : {S : Type 0} → BusCalls S → ℕ → Writing S → Writing S → Fail WriteFault → Type 0
FlushFails k timeout old new e = FailedAs (flush_came k timeout old) (SubmitShort old new) new e

-- an end without memory submitted nothing, or the buffer without the empty transfer
abbrev pub SubmitEndShort : {S : Type 0} → BusCalls S → Writing S → Writing S → Type 0
SubmitEndShort k old new = EndShort k old.writer.buffer (not_begun old) new

-- so did a flush to an end
abbrev pub FlushEndFails : {S : Type 0} → BusCalls S → ℕ → Writing S → Writing S → Fail WriteFault → Type 0
FlushEndFails k timeout old new e = FailedAs (flush_end_came k timeout old) (SubmitEndShort k old new) new e

-- a poll to an end found no memory for one, where none had begun, and none has begun
pub record PolledEndShort {S : Type 0} (k : BusCalls S) (old new : Writing S) : Type 0 where
  pub none : old.writer.begun ≡ false
  pub short : EndShort k old.writer.buffer old new

-- why one failed
abbrev pub PollFlushEndFails : {S : Type 0} → BusCalls S → Writing S → Writing S → Fail WriteFault → Type 0
PollFlushEndFails k old new e = FailedAs (poll_flush_end_came k old) (PolledEndShort k old new) new e
