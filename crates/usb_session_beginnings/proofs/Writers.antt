-- The calls of a writer see no place of the kernel.
use Rattle.std.proofs.Common.{Bool, Err, List, None, Ok, Option, Result, Some, [], ap, false, length, refl, take, true, unwrap_or, ℕ, ◌++◌, ◌∙◌, ◌∷◌, ◌≡◌}
use Rattle.std.specs.Prelude.{if◌then◌else◌, ◌==◌}
use Rattle.usb_device_endpoint.specs.Waits.{Polled, wait_next}
use Rattle.usb_device_host.specs.HostCalls.{host_calls}
use Rattle.usb_device_host.specs.HostState.{HostState}
use Rattle.usb_io.specs.Answered.{Answered, answered}
use Rattle.usb_io.specs.Fronts.{Drained, after_front, drained, drained_if, drained_of, taken_once, wait_kept, waits_on}
use Rattle.usb_io.specs.WriteAnswers.{accepted, accepted_count, accepting, accepting_of, begun_end, ending, ending_of, flush_came, flush_end_came, poll_flush_end_came, submit_came, submit_end_came, with_end_begun, write_came, write_drained}
use Rattle.usb_io.specs.Writers.{WriterState, Writing, empty_buffer, not_begun, out_buffer, send, sent, sent_end, with_taken, writing}
use Rattle.usb_io.specs.declared.fault.WriteFault.{WriteFault}
use Rattle.usb_io.specs.declared.fault.WriteFault.TheVariants.{TimedOut, Transfer}
use Rattle.usb_kernel.specs.Tickets.{tickets}
use Rattle.usb_kernel.specs.WholePackets.{is_whole}
use Rattle.usb_session_beginnings.proofs.Fronts.{bare_polled, wait_next-blind}
use Rattle.usb_session_beginnings.proofs.Hosts.{bare, entered-blind}
use Rattle.usb_xfer.specs.BufferState.{BufferState}
use Rattle.usb_xfer.specs.declared.error.TransferError.{TransferError}
use Rattle.usb_xfer.specs.declared.transfer.Completion.{Completion}

abbrev pub bare_writing : Writing HostState → Writing HostState
bare_writing w = record w { bus = bare w.bus }

abbrev pub bare_written : {A : Type 0} → Answered A WriteFault (Writing HostState) → Answered A WriteFault (Writing HostState)
bare_written a = record a { left = bare_writing a.left }

-- submissions
send-blind : (b : BufferState) (w : Writing HostState) → send host_calls b (bare_writing w) ≡ bare_writing (send host_calls b w)
send-blind b w =
    ap (λ h. writing h (record w.writer {
      endpoint = record w.writer.endpoint { pending = w.writer.endpoint.pending ++ length (tickets w.bus.kernel.past) ∷ [] };
      buffer = None;
    })) (entered-blind w.writer.endpoint None b w.bus)

sent-blind : (o : Option (List ℕ)) (w : Writing HostState) → sent host_calls o (bare_writing w) ≡ bare_writing (sent host_calls o w)
sent-blind None w = refl
sent-blind (Some []) w = refl
sent-blind (Some (b ∷ bytes)) w = send-blind (out_buffer w.writer.size (b ∷ bytes)) w

whole-blind : (whole : Bool) (b : BufferState) (w : Writing HostState)
    → (if whole then send host_calls empty_buffer (send host_calls b (bare_writing w)) else send host_calls b (bare_writing w))
    ≡ bare_writing (if whole then send host_calls empty_buffer (send host_calls b w) else send host_calls b w)
whole-blind true b w = ap (send host_calls empty_buffer) (send-blind b w) ∙ send-blind empty_buffer (send host_calls b w)
whole-blind false b w = send-blind b w

sent_end-blind : (o : Option (List ℕ)) (w : Writing HostState) → sent_end host_calls o (bare_writing w) ≡ bare_writing (sent_end host_calls o w)
sent_end-blind None w = send-blind empty_buffer w
sent_end-blind (Some bytes) w = whole-blind (is_whole w.writer.endpoint.maximum (length bytes)) (out_buffer w.writer.size bytes) w

begun-blind : (begun : Bool) (w : Writing HostState)
    → (if begun then bare_writing w else with_end_begun (sent_end host_calls w.writer.buffer (bare_writing w)))
    ≡ bare_writing (if begun then w else with_end_begun (sent_end host_calls w.writer.buffer w))
begun-blind true w = refl
begun-blind false w = ap with_end_begun (sent_end-blind w.writer.buffer w)

begun_end-blind : (w : Writing HostState) → begun_end host_calls (bare_writing w) ≡ bare_writing (begun_end host_calls w)
begun_end-blind w = begun-blind w.writer.begun w

pub submit-blind : (w : Writing HostState) → submit_came host_calls (bare_writing w) ≡ bare_writing (submit_came host_calls w)
submit-blind w = sent-blind w.writer.buffer (not_begun w)

pub submit_end-blind : (w : Writing HostState) → submit_end_came host_calls (bare_writing w) ≡ bare_writing (submit_end_came host_calls w)
submit_end-blind w = sent_end-blind w.writer.buffer (not_begun w)

-- fronts that are taken
abbrev GoesOn : (Writing HostState → Drained HostState) → Type 0
GoesOn further = (v : Writing HostState) → further (bare_writing v) ≡ bare_written (further v)

module _ (timeout : ℕ) (further : Writing HostState → Drained HostState) (goes_on : GoesOn further) where
  -- what it comes to behind a wait for the front, and behind such a wait that begins
  abbrev by_wait : WriterState → Polled HostState → Drained HostState
  by_wait r p = after_front (wait_kept r p).0 (wait_kept r p).1 further

  abbrev by_front : Writing HostState → Drained HostState
  by_front w = after_front (taken_once host_calls timeout w).0 (taken_once host_calls timeout w).1 further

  -- a completion with this status
  abbrev with_status : Completion → Result (Unit {0}) TransferError → Option Completion
  with_status c status = Some (record c { status = status })

  status-blind : (r : WriterState) (p : Polled HostState) (c : Completion) (status : Result (Unit {0}) TransferError)
      → by_wait r (record (bare_polled p) { completion = with_status c status })
      ≡ bare_written (by_wait r (record p { completion = with_status c status }))
  status-blind r p c (Ok u) =
      let took = record c { status = Ok u } in
      goes_on (writing p.bus (with_taken took p.endpoint.pending (record r { endpoint = p.endpoint })))
  status-blind r p c (Err error) = refl

  by_wait-blind : (r : WriterState) (p : Polled HostState) (o : Option Completion)
      → by_wait r (record (bare_polled p) { completion = o }) ≡ bare_written (by_wait r (record p { completion = o }))
  by_wait-blind r p None = refl
  by_wait-blind r p (Some c) = status-blind r p c c.status

  by_front-blind : (w : Writing HostState) → by_front (bare_writing w) ≡ bare_written (by_front w)
  by_front-blind w =
      let p = wait_next host_calls timeout w.bus w.writer.endpoint in
      ap (by_wait w.writer) (wait_next-blind timeout w.bus w.writer.endpoint) ∙ by_wait-blind w.writer p p.completion

drained_if-blind : (b : Bool) (next : Writing HostState → Drained HostState) (w : Writing HostState) → GoesOn next
    → drained_if b next (bare_writing w) ≡ bare_written (drained_if b next w)
drained_if-blind false next w blind = refl
drained_if-blind true next w blind = blind w

drained_of-blind : (flushing : Bool) (timeout : ℕ) (ts : List ℕ) → GoesOn (drained_of host_calls flushing timeout ts)
drained_of-blind flushing timeout [] w = refl
drained_of-blind flushing timeout (front ∷ others) w =
    let further = drained_of host_calls flushing timeout others in
    drained_if-blind (waits_on flushing w.writer) (λ w. after_front (taken_once host_calls timeout w).0 (taken_once host_calls timeout w).1 further)
    w
    (by_front-blind timeout further (drained_of-blind flushing timeout others))

drained-blind : (flushing : Bool) (timeout : ℕ) → GoesOn (drained host_calls flushing timeout)
unfolding drained
drained-blind flushing timeout w = drained_of-blind flushing timeout w.writer.endpoint.pending w

-- writes
accepted_if-blind : (full : Bool) (c : List ℕ) (w : Writing HostState)
    → (if full then send host_calls (out_buffer w.writer.size c) (bare_writing w) else record (bare_writing w)
    { writer = record w.writer { buffer = Some c } })
    ≡ bare_writing (if full then send host_calls (out_buffer w.writer.size c) w else record w { writer = record w.writer { buffer = Some c } })
accepted_if-blind true c w = send-blind (out_buffer w.writer.size c) w
accepted_if-blind false c w = refl

accepted-blind : (c : List ℕ) (w : Writing HostState) → accepted host_calls c (bare_writing w) ≡ bare_writing (accepted host_calls c w)
accepted-blind c w = accepted_if-blind (length c == w.writer.size) c w

accepting-blind : (src : List ℕ) (r : Result (Unit {0}) WriteFault) (w : Writing HostState)
    → accepting host_calls src r (bare_writing w) ≡ bare_written (accepting host_calls src r w)
accepting-blind src (Ok u) w =
    ap (answered (Ok (accepted_count src w.writer))) (accepted-blind (unwrap_or w.writer.buffer [] ++ take (accepted_count src w.writer) src) w)
accepting-blind src (Err f) w = refl

pub write-blind : (timeout : ℕ) (src : List ℕ) (w : Writing HostState)
    → write_came host_calls timeout src (bare_writing w) ≡ bare_written (write_came host_calls timeout src w)
write-blind timeout src w =
    let d = write_drained host_calls timeout w in
    ap (accepting_of host_calls src) (drained-blind false timeout (not_begun w)) ∙ accepting-blind src d.answer d.left

-- flushes
pub flush-blind : (timeout : ℕ) → GoesOn (flush_came host_calls timeout)
flush-blind timeout w = ap (drained host_calls true timeout) (submit-blind w) ∙ drained-blind true timeout (submit_came host_calls w)

pub flush_end-blind : (timeout : ℕ) → GoesOn (flush_end_came host_calls timeout)
flush_end-blind timeout w = ap (drained host_calls true timeout) (submit_end-blind w) ∙ drained-blind true timeout (submit_end_came host_calls w)

ending-blind : (r : Result (Unit {0}) WriteFault) (w : Writing HostState) → ending r (bare_writing w) ≡ bare_written (ending r w)
ending-blind (Ok u) w = refl
ending-blind (Err (Transfer e)) w = refl
ending-blind (Err TimedOut) w = refl

pub poll_flush_end-blind : (w : Writing HostState)
    → poll_flush_end_came host_calls (bare_writing w) ≡ bare_written (poll_flush_end_came host_calls w)
poll_flush_end-blind w =
    let d = drained host_calls true 0 (begun_end host_calls w) in
    ap ending_of (ap (drained host_calls true 0) (begun_end-blind w) ∙ drained-blind true 0 (begun_end host_calls w)) ∙ ending-blind d.answer
    d.left
