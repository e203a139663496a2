-- A host and a writer stay bounded over the writer's calls.
use Rattle.std.proofs.Common.{◌≡◌, ℕ, ◌≤◌, ◌-◌, arith, Bool, true, false, List, [], ◌∷◌, ◌++◌, length, length-append, take, Option, Some, None, Result, Ok, Err, refl, ap, sym, subst}
use Rattle.std.specs.Prelude.{◌==◌, ◌&&◌, min, is_none, nat_lt, unwrap_or}
use Rattle.std.proofs.lemmas.Bool.{cond_both}
use Rattle.std.proofs.lemmas.List.{length-take}
use Rattle.usb_xfer.specs.BufferState.{BufferState}
use Rattle.usb_xfer.specs.declared.error.TransferError.{TransferError}
use Rattle.usb_xfer.specs.declared.transfer.Completion.{Completion}
use Rattle.usb_kernel.specs.TransferCompletions.{transfer_completion}
use Rattle.usb_kernel.specs.WholePackets.{is_whole}
use Rattle.usb_device_endpoint.specs.Waits.{waited}
use Rattle.usb_device_host.specs.HostState.{HostState}
use Rattle.usb_device_host.specs.HostCalls.{host_calls}
use Rattle.usb_device_host.specs.TicketEnds.{host_taken}
use Rattle.usb_io.specs.Fronts.{Drained, waits_on, drained_if, drained_of, drained}
use Rattle.usb_io.specs.Writers.{WriterState, Writing, writing, not_begun, out_buffer, empty_buffer, send, sent, sent_end, kept_buffer, with_taken}
use Rattle.usb_io.specs.WriteAnswers.{accepted, accepted_count, with_end_begun, begun_end, accepting, write_drained, write_came, flush_came, flush_end_came, ending, poll_flush_end_came, submit_came, submit_end_came}
use Rattle.usb_io.specs.declared.fault.WriteFault.{WriteFault}
use Rattle.usb_io.specs.declared.fault.WriteFault.TheVariants.{Transfer, TimedOut}
use Rattle.usb_session_streams.proofs.WritesKeep.{once_and, after_wait, once-waits}
use Rattle.usb_session_sizes.proofs.Fits.{Fits}
use Rattle.usb_session_sizes.proofs.Journals.{IsBufferSized}
use Rattle.usb_session_sizes.proofs.Hosts.{IsHostBounded, entered-bounded, waited-bounded, taken-bounded}
use Rattle.usb_session_sizes.proofs.Sizes.{small-size}

-- at most so many bytes stand
abbrev pub IsWithin : ℕ → List ℕ → Type 0
IsWithin size bytes = length bytes ≤ size

-- a writer of an endpoint whose packets have fewer than 2048 bytes, with transfers of a size that a trace tells, and what stands
-- fits one
abbrev pub IsWriterSized : WriterState → Type 0
IsWriterSized w = (w.endpoint.maximum ≤ 2047) × (w.size ≤ 67582) × Fits (IsWithin w.size) w.buffer

-- with a bounded host
abbrev pub IsWritingBounded : Writing HostState → Type 0
IsWritingBounded w = IsHostBounded w.bus × IsWriterSized w.writer

-- submissions
out-sized : (size : ℕ) (bytes : List ℕ) → size ≤ 67582 → length bytes ≤ size → IsBufferSized (out_buffer size bytes)
out-sized size bytes small fits = record { requested = small; bytes = omega (arith, small, fits) }

empty-sized : IsBufferSized empty_buffer
empty-sized = record { requested = omega arith; bytes = omega arith }

send-bounded : (w : Writing HostState) (b : BufferState) → IsBufferSized b → IsWritingBounded w → IsWritingBounded (send host_calls b w)
send-bounded w b sized is = (entered-bounded w.bus w.writer.endpoint None b (small-size w.writer.endpoint.maximum is.1.0) sized is.0, (is.1.0, is.1.1, tt))

bytes-bounded : (w : Writing HostState) (bytes : List ℕ) → length bytes ≤ w.writer.size → IsWritingBounded w → IsWritingBounded (send host_calls (out_buffer w.writer.size bytes) w)
bytes-bounded w bytes fits is = send-bounded w (out_buffer w.writer.size bytes) (out-sized w.writer.size bytes is.1.1 fits) is

sent-bounded : (o : Option (List ℕ)) (w : Writing HostState) → Fits (IsWithin w.writer.size) o → IsWritingBounded w → IsWritingBounded (sent host_calls o w)
sent-bounded None w fits is = is
sent-bounded (Some []) w fits is = is
sent-bounded (Some (b ∷ bytes)) w fits is = bytes-bounded w (b ∷ bytes) fits is

sent_end-bounded : (o : Option (List ℕ)) (w : Writing HostState) → Fits (IsWithin w.writer.size) o → IsWritingBounded w → IsWritingBounded (sent_end host_calls o w)
sent_end-bounded None w fits is = send-bounded w empty_buffer empty-sized is
sent_end-bounded (Some bytes) w fits is =
    let one = send host_calls (out_buffer w.writer.size bytes) w in
    let there = bytes-bounded w bytes fits is in
    cond_both (is_whole w.writer.endpoint.maximum (length bytes)) (send host_calls empty_buffer one) one IsWritingBounded
    (λ yes_. send-bounded one empty_buffer empty-sized there) (λ no_. there)

begun_end-bounded : (w : Writing HostState) → IsWritingBounded w → IsWritingBounded (begun_end host_calls w)
begun_end-bounded w is =
    cond_both w.writer.begun w (with_end_begun (sent_end host_calls w.writer.buffer w)) IsWritingBounded
    (λ yes_. is) (λ no_. sent_end-bounded w.writer.buffer w is.1.2 is)

pub submit-bounded : (w : Writing HostState) → IsWritingBounded w → IsWritingBounded (submit_came host_calls w)
submit-bounded w is = sent-bounded w.writer.buffer (not_begun w) is.1.2 is

pub submit_end-bounded : (w : Writing HostState) → IsWritingBounded w → IsWritingBounded (submit_end_came host_calls w)
submit_end-bounded w is = sent_end-bounded w.writer.buffer (not_begun w) is.1.2 is

-- fronts that are taken
kept-fits : (size n : ℕ) (buffer : Option (List ℕ)) (room left : ℕ) → Fits (IsWithin size) buffer → Fits (IsWithin size) (kept_buffer size n buffer room left)
kept-fits size n buffer room left fits =
    cond_both (is_none buffer && (room == size && nat_lt left n)) (Some []) buffer (Fits (IsWithin size)) (λ yes_. omega arith) (λ no_. fits)

front-bounded : (h : HostState) (r : WriterState) (front : ℕ) (others : List ℕ) (c : Completion) → IsWritingBounded (writing h r) → IsWritingBounded (writing (host_taken h front) (with_taken c others r))
front-bounded h r front others c is =
    (taken-bounded h front is.0, (is.1.0, is.1.1, kept-fits r.size r.n r.buffer c.buffer.room (length others) is.1.2))

-- what goes on with a bounded writer, at which these are pending, stays bounded
abbrev GoesOn : List ℕ → (Writing HostState → Drained HostState) → Type 0
GoesOn others further = (v : Writing HostState) → v.writer.endpoint.pending ≡ others → IsWritingBounded v → IsWritingBounded (further v).left

taking-bounded : (status : Result (Unit {0}) TransferError) (c : Completion) (h : HostState) (r : WriterState) (front : ℕ) (others : List ℕ) (further : Writing HostState → Drained HostState) → IsWritingBounded (writing (host_taken h front) (with_taken c others r)) → GoesOn others further
    → IsWritingBounded (after_wait (Some (record c { status = status })) h r front others further).left
taking-bounded (Ok u) c h r front others further is next = next (writing (host_taken h front) (with_taken c others r)) refl is
taking-bounded (Err e) c h r front others further is next = is

after-bounded : (o : Option Completion) (h : HostState) (r : WriterState) (front : ℕ) (others : List ℕ) (further : Writing HostState → Drained HostState) → IsWritingBounded (writing h r) → GoesOn others further
    → IsWritingBounded (after_wait o h r front others further).left
after-bounded None h r front others further is next = is
after-bounded (Some c) h r front others further is next = taking-bounded c.status c h r front others further (front-bounded h r front others c is) next

drained_if-bounded : (b : Bool) (timeout front : ℕ) (others : List ℕ) (w : Writing HostState) (further : Writing HostState → Drained HostState) → w.writer.endpoint.pending ≡ front ∷ others → IsWritingBounded w → GoesOn others further → IsWritingBounded (drained_if b (once_and timeout further) w).left
drained_if-bounded false timeout front others w further was is next = is
drained_if-bounded true timeout front others w further was is next =
    let h = waited host_calls front timeout w.bus in
    subst (λ (d : Drained HostState). IsWritingBounded d.left) (sym (once-waits timeout w front others further was))
    (after-bounded (transfer_completion h.kernel.past front) h w.writer front others further (waited-bounded w.bus front timeout is.0, is.1) next)

drained_of-bounded : (ts : List ℕ) (flushing : Bool) (timeout : ℕ) (w : Writing HostState) → w.writer.endpoint.pending ≡ ts → IsWritingBounded w → IsWritingBounded (drained_of host_calls flushing timeout ts w).left
drained_of-bounded [] flushing timeout w was is = is
drained_of-bounded (front ∷ others) flushing timeout w was is =
    drained_if-bounded (waits_on flushing w.writer) timeout front others w (drained_of host_calls flushing timeout others) was is (λ v left there. drained_of-bounded others flushing timeout v left there)

drained-bounded : (flushing : Bool) (timeout : ℕ) (w : Writing HostState) → IsWritingBounded w → IsWritingBounded (drained host_calls flushing timeout w).left
unfolding drained
drained-bounded flushing timeout w is = drained_of-bounded w.writer.endpoint.pending flushing timeout w refl is

-- writes accept what fits
accepted-fits : (src : List ℕ) (w : WriterState) (bytes : List ℕ) → length bytes ≤ w.size → unwrap_or w.buffer [] ≡ bytes → IsWithin w.size (bytes ++ take (accepted_count src w) src)
accepted-fits src w bytes fits is =
    let more = length-take (accepted_count src w) src in
    let all = length-append bytes (take (accepted_count src w) src) in
    let room : accepted_count src w ≡ min (length src) (w.size - length bytes) = ap (λ (b : List ℕ). min (length src) (w.size - length b)) is in
    omega (arith, more, all, room, fits)

standing-fits : (size : ℕ) (o : Option (List ℕ)) → Fits (IsWithin size) o → length (unwrap_or o []) ≤ size
standing-fits size None fits = omega arith
standing-fits size (Some bytes) fits = fits

accepted-bounded : (c : List ℕ) (w : Writing HostState) → length c ≤ w.writer.size → IsWritingBounded w → IsWritingBounded (accepted host_calls c w)
accepted-bounded c w fits is =
    cond_both (length c == w.writer.size) (send host_calls (out_buffer w.writer.size c) w) (record w { writer = record w.writer { buffer = Some c } }) IsWritingBounded
    (λ yes_. bytes-bounded w c fits is) (λ no_. (is.0, (is.1.0, is.1.1, fits)))

accepting-bounded : (src : List ℕ) (r : Result (Unit {0}) WriteFault) (w : Writing HostState) → IsWritingBounded w → IsWritingBounded (accepting host_calls src r w).left
accepting-bounded src (Err f) w is = is
accepting-bounded src (Ok u) w is =
    let standing = unwrap_or w.writer.buffer [] in
    accepted-bounded (standing ++ take (accepted_count src w.writer) src) w (accepted-fits src w.writer standing (standing-fits w.writer.size w.writer.buffer is.1.2) refl) is

pub write-bounded : (timeout : ℕ) (src : List ℕ) (w : Writing HostState) → IsWritingBounded w → IsWritingBounded (write_came host_calls timeout src w).left
write-bounded timeout src w is =
    let d = write_drained host_calls timeout w in
    accepting-bounded src d.answer d.left (drained-bounded false timeout (not_begun w) is)

-- flushes
pub flush-bounded : (timeout : ℕ) (w : Writing HostState) → IsWritingBounded w → IsWritingBounded (flush_came host_calls timeout w).left
flush-bounded timeout w is = drained-bounded true timeout (submit_came host_calls w) (submit-bounded w is)

pub flush_end-bounded : (timeout : ℕ) (w : Writing HostState) → IsWritingBounded w → IsWritingBounded (flush_end_came host_calls timeout w).left
flush_end-bounded timeout w is = drained-bounded true timeout (submit_end_came host_calls w) (submit_end-bounded w is)

ending-bounded : (r : Result (Unit {0}) WriteFault) (w : Writing HostState) → IsWritingBounded w → IsWritingBounded (ending r w).left
ending-bounded (Ok u) w is = is
ending-bounded (Err (Transfer e)) w is = is
ending-bounded (Err TimedOut) w is = is

pub poll_flush_end-bounded : (w : Writing HostState) → IsWritingBounded w → IsWritingBounded (poll_flush_end_came host_calls w).left
poll_flush_end-bounded w is =
    let d = drained host_calls true 0 (begun_end host_calls w) in
    ending-bounded d.answer d.left (drained-bounded true 0 (begun_end host_calls w) (begun_end-bounded w is))
