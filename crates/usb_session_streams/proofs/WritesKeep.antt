-- What is kept by all that a call on a writer does is kept by the call.
use Rattle.std.proofs.Common.{◌≡◌, ℕ, Bool, true, false, cond, List, [], ◌∷◌, ◌++◌, length, take, Option, Some, None, Result, Ok, Err, refl, ap, sym, subst}
use Rattle.std.specs.Prelude.{◌==◌, unwrap_or}
use Rattle.usb_xfer.specs.BufferState.{BufferState}
use Rattle.usb_xfer.specs.declared.error.TransferError.{TransferError}
use Rattle.usb_xfer.specs.declared.transfer.Completion.{Completion}
use Rattle.usb_kernel.specs.WholePackets.{is_whole}
use Rattle.usb_kernel.specs.TransferCompletions.{transfer_completion}
use Rattle.usb_device_endpoint.specs.Waits.{front_of, taken_if, polled_of, waited}
use Rattle.usb_device_host.specs.HostState.{HostState}
use Rattle.usb_device_host.specs.HostCalls.{host_calls}
use Rattle.usb_device_host.specs.TicketEnds.{host_taken}
use Rattle.usb_io.specs.Fronts.{Drained, wait_kept, taken_once, waits_on, after_front, drained_if, drained_of, drained}
use Rattle.usb_io.specs.Writers.{WriterState, Writing, writing, not_begun, out_buffer, empty_buffer, send, sent, sent_end, with_taken}
use Rattle.usb_io.specs.WriteAnswers.{accepted, accepted_count, with_end_begun, begun_end, accepting, write_drained, write_came, flush_came, flush_end_came, ending, poll_flush_end_came, submit_came, submit_end_came}
use Rattle.usb_io.specs.declared.fault.WriteFault.{WriteFault}
use Rattle.usb_io.specs.declared.fault.WriteFault.TheVariants.{Transfer, TimedOut}

-- the buffer that stands, and whether an end has begun
abbrev pub with_set : Option (List ℕ) → Bool → Writing HostState → Writing HostState
with_set buffer begun w = record w { writer = record w.writer { buffer = buffer; begun = begun } }

-- each of their changes, each submission, each wait and the taking of the front
pub record Keeps (P : Writing HostState → Type 0) : Type 0 where
  pub set : (w : Writing HostState) (buffer : Option (List ℕ)) (begun : Bool) → P w → P (with_set buffer begun w)
  pub submission : (w : Writing HostState) (b : BufferState) → P w → P (send host_calls b w)
  pub wait : (w : Writing HostState) (timeout front : ℕ) (others : List ℕ) → w.writer.endpoint.pending ≡ front ∷ others → P w → P (writing (waited host_calls front timeout w.bus) w.writer)
  pub taking : (w : Writing HostState) (front : ℕ) (others : List ℕ) (c : Completion) → w.writer.endpoint.pending ≡ front ∷ others → transfer_completion w.bus.kernel.past front ≡ Some c → P w → P (writing (host_taken w.bus front) (with_taken c others w.writer))

-- a front is waited for and taken, and what it was decides what comes next
abbrev pub once_and : ℕ → (Writing HostState → Drained HostState) → Writing HostState → Drained HostState
once_and timeout further w = after_front (taken_once host_calls timeout w).0 (taken_once host_calls timeout w).1 further

-- that is, what the journal has of it
abbrev pub after_wait : Option Completion → HostState → WriterState → ℕ → List ℕ → (Writing HostState → Drained HostState) → Drained HostState
after_wait o h r front others further = after_front (wait_kept r (taken_if host_calls h r.endpoint front others o)).0 (wait_kept r (taken_if host_calls h r.endpoint front others o)).1 further

pub once-waits : (timeout : ℕ) (w : Writing HostState) (front : ℕ) (others : List ℕ) (further : Writing HostState → Drained HostState) → w.writer.endpoint.pending ≡ front ∷ others
    → once_and timeout further w ≡ after_wait (transfer_completion (waited host_calls front timeout w.bus).kernel.past front) (waited host_calls front timeout w.bus) w.writer front others further
once-waits timeout w front others further was =
    ap (λ (ts : List ℕ).
    after_front (wait_kept w.writer (polled_of host_calls (waited host_calls (front_of ts) timeout w.bus) w.writer.endpoint ts)).0
    (wait_kept w.writer (polled_of host_calls (waited host_calls (front_of ts) timeout w.bus) w.writer.endpoint ts)).1 further) was

module _ (P : Writing HostState → Type 0) (keeps : Keeps P) where
  not_begun-keeps : (w : Writing HostState) → P w → P (not_begun w)
  not_begun-keeps w at_w = keeps.set w w.writer.buffer false at_w

  -- submissions
  sent-keeps : (o : Option (List ℕ)) (w : Writing HostState) → P w → P (sent host_calls o w)
  sent-keeps None w at_w = at_w
  sent-keeps (Some []) w at_w = at_w
  sent-keeps (Some (b ∷ bytes)) w at_w = keeps.submission w (out_buffer w.writer.size (b ∷ bytes)) at_w

  sent_end-keeps : (o : Option (List ℕ)) (w : Writing HostState) → P w → P (sent_end host_calls o w)
  sent_end-keeps None w at_w = keeps.submission w empty_buffer at_w
  sent_end-keeps (Some bytes) w at_w =
      let one = send host_calls (out_buffer w.writer.size bytes) w in
      let at_one = keeps.submission w (out_buffer w.writer.size bytes) at_w in
      elim (is_whole w.writer.endpoint.maximum (length bytes)) as (λ b. P (cond b (send host_calls empty_buffer one) one)) [
        | true ↦ keeps.submission one empty_buffer at_one
        | false ↦ at_one
      ]

  begun_end-keeps : (w : Writing HostState) → P w → P (begun_end host_calls w)
  begun_end-keeps w at_w =
      let ended = sent_end host_calls w.writer.buffer w in
      elim w.writer.begun as (λ b. P (cond b w (with_end_begun ended))) [
        | true ↦ at_w
        | false ↦ keeps.set ended ended.writer.buffer true (sent_end-keeps w.writer.buffer w at_w)
      ]

  pub submit-keeps : (w : Writing HostState) → P w → P (submit_came host_calls w)
  submit-keeps w at_w = sent-keeps w.writer.buffer (not_begun w) (not_begun-keeps w at_w)

  pub submit_end-keeps : (w : Writing HostState) → P w → P (submit_end_came host_calls w)
  submit_end-keeps w at_w = sent_end-keeps w.writer.buffer (not_begun w) (not_begun-keeps w at_w)

  -- what goes on, where these are pending, keeps it
  abbrev KeepsOn : List ℕ → (Writing HostState → Drained HostState) → Type 0
  KeepsOn others further = (v : Writing HostState) → v.writer.endpoint.pending ≡ others → P v → P (further v).left

  -- waits
  taking-keeps : (status : Result (Unit {0}) TransferError) (c : Completion) (h : HostState) (r : WriterState) (front : ℕ) (others : List ℕ) (further : Writing HostState → Drained HostState) → P (writing (host_taken h front) (with_taken c others r)) → KeepsOn others further
      → P (after_wait (Some (record c { status = status })) h r front others further).left
  taking-keeps (Ok u) c h r front others further at_v next = next (writing (host_taken h front) (with_taken c others r)) refl at_v
  taking-keeps (Err e) c h r front others further at_v next = at_v

  after-keeps : (o : Option Completion) (h : HostState) (r : WriterState) (front : ℕ) (others : List ℕ) (further : Writing HostState → Drained HostState) → r.endpoint.pending ≡ front ∷ others → transfer_completion h.kernel.past front ≡ o → P (writing h r) → KeepsOn others further
      → P (after_wait o h r front others further).left
  after-keeps None h r front others further was come at_h next = at_h
  after-keeps (Some c) h r front others further was come at_h next = taking-keeps c.status c h r front others further (keeps.taking (writing h r) front others c was come at_h) next

  drained_if-keeps : (b : Bool) (timeout front : ℕ) (others : List ℕ) (w : Writing HostState) (further : Writing HostState → Drained HostState) → w.writer.endpoint.pending ≡ front ∷ others → P w → KeepsOn others further → P (drained_if b (once_and timeout further) w).left
  drained_if-keeps false timeout front others w further was at_w next = at_w
  drained_if-keeps true timeout front others w further was at_w next =
      let h = waited host_calls front timeout w.bus in
      subst (λ (d : Drained HostState). P d.left) (sym (once-waits timeout w front others further was))
      (after-keeps (transfer_completion h.kernel.past front) h w.writer front others further was refl (keeps.wait w timeout front others was at_w) next)

  drained_of-keeps : (ts : List ℕ) (flushing : Bool) (timeout : ℕ) (w : Writing HostState) → w.writer.endpoint.pending ≡ ts → P w → P (drained_of host_calls flushing timeout ts w).left
  drained_of-keeps [] flushing timeout w was at_w = at_w
  drained_of-keeps (front ∷ others) flushing timeout w was at_w =
      drained_if-keeps (waits_on flushing w.writer) timeout front others w (drained_of host_calls flushing timeout others) was at_w (λ v left at_v. drained_of-keeps others flushing timeout v left at_v)

  drained-keeps : (flushing : Bool) (timeout : ℕ) (w : Writing HostState) → P w → P (drained host_calls flushing timeout w).left
  unfolding drained
  drained-keeps flushing timeout w at_w = drained_of-keeps w.writer.endpoint.pending flushing timeout w refl at_w

  -- writes
  pub write_drained-keeps : (timeout : ℕ) (w : Writing HostState) → P w → P (write_drained host_calls timeout w).left
  write_drained-keeps timeout w at_w = drained-keeps false timeout (not_begun w) (not_begun-keeps w at_w)

  accepted-keeps : (c : List ℕ) (w : Writing HostState) → P w → P (accepted host_calls c w)
  accepted-keeps c w at_w =
      elim (length c == w.writer.size) as (λ b. P (cond b (send host_calls (out_buffer w.writer.size c) w) (with_set (Some c) w.writer.begun w))) [
        | true ↦ keeps.submission w (out_buffer w.writer.size c) at_w
        | false ↦ keeps.set w (Some c) w.writer.begun at_w
      ]

  accepting-keeps : (src : List ℕ) (r : Result (Unit {0}) WriteFault) (w : Writing HostState) → P w → P (accepting host_calls src r w).left
  accepting-keeps src (Ok u) w at_w = accepted-keeps (unwrap_or w.writer.buffer [] ++ take (accepted_count src w.writer) src) w at_w
  accepting-keeps src (Err f) w at_w = at_w

  pub write-keeps : (timeout : ℕ) (src : List ℕ) (w : Writing HostState) → P w → P (write_came host_calls timeout src w).left
  write-keeps timeout src w at_w = let d = write_drained host_calls timeout w in accepting-keeps src d.answer d.left (write_drained-keeps timeout w at_w)

  -- flushes
  pub flush-keeps : (timeout : ℕ) (w : Writing HostState) → P w → P (flush_came host_calls timeout w).left
  flush-keeps timeout w at_w = drained-keeps true timeout (submit_came host_calls w) (submit-keeps w at_w)

  pub flush_end-keeps : (timeout : ℕ) (w : Writing HostState) → P w → P (flush_end_came host_calls timeout w).left
  flush_end-keeps timeout w at_w = drained-keeps true timeout (submit_end_came host_calls w) (submit_end-keeps w at_w)

  ending-keeps : (r : Result (Unit {0}) WriteFault) (w : Writing HostState) → P w → P (ending r w).left
  ending-keeps (Ok u) w at_w = not_begun-keeps w at_w
  ending-keeps (Err (Transfer e)) w at_w = not_begun-keeps w at_w
  ending-keeps (Err TimedOut) w at_w = at_w

  pub poll_flush_end-keeps : (w : Writing HostState) → P w → P (poll_flush_end_came host_calls w).left
  poll_flush_end-keeps w at_w =
      let d = drained host_calls true 0 (begun_end host_calls w) in
      ending-keeps d.answer d.left (drained-keeps true 0 (begun_end host_calls w) (begun_end-keeps w at_w))
