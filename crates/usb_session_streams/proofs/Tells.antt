-- The tickets of a writer tell of each of its calls at a host.
use Rattle.std.proofs.Common.{◌∙◌, ◌≡◌, ℕ, ◌<◌, Bool, true, false, List, [], ◌∷◌, ◌++◌, length, append-nil, take, Option, Some, None, Result, Ok, Err, refl, ap, sym, subst, unwrap_or}
use Rattle.std.specs.Prelude.{All, nat_lt, ◌==◌, ◌&&◌, ◌%◌, cond}
use Rattle.std.proofs.lemmas.List.Elements.{All-append}
use Rattle.usb_xfer.specs.declared.error.TransferError.{TransferError}
use Rattle.usb_xfer.specs.declared.transfer.Completion.{Completion}
use Rattle.usb_kernel.specs.Extends.{Extends}
use Rattle.usb_kernel.specs.WholePackets.{is_whole}
use Rattle.usb_kernel.specs.TransferCompletions.{transfer_completion}
use Rattle.usb_device_endpoint.specs.EndpointState.{EndpointState}
use Rattle.usb_device_endpoint.specs.Waits.{waited}
use Rattle.usb_device_host.specs.HostState.{HostState}
use Rattle.usb_device_host.specs.HostCalls.{host_calls}
use Rattle.usb_device_host.specs.TicketEnds.{host_taken}
use Rattle.usb_io.specs.Carried.{HandleCarries, sent_bytes, full_bytes, begun_calls, written_calls}
use Rattle.usb_io.specs.Fronts.{Drained, waits_on, drained_if, drained_of, drained}
use Rattle.usb_io.specs.Writers.{WriterState, Writing, writing, not_begun, out_buffer, empty_buffer, send, sent, sent_end, kept_buffer, with_taken}
use Rattle.usb_io.specs.WriteAnswers.{accepted, accepted_count, accepting, write_drained, write_came, flush_came, flush_end_came, poll_flush_end_came, submit_came, submit_end_came, with_end_begun, begun_end, ending as ended}
use Rattle.usb_io.specs.Writes.{Call, Accept, Flush, Finish, Written, written, flushes, ending, accepts as accepts_of}
use Rattle.usb_io.specs.declared.fault.WriteFault.{WriteFault}
use Rattle.usb_io.specs.declared.fault.WriteFault.TheVariants.{Transfer, TimedOut}
use Rattle.usb_session_streams.specs.Told.{failures_of, failures_at, IsComplete, CallTells, CallsTell, Write, FlushAll, FlushEnd, PollFlushEnd, Submit, SubmitEnd}
use Rattle.usb_session_streams.proofs.WritesKeep.{with_set, once_and, after_wait, once-waits}
use Rattle.usb_session_streams.proofs.TicketMoves.{Moves, moves-trans, moves-same, moves-set, moves-waited, failures_in, moves-taken, moves-sent, complete-later, failures-later, failures-append}

-- these calls submit these transfers, and leave the bytes that stand then
abbrev Writes : WriterState → WriterState → List (List ℕ) → List Call → Type 0
Writes w v more calls =
    (before : List Call) → unwrap_or w.buffer [] ≡ (written w.endpoint.maximum w.size before).standing
    → ((written w.endpoint.maximum w.size (calls ++ before)).transfers ≡ (written w.endpoint.maximum w.size before).transfers ++ more)
    × ((written w.endpoint.maximum w.size (calls ++ before)).standing ≡ unwrap_or v.buffer [])

call-tells : (old new : Writing HostState) (more : List (List ℕ)) (calls : List Call) (failures : List TransferError) → Moves old new more failures → Writes old.writer new.writer more calls → CallTells old new calls failures
call-tells old new more calls failures moves writes =
    let w = old.writer in
    let v = new.writer in
    record {
      taken = moves.taken;
      tickets = moves.tickets;
      complete = moves.complete;
      failed = moves.failed;
      tells = λ before accepted tells.
          let known = writes accepted tells.stands in
          let all = moves.carries before (written w.endpoint.maximum w.size accepted).transfers tells.carries in
          let same : written v.endpoint.maximum v.size (calls ++ accepted) ≡ written w.endpoint.maximum w.size (calls ++ accepted) =
          ap (λ (e : EndpointState). written e.maximum v.size (calls ++ accepted)) moves.goes.settings.endpoint
          ∙ ap (λ (size : ℕ). written w.endpoint.maximum size (calls ++ accepted)) moves.goes.settings.size in
          record {
            carries = subst (λ (bs : List (List ℕ)). HandleCarries new.bus.kernel.past v.endpoint (before ++ moves.taken) bs) (sym known.0 ∙ ap (λ (x : Written). x.transfers) (sym same)) all;
            stands = sym known.1 ∙ ap (λ (x : Written). x.standing) (sym same);
          };
    }

-- what a call does before it takes fronts, as which it counts
record Starts (old new : Writing HostState) (calls : List Call) : Type 0 where
  more : List (List ℕ)
  moves : Moves old new more []
  writes : Writes old.writer new.writer more calls

-- the bytes that a flush submits
flushes-parts : (o : Option (List ℕ)) (w : Written) → unwrap_or o [] ≡ w.standing → ((flushes w).transfers ≡ w.transfers ++ sent_bytes o) × ((flushes w).standing ≡ [])
flushes-parts None w stands = rw (← stands) (sym (append-nil w.transfers), refl)
flushes-parts (Some []) w stands = rw (← stands) (sym (append-nil w.transfers), refl)
flushes-parts (Some (x ∷ xs)) w stands = rw (← stands) (refl, refl)

sent-moves : (o : Option (List ℕ)) (w : Writing HostState) → w.writer.endpoint.address < 128 → Moves w (sent host_calls o w) (sent_bytes o) []
sent-moves None w output = moves-same w
sent-moves (Some []) w output = moves-same w
sent-moves (Some (x ∷ xs)) w output = moves-sent w (out_buffer w.writer.size (x ∷ xs)) output

sent-none : (o : Option (List ℕ)) (w : Writing HostState) → w.writer.buffer ≡ o → unwrap_or (sent host_calls o w).writer.buffer [] ≡ []
sent-none None w was = ap (λ (b : Option (List ℕ)). unwrap_or b []) was
sent-none (Some []) w was = ap (λ (b : Option (List ℕ)). unwrap_or b []) was
sent-none (Some (x ∷ xs)) w was = refl

flush-starts : (w : Writing HostState) → w.writer.endpoint.address < 128 → Starts w (submit_came host_calls w) (Flush ∷ [])
flush-starts w output =
    record {
      more = sent_bytes w.writer.buffer;
      moves = moves-trans w (not_begun w) (submit_came host_calls w) [] (sent_bytes w.writer.buffer) [] [] (moves-set w w.writer.buffer false) (sent-moves w.writer.buffer (not_begun w) output);
      writes = λ before stands.
          let parts = flushes-parts w.writer.buffer (written w.writer.endpoint.maximum w.writer.size before) stands in
          (parts.0, parts.1 ∙ sym (sent-none w.writer.buffer (not_begun w) refl));
    }

-- those that an end submits
none-whole : (m : ℕ) → is_whole m 0 ≡ false
none-whole m = elim (nat_lt 0 m) as (λ v. (v && (nat_lt 0 0 && 0 % m == 0)) ≡ false) [ true ↦ refl | false ↦ refl ]

sent_end-moves : (o : Option (List ℕ)) (w : Writing HostState) → w.writer.endpoint.address < 128 → Moves w (sent_end host_calls o w) (ending w.writer.endpoint.maximum (unwrap_or o [])) []
sent_end-moves None w output =
    subst (λ (b : Bool). Moves w (send host_calls empty_buffer w) ([] ∷ cond b ([] ∷ []) []) []) (sym (none-whole w.writer.endpoint.maximum)) (moves-sent w empty_buffer output)
sent_end-moves (Some bytes) w output =
    let one = send host_calls (out_buffer w.writer.size bytes) w in
    let first = moves-sent w (out_buffer w.writer.size bytes) output in
    elim (is_whole w.writer.endpoint.maximum (length bytes)) as (λ b. Moves w (cond b (send host_calls empty_buffer one) one) (bytes ∷ cond b ([] ∷ []) []) []) [
      | true ↦ moves-trans w one (send host_calls empty_buffer one) (bytes ∷ []) ([] ∷ []) [] [] first (moves-sent one empty_buffer output)
      | false ↦ first
    ]

sent_end-none : (o : Option (List ℕ)) (w : Writing HostState) → unwrap_or (sent_end host_calls o w).writer.buffer [] ≡ []
sent_end-none None w = refl
sent_end-none (Some bytes) w =
    let one = send host_calls (out_buffer w.writer.size bytes) w in
    elim (is_whole w.writer.endpoint.maximum (length bytes)) as (λ b. unwrap_or (cond b (send host_calls empty_buffer one) one).writer.buffer [] ≡ []) [
      | true ↦ refl
      | false ↦ refl
    ]

-- an end of what stands, with no end begun or with one
ended-starts : (w v x : Writing HostState) → w.writer.endpoint.address < 128 → Moves w v [] [] → v.writer.buffer ≡ w.writer.buffer → v.writer.endpoint ≡ w.writer.endpoint
    → Moves (sent_end host_calls v.writer.buffer v) x [] [] → x.writer.buffer ≡ (sent_end host_calls v.writer.buffer v).writer.buffer → Starts w x (Finish ∷ [])
ended-starts w v x output before same alike behind left =
    let mid = sent_end host_calls v.writer.buffer v in
    let there = subst (λ (e : EndpointState). e.address < 128) (sym alike) output in
    let transfers = ending v.writer.endpoint.maximum (unwrap_or v.writer.buffer []) in
    record {
      more = (transfers ++ []);
      moves = moves-trans w mid x transfers [] [] [] (moves-trans w v mid [] transfers [] [] before (sent_end-moves v.writer.buffer v there)) behind;
      writes = λ calls stands. (
        ap (λ (bs : List (List ℕ)). (written w.writer.endpoint.maximum w.writer.size calls).transfers ++ bs)
            (
            ap (λ (bs : List ℕ). ending w.writer.endpoint.maximum bs) (sym stands)
            ∙ ap (λ (b : Option (List ℕ)). ending w.writer.endpoint.maximum (unwrap_or b [])) (sym same)
            ∙ ap (λ (e : EndpointState). ending e.maximum (unwrap_or v.writer.buffer [])) (sym alike)
            ∙ sym (append-nil transfers)
            ),
        sym (ap (λ (b : Option (List ℕ)). unwrap_or b []) left ∙ sent_end-none v.writer.buffer v),
      );
    }

end-starts : (w : Writing HostState) → w.writer.endpoint.address < 128 → Starts w (submit_end_came host_calls w) (Finish ∷ [])
end-starts w output =
    let x = submit_end_came host_calls w in ended-starts w (not_begun w) x output (moves-set w w.writer.buffer false) refl refl (moves-same x) refl

begun_end-starts : (w : Writing HostState) → w.writer.endpoint.address < 128 → Starts w (begun_end host_calls w) (begun_calls w.writer.begun)
begun_end-starts w output =
    let mid = sent_end host_calls w.writer.buffer w in
    elim w.writer.begun as (λ b. Starts w (cond b w (with_end_begun mid)) (begun_calls b)) [
      | true ↦ record { more = []; moves = moves-same w; writes = λ before stands. (sym (append-nil (written w.writer.endpoint.maximum w.writer.size before).transfers), sym stands) }
      | false ↦ ended-starts w w (with_end_begun mid) output (moves-same w) refl refl (moves-set mid mid.writer.buffer true) refl
    ]

-- the fronts that a call takes, which leave the bytes that stand
record Drains (old : Writing HostState) (d : Drained HostState) : Type 0 where
  moves : Moves old d.left [] (failures_of d.answer)
  bytes : unwrap_or d.left.writer.buffer [] ≡ unwrap_or old.writer.buffer []

kept-bytes : (size n : ℕ) (buffer : Option (List ℕ)) (room left : ℕ) → unwrap_or (kept_buffer size n buffer room left) [] ≡ unwrap_or buffer []
kept-bytes size n None room left =
    elim (room == size && nat_lt left n) as (λ v. unwrap_or {T = List ℕ} (cond (true && v) (Some []) None) [] ≡ []) [ true ↦ refl | false ↦ refl ]
kept-bytes size n (Some b) room left = refl

drains-none : (w : Writing HostState) → Drains w (record { answer = Ok tt; left = w })
drains-none w = record { moves = moves-same w; bytes = refl }

-- what goes on, where these are pending, drains
abbrev DrainsOn : List ℕ → (Writing HostState → Drained HostState) → Type 0
DrainsOn others further = (v : Writing HostState) → v.writer.endpoint.pending ≡ others → Drains v (further v)

taking-drains : (status : Result (Unit {0}) TransferError) (c : Completion) (w : Writing HostState) (h : HostState) (front : ℕ) (others : List ℕ) (further : Writing HostState → Drained HostState) → Moves w (writing (host_taken h front) (with_taken c others w.writer)) [] (failures_in status)
    → DrainsOn others further → Drains w (after_wait (Some (record c { status = status })) h w.writer front others further)
taking-drains (Ok u) c w h front others further moves next =
    let v = writing (host_taken h front) (with_taken c others w.writer) in
    let on = next v refl in
    record { moves = moves-trans w v (further v).left [] [] [] (failures_of (further v).answer) moves on.moves; bytes = on.bytes ∙ kept-bytes w.writer.size w.writer.n w.writer.buffer c.buffer.room (length others) }
taking-drains (Err e) c w h front others further moves next = record { moves = moves; bytes = kept-bytes w.writer.size w.writer.n w.writer.buffer c.buffer.room (length others) }

after-drains : (o : Option Completion) (w : Writing HostState) (h : HostState) (front : ℕ) (others : List ℕ) (further : Writing HostState → Drained HostState) → w.writer.endpoint.pending ≡ front ∷ others → transfer_completion h.kernel.past front ≡ o
    → Moves w (writing h w.writer) [] [] → DrainsOn others further → Drains w (after_wait o h w.writer front others further)
after-drains None w h front others further was come moves next = record { moves = moves; bytes = refl }
after-drains (Some c) w h front others further was come moves next =
    let mid = writing h w.writer in
    let v = writing (host_taken h front) (with_taken c others w.writer) in
    taking-drains c.status c w h front others further (moves-trans w mid v [] [] [] (failures_in c.status) moves (moves-taken mid front others c was come)) next

drained_if-drains : (b : Bool) (timeout front : ℕ) (others : List ℕ) (w : Writing HostState) (further : Writing HostState → Drained HostState) → w.writer.endpoint.pending ≡ front ∷ others → DrainsOn others further → Drains w (drained_if b (once_and timeout further) w)
drained_if-drains false timeout front others w further was next = drains-none w
drained_if-drains true timeout front others w further was next =
    let h = waited host_calls front timeout w.bus in
    subst (Drains w) (sym (once-waits timeout w front others further was))
    (after-drains (transfer_completion h.kernel.past front) w h front others further was refl (moves-waited w front timeout) next)

drained_of-drains : (ts : List ℕ) (flushing : Bool) (timeout : ℕ) (w : Writing HostState) → w.writer.endpoint.pending ≡ ts → Drains w (drained_of host_calls flushing timeout ts w)
drained_of-drains [] flushing timeout w was = drains-none w
drained_of-drains (front ∷ others) flushing timeout w was =
    drained_if-drains (waits_on flushing w.writer) timeout front others w (drained_of host_calls flushing timeout others) was (λ v left. drained_of-drains others flushing timeout v left)

drained-drains : (flushing : Bool) (timeout : ℕ) (w : Writing HostState) → Drains w (drained host_calls flushing timeout w)
unfolding drained
drained-drains flushing timeout w = drained_of-drains w.writer.endpoint.pending flushing timeout w refl

-- a call that starts so and takes fronts then
started-tells : (w v : Writing HostState) (calls : List Call) (d : Drained HostState) → Starts w v calls → Drains v d → CallTells w d.left calls (failures_of d.answer)
started-tells w v calls d starts drains =
    call-tells w d.left (starts.more ++ []) calls (failures_of d.answer) (moves-trans w v d.left starts.more [] [] (failures_of d.answer) starts.moves drains.moves)
    (λ before stands.
    let known = starts.writes before stands in
    (known.0 ∙ ap (λ (bs : List (List ℕ)). (written w.writer.endpoint.maximum w.writer.size before).transfers ++ bs) (sym (append-nil starts.more)), known.1 ∙ sym drains.bytes))

pub flush-tells : (timeout : ℕ) (w : Writing HostState) → w.writer.endpoint.address < 128 → CallTells w (flush_came host_calls timeout w).left (Flush ∷ []) (failures_of (flush_came host_calls timeout w).answer)
flush-tells timeout w output =
    let v = submit_came host_calls w in started-tells w v (Flush ∷ []) (drained host_calls true timeout v) (flush-starts w output) (drained-drains true timeout v)

pub flush_end-tells : (timeout : ℕ) (w : Writing HostState) → w.writer.endpoint.address < 128 → CallTells w (flush_end_came host_calls timeout w).left (Finish ∷ []) (failures_of (flush_end_came host_calls timeout w).answer)
flush_end-tells timeout w output =
    let v = submit_end_came host_calls w in started-tells w v (Finish ∷ []) (drained host_calls true timeout v) (end-starts w output) (drained-drains true timeout v)

-- a poll to an end
not_begun-tells : (w v : Writing HostState) (calls : List Call) (failures : List TransferError) → CallTells w v calls failures → CallTells w (not_begun v) calls failures
not_begun-tells w v calls failures tells =
    record { taken = tells.taken; tickets = tells.tickets; complete = tells.complete; failed = tells.failed; tells = λ before accepted so_far. let all = tells.tells before accepted so_far in record { carries = all.carries; stands = all.stands } }

ending-tells : (r : Result (Unit {0}) WriteFault) (w v : Writing HostState) (calls : List Call) → CallTells w v calls (failures_of r) → CallTells w (ended r v).left calls (failures_of (ended r v).answer)
ending-tells (Ok u) w v calls tells = not_begun-tells w v calls [] tells
ending-tells (Err (Transfer e)) w v calls tells = not_begun-tells w v calls (e ∷ []) tells
ending-tells (Err TimedOut) w v calls tells = tells

pub poll_flush_end-tells : (w : Writing HostState) → w.writer.endpoint.address < 128 → CallTells w (poll_flush_end_came host_calls w).left (begun_calls w.writer.begun) (failures_of (poll_flush_end_came host_calls w).answer)
poll_flush_end-tells w output =
    let v = begun_end host_calls w in
    let d = drained host_calls true 0 v in
    ending-tells d.answer w d.left (begun_calls w.writer.begun) (started-tells w v (begun_calls w.writer.begun) d (begun_end-starts w output) (drained-drains true 0 v))

-- submissions
starts-tells : (w v : Writing HostState) (calls : List Call) → Starts w v calls → CallTells w v calls []
starts-tells w v calls starts = call-tells w v starts.more calls [] starts.moves starts.writes

pub submit-tells : (w : Writing HostState) → w.writer.endpoint.address < 128 → CallTells w (submit_came host_calls w) (Flush ∷ []) []
submit-tells w output = starts-tells w (submit_came host_calls w) (Flush ∷ []) (flush-starts w output)

pub submit_end-tells : (w : Writing HostState) → w.writer.endpoint.address < 128 → CallTells w (submit_end_came host_calls w) (Finish ∷ []) []
submit_end-tells w output = starts-tells w (submit_end_came host_calls w) (Finish ∷ []) (end-starts w output)

-- a write
accepted-moves : (c : List ℕ) (w : Writing HostState) → w.writer.endpoint.address < 128 → Moves w (accepted host_calls c w) (full_bytes w.writer.size c) []
accepted-moves c w output =
    elim (length c == w.writer.size) as (λ b. Moves w (cond b (send host_calls (out_buffer w.writer.size c) w) (with_set (Some c) w.writer.begun w)) (cond b (c ∷ []) []) []) [
      | true ↦ moves-sent w (out_buffer w.writer.size c) output
      | false ↦ moves-set w (Some c) w.writer.begun
    ]

accepted-parts : (c : List ℕ) (w : Writing HostState) (transfers : List (List ℕ)) → ((accepts_of w.writer.size transfers c).transfers ≡ transfers ++ full_bytes w.writer.size c) × ((accepts_of w.writer.size transfers c).standing ≡ unwrap_or (accepted host_calls c w).writer.buffer [])
accepted-parts c w transfers =
    elim (length c == w.writer.size) as (λ b. ((cond {A = Written} b (record { transfers = transfers ++ c ∷ []; standing = [] }) (record { transfers = transfers; standing = c })).transfers ≡ transfers ++ cond b (c ∷ []) []) × ((cond {A = Written} b (record { transfers = transfers ++ c ∷ []; standing = [] }) (record { transfers = transfers; standing = c })).standing ≡ unwrap_or (cond {A = Writing _} b (send host_calls (out_buffer w.writer.size c) w) (with_set (Some c) w.writer.begun w)).writer.buffer [])) [
      | true ↦ (refl, refl)
      | false ↦ (sym (append-nil transfers), refl)
    ]

-- one that takes fronts, and accepts nothing
taken-tells : (w v : Writing HostState) (failures : List TransferError) → Moves w v [] failures → unwrap_or v.writer.buffer [] ≡ unwrap_or w.writer.buffer [] → CallTells w v [] failures
taken-tells w v failures moves bytes =
    call-tells w v [] [] failures moves (λ before stands. (sym (append-nil (written w.writer.endpoint.maximum w.writer.size before).transfers), sym stands ∙ sym bytes))

accepting-tells : (src : List ℕ) (r : Result (Unit {0}) WriteFault) (w v : Writing HostState) → w.writer.endpoint.address < 128 → Moves w v [] (failures_of r) → unwrap_or v.writer.buffer [] ≡ unwrap_or w.writer.buffer []
    → CallTells w (accepting host_calls src r v).left (written_calls src (accepting host_calls src r v).answer) (failures_of (accepting host_calls src r v).answer)
accepting-tells src (Ok u) w v output moves bytes =
    let n = accepted_count src v.writer in
    let c = unwrap_or v.writer.buffer [] ++ take n src in
    let there = subst (λ (e : EndpointState). e.address < 128) (sym moves.goes.settings.endpoint) output in
    call-tells w (accepted host_calls c v) (full_bytes v.writer.size c) (Accept (take n src) ∷ []) [] (moves-trans w v (accepted host_calls c v) [] (full_bytes v.writer.size c) [] [] moves (accepted-moves c v there))
    (λ before stands.
    let transfers = (written w.writer.endpoint.maximum w.writer.size before).transfers in
    let parts = accepted-parts c v transfers in
    let all = ap (λ (bs : List ℕ). accepts_of w.writer.size transfers (bs ++ take n src)) (sym stands ∙ sym bytes) ∙ ap (λ (size : ℕ). accepts_of size transfers c) (sym moves.goes.settings.size) in
    (ap (λ (x : Written). x.transfers) all ∙ parts.0, ap (λ (x : Written). x.standing) all ∙ parts.1))
accepting-tells src (Err (Transfer e)) w v output moves bytes = taken-tells w v (e ∷ []) moves bytes
accepting-tells src (Err TimedOut) w v output moves bytes = taken-tells w v [] moves bytes

pub write-tells : (timeout : ℕ) (src : List ℕ) (w : Writing HostState) → w.writer.endpoint.address < 128 → CallTells w (write_came host_calls timeout src w).left (written_calls src (write_came host_calls timeout src w).answer) (failures_of (write_came host_calls timeout src w).answer)
write-tells timeout src w output =
    let start = not_begun w in
    let d = write_drained host_calls timeout w in
    let drains = drained-drains false timeout start in
    accepting-tells src d.answer w d.left output (moves-trans w start d.left [] [] [] (failures_of d.answer) (moves-set w w.writer.buffer false) drains.moves) drains.bytes

-- so it is of each call
pub calls-tell : CallsTell
calls-tell (Write timeout src) w out = write-tells timeout src w out
calls-tell (FlushAll timeout) w out = flush-tells timeout w out
calls-tell (FlushEnd timeout) w out = flush_end-tells timeout w out
calls-tell PollFlushEnd w out = poll_flush_end-tells w out
calls-tell Submit w out = submit-tells w out
calls-tell SubmitEnd w out = submit_end-tells w out

-- behind a call each ticket that was taken before or by it has its completion, and the failures of those that it took are behind the
-- others
module _ (old new : Writing HostState) (calls : List Call) (failures : List TransferError) (tells : CallTells old new calls failures) (goes : Extends old.bus.kernel.past new.bus.kernel.past) (before : List ℕ) (complete : All (IsComplete old.bus.kernel.past) before) where
  pub call-complete : All (IsComplete new.bus.kernel.past) (before ++ tells.taken)
  call-complete = All-append (IsComplete new.bus.kernel.past) before tells.taken (complete-later old.bus.kernel.past new.bus.kernel.past before goes complete) tells.complete

  pub call-failures : failures_at new.bus.kernel.past (before ++ tells.taken) ≡ failures_at old.bus.kernel.past before ++ failures
  call-failures =
      failures-append new.bus.kernel.past before tells.taken
      ∙ ap (λ (es : List TransferError). es ++ failures_at new.bus.kernel.past tells.taken) (failures-later old.bus.kernel.past new.bus.kernel.past before goes complete)
      ∙ ap (λ (es : List TransferError). failures_at old.bus.kernel.past before ++ es) tells.failed
