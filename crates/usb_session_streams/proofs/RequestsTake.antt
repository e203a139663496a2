-- The tickets of a client of messages say what a request did.
use Rattle.std.proofs.Common.{◌∙◌, ◌≡◌, ℕ, ◌-◌, ◌<◌, ◌≤◌, arith, false, List, [], ◌∷◌, ◌++◌, length, length-append, append-nil, append_assoc, take, unwrap_or, Option, Some, None, Result, Ok, Err, refl, ap, sym, subst}
use Rattle.std.specs.Prelude.{nat_lt, nat_le, ◌||◌, ◌^◌}
use Rattle.std.specs.Int.{w32, to_le_bytes}
use Rattle.std.proofs.lemmas.Bool.{or_parts, ltb-false, leb-false}
use Rattle.usb_xfer.specs.declared.error.TransferError.{TransferError}
use Rattle.usb_kernel.specs.Tickets.{tickets}
use Rattle.usb_device_endpoint.specs.EndpointState.{EndpointState}
use Rattle.usb_device_host.specs.HostState.{HostState}
use Rattle.usb_device_host.specs.HostCalls.{host_calls}
use Rattle.usb_io.specs.Answered.{answered}
use Rattle.usb_io.specs.Carried.{Tells, written_calls}
use Rattle.usb_io.specs.Writers.{WriterState, Writing, not_begun, KeepsWriter}
use Rattle.usb_io.specs.WriteAnswers.{write_came, submit_end_came}
use Rattle.usb_io.specs.Writes.{Accept, Finish}
use Rattle.usb_io.specs.declared.fault.WriteFault.{WriteFault}
use Rattle.usb_msg.specs.Clients.{ClientState}
use Rattle.usb_msg.specs.Errors.{ended_by_write}
use Rattle.usb_msg.specs.Frames.{framed}
use Rattle.usb_msg.specs.Requests.{Messaging, writing_of, after_write, frame_written, requested_by}
use Rattle.usb_msg.specs.declared.error.Ending.{Ending}
use Rattle.usb_msg.proofs.Steps.{IsSameWriter, wrote_on, later_keeps, request_keeps, unsent_keeps, ends_keeps}
use Rattle.usb_msg.proofs.WholeFrames.{wrote-whole, failed-none, end-none}
use Rattle.usb_session_streams.specs.ClientNeeds.{bars_body, bars_request}
use Rattle.usb_session_streams.specs.ClientCalls.{ClientCall, Request, Response, asked_of}
use Rattle.usb_session_streams.specs.ClientTickets.{KeepsTaking, TakesOn, count_at}
use Rattle.usb_session_streams.specs.Told.{CallTells, failures_of}
use Rattle.usb_session_streams.specs.WriterCalls.{WriterGoesOn}
use Rattle.usb_session_streams.proofs.Messaging.{is-written, is-asked, is-ended}
use Rattle.usb_session_streams.proofs.Tells.{write-tells, submit_end-tells}
use Rattle.usb_session_streams.proofs.TicketCounts.{more-tickets, none-came, came-on}
use Rattle.usb_session_streams.proofs.WritesGoOn.{call-trans, write_goes_on, submit_end_goes_on}

-- a request that is not barred has a body that fits, and a tag that is free
pub record IsFree (body : List ℕ) (c : ClientState) : Type 0 where
  pub short : length body ≤ 4096
  pub few : c.requests - c.responses < 16

is-free : (body : List ℕ) (w : Messaging HostState) → bars_request body w ≡ false → IsFree body w.client
is-free body w free =
    let c = w.client in
    let others = nat_le 16 (c.requests - c.responses) || nat_le (2 ^ 32 - 1) c.requests in
    let first = (or_parts (bars_body body c) _ free).0 in
    let parts = or_parts (nat_lt 4096 (length body)) others first in
    record {
      short = ltb-false 4096 (length body) parts.0;
      few = leb-false 16 (c.requests - c.responses) (or_parts (nat_le 16 (c.requests - c.responses)) _ parts.1).0;
    }

-- a frame of a body that fits
frame-short : (tag : ℕ) (body : List ℕ) → length body ≤ 4096 → length (framed tag body) ≤ 4100
frame-short tag body short =
    let four : length (to_le_bytes w32 tag) ≡ 4 = refl in
    let all = length-append (to_le_bytes w32 tag) body in
    omega (arith, four, all, short)

-- a call that did nothing
pub takes-none : (call : ClientCall) (w : Messaging HostState) (sent received : List ℕ) (asked told : List (List ℕ)) → KeepsTaking w.bus.kernel.past w.client sent received asked told → TakesOn call w w sent received (asked ++ []) (told ++ [])
takes-none (Request body) w sent received asked told k =
    record {
      taken = [];
      tickets = none-came (count_at w) w.client.writer.endpoint.pending;
      keeps = record {
        is = k.is;
        history = k.history;
        sent_is = k.sent_is ∙ sym (append-nil sent);
        received_is = k.received_is;
        asked_is = k.asked_is ∙ sym (append-nil asked);
        told_is = k.told_is ∙ sym (append-nil told);
        keeps = k.keeps;
      };
    }
takes-none Response w sent received asked told k =
    record {
      taken = [];
      tickets = none-came (count_at w) w.client.reader.endpoint.pending;
      keeps = record {
        is = k.is;
        history = k.history;
        sent_is = k.sent_is;
        received_is = k.received_is ∙ sym (append-nil received);
        asked_is = k.asked_is ∙ sym (append-nil asked);
        told_is = k.told_is ∙ sym (append-nil told);
        keeps = k.keeps;
      };
    }

same-writer : (w w' : WriterState) → KeepsWriter w w' → IsSameWriter w w'
same-writer w w' settings = record { maximum = ap (λ (e : EndpointState). e.maximum) settings.endpoint; size = settings.size }

module _ (body : List ℕ) (w : Messaging HostState) (sent received : List ℕ) (asked told : List (List ℕ)) (k : KeepsTaking w.bus.kernel.past w.client sent received asked told) (free : IsFree body w.client) (goes : w.client.ended ≡ None) where
  abbrev c : ClientState
  c = w.client

  abbrev frame : List ℕ
  frame = framed w.client.requests body

  abbrev timeout : ℕ
  timeout = w.client.writer.timeout

  -- the frame was accepted, and its message is ended
  accepted-takes : (n : ℕ) (v : Writing HostState) → write_came host_calls timeout frame (writing_of w) ≡ answered (Ok n) v → CallTells (writing_of w) v (Accept (take n frame) ∷ []) [] → WriterGoesOn (writing_of w) v
      → TakesOn (Request body) w (after_write host_calls c (Ok n) v).left sent received (asked ++ body ∷ []) (told ++ [])
  accepted-takes n v wrote tells on =
      let v' = submit_end_came host_calls v in
      let m = k.is.client in
      let short = free.short in
      let few = free.few in
      let responses = m.answered in
      let h = k.history in
      let output = k.is.out in
      let address : v.writer.endpoint.address ≡ c.writer.endpoint.address = ap (λ (e : EndpointState). e.address) on.settings.endpoint in
      let ends = submit_end-tells v (omega (arith, output, address)) in
      let all = call-trans (writing_of w) v v' on (submit_end_goes_on v) in
      let whole = wrote-whole host_calls timeout frame (writing_of w) v n wrote (m.nothing goes) (frame-short c.requests body short) m.holds in
      let taken = tells.taken ++ ends.taken in
      let first = tells.tells h.written.taken h.written.calls k.keeps.tells in
      let second = ends.tells (h.written.taken ++ tells.taken) (Accept (take n frame) ∷ h.written.calls) first in
      let same : (h.written.taken ++ tells.taken) ++ ends.taken ≡ h.written.taken ++ taken = append_assoc h.written.taken tells.taken ends.taken in
      let now : Tells v'.bus.kernel.past v'.writer (record { taken = h.written.taken ++ taken; calls = Finish ∷ Accept frame ∷ h.written.calls }) =
      subst (λ (bytes : List ℕ). Tells v'.bus.kernel.past v'.writer (record { taken = h.written.taken ++ taken; calls = Finish ∷ Accept bytes ∷ h.written.calls })) whole.all
      (subst (λ (ts : List ℕ). Tells v'.bus.kernel.past v'.writer (record { taken = ts; calls = Finish ∷ Accept (take n frame) ∷ h.written.calls })) same second) in
      let later = later_keeps w.bus.kernel.past v'.bus.kernel.past c h all.past k.keeps in
      let written = is-written c k.is v'.writer all.settings (ap (λ (b : Option (List ℕ)). unwrap_or b []) (end-none host_calls v.writer.buffer (not_begun v))) in
      record {
        taken = taken;
        tickets =
            came-on (count_at w) (length (tickets v.bus.kernel.past)) (length (tickets v'.bus.kernel.past)) c.writer.endpoint.pending v.writer.endpoint.pending v'.writer.endpoint.pending tells.taken ends.taken
            (more-tickets w.bus.kernel.past v.bus.kernel.past on.past) (more-tickets v.bus.kernel.past v'.bus.kernel.past (submit_end_goes_on v).past) tells.tickets ends.tickets;
        keeps = record {
          is = is-asked (record c { writer = v'.writer }) written (omega (arith, few, responses));
          history = wrote_on (Finish ∷ Accept frame ∷ h.written.calls) (h.written.taken ++ taken) (record h { requests = h.requests ++ body ∷ [] });
          sent_is = ap (λ (ts : List ℕ). ts ++ taken) k.sent_is;
          received_is = k.received_is;
          asked_is = ap (λ (bs : List (List ℕ)). bs ++ body ∷ []) k.asked_is;
          told_is = k.told_is ∙ sym (append-nil told);
          keeps = request_keeps v'.bus.kernel.past c h body (h.written.taken ++ taken) v'.writer goes later (same-writer c.writer v'.writer all.settings) now;
        };
      }

  -- or it was not
  refused-takes : (f : WriteFault) (v : Writing HostState) (failures : List TransferError) → write_came host_calls timeout frame (writing_of w) ≡ answered (Err f) v → CallTells (writing_of w) v [] failures → WriterGoesOn (writing_of w) v
      → TakesOn (Request body) w (after_write host_calls c (Err f) v).left sent received (asked ++ []) (told ++ [])
  refused-takes f v failures failed tells on =
      let m = k.is.client in
      let h = k.history in
      let now = tells.tells h.written.taken h.written.calls k.keeps.tells in
      let later = later_keeps w.bus.kernel.past v.bus.kernel.past c h on.past k.keeps in
      let written = is-written c k.is v.writer on.settings (failed-none host_calls timeout frame (writing_of w) v f failed (m.nothing goes)) in
      let left = record c { writer = v.writer } in
      let unsent = unsent_keeps v.bus.kernel.past c h (h.written.taken ++ tells.taken) v.writer later (same-writer c.writer v.writer on.settings) now in
      record {
        taken = tells.taken;
        tickets = tells.tickets;
        keeps = record {
          is = is-ended left written (ended_by_write f) goes;
          history = wrote_on h.written.calls (h.written.taken ++ tells.taken) h;
          sent_is = ap (λ (ts : List ℕ). ts ++ tells.taken) k.sent_is;
          received_is = k.received_is;
          asked_is = k.asked_is ∙ sym (append-nil asked);
          told_is = k.told_is ∙ sym (append-nil told);
          keeps = ends_keeps v.bus.kernel.past left _ (ended_by_write f) goes unsent;
        };
      }

  written-takes : (r : Result ℕ WriteFault) (v : Writing HostState) → write_came host_calls timeout frame (writing_of w) ≡ answered r v → CallTells (writing_of w) v (written_calls frame r) (failures_of r) → WriterGoesOn (writing_of w) v
      → TakesOn (Request body) w (after_write host_calls c r v).left sent received (asked ++ asked_of body (after_write host_calls c r v).answer) (told ++ [])
  written-takes (Ok n) v wrote tells on = accepted-takes n v wrote tells on
  written-takes (Err f) v failed tells on = refused-takes f v (failures_of {A = ℕ} (Err f)) failed tells on

pub request-takes : (body : List ℕ) (why : Option Ending) (w : Messaging HostState) (sent received : List ℕ) (asked told : List (List ℕ)) → w.client.ended ≡ why → bars_request body w ≡ false → KeepsTaking w.bus.kernel.past w.client sent received asked told
    → TakesOn (Request body) w (requested_by host_calls body why w).left sent received (asked ++ asked_of body (requested_by host_calls body why w).answer) (told ++ [])
request-takes body (Some why) w sent received asked told is free k = takes-none (Request body) w sent received asked told k
request-takes body None w sent received asked told goes free k =
    let c = w.client in
    let frame = framed c.requests body in
    let a = frame_written host_calls body w in
    written-takes body w sent received asked told k (is-free body w free) goes a.answer a.left refl (write-tells c.writer.timeout frame (writing_of w) k.is.out) (write_goes_on c.writer.timeout frame (writing_of w))
