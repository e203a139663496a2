-- Calls on a reader hand over the bytes of the transfers that they take, in order.
use Rattle.std.proofs.Common.{◌∙◌, ◌≡◌, ℕ, Bool, true, false, List, [], ◌∷◌, ◌++◌, length, take, drop, take-append-drop, append-nil, append_assoc, Option, Some, None, Result, Ok, Err, refl, ap, sym, subst}
use Rattle.std.specs.Prelude.{All, IsSome, is_some, min}
use Rattle.std.specs.Option.{option_map}
use Rattle.std.proofs.lemmas.Bool.{false≢true}
use Rattle.std.proofs.lemmas.List.Concat.{flat_map-append}
use Rattle.std.proofs.lemmas.List.Elements.{All-nil, All-cons, All-head, All-tail, All-append, All-weaker}
use Rattle.usb_xfer.specs.declared.transfer.Completion.{Completion}
use Rattle.usb_kernel.specs.declared.event.Event.{Event}
use Rattle.usb_kernel.specs.declared.submission.Done.{Done}
use Rattle.usb_kernel.specs.Completions.{completion}
use Rattle.usb_kernel.specs.Extends.{Extends}
use Rattle.usb_kernel.proofs.Extends.{completion-stays}
use Rattle.usb_kernel.specs.TransferCompletions.{completion_of, transfer_completion}
use Rattle.usb_device_endpoint.specs.Waits.{waited}
use Rattle.usb_device_host.specs.HostState.{HostState}
use Rattle.usb_device_host.specs.HostCalls.{host_halt_result, host_calls}
use Rattle.usb_device_host.specs.TicketEnds.{host_taken}
use Rattle.usb_device_host.proofs.CountLemmas.{waited-count, taken-count}
use Rattle.usb_device_host.proofs.FollowLemmas.{adds-entered, on-waited, taken-past}
use Rattle.usb_io.specs.Readers.{no_bytes, bytes_in, fresh_buffer, with_taken}
use Rattle.usb_io.specs.Reads.{Reading, reading, pending_of, submit_one, filled_to}
use Rattle.usb_io.specs.Answers.{handed_over, fill_came, read_came}
use Rattle.usb_io.specs.declared.fault.ReadFault.{ReadFault}
use Rattle.usb_session_streams.specs.ReaderCalls.{Fill, Read, Submit, ClearHalt, halt_came, given_by}
use Rattle.usb_session_streams.specs.Handed.{completed_bytes, HandsOver, CallsHandOver}
use Rattle.usb_io.proofs.ReadKeeps.{Keeps, turns-empty, fill-keeps, filled-keeps}
use Rattle.usb_io.proofs.FillEnds.{fill-lends}
use Rattle.usb_session_streams.proofs.Halted.{halted-unread, halted-tickets}
use Rattle.usb_session_streams.proofs.TicketsCome.{TicketsCame, came-same, came-one, came-on}

-- a ticket that has its completion
abbrev HasIts : List Event → ℕ → Type 0
HasIts past t = IsSome (transfer_completion past t)

-- keeps it
completion-by : (old new : List Event) (t : ℕ) (o : Option Done) → Extends old new → completion old t ≡ o → is_some (option_map completion_of o) ≡ true → option_map completion_of (completion new t) ≡ option_map completion_of o
completion-by old new t None extends at complete = absurd (false≢true complete)
completion-by old new t (Some done) extends at complete = ap (option_map completion_of) (completion-stays old new t done extends at)

completion-later : (old new : List Event) (t : ℕ) → Extends old new → HasIts old t → transfer_completion new t ≡ transfer_completion old t
unfolding transfer_completion
completion-later old new t extends complete = completion-by old new t (completion old t) extends refl complete

pub complete-later : (old new : List Event) (ts : List ℕ) → Extends old new → All (HasIts old) ts → All (HasIts new) ts
complete-later old new ts extends all =
    All-weaker (HasIts old) (HasIts new) (λ t is. ap (λ (o : Option Completion). is_some o) (completion-later old new t extends is) ∙ is) ts all

-- and so its bytes
abbrev bytes_at : List Event → ℕ → List ℕ
bytes_at past t = bytes_in (option_map (λ (c : Completion). c.buffer) (transfer_completion past t))

pub bytes-later : (old new : List Event) (ts : List ℕ) → Extends old new → All (HasIts old) ts → completed_bytes new ts ≡ completed_bytes old ts
bytes-later old new [] extends all = refl
bytes-later old new (t ∷ ts) extends all =
    let first : bytes_at new t ≡ bytes_at old t = ap (λ (o : Option Completion). bytes_in (option_map (λ (c : Completion). c.buffer) o)) (completion-later old new t extends (All-head (HasIts old) t ts all)) in
    let others = bytes-later old new ts extends (All-tail (HasIts old) t ts all) in
    ap (λ (bytes : List ℕ). bytes ++ completed_bytes new ts) first ∙ ap (λ (bytes : List ℕ). bytes_at old t ++ bytes) others

pub bytes-append : (past : List Event) (ts us : List ℕ) → completed_bytes past (ts ++ us) ≡ completed_bytes past ts ++ completed_bytes past us
bytes-append past ts us = flat_map-append (bytes_at past) ts us

no_bytes-true : (bytes : List ℕ) → no_bytes bytes ≡ true → bytes ≡ []
no_bytes-true [] is = refl
no_bytes-true (b ∷ bytes) is = absurd (false≢true is)

-- what is unread is what was unread first, and then the bytes of the tickets that were taken
record Brings (old w : Reading HostState) : Type 0 where
  tickets : TicketsCame old w
  complete : All (HasIts w.bus.kernel.past) tickets.taken
  bytes : old.reader.unread ++ completed_bytes w.bus.kernel.past tickets.taken ≡ w.reader.unread

brings-same : (w : Reading HostState) → Brings w w
unfolding came-same
brings-same w = record { tickets = came-same w; complete = All-nil (HasIts w.bus.kernel.past); bytes = append-nil w.reader.unread }

-- the journal goes on
brings-later : (old w v : Reading HostState) (g : Brings old w) (next : TicketsCame old v) → next.taken ≡ g.tickets.taken → v.reader.unread ≡ w.reader.unread → Extends w.bus.kernel.past v.bus.kernel.past → Brings old v
brings-later old w v g next same unread extends =
    let past = w.bus.kernel.past in
    let now = v.bus.kernel.past in
    record {
      tickets = next;
      complete = subst (λ (ts : List ℕ). All (HasIts now) ts) (sym same) (complete-later past now g.tickets.taken extends g.complete);
      bytes =
          ap (λ (ts : List ℕ). old.reader.unread ++ completed_bytes now ts) same
          ∙ ap (λ (bytes : List ℕ). old.reader.unread ++ bytes) (bytes-later past now g.tickets.taken extends g.complete)
          ∙ g.bytes ∙ sym unread;
    }

-- the front is taken, where nothing is unread
brings-taken : (old w : Reading HostState) (front : ℕ) (others : List ℕ) (c : Completion) → pending_of w ≡ front ∷ others → no_bytes w.reader.unread ≡ true → transfer_completion w.bus.kernel.past front ≡ Some c → Brings old w → Brings old (reading (host_taken w.bus front) (with_taken c others w.reader))
unfolding came-on
brings-taken old w front others c was empty come g =
    let past = w.bus.kernel.past in
    let v : Reading HostState = reading (host_taken w.bus front) (with_taken c others w.reader) in
    let taken = g.tickets.taken in
    let its : HasIts past front = ap (λ (o : Option Completion). is_some o) come in
    let one : completed_bytes past (front ∷ []) ≡ c.buffer.bytes = append-nil (bytes_at past front) ∙ ap (λ (o : Option Completion). bytes_in (option_map (λ (d : Completion). d.buffer) o)) come in
    let same : v.bus.kernel.past ≡ past = taken-past w.bus front in
    record {
      tickets = came-on old w v (front ∷ []) (taken-count w.bus front).past was g.tickets;
      complete = subst (λ (p : List Event). All (HasIts p) (taken ++ front ∷ [])) (sym same) (All-append (HasIts past) taken (front ∷ []) g.complete (All-cons (HasIts past) front [] its (All-nil (HasIts past))));
      bytes =
          ap (λ (p : List Event). old.reader.unread ++ completed_bytes p (taken ++ front ∷ [])) same
          ∙ ap (λ (bytes : List ℕ). old.reader.unread ++ bytes) (bytes-append past taken (front ∷ []))
          ∙ sym (append_assoc old.reader.unread (completed_bytes past taken) (completed_bytes past (front ∷ [])))
          ∙ ap (λ (bytes : List ℕ). bytes ++ completed_bytes past (front ∷ [])) (g.bytes ∙ no_bytes-true w.reader.unread empty)
          ∙ one;
    }

brings-kept : (us : Bool) (timeout : ℕ) (old : Reading HostState) → Keeps host_calls us timeout (Brings old)
unfolding came-one came-on
brings-kept us timeout old = record {
  submission = λ w g. brings-later old w (submit_one host_calls w) g (came-one old w g.tickets) refl refl (adds-entered w.bus w.reader.endpoint None (fresh_buffer w.reader.size)).goes.past;
  end = λ w goes g. record { tickets = record { taken = g.tickets.taken; more = g.tickets.more; same = g.tickets.same }; complete = g.complete; bytes = g.bytes };
  wait = λ w front others was g.
      let v : Reading HostState = reading (waited host_calls front timeout w.bus) w.reader in
      brings-later old w v g (came-on old w v [] (waited-count w.bus front timeout).past refl g.tickets) (append-nil g.tickets.taken) refl (on-waited w.bus front timeout).past;
  taking = λ w front others c was goes come g. brings-taken old w front others c was (turns-empty us w.reader goes) come g;
}

-- they are handed over
brings-over : (old new : Reading HostState) → Brings old new → HandsOver old new []
brings-over old new g = record { taken = g.tickets.taken; tickets = g.tickets.same; complete = g.complete; bytes = g.bytes }

fill-brings : (us : Bool) (timeout : ℕ) (w : Reading HostState) → Brings w (fill_came host_calls us timeout w).left
fill-brings us timeout w = fill-keeps host_calls us timeout (Brings w) (brings-kept us timeout w) w (brings-same w)

pub fill_hands_over : (us : Bool) (timeout : ℕ) (w : Reading HostState) → HandsOver w (fill_came host_calls us timeout w).left []
fill_hands_over us timeout w = brings-over w (fill_came host_calls us timeout w).left (fill-brings us timeout w)

handed-hands : (most : ℕ) (a : Result (List ℕ) ReadFault) (old v : Reading HostState) → ((bytes : List ℕ) → a ≡ Ok bytes → bytes ≡ v.reader.unread) → Brings old v → HandsOver old (handed_over most a v).left (given_by (handed_over most a v).answer)
handed-hands most (Err e) old v lends g = brings-over old v g
handed-hands most (Ok bytes) old v lends g =
    let n = min most (length bytes) in
    let parts : take n bytes ++ drop n v.reader.unread ≡ v.reader.unread = ap (λ (xs : List ℕ). take n xs ++ drop n v.reader.unread) (lends bytes refl) ∙ take-append-drop n v.reader.unread in
    record { taken = g.tickets.taken; tickets = g.tickets.same; complete = g.complete; bytes = g.bytes ∙ sym parts }

pub read_hands_over : (us : Bool) (timeout most : ℕ) (w : Reading HostState) → HandsOver w (read_came host_calls us timeout most w).left (given_by (read_came host_calls us timeout most w).answer)
read_hands_over us timeout most w =
    let a = fill_came host_calls us timeout w in handed-hands most a.answer w a.left (fill-lends host_calls us timeout w) (fill-brings us timeout w)

pub submissions_hand_over : (goal : ℕ) (w : Reading HostState) → HandsOver w (filled_to host_calls goal w) []
submissions_hand_over goal w =
    brings-over w (filled_to host_calls goal w) (filled-keeps host_calls false 0 (Brings w) (brings-kept false 0 w) goal w (brings-same w))

-- where a halt is cleared none is taken, and what is unread stays
pub halt_hands_over : (w : Reading HostState) → HandsOver w (halt_came w) []
halt_hands_over w =
    let answer = host_halt_result w.bus w.reader.endpoint.device w.reader.endpoint.address in
    record {
      taken = [];
      tickets = halted-tickets w;
      complete = All-nil (HasIts (halt_came w).bus.kernel.past);
      bytes = append-nil w.reader.unread ∙ sym (halted-unread answer w.reader);
    }

-- so it is of each call
pub calls-hand_over : CallsHandOver
calls-hand_over (Fill us timeout) w = fill_hands_over us timeout w
calls-hand_over (Read us timeout most) w = read_hands_over us timeout most w
calls-hand_over (Submit goal) w = submissions_hand_over goal w
calls-hand_over ClearHalt w = halt_hands_over w
