-- Which tickets a writer has behind each thing that it does at a host, and which transfers they carry.
use Rattle.std.proofs.Common.{◌∙◌, ◌≡◌, ℕ, zero, suc, arith, ◌+◌, ◌-◌, ◌<◌, ◌≤◌, Bool, true, List, [], ◌∷◌, ◌++◌, length, append_assoc, append-nil, Option, Some, None, Result, refl, ap, sym, subst}
use Rattle.std.specs.Prelude.{All, is_some}
use Rattle.std.specs.List.{cons_option}
use Rattle.std.specs.Option.{option_map, option_and_then}
use Rattle.std.proofs.lemmas.Bool.{lt-leb, false≢true, cond_both}
use Rattle.std.proofs.lemmas.List.Elements.{All-nil, All-cons, All-head, All-tail, All-append, All-weaker, filter_map-append}
use Rattle.std.proofs.lemmas.Option.{slice_get_within}
use Rattle.usb_xfer.specs.BufferState.{BufferState}
use Rattle.usb_xfer.specs.declared.error.TransferError.{TransferError}
use Rattle.usb_xfer.specs.declared.transfer.Completion.{Completion}
use Rattle.usb_kernel.specs.declared.event.Event.{Event}
use Rattle.usb_kernel.specs.declared.event.Body.TheVariants.{Sent}
use Rattle.usb_kernel.specs.declared.submission.Done.{Done}
use Rattle.usb_kernel.specs.Completions.{completion}
use Rattle.usb_kernel.specs.Extends.{Extends}
use Rattle.usb_kernel.specs.Submissions.{body_of}
use Rattle.usb_kernel.specs.Submits.{submit_or_refuse, submit_refusal}
use Rattle.usb_kernel.specs.Tickets.{tickets}
use Rattle.usb_kernel.proofs.Extends.{completion-stays, extends-event}
use Rattle.usb_kernel.specs.TransferCompletions.{completion_of, transfer_completion}
use Rattle.usb_device_endpoint.specs.Routes.{submission_of}
use Rattle.usb_device_endpoint.specs.EndpointState.{EndpointState, route_of}
use Rattle.usb_device_endpoint.specs.Waits.{waited}
use Rattle.usb_device_endpoint.specs.Submits.{is_valid, transfer_by, entered}
use Rattle.usb_device_host.specs.HostState.{HostState}
use Rattle.usb_device_host.specs.HostCalls.{host_submitted, host_refused, host_calls}
use Rattle.usb_device_host.specs.TicketEnds.{host_taken}
use Rattle.usb_device_host.proofs.CountLemmas.{entered-count, waited-count, taken-count}
use Rattle.usb_device_host.proofs.FollowLemmas.{taken-past}
use Rattle.usb_io.specs.Carried.{Carries, AllCarry, HandleCarries}
use Rattle.usb_io.specs.Streams.{Each, IsAscending}
use Rattle.usb_io.specs.Writers.{Writing, writing, send, with_taken}
use Rattle.usb_io.proofs.Carrying.{all-later, all-push}
use Rattle.usb_io.proofs.Following.{slice_get-last, ascending-push}
use Rattle.usb_session_streams.specs.Numbers.{numbers_from}
use Rattle.usb_session_streams.specs.WriterCalls.{WriterGoesOn}
use Rattle.usb_session_streams.specs.Told.{failure_in, failure_at, failures_at, IsComplete, count_of}
use Rattle.usb_session_streams.proofs.WritesKeep.{with_set}
use Rattle.usb_session_streams.proofs.WritesGoOn.{call-same, call-trans, call-set, call-send, call-waited, call-taken}

-- a completion stays as it is while the journal goes on
completion-by : (old new : List Event) (t : ℕ) (o : Option Done) → Extends old new → completion old t ≡ o → is_some (option_map completion_of o) ≡ true → option_map completion_of (completion new t) ≡ option_map completion_of o
completion-by old new t None extends at complete = absurd (false≢true complete)
completion-by old new t (Some done) extends at complete = ap (option_map completion_of) (completion-stays old new t done extends at)

pub completion-later : (old new : List Event) (t : ℕ) → Extends old new → IsComplete old t → transfer_completion new t ≡ transfer_completion old t
unfolding transfer_completion
completion-later old new t extends complete = completion-by old new t (completion old t) extends refl complete

pub complete-later : (old new : List Event) (ts : List ℕ) → Extends old new → All (IsComplete old) ts → All (IsComplete new) ts
complete-later old new ts extends all =
    All-weaker (IsComplete old) (IsComplete new) (λ t is. ap (λ (o : Option Completion). is_some o) (completion-later old new t extends is) ∙ is) ts all

-- so do the failures of tickets that have theirs
failure-later : (old new : List Event) (t : ℕ) → Extends old new → IsComplete old t → failure_at new t ≡ failure_at old t
failure-later old new t extends complete =
    ap (λ (o : Option Completion). option_and_then (λ (c : Completion). failure_in c.status) o) (completion-later old new t extends complete)

pub failures-later : (old new : List Event) (ts : List ℕ) → Extends old new → All (IsComplete old) ts → failures_at new ts ≡ failures_at old ts
failures-later old new [] extends all = refl
failures-later old new (t ∷ ts) extends all =
    let first = failure-later old new t extends (All-head (IsComplete old) t ts all) in
    let others = failures-later old new ts extends (All-tail (IsComplete old) t ts all) in
    ap (λ (o : Option TransferError). cons_option o (failures_at new ts)) first ∙ ap (λ (es : List TransferError). cons_option (failure_at old t) es) others

-- those of tickets that follow others
pub failures-append : (past : List Event) (ts us : List ℕ) → failures_at past (ts ++ us) ≡ failures_at past ts ++ failures_at past us
failures-append past ts us = filter_map-append (failure_at past) ts us

-- numbers that follow others
numbers-append : (k n m : ℕ) → numbers_from k (n + m) ≡ numbers_from k n ++ numbers_from (k + n) m
numbers-append k n zero =
    let none : n + zero ≡ n = omega arith in
    ap (λ (i : ℕ). numbers_from k i) none ∙ sym (append-nil (numbers_from k n))
numbers-append k n (suc m) =
    let next : n + suc m ≡ suc (n + m) = omega arith in
    let last : k + (n + m) ≡ k + n + m = omega arith in
    ap (λ (i : ℕ). numbers_from k i) next
    ∙ ap (λ (l : List ℕ). l ++ (k + (n + m)) ∷ []) (numbers-append k n m)
    ∙ append_assoc (numbers_from k n) (numbers_from (k + n) m) ((k + (n + m)) ∷ [])
    ∙ ap (λ (i : ℕ). numbers_from k n ++ (numbers_from (k + n) m ++ i ∷ [])) last

pub numbers-between : (a b c : ℕ) → a ≤ b → b ≤ c → numbers_from a (b - a) ++ numbers_from b (c - b) ≡ numbers_from a (c - a)
numbers-between a b c first second =
    let here : b ≡ a + (b - a) = omega (arith, first) in
    let all : (b - a) + (c - b) ≡ c - a = omega (arith, first, second) in
    ap (λ (k : ℕ). numbers_from a (b - a) ++ numbers_from k (c - b)) here
    ∙ sym (numbers-append a (b - a) (c - b))
    ∙ ap (λ (n : ℕ). numbers_from a n) all

-- what a writer went on to do: of the tickets that were pending, and behind them each that came to the journal, the first were taken,
-- with these failures, and the others are pending; and behind those that were taken before they carry these transfers too
pub record Moves (old new : Writing HostState) (more : List (List ℕ)) (failures : List TransferError) : Type 0 where
  pub goes : WriterGoesOn old new
  pub count : count_of old ≤ count_of new
  pub taken : List ℕ
  pub tickets : taken ++ new.writer.endpoint.pending ≡ old.writer.endpoint.pending ++ numbers_from (count_of old) (count_of new - count_of old)
  pub complete : All (IsComplete new.bus.kernel.past) taken
  pub failed : failures_at new.bus.kernel.past taken ≡ failures
  pub carries : (before : List ℕ) (transfers : List (List ℕ)) → HandleCarries old.bus.kernel.past old.writer.endpoint before transfers
      → HandleCarries new.bus.kernel.past new.writer.endpoint (before ++ taken) (transfers ++ more)

-- one thing after another
pub moves-trans : (a b c : Writing HostState) (first second : List (List ℕ)) (es fs : List TransferError) → Moves a b first es → Moves b c second fs → Moves a c (first ++ second) (es ++ fs)
moves-trans a b c first second es fs one two =
    record {
      goes = call-trans a b c one.goes two.goes;
      count = let here = one.count in let there = two.count in omega (arith, here, there);
      taken = one.taken ++ two.taken;
      tickets =
          let here = numbers_from (count_of a) (count_of b - count_of a) in
          let there = numbers_from (count_of b) (count_of c - count_of b) in
          append_assoc one.taken two.taken c.writer.endpoint.pending
          ∙ ap (λ (l : List ℕ). one.taken ++ l) two.tickets
          ∙ sym (append_assoc one.taken b.writer.endpoint.pending there)
          ∙ ap (λ (l : List ℕ). l ++ there) one.tickets
          ∙ append_assoc a.writer.endpoint.pending here there
          ∙ ap (λ (l : List ℕ). a.writer.endpoint.pending ++ l) (numbers-between (count_of a) (count_of b) (count_of c) one.count two.count);
      complete =
          All-append (IsComplete c.bus.kernel.past) one.taken two.taken
          (complete-later b.bus.kernel.past c.bus.kernel.past one.taken two.goes.past one.complete) two.complete;
      failed =
          failures-append c.bus.kernel.past one.taken two.taken
          ∙ ap (λ (l : List TransferError). l ++ failures_at c.bus.kernel.past two.taken) (failures-later b.bus.kernel.past c.bus.kernel.past one.taken two.goes.past one.complete ∙ one.failed)
          ∙ ap (λ (l : List TransferError). es ++ l) two.failed;
      carries = λ before transfers carry.
          let all = two.carries (before ++ one.taken) (transfers ++ first) (one.carries before transfers carry) in
          subst (λ (ts : List ℕ). HandleCarries c.bus.kernel.past c.writer.endpoint ts (transfers ++ (first ++ second))) (append_assoc before one.taken two.taken)
          (subst (λ (bs : List (List ℕ)). HandleCarries c.bus.kernel.past c.writer.endpoint ((before ++ one.taken) ++ two.taken) bs) (append_assoc transfers first second) all);
    }

-- no ticket came, and these were taken
moves-on : (w v : Writing HostState) (front : List ℕ) (failures : List TransferError) → WriterGoesOn w v → count_of v ≡ count_of w → w.writer.endpoint.pending ≡ front ++ v.writer.endpoint.pending
    → All (IsComplete v.bus.kernel.past) front → failures_at v.bus.kernel.past front ≡ failures → Moves w v [] failures
moves-on w v front failures goes same was complete failed =
    record {
      goes = goes;
      count = omega (arith, same);
      taken = front;
      tickets =
          let none : count_of v - count_of w ≡ 0 = omega (arith, same) in
          sym was
          ∙ sym (append-nil w.writer.endpoint.pending)
          ∙ ap (λ (n : ℕ). w.writer.endpoint.pending ++ numbers_from (count_of w) n) (sym none);
      complete = complete;
      failed = failed;
      carries = λ before transfers carry.
          let e = w.writer.endpoint in
          let left : before ++ e.pending ≡ (before ++ front) ++ v.writer.endpoint.pending =
          ap (λ (ts : List ℕ). before ++ ts) was ∙ sym (append_assoc before front v.writer.endpoint.pending) in
          let all = all-later w.bus.kernel.past v.bus.kernel.past e.device e.address e.maximum (before ++ e.pending) transfers goes.past carry.0 in
          subst (λ (x : EndpointState). HandleCarries v.bus.kernel.past x (before ++ front) (transfers ++ [])) (sym goes.settings.endpoint) (
            rw (append-nil transfers) (subst (λ (ts : List ℕ). AllCarry v.bus.kernel.past e.device e.address e.maximum ts transfers) left all),
            subst IsAscending left carry.1,
          );
    }

pub moves-same : (w : Writing HostState) → Moves w w [] []
moves-same w = moves-on w w [] [] (call-same w) refl refl (All-nil (IsComplete w.bus.kernel.past)) refl

pub moves-set : (w : Writing HostState) (buffer : Option (List ℕ)) (begun : Bool) → Moves w (with_set buffer begun w) [] []
moves-set w buffer begun =
    moves-on w (with_set buffer begun w) [] [] (call-set w buffer begun) refl refl (All-nil (IsComplete w.bus.kernel.past)) refl

pub moves-waited : (w : Writing HostState) (front timeout : ℕ) → Moves w (writing (waited host_calls front timeout w.bus) w.writer) [] []
moves-waited w front timeout =
    let v = writing (waited host_calls front timeout w.bus) w.writer in
    moves-on w v [] [] (call-waited w front timeout) (waited-count w.bus front timeout).past refl (All-nil (IsComplete v.bus.kernel.past)) refl

-- the failure of the front that is taken
abbrev pub failures_in : Result (Unit {0}) TransferError → List TransferError
failures_in status = cons_option (failure_in status) []

pub moves-taken : (w : Writing HostState) (front : ℕ) (others : List ℕ) (c : Completion) → w.writer.endpoint.pending ≡ front ∷ others → transfer_completion w.bus.kernel.past front ≡ Some c
    → Moves w (writing (host_taken w.bus front) (with_taken c others w.writer)) [] (failures_in c.status)
moves-taken w front others c was come =
    let v = writing (host_taken w.bus front) (with_taken c others w.writer) in
    let here : transfer_completion v.bus.kernel.past front ≡ Some c = ap (λ (past : List Event). transfer_completion past front) (taken-past w.bus front) ∙ come in
    moves-on w v (front ∷ []) (failures_in c.status) (call-taken w front others c was) (taken-count w.bus front).past was
    (All-cons (IsComplete v.bus.kernel.past) front [] (ap (λ (o : Option Completion). is_some o) here) (All-nil (IsComplete v.bus.kernel.past)))
    (ap (λ (o : Option Completion). cons_option (option_and_then (λ (d : Completion). failure_in d.status) o) []) here)

-- a submission: what came to the journal
record Entry (past new : List Event) (e : EndpointState) (b : BufferState) : Type 0 where
  refusal : Option ℕ
  is : new ≡ submit_or_refuse (length (tickets past)) (submission_of (route_of e) None b) refusal ∷ past

submitted-entry : (h : HostState) (e : EndpointState) (b : BufferState) → Entry h.kernel.past (host_submitted h (route_of e) None (transfer_by (route_of e) b)).kernel.past e b
unfolding host_submitted
submitted-entry h e b = record { refusal = submit_refusal h.kernel.devices h.kernel.armed (submission_of (route_of e) None b).device; is = refl }

refused-entry : (h : HostState) (e : EndpointState) (b : BufferState) → Entry h.kernel.past (host_refused h (route_of e) (transfer_by (route_of e) b) 22).kernel.past e b
unfolding host_refused
refused-entry h e b = record { refusal = Some 22; is = refl }

entered-entry : (h : HostState) (e : EndpointState) (b : BufferState) → Entry h.kernel.past (entered host_calls h e None b).kernel.past e b
entered-entry h e b =
    cond_both (is_valid e b) (host_submitted h (route_of e) None (transfer_by (route_of e) b)) (host_refused h (route_of e) (transfer_by (route_of e) b) 22) (λ (g : HostState). Entry h.kernel.past g.kernel.past e b)
    (λ yes_. submitted-entry h e b) (λ no_. refused-entry h e b)

-- its ticket
own-body : (address : ℕ) (b : BufferState) → address < 128 → body_of address b ≡ Sent b.bytes
own-body address b output = rw (lt-leb 128 address output) refl

own-ticket : (past : List Event) (e : EndpointState) (b : BufferState) (refusal : Option ℕ) → e.address < 128
    → Carries (submit_or_refuse (length (tickets past)) (submission_of (route_of e) None b) refusal ∷ past) e.device e.address e.maximum (length (tickets past)) b.bytes
own-ticket past e b None output = record { s = _; at = slice_get-last (tickets past) _; device = refl; endpoint = refl; maximum = refl; body = own-body e.address b output }
own-ticket past e b (Some errno) output = record { s = _; at = slice_get-last (tickets past) _; device = refl; endpoint = refl; maximum = refl; body = own-body e.address b output }

all-below : (past : List Event) (d e m : ℕ) (ts : List ℕ) (bs : List (List ℕ)) → AllCarry past d e m ts bs → Each (λ u. u < length (tickets past)) ts
all-below past d e m [] [] all = tt
all-below past d e m [] (b ∷ bs) all = tt
all-below past d e m (t ∷ ts) [] all = absurd all
all-below past d e m (t ∷ ts) (b ∷ bs) all = (slice_get_within (tickets past) t all.0.s all.0.at, all-below past d e m ts bs all.1)

-- and what the handle carries then
carries-entered : (past : List Event) (e : EndpointState) (b : BufferState) (refusal : Option ℕ) → e.address < 128 → (before : List ℕ) (transfers : List (List ℕ)) → HandleCarries past e before transfers
    → HandleCarries (submit_or_refuse (length (tickets past)) (submission_of (route_of e) None b) refusal ∷ past) (record e { pending = e.pending ++ length (tickets past) ∷ [] }) before (transfers ++ b.bytes ∷ [])
carries-entered past e b refusal output before transfers carry =
    let t = length (tickets past) in
    let new : List Event = submit_or_refuse t (submission_of (route_of e) None b) refusal ∷ past in
    let here = all-later past new e.device e.address e.maximum (before ++ e.pending) transfers (extends-event past _) carry.0 in
    let pushed = all-push new e.device e.address e.maximum (before ++ e.pending) transfers t b.bytes here (own-ticket past e b refusal output) in
    let up = ascending-push (before ++ e.pending) t carry.1 (all-below past e.device e.address e.maximum (before ++ e.pending) transfers carry.0) in
    let same = append_assoc before e.pending (t ∷ []) in
    (subst (λ (ts : List ℕ). AllCarry new e.device e.address e.maximum ts (transfers ++ b.bytes ∷ [])) same pushed, subst IsAscending same up)

pub moves-sent : (w : Writing HostState) (b : BufferState) → w.writer.endpoint.address < 128 → Moves w (send host_calls b w) (b.bytes ∷ []) []
moves-sent w b output =
    let e = w.writer.endpoint in
    let v = send host_calls b w in
    let entry = entered-entry w.bus e b in
    let one = (entered-count w.bus e None b).past in
    record {
      goes = call-send w b;
      count = omega (arith, one);
      taken = [];
      tickets =
          let next : count_of v - count_of w ≡ suc zero = omega (arith, one) in
          let last : count_of w + zero ≡ count_of w = omega arith in
          ap (λ (n : ℕ). e.pending ++ n ∷ []) (sym last) ∙ ap (λ (n : ℕ). e.pending ++ numbers_from (count_of w) n) (sym next);
      complete = All-nil (IsComplete v.bus.kernel.past);
      failed = refl;
      carries = λ before transfers carry.
          subst (λ (ts : List ℕ). HandleCarries v.bus.kernel.past v.writer.endpoint ts (transfers ++ b.bytes ∷ [])) (sym (append-nil before))
          (subst (λ (past : List Event). HandleCarries past v.writer.endpoint before (transfers ++ b.bytes ∷ [])) (sym entry.is)
          (carries-entered w.bus.kernel.past e b entry.refusal output before transfers carry));
    }
