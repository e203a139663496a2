-- A framed reader goes on to follow its stream over calls until a short packet.
use Rattle.std.proofs.Common.{◌∙◌, ◌≡◌, ℕ, zero, suc, ◌+◌, ◌-◌, ◌≤◌, arith, Bool, true, false, List, [], ◌∷◌, ◌++◌, length, take, drop, map, append-nil, append_assoc, Option, Some, None, Result, Ok, Err, refl, ap, sym, subst}
use Rattle.std.specs.Prelude.{min}
use Rattle.std.proofs.lemmas.Bool.{cond_both, leb-true, false≢true}
use Rattle.usb_xfer.specs.BufferState.{BufferState}
use Rattle.usb_xfer.specs.declared.transfer.Completion.{Completion}
use Rattle.usb_kernel.specs.declared.event.Event.{Event}
use Rattle.usb_kernel.specs.Tickets.{tickets}
use Rattle.usb_kernel.specs.Legal.{IsLawful}
use Rattle.usb_kernel.specs.Extends.{Extends}
use Rattle.usb_kernel.specs.Calls.{called}
use Rattle.usb_kernel.specs.Submits.{submit_refusal, submit_or_refuse}
use Rattle.usb_device_endpoint.specs.Routes.{submission_of}
use Rattle.usb_kernel.specs.TransferCompletions.{transfer_completion}
use Rattle.usb_device_endpoint.specs.EndpointState.{EndpointState, route_of}
use Rattle.usb_device_endpoint.specs.Submits.{is_valid, transfer_by, entered}
use Rattle.usb_device_endpoint.specs.Waits.{waited}
use Rattle.usb_device_host.specs.HostState.{HostState}
use Rattle.usb_device_host.specs.HostCalls.{host_submitted, host_refused, host_halt_result, host_calls}
use Rattle.usb_device_host.specs.TicketEnds.{host_taken}
use Rattle.usb_device_host.proofs.CountLemmas.{entered-count, waited-count, taken-count}
use Rattle.usb_device_host.proofs.FollowLemmas.{adds-entered, on-waited, taken-past}
use Rattle.usb_io.specs.Readers.{ReaderState, fresh_buffer, with_taken, with_read, turns, is_end}
use Rattle.usb_io.specs.Reads.{Reading, reading, pending_of, ended_off, submit_one, filled_to}
use Rattle.usb_io.specs.Streams.{Mark, Byte}
use Rattle.usb_io.specs.Following.{History, Follows, with_ticket}
use Rattle.usb_io.specs.Answers.{handed_over, fill_came, read_came}
use Rattle.usb_io.specs.declared.fault.ReadFault.{ReadFault}
use Rattle.usb_io.proofs.Following.{later_follows, submission_follows, taking_follows, reading_follows}
use Rattle.usb_io.proofs.FollowLemmas.{turns-ended}
use Rattle.usb_io.proofs.ReadKeeps.{Keeps, fill-keeps, filled-keeps}
use Rattle.usb_io.proofs.FillEnds.{fill-lends, fill-ends}
use Rattle.usb_session_streams.specs.Numbers.{numbers_from}
use Rattle.usb_session_streams.specs.ReaderCalls.{Fill, Read, Submit, ClearHalt, halt_left, halt_came, given_by}
use Rattle.usb_session_streams.proofs.Halted.{halted-follows, halted-tickets}
use Rattle.usb_session_streams.specs.Framed.{ticket_count, GoesOnToFollow, KeepsToStream, FramedCallsFollow, EmptyCallsLeaveEnd}

-- the journal before a lawful one's last events is lawful
pub lawful-before : (old new : List Event) → Extends old new → IsLawful new → IsLawful old
lawful-before old new extends lawful = go extends.more (subst IsLawful extends.is lawful)
  where
    go : (more : List Event) → IsLawful (more ++ old) → IsLawful old
    go [] lawful = lawful
    go (event ∷ more) lawful = go more lawful.1

-- the event of a submission
record Entry (past new : List Event) (e : EndpointState) (b : BufferState) : Type 0 where
  refusal : Option ℕ
  is : new ≡ submit_or_refuse (length (tickets past)) (submission_of (route_of e) None b) refusal ∷ past

submitted-entry : (h : HostState) (e : EndpointState) (b : BufferState) → Entry h.kernel.past (host_submitted h (route_of e) None (transfer_by (route_of e) b)).kernel.past e b
unfolding host_submitted
submitted-entry h e b = record { refusal = submit_refusal h.kernel.devices h.kernel.armed (submission_of (route_of e) None b).device; is = refl }

refused-entry : (h : HostState) (e : EndpointState) (b : BufferState) → Entry h.kernel.past (host_refused h (route_of e) (transfer_by (route_of e) b) 22).kernel.past e b
unfolding host_refused
refused-entry h e b = record { refusal = Some 22; is = refl }

entered-entry : (h : HostState) (e : EndpointState) (b : BufferState) → Entry h.kernel.past (entered host_calls h e None b).kernel.past e b
entered-entry h e b =
    cond_both (is_valid e b) (host_submitted h (route_of e) None (transfer_by (route_of e) b)) (host_refused h (route_of e) (transfer_by (route_of e) b) 22) (λ (g : HostState). Entry h.kernel.past g.kernel.past e b)
    (λ yes_. submitted-entry h e b) (λ no_. refused-entry h e b)

-- a reader follows its stream with a history that says the same
pub follows-as : (past : List Event) (r : ReaderState) (h : History) (taken : List ℕ) (consumed : List Mark) → taken ≡ h.taken → consumed ≡ h.consumed → Follows past r h → Follows past r (record { taken = taken; consumed = consumed })
follows-as past r h taken consumed same alike f = rw (same, alike) f

-- what a reader went on to take, by the tickets that came
record Goes (old new : Reading HostState) (h : History) : Type 0 where
  taken : List ℕ
  more : ℕ
  count : ticket_count new ≡ ticket_count old + more
  came : pending_of old ++ numbers_from (ticket_count old) more ≡ taken ++ pending_of new
  input : 128 ≤ new.reader.endpoint.address
  follows : Follows new.bus.kernel.past new.reader (record { taken = h.taken ++ taken; consumed = h.consumed })

goes-same : (w : Reading HostState) (h : History) → 128 ≤ w.reader.endpoint.address → Follows w.bus.kernel.past w.reader h → Goes w w h
goes-same w h input f =
    record {
      taken = [];
      more = 0;
      count = omega arith;
      came = append-nil (pending_of w);
      input = input;
      follows = follows-as w.bus.kernel.past w.reader h (h.taken ++ []) h.consumed (append-nil h.taken) refl f;
    }

module _ (old : Reading HostState) (h : History) where
  -- a submission
  goes-one : (w : Reading HostState) → Goes old w h → Goes old (submit_one host_calls w) h
  goes-one w g =
      let b = fresh_buffer w.reader.size in
      let one = (entered-count w.bus w.reader.endpoint None b).past in
      let entry = entered-entry w.bus w.reader.endpoint b in
      let last : ticket_count old + g.more ≡ ticket_count w = sym g.count in
      record {
        taken = g.taken;
        more = suc g.more;
        count = omega (arith, one, g.count);
        came =
            sym (append_assoc (pending_of old) (numbers_from (ticket_count old) g.more) ((ticket_count old + g.more) ∷ []))
            ∙ ap (λ (n : ℕ). (pending_of old ++ numbers_from (ticket_count old) g.more) ++ n ∷ []) last
            ∙ ap (λ (l : List ℕ). l ++ ticket_count w ∷ []) g.came
            ∙ append_assoc g.taken (pending_of w) (ticket_count w ∷ []);
        input = g.input;
        follows =
            subst (λ (past : List Event). Follows past (submit_one host_calls w).reader (record { taken = h.taken ++ g.taken; consumed = h.consumed })) (sym entry.is)
            (submission_follows w.bus.kernel.past w.reader (record { taken = h.taken ++ g.taken; consumed = h.consumed }) entry.refusal g.input g.follows);
      }

  -- no end stands where a reader turns
  goes-off : (w : Reading HostState) → turns true w.reader ≡ true → Goes old w h → Goes old (ended_off w) h
  goes-off w goes g =
      let same : w.reader ≡ record w.reader { ended = false } = ap (λ (b : Bool). record w.reader { ended = b }) (turns-ended w.reader goes) in
      subst (λ (r : ReaderState). Goes old (reading w.bus r) h) same g

  -- a wait
  goes-waited : (w : Reading HostState) (front timeout : ℕ) → Goes old w h → Goes old (reading (waited host_calls front timeout w.bus) w.reader) h
  goes-waited w front timeout g =
      let same = (waited-count w.bus front timeout).past in
      record {
        taken = g.taken;
        more = g.more;
        count = omega (arith, same, g.count);
        came = g.came;
        input = g.input;
        follows = later_follows w.bus.kernel.past (waited host_calls front timeout w.bus).kernel.past w.reader _ (on-waited w.bus front timeout).past g.follows;
      }

  -- the front is taken
  goes-taken : (w : Reading HostState) (front : ℕ) (others : List ℕ) (c : Completion) → pending_of w ≡ front ∷ others → turns true w.reader ≡ true → transfer_completion w.bus.kernel.past front ≡ Some c → IsLawful w.bus.kernel.past → Goes old w h
      → Goes old (reading (host_taken w.bus front) (with_taken c others w.reader)) h
  goes-taken w front others c was goes come lawful g =
      let past = w.bus.kernel.past in
      let same = (taken-count w.bus front).past in
      let before : History = record { taken = h.taken ++ g.taken; consumed = h.consumed } in
      let now = taking_follows past w.reader before front others c lawful g.follows was come goes in
      record {
        taken = g.taken ++ front ∷ [];
        more = g.more;
        count = omega (arith, same, g.count);
        came = g.came ∙ ap (λ (l : List ℕ). g.taken ++ l) was ∙ sym (append_assoc g.taken (front ∷ []) others);
        input = g.input;
        follows =
            subst (λ (past : List Event). Follows past (with_taken c others w.reader) (record { taken = h.taken ++ (g.taken ++ front ∷ []); consumed = h.consumed })) (sym (taken-past w.bus front))
            (follows-as past (with_taken c others w.reader) (with_ticket front before) (h.taken ++ (g.taken ++ front ∷ [])) h.consumed (sym (append_assoc h.taken g.taken (front ∷ []))) refl now);
      }

  -- so a call goes on to follow, where the journal behind it is lawful
  abbrev Lawfully : Reading HostState → Type 0
  Lawfully w = IsLawful w.bus.kernel.past → Goes old w h

  goes-kept : (timeout : ℕ) → Keeps host_calls true timeout Lawfully
  goes-kept timeout = record {
    submission = λ w so_far lawful.
        goes-one w (so_far (lawful-before w.bus.kernel.past (submit_one host_calls w).bus.kernel.past (adds-entered w.bus w.reader.endpoint None (fresh_buffer w.reader.size)).goes.past lawful));
    end = λ w goes so_far lawful. goes-off w goes (so_far lawful);
    wait = λ w front others was so_far lawful.
        goes-waited w front timeout (so_far (lawful-before w.bus.kernel.past (waited host_calls front timeout w.bus).kernel.past (on-waited w.bus front timeout).past lawful));
    taking = λ w front others c was goes come so_far lawful.
        let here : IsLawful w.bus.kernel.past = subst IsLawful (taken-past w.bus front) lawful in goes-taken w front others c was goes come here (so_far here);
  }

fill-goes : (timeout : ℕ) (w : Reading HostState) (h : History) → IsLawful (fill_came host_calls true timeout w).left.bus.kernel.past → Goes w w h → Goes w (fill_came host_calls true timeout w).left h
fill-goes timeout w h lawful g = fill-keeps host_calls true timeout (Lawfully w h) (goes-kept w h timeout) w (λ here. g) lawful

-- bytes are consumed
goes-follow : (old new : Reading HostState) (h : History) (g : Goes old new h) (r : ReaderState) (bytes : List ℕ) → r.endpoint.pending ≡ new.reader.endpoint.pending → Follows new.bus.kernel.past r (record { taken = h.taken ++ g.taken; consumed = h.consumed ++ map Byte bytes }) → GoesOnToFollow old (reading new.bus r) h bytes
goes-follow old new h g r bytes same f =
    let more : ticket_count new - ticket_count old ≡ g.more = omega (arith, g.count) in
    record {
      taken = g.taken;
      came = ap (λ (n : ℕ). pending_of old ++ numbers_from (ticket_count old) n) more ∙ g.came ∙ ap (λ (l : List ℕ). g.taken ++ l) (sym same);
      follows = f;
    }

none-follow : (old new : Reading HostState) (h : History) → Goes old new h → GoesOnToFollow old new h []
none-follow old new h g =
    goes-follow old new h g new.reader [] refl
    (follows-as new.bus.kernel.past new.reader (record { taken = h.taken ++ g.taken; consumed = h.consumed }) (h.taken ++ g.taken) (h.consumed ++ []) refl (append-nil h.consumed) g.follows)

pub framed_fill_follows : (timeout : ℕ) (w : Reading HostState) → KeepsToStream w (fill_came host_calls true timeout w).left []
framed_fill_follows timeout w input lawful h f = none-follow w (fill_came host_calls true timeout w).left h (fill-goes timeout w h lawful (goes-same w h input f))

pub framed_submissions_follow : (goal : ℕ) (w : Reading HostState) → KeepsToStream w (filled_to host_calls goal w) []
framed_submissions_follow goal w input lawful h f =
    none-follow w (filled_to host_calls goal w) h (filled-keeps host_calls true 0 (Lawfully w h) (goes-kept w h 0) goal w (λ here. goes-same w h input f) lawful)

-- where a halt is cleared nothing is taken
pub framed_halt_follows : (w : Reading HostState) → KeepsToStream w (halt_came w) []
unfolding called
framed_halt_follows w input lawful h f =
    let answer = host_halt_result w.bus w.reader.endpoint.device w.reader.endpoint.address in
    record {
      taken = [];
      came = halted-tickets w;
      follows =
          follows-as w.bus.kernel.past (halt_left answer w.reader) h (h.taken ++ []) (h.consumed ++ []) (append-nil h.taken) (append-nil h.consumed)
          (halted-follows answer w.bus.kernel.past w.reader h f);
    }

-- they are handed over
handed-follows : (most : ℕ) (a : Result (List ℕ) ReadFault) (old v : Reading HostState) (h : History) → ((bytes : List ℕ) → a ≡ Ok bytes → bytes ≡ v.reader.unread) → Goes old v h → GoesOnToFollow old (handed_over most a v).left h (given_by (handed_over most a v).answer)
handed-follows most (Err e) old v h lends g = none-follow old v h g
handed-follows most (Ok bytes) old v h lends g =
    let n = min most (length bytes) in
    let before : History = record { taken = h.taken ++ g.taken; consumed = h.consumed } in
    let same : take n bytes ≡ take n v.reader.unread = ap (take n) (lends bytes refl) in
    goes-follow old v h g (with_read n v.reader) (take n bytes) refl
    (subst (λ (xs : List ℕ). Follows v.bus.kernel.past (with_read n v.reader) (record { taken = h.taken ++ g.taken; consumed = h.consumed ++ map Byte xs })) (sym same)
    (reading_follows v.bus.kernel.past v.reader before n g.follows))

handed-past : (most : ℕ) (a : Result (List ℕ) ReadFault) (v : Reading HostState) → (handed_over most a v).left.bus ≡ v.bus
handed-past most (Ok bytes) v = refl
handed-past most (Err e) v = refl

pub framed_read_follows : (timeout most : ℕ) (w : Reading HostState) → KeepsToStream w (read_came host_calls true timeout most w).left (given_by (read_came host_calls true timeout most w).answer)
framed_read_follows timeout most w input lawful h f =
    let a = fill_came host_calls true timeout w in
    let here : IsLawful a.left.bus.kernel.past = subst (λ (b : HostState). IsLawful b.kernel.past) (handed-past most a.answer a.left) lawful in
    handed-follows most a.answer w a.left h (fill-lends host_calls true timeout w) (fill-goes timeout w h here (goes-same w h input f))

-- a read with room for a byte that gives none found none
none-taken : (most : ℕ) (bytes : List ℕ) → 1 ≤ most → take (min most (length bytes)) bytes ≡ [] → bytes ≡ []
none-taken most [] some none = refl
none-taken zero (b ∷ bytes) some none = absurd (omega (arith, some))
none-taken (suc most) (b ∷ bytes) some none = absurd (let e : min (suc most) (length (b ∷ bytes)) ≡ suc (min most (length bytes)) = omega arith in let x : take (suc (min most (length bytes))) (b ∷ bytes) ≡ [] = ap (λ (i : ℕ). take i (b ∷ bytes)) (sym e) ∙ none in cc)

drop-nothing : (n : ℕ) → drop {A = ℕ} n [] ≡ []
drop-nothing zero = refl
drop-nothing (suc n) = refl

handed-end : (most : ℕ) (a : Result (List ℕ) ReadFault) (v : Reading HostState) → ((bytes : List ℕ) → a ≡ Ok bytes → bytes ≡ v.reader.unread) → (a ≡ Ok [] → is_end v.reader ≡ true) → 1 ≤ most → (handed_over most a v).answer ≡ Ok []
    → is_end (handed_over most a v).left.reader ≡ true
handed-end most (Err e) v lends ends some is = absurd (let x : Err e ≡ Ok [] = is in cc)
handed-end most (Ok bytes) v lends ends some is =
    let here : take (min most (length bytes)) bytes ≡ [] = (let x : Ok (take (min most (length bytes)) bytes) ≡ Ok [] = is in cc) in
    let none = none-taken most bytes some here in
    let nothing_there : v.reader.unread ≡ [] = sym (lends bytes refl) ∙ none in
    rw (nothing_there, drop-nothing (min most (length bytes))) (rw (nothing_there) at (ends (ap Ok none)))

pub empty_read_leaves_end : (timeout most : ℕ) (w : Reading HostState) → 1 ≤ most → (read_came host_calls true timeout most w).answer ≡ Ok [] → is_end (read_came host_calls true timeout most w).left.reader ≡ true
empty_read_leaves_end timeout most w some is =
    let a = fill_came host_calls true timeout w in handed-end most a.answer a.left (fill-lends host_calls true timeout w) (fill-ends host_calls timeout w) some is

pub empty_fill_leaves_end : (timeout : ℕ) (w : Reading HostState) → (fill_came host_calls true timeout w).answer ≡ Ok [] → is_end (fill_came host_calls true timeout w).left.reader ≡ true
empty_fill_leaves_end timeout w is = fill-ends host_calls timeout w is

-- so it is of each call that goes no further than a short packet
pub framed_calls-follow : FramedCallsFollow
framed_calls-follow (Fill true timeout) w is = framed_fill_follows timeout w
framed_calls-follow (Fill false timeout) w is = absurd (false≢true is)
framed_calls-follow (Read true timeout most) w is = framed_read_follows timeout most w
framed_calls-follow (Read false timeout most) w is = absurd (false≢true is)
framed_calls-follow (Submit goal) w is = framed_submissions_follow goal w
framed_calls-follow ClearHalt w is = framed_halt_follows w

pub empty_calls-leave_end : EmptyCallsLeaveEnd
empty_calls-leave_end (Fill true timeout) w is asks none = empty_fill_leaves_end timeout w none
empty_calls-leave_end (Fill false timeout) w is asks none = absurd (false≢true is)
empty_calls-leave_end (Read true timeout most) w is asks none = empty_read_leaves_end timeout most w (leb-true 1 most asks) none
empty_calls-leave_end (Read false timeout most) w is asks none = absurd (false≢true is)
empty_calls-leave_end (Submit goal) w is asks none = absurd (false≢true asks)
empty_calls-leave_end ClearHalt w is asks none = absurd (false≢true asks)
