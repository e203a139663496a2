-- Which tickets a reader has pending behind a call at a host.
use Rattle.std.proofs.Common.{◌≡◌, ℕ, ◌≤◌, ◌+◌, ◌-◌, suc, arith, Bool, false, List, [], ◌∷◌, ◌++◌, length, None, refl, ap, sym, ◌∙◌}
use Rattle.std.proofs.lemmas.List.{append_assoc, append-nil}
use Rattle.usb_kernel.specs.Tickets.{tickets}
use Rattle.usb_device_endpoint.specs.Waits.{waited}
use Rattle.usb_device_host.specs.HostState.{HostState}
use Rattle.usb_device_host.specs.HostCalls.{host_calls}
use Rattle.usb_device_host.specs.TicketEnds.{host_taken}
use Rattle.usb_device_host.proofs.CountLemmas.{entered-count, waited-count, taken-count}
use Rattle.usb_io.specs.Readers.{fresh_buffer, with_taken}
use Rattle.usb_io.specs.Reads.{Reading, reading, pending_of, submit_one, filled_to}
use Rattle.usb_io.specs.Answers.{fill_came, read_came}
use Rattle.usb_session_streams.specs.Numbers.{numbers_from}
use Rattle.usb_io.proofs.ReadKeeps.{Keeps, fill-keeps, read-keeps, filled-keeps}

-- how many tickets there are
abbrev pub count_of : Reading HostState → ℕ
count_of w = length (tickets w.bus.kernel.past)

-- the tickets that were pending, and behind them each that came to the journal: the first of these were taken, and the others are
-- pending
pub record TicketsCame (old new : Reading HostState) : Type 0 where
  pub taken : List ℕ
  pub more : count_of old ≤ count_of new
  pub same : pending_of old ++ numbers_from (count_of old) (count_of new - count_of old) ≡ taken ++ pending_of new

unfoldable pub came-same : (w : Reading HostState) → TicketsCame w w
came-same w =
    let none : count_of w - count_of w ≡ 0 = omega arith in
    record { taken = []; more = omega arith; same = ap (λ (n : ℕ). pending_of w ++ numbers_from (count_of w) n) none ∙ append-nil (pending_of w) }

-- a submission appends the next ticket
unfoldable pub came-one : (old w : Reading HostState) → TicketsCame old w → TicketsCame old (submit_one host_calls w)
came-one old w came =
    let one = (entered-count w.bus w.reader.endpoint None (fresh_buffer w.reader.size)).past in
    let more = came.more in
    let next : count_of (submit_one host_calls w) - count_of old ≡ suc (count_of w - count_of old) = omega (arith, one, more) in
    let last : count_of old + (count_of w - count_of old) ≡ count_of w = omega (arith, more) in
    record {
      taken = came.taken;
      more = omega (arith, one, more);
      same =
          ap (λ (n : ℕ). pending_of old ++ numbers_from (count_of old) n) next
          ∙ sym (append_assoc (pending_of old) (numbers_from (count_of old) (count_of w - count_of old)) ((count_of old + (count_of w - count_of old)) ∷ []))
          ∙ ap (λ (n : ℕ). pending_of old ++ numbers_from (count_of old) (count_of w - count_of old) ++ (n ∷ [])) last
          ∙ ap (λ (l : List ℕ). l ++ (count_of w ∷ [])) came.same
          ∙ append_assoc came.taken (pending_of w) (count_of w ∷ []);
    }

-- what leaves the number of tickets as it was, and takes so many of the pending ones
unfoldable pub came-on : (old w v : Reading HostState) (front : List ℕ) → count_of v ≡ count_of w → pending_of w ≡ front ++ pending_of v → TicketsCame old w → TicketsCame old v
came-on old w v front same was came =
    let more = came.more in
    record {
      taken = came.taken ++ front;
      more = omega (arith, same, more);
      same =
          ap (λ (n : ℕ). pending_of old ++ numbers_from (count_of old) (n - count_of old)) same
          ∙ came.same
          ∙ ap (λ (l : List ℕ). came.taken ++ l) was
          ∙ sym (append_assoc came.taken front (pending_of v));
    }

came-kept : (us : Bool) (timeout : ℕ) (old : Reading HostState) → Keeps host_calls us timeout (TicketsCame old)
came-kept us timeout old = record {
  submission = came-one old;
  end = λ w goes came. record { taken = came.taken; more = came.more; same = came.same };
  wait = λ w front others was came. came-on old w (reading (waited host_calls front timeout w.bus) w.reader) [] (waited-count w.bus front timeout).past refl came;
  taking = λ w front others c was goes come came. came-on old w (reading (host_taken w.bus front) (with_taken c others w.reader)) (front ∷ []) (taken-count w.bus front).past was came;
}

-- a call that lends the bytes
pub fill-tickets : (us : Bool) (timeout : ℕ) (w : Reading HostState) → TicketsCame w (fill_came host_calls us timeout w).left
fill-tickets us timeout w = fill-keeps host_calls us timeout (TicketsCame w) (came-kept us timeout w) w (came-same w)

-- a read
pub read-tickets : (us : Bool) (timeout most : ℕ) (w : Reading HostState) → TicketsCame w (read_came host_calls us timeout most w).left
read-tickets us timeout most w =
    read-keeps host_calls us timeout (TicketsCame w) (came-kept us timeout w) most w
    (λ v n came. record { taken = came.taken; more = came.more; same = came.same }) (came-same w)

-- submissions
pub filled-tickets : (goal : ℕ) (w : Reading HostState) → TicketsCame w (filled_to host_calls goal w)
filled-tickets goal w = filled-keeps host_calls false 0 (TicketsCame w) (came-kept false 0 w) goal w (came-same w)
