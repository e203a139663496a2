-- The calls of a reader see no place of the kernel.
use Rattle.std.proofs.Common.{Bool, Err, List, None, Ok, Option, Result, Some, [], ap, false, length, nat_lt, refl, suc, true, zero, ℕ, ◌++◌, ◌-◌, ◌∙◌, ◌∷◌, ◌≡◌}
use Rattle.std.specs.Prelude.{if◌then◌else◌}
use Rattle.usb_device_endpoint.specs.Waits.{Polled, wait_next}
use Rattle.usb_device_host.specs.HostBus.{bus_of}
use Rattle.usb_device_host.specs.HostCalls.{host_calls}
use Rattle.usb_device_host.specs.HostState.{HostState}
use Rattle.usb_io.specs.Answers.{Read, answered_by, fill_came, handed_over, read_came, read_of}
use Rattle.usb_io.specs.Readers.{ReaderState, fresh_buffer, turns, with_taken}
use Rattle.usb_io.specs.Reads.{Reading, begin_turn, ended_off, filled_to, most_turns, pending_of, reading, submit_more, submit_one, turn_from, turn_once, turned, turned_from, turned_if, turned_on, wait_read, with_pending}
use Rattle.usb_io.specs.declared.fault.ReadFault.{ReadFault}
use Rattle.usb_kernel.specs.Tickets.{tickets}
use Rattle.usb_session_beginnings.proofs.Fronts.{bare_polled, wait_next-blind}
use Rattle.usb_session_beginnings.proofs.Hosts.{bare, entered-blind}
use Rattle.usb_xfer.specs.declared.transfer.Completion.{Completion}

abbrev pub bare_reading : Reading HostState → Reading HostState
bare_reading w = record w { bus = bare w.bus }

abbrev pub bare_read : Read HostState → Read HostState
bare_read a = record a { left = bare_reading a.left }

-- submissions
submit_one-blind : (w : Reading HostState) → submit_one host_calls (bare_reading w) ≡ bare_reading (submit_one host_calls w)
submit_one-blind w =
    ap (λ h. reading h (with_pending (pending_of w ++ length (tickets w.bus.kernel.past) ∷ []) w.reader))
    (entered-blind w.reader.endpoint None (fresh_buffer w.reader.size) w.bus)

submit_more-blind : (n : ℕ) (w : Reading HostState) → submit_more host_calls n (bare_reading w) ≡ bare_reading (submit_more host_calls n w)
submit_more-blind zero w = refl
submit_more-blind (suc n) w = ap (submit_one host_calls) (submit_more-blind n w) ∙ submit_one-blind (submit_more host_calls n w)

pub filled-blind : (goal : ℕ) (w : Reading HostState) → filled_to host_calls goal (bare_reading w) ≡ bare_reading (filled_to host_calls goal w)
filled-blind goal w = submit_more-blind (goal - length (pending_of w)) w

-- turns
begins-blind : (few : Bool) (n : ℕ) (w : Reading HostState)
    → (if few then ended_off (submit_more host_calls n (bare_reading w)) else bare_reading w)
    ≡ bare_reading (if few then ended_off (submit_more host_calls n w) else w)
begins-blind true n w = ap ended_off (submit_more-blind n w)
begins-blind false n w = refl

begin_turn-blind : (w : Reading HostState) → begin_turn host_calls (bare_reading w) ≡ bare_reading (begin_turn host_calls w)
begin_turn-blind w = begins-blind (nat_lt (length (pending_of w)) w.reader.n) (w.reader.n - length (pending_of w)) w

-- what a call comes to that goes on with so many turns at most
abbrev rest : Bool → ℕ → ℕ → Reading HostState → Read HostState
rest until_short timeout n w = answered_by until_short (turned_from host_calls until_short timeout n w)

-- that this sees no place
abbrev RestBlind : Bool → ℕ → ℕ → Type 0
RestBlind until_short timeout n = (w : Reading HostState) → rest until_short timeout n (bare_reading w) ≡ bare_read (rest until_short timeout n w)

module _ (until_short : Bool) (timeout n : ℕ) (blind : RestBlind until_short timeout n) where
  -- what it comes to behind a wait for the front, behind a turn at which these are pending, and behind one that is made or not
  abbrev by_wait : ReaderState → Polled HostState → Read HostState
  by_wait r p = answered_by until_short (turned_on (wait_read r p).0 (wait_read r p).1 (turned_from host_calls until_short timeout n))

  abbrev by_front : List ℕ → Reading HostState → Read HostState
  by_front ts w =
      answered_by until_short
      (turned_on (turn_from host_calls timeout ts w).0 (turn_from host_calls timeout ts w).1 (turned_from host_calls until_short timeout n))

  abbrev by_turn : Bool → Reading HostState → Read HostState
  by_turn goes w =
      answered_by until_short
      (turned_if goes (λ w. turned_on (turn_once host_calls timeout w).0 (turn_once host_calls timeout w).1
      (turned_from host_calls until_short timeout n)) w)

  by_wait-blind : (r : ReaderState) (p : Polled HostState) (o : Option Completion)
      → by_wait r (record (bare_polled p) { completion = o }) ≡ bare_read (by_wait r (record p { completion = o }))
  by_wait-blind r p None = refl
  by_wait-blind r p (Some c) = blind (reading p.bus (with_taken c p.endpoint.pending (record r { endpoint = p.endpoint })))

  by_front-blind : (ts : List ℕ) (w : Reading HostState) → by_front ts (bare_reading w) ≡ bare_read (by_front ts w)
  by_front-blind [] w = refl
  by_front-blind (front ∷ others) w =
      let p = wait_next host_calls timeout w.bus w.reader.endpoint in
      ap (by_wait w.reader) (wait_next-blind timeout w.bus w.reader.endpoint) ∙ by_wait-blind w.reader p p.completion

  by_turn-blind : (goes : Bool) (w : Reading HostState) → by_turn goes (bare_reading w) ≡ bare_read (by_turn goes w)
  by_turn-blind true w =
      let begun = begin_turn host_calls w in
      ap (λ v. by_front (pending_of v) v) (begin_turn-blind w) ∙ by_front-blind (pending_of begun) begun
  by_turn-blind false w = refl

rest-blind : (until_short : Bool) (timeout n : ℕ) → RestBlind until_short timeout n
rest-blind until_short timeout zero w = refl
rest-blind until_short timeout (suc n) w = by_turn-blind until_short timeout n (rest-blind until_short timeout n) (turns until_short w.reader) w

-- reads
pub fill-blind : (until_short : Bool) (timeout : ℕ) (w : Reading HostState)
    → fill_came host_calls until_short timeout (bare_reading w) ≡ bare_read (fill_came host_calls until_short timeout w)
unfolding turned
fill-blind until_short timeout w = rest-blind until_short timeout (suc (most_turns (bus_of w.bus) w.reader)) w

handed_over-blind : (most : ℕ) (r : Result (List ℕ) ReadFault) (w : Reading HostState)
    → handed_over most r (bare_reading w) ≡ bare_read (handed_over most r w)
handed_over-blind most (Ok bytes) w = refl
handed_over-blind most (Err fault) w = refl

pub read-blind : (until_short : Bool) (timeout most : ℕ) (w : Reading HostState)
    → read_came host_calls until_short timeout most (bare_reading w) ≡ bare_read (read_came host_calls until_short timeout most w)
read-blind until_short timeout most w =
    let came = fill_came host_calls until_short timeout w in
    ap (read_of most) (fill-blind until_short timeout w) ∙ handed_over-blind most came.answer came.left
