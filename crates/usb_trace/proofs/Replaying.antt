-- Events that are done again, one after another.
use Rattle.std.proofs.Common.{◌≡◌, ℕ, zero, suc, true, false, List, [], ◌∷◌, ◌++◌, length, map, reverse, slice_get, Some, refl, sym, ap, ◌∙◌, arith}
use Rattle.std.proofs.Math.Seq.{take-append_seam}
use Rattle.std.proofs.lemmas.List.{map-append, reverse-append, length-map, length-reverse, take-append-le}
use Rattle.std.proofs.lemmas.Option.{slice_get_within}
use Rattle.usb_kernel.specs.declared.event.Event.{Event}
use Rattle.usb_kernel.specs.declared.event.Event.TheVariants.{Submit, Refuse, Packet, Ack, Echo, Fail, Discard, Reap, Unplug}
use Rattle.usb_kernel.specs.Acts.{acts}
use Rattle.usb_kernel.specs.declared.event.Body.TheVariants.{Wanted, Sent}
use Rattle.usb_kernel.specs.Value.{KernelState}
use Rattle.usb_trace.specs.declared.replay.Replay.{Replay}
use Rattle.usb_trace.specs.declared.replay.Replay.TheVariants.{Going, Stopped}
use Rattle.usb_trace.specs.Replayed.{IsReplayed}
use Rattle.usb_trace.specs.Replays.{IsAppended, CanBeDone, IsReplay, StopsAt}
use Rattle.usb_trace_lines.specs.Forms.{IsTold}
use Rattle.usb_trace_lines.specs.Capacities.{with_capacity, without_capacity}

acts-own : (past : List Event) (room : ℕ) (event : Event) → acts past (with_capacity room event) ≡ acts past event
acts-own past room (Submit t d e m body r deadline) = refl
acts-own past room (Refuse t d e m body r errno) = refl
acts-own past room (Packet d e b) = refl
acts-own past room (Ack d e) = refl
acts-own past room (Echo d o i) = refl
acts-own past room (Fail d e errno) = refl
acts-own past room (Discard t) = refl
acts-own past room (Reap t) = refl
acts-own past room (Unplug d) = refl

bare-own : (room : ℕ) (event : Event) → without_capacity (with_capacity room event) ≡ without_capacity event
bare-own room (Submit t d e m body r deadline) = refl
bare-own room (Refuse t d e m body r errno) = refl
bare-own room (Packet d e b) = refl
bare-own room (Ack d e) = refl
bare-own room (Echo d o i) = refl
bare-own room (Fail d e errno) = refl
bare-own room (Discard t) = refl
bare-own room (Reap t) = refl
bare-own room (Unplug d) = refl

reverse-last : (xs : List Event) (e : Event) → reverse (xs ++ e ∷ []) ≡ e ∷ reverse xs
reverse-last xs e = reverse-append xs (e ∷ [])

-- ---- one event more

-- it acts
pub replay-next : (events past new : List Event) (e : Event) → IsReplay events past → acts past e ≡ true → IsAppended past new e → IsReplay (events ++ e ∷ []) new
replay-next events past new e r acted more = record {
  acts = rw more.1 (acts-own past more.0 e ∙ acted, r.acts);
  same =
      ap (map without_capacity) more.1
      ∙ ap (λ (x : Event). x ∷ map without_capacity past) (bare-own more.0 e)
      ∙ ap (λ (l : List Event). without_capacity e ∷ l) r.same
      ∙ sym (reverse-last (map without_capacity events) (without_capacity e))
      ∙ ap reverse (sym (map-append without_capacity events (e ∷ [])));
}

-- as many events are in the journal
pub replay-length : (events past : List Event) → IsReplay events past → length past ≡ length events
replay-length events past r =
    sym (length-map past without_capacity) ∙ ap length r.same ∙ length-reverse (map without_capacity events) ∙ length-map events without_capacity

last-there : (events : List Event) (e : Event) → slice_get (events ++ e ∷ []) (length events) ≡ Some e
last-there [] e = refl
last-there (x ∷ events) e = last-there events e

-- it is the first that doesn't act
pub stops-next : (events past : List Event) (e : Event) (place : ℕ) → IsReplay events past → acts past e ≡ false → place ≡ length past → StopsAt (events ++ e ∷ []) place
stops-next events past e place r idle here =
    let count : place ≡ length events = here ∙ replay-length events past r in
    rw count (record { past = past; before = rw (take-append_seam events (e ∷ [])) r; event = e; at = last-there events e; idle = idle })

still-there : (events : List Event) (e : Event) (place : ℕ) (x : Event) → slice_get events place ≡ Some x → slice_get (events ++ e ∷ []) place ≡ Some x
still-there [] e place x at = absurd (let h = at in cc)
still-there (y ∷ events) e zero x at = at
still-there (y ∷ events) e (suc place) x at = still-there events e place x at

-- it comes behind the first that doesn't act
pub stops-more : (events : List Event) (e : Event) (place : ℕ) → StopsAt events place → StopsAt (events ++ e ∷ []) place
stops-more events e place s =
    let within = slice_get_within events place s.event s.at in
    record {
      past = s.past;
      before = rw (take-append-le place events (e ∷ []) (omega arith)) s.before;
      event = s.event;
      at = still-there events e place s.event s.at;
      idle = s.idle;
    }

pub replayed-more : (replay : Replay) (events : List Event) (e : Event) → ((kernel : KernelState) → replay ≡ Going kernel → ⊥) → IsReplayed events replay → IsReplayed (events ++ e ∷ []) replay
replayed-more (Going kernel) events e stopped r = absurd (stopped kernel refl)
replayed-more (Stopped place) events e stopped r = stops-more events e place r

-- ---- what a line tells can be done again

pub told-done : (event : Event) → IsTold event → CanBeDone event
told-done (Submit t d e m (Wanted n) room deadline) is = let sized = is.0.sized in (is.0.direction, omega arith)
told-done (Submit t d e m (Sent bytes) room deadline) is = let sized = is.0.sized in (is.0.direction.0, omega arith)
told-done (Refuse t d e m (Wanted n) room errno) is = let sized = is.0.sized in ((is.0.direction, omega arith), is.1)
told-done (Refuse t d e m (Sent bytes) room errno) is = let sized = is.0.sized in ((is.0.direction.0, omega arith), is.1)
told-done (Packet d e bytes) is = tt
told-done (Ack d e) is = tt
told-done (Echo d o i) is = tt
told-done (Fail d e errno) is = is.1.1
told-done (Discard t) is = tt
told-done (Reap t) is = tt
told-done (Unplug d) is = is
