-- Waits for a ticket that is finished.
use Rattle.std.proofs.Common.{ℕ, ◌<◌, ◌≡◌, true, false, List, [], ◌∷◌, ◌++◌, length, Option, Some, None, slice_get, refl, sym, ◌∙◌, ap, inl, inr}
use Rattle.std.proofs.lemmas.Option.{none-some, slice_get_within}
use Rattle.std.specs.Prelude.{IsSome, is_some}
use Rattle.std.specs.Option.{option_map}
use Rattle.usb_kernel.specs.declared.event.Event.{Event}
use Rattle.usb_kernel.specs.Tickets.{Ticket, tickets}
use Rattle.usb_kernel.specs.Fates.{Fate}
use Rattle.usb_kernel.specs.Journal.{fate}
use Rattle.usb_kernel.specs.Completions.{completion, completion_if, completion_for, done_of, lowest}
use Rattle.usb_kernel.specs.Laws.{TicketStays, StatusStays, FinishedIsReapable, ReapableHasLowest, DiscardFinishes, DiscardExtends}
use Rattle.usb_kernel.specs.Steps.{after_discard}
use Rattle.usb_kernel.specs.declared.submission.Submission.{Submission}
use Rattle.usb_kernel.specs.Submissions.{ticket_of, refused_of}
use Rattle.usb_kernel.specs.Submits.{submit_or_refuse}
use Rattle.usb_xfer.specs.BufferState.{BufferState}
use Rattle.usb_device_endpoint.specs.declared.route.Route.{Route}
use Rattle.usb_device_endpoint.specs.Routes.{submission_of}
use Rattle.usb_device_endpoint.specs.Submitted.{Entered}
use Rattle.usb_device_endpoint.specs.Closes.{all_discarded}
use Rattle.usb_device_endpoint.specs.BusState.{BusState}
use Rattle.usb_device_endpoint.specs.Later.{Extends}
use Rattle.usb_kernel.specs.TransferCompletions.{completion_of, transfer_completion}
use Rattle.usb_device_endpoint.specs.Blocking.{IsFinished}
use Rattle.usb_device_endpoint.specs.Waits.{TimeWasUp, EndedWhy, front_of}

-- as a journal goes on, a finished ticket stays finished
pub IsFinished-later : (old new : List Event) (t : ℕ) → TicketStays → StatusStays → Extends old new → IsFinished old t → IsFinished new t
IsFinished-later old new t stays keeps more finished =
    record {
      ticket = finished.ticket;
      is = stays old new t finished.ticket more finished.is;
      errno = finished.errno;
      status = keeps old new t finished.errno more finished.status;
    }

-- a finished ticket without a completion is not reaped
unreaped_if : (t : ℕ) (s : Ticket) (f : Fate) (errno : ℕ) → f.status ≡ Some errno → option_map completion_of (completion_for t s f) ≡ None → f.reaped ≡ false
unreaped_if t s f errno status none =
    elim f.reaped as (λ r. option_map completion_of (completion_for t s (record f { reaped = r })) ≡ None → r ≡ false) [
      | true ↦ λ is. absurd (none-some _ (sym is ∙ ap (λ (o : Option ℕ). option_map completion_of (option_map (λ errno. done_of t s (record f { reaped = true }) errno) o)) status))
      | false ↦ λ is. refl
    ] none

unreaped : (past : List Event) (t : ℕ) → IsFinished past t → transfer_completion past t ≡ None → (fate past t).reaped ≡ false
unfolding transfer_completion completion
unreaped past t finished none =
    let is = ap (λ (o : Option Ticket). option_map completion_of (completion_if t o (fate past t))) finished.is in
    unreaped_if t finished.ticket (fate past t) finished.errno finished.status (sym is ∙ none)

-- so time is not up
pub time-is_not_up : (old : BusState) (t : ℕ) → TicketStays → StatusStays → FinishedIsReapable → ReapableHasLowest → IsFinished old.past t → TimeWasUp old t → ⊥
time-is_not_up old t stays keeps reaps waits finished up =
    let now = IsFinished-later old.past up.at.past t stays keeps up.later.past finished in
    let can = reaps up.at.past t (slice_get_within (tickets up.at.past) t now.ticket now.is) (ap is_some now.status) (unreaped up.at.past t now up.not_come) in
    let some : IsSome (lowest up.at.past) = waits up.at.past t can in
    let none : is_some (lowest up.at.past) ≡ false = ap is_some up.none_waits in
    cc

-- a wait of a second for a finished ticket makes a turn
pub less-left : (old new : BusState) (t timeout : ℕ) → (TimeWasUp old t → ⊥) → 0 < timeout → EndedWhy old new t timeout → new.turns_left < old.turns_left
less-left old new t timeout never some why = elim why [ inl up ↦ absurd (never up) | inr less ↦ less some ]

option_some : {A : Type 0} (o : Option A) → IsSome o → (x : A) × (o ≡ Some x)
option_some None is = absurd (let e : false ≡ true = is in cc)
option_some (Some x) is = (x, refl)

-- a ticket that was discarded is finished
pub IsFinished-discarded : (past : List Event) (t : ℕ) (s : Ticket) → TicketStays → DiscardExtends → DiscardFinishes → slice_get (tickets past) t ≡ Some s → IsFinished (after_discard past t) t
IsFinished-discarded past t s stays extends finishes is =
    let status = option_some _ (finishes past t (slice_get_within (tickets past) t s is)) in
    record { ticket = s; is = stays past (after_discard past t) t s (extends past t) is; errno = status.0; status = status.1 }

-- the ticket that a submission got
last-is : {A : Type 0} (xs : List A) (x : A) → slice_get (xs ++ x ∷ []) (length xs) ≡ Some x
last-is [] x = refl
last-is (y ∷ ys) x = last-is ys x

entered-ticket : (past : List Event) (s : Submission) (refusal : Option ℕ) → (ticket : Ticket) × (slice_get (tickets (submit_or_refuse (length (tickets past)) s refusal ∷ past)) (length (tickets past)) ≡ Some ticket)
entered-ticket past s None = (ticket_of s, last-is (tickets past) (ticket_of s))
entered-ticket past s (Some errno) = (refused_of s, last-is (tickets past) (refused_of s))

-- is finished once it was waited for in vain and cancelled
pub IsFinished-cancelled : (first sent waited cancelled : BusState) (to : Route) (b : BufferState) (refusal : Option ℕ) (pending : List ℕ) → TicketStays → DiscardExtends → DiscardFinishes
    → Entered first sent to None b refusal → Extends sent.past waited.past → pending ≡ length (tickets first.past) ∷ [] → cancelled.past ≡ all_discarded after_discard waited.past pending
    → IsFinished cancelled.past (front_of pending)
IsFinished-cancelled first sent waited cancelled to b refusal pending stays extends finishes enters more is after =
    let new = entered-ticket first.past (submission_of to None b) refusal in
    let here : slice_get (tickets sent.past) (length (tickets first.past)) ≡ Some new.0 = ap (λ (past : List Event). slice_get (tickets past) (length (tickets first.past))) enters.past ∙ new.1 in
    let there = stays sent.past waited.past (length (tickets first.past)) new.0 more here in
    let done = IsFinished-discarded waited.past (length (tickets first.past)) new.0 stays extends finishes there in
    rw (after, is) done
