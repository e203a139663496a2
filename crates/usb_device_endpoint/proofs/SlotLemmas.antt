-- The slots of the bus over a kernel alone.
use Rattle.std.proofs.Common.{ℕ, zero, suc, arith, ◌≡◌, ◌≢◌, ◌<◌, ◌≤◌, ◌+◌, true, false, cond, List, [], ◌∷◌, ◌++◌, length, set, get_or, slice_get, Option, Some, None, ◌⊎◌, inl, inr, refl, sym, ◌∙◌, ap, length-set, length-append}
use Rattle.std.specs.Prelude.{is_some, IsSome, option_and_then}
use Rattle.std.specs.Option.{option_map}
use Rattle.std.proofs.lemmas.Bool.{eq-eqb, ne_eqb}
use Rattle.std.proofs.lemmas.Option.{none-some, same_Some, slice_get-get_or, slice_get_within, slice_get-map}
use Rattle.usb_xfer.specs.declared.transfer.Completion.{Completion}
use Rattle.usb_xfer.specs.declared.transfer.Held.{Held}
use Rattle.usb_xfer.specs.declared.transfer.Held.TheVariants.{Complete}
use Rattle.usb_xfer.specs.declared.transfer.TransferData.{TransferData}
use Rattle.usb_xfer.specs.Transfers.{completion_held}
use Rattle.usb_kernel.specs.declared.event.Event.{Event}
use Rattle.usb_kernel.specs.declared.submission.Done.{Done}
use Rattle.usb_kernel.specs.declared.submission.Submission.{Submission}
use Rattle.usb_kernel.specs.Tickets.{Ticket, tickets}
use Rattle.usb_kernel.specs.Completions.{completion, completed, refused_done, reapable}
use Rattle.usb_kernel.specs.declared.submission.Submitted.{Submitted}
use Rattle.usb_kernel_devices.specs.declared.devices.DeviceState.{DeviceState}
use Rattle.usb_kernel_devices.specs.declared.step.KernelStep.{KernelStep}
use Rattle.usb_kernel.specs.Submits.{submit_or_refuse, queued_or_refused}
use Rattle.usb_kernel.specs.Timers.{timer_turned}
use Rattle.usb_kernel.specs.Steps.{stepped, step_done, after_reap, after_discard}
use Rattle.usb_kernel.proofs.Completions.{tickets-turned, completion-turned, completion-submit, completion-fresh, completion-refuse, completion-refused, completion-step, completion-reap, completion-discard, tickets-step, tickets-reap, tickets-discard}
use Rattle.usb_kernel.proofs.Rules.{slice_get-push}
use Rattle.usb_device_endpoint.specs.declared.kernel_slots.OwnedTransfer.{OwnedTransfer}
use Rattle.usb_kernel.specs.TransferCompletions.{completion_of, transfer_completion, CompletesOnly}
use Rattle.usb_kernel.specs.Holds.{Hold, held_of, held_at_once, value_for}
use Rattle.usb_device_endpoint.specs.KernelBusCalls.{hold_at, owner_at}
use Rattle.usb_device_endpoint.specs.KernelBusFacts.{hold_of, holds_of, holding, with_completion, ended_slot, Agree}

-- an element after a write
slice_get-set : {X : Type 0} (xs : List X) (i t : ℕ) (r x : X) → slice_get (set xs i r) t ≡ Some x → ((t ≡ i) × (x ≡ r)) ⊎ ((t ≢ i) × (slice_get xs t ≡ Some x))
slice_get-set [] i t r x at = absurd (none-some x at)
slice_get-set (y ∷ ys) zero zero r x at = inl (refl, sym (same_Some r x at))
slice_get-set (y ∷ ys) zero (suc t) r x at = inr (λ z. absurd (omega arith), at)
slice_get-set (y ∷ ys) (suc i) zero r x at = inr (λ z. absurd (omega arith), at)
slice_get-set (y ∷ ys) (suc i) (suc t) r x at = elim (slice_get-set ys i t r x at) [ inl w ↦ inl (ap suc w.0, w.1) | inr w ↦ inr (λ z. w.0 (omega arith), w.1) ]

pub slot_at : (slots : List OwnedTransfer) (i : ℕ) (s : OwnedTransfer) → i < length slots → s ≡ get_or slots i s → slice_get slots i ≡ Some s
slot_at slots i s within at = slice_get-get_or slots i s within ∙ ap Some (sym at)

-- the holds after a write
holds_of-set : (slots : List OwnedTransfer) (i : ℕ) (s : OwnedTransfer) → holds_of (set slots i s) ≡ set (holds_of slots) i (hold_of s)
holds_of-set [] i s = refl
holds_of-set (x ∷ xs) zero s = refl
holds_of-set (x ∷ xs) (suc i) s = ap (λ (l : List (Option Hold)). hold_of x ∷ l) (holds_of-set xs i s)

pub holds_of-ended : (slots : List OwnedTransfer) (i : ℕ) (s later : OwnedTransfer) → later ≡ ended_slot s → holds_of (set slots i later) ≡ set (holds_of slots) i None
holds_of-ended slots i s later is = holds_of-set slots i later ∙ ap (λ (x : OwnedTransfer). set (holds_of slots) i (hold_of x)) is

holds_of-same : (slots : List OwnedTransfer) (i : ℕ) (s next : OwnedTransfer) → slice_get slots i ≡ Some s → hold_of next ≡ hold_of s → holds_of (set slots i next) ≡ holds_of slots
holds_of-same [] i s next at same = absurd (none-some s at)
holds_of-same (x ∷ xs) zero s next at same = ap (λ (o : Option Hold). o ∷ holds_of xs) (same ∙ ap hold_of (sym (same_Some x s at)))
holds_of-same (x ∷ xs) (suc i) s next at same = ap (λ (l : List (Option Hold)). hold_of x ∷ l) (holds_of-same xs i s next at same)

hold_of-kept : (s : OwnedTransfer) (c : Completion) → hold_of (with_completion s c) ≡ hold_of s
hold_of-kept s c = elim (is_some s.owner) as (λ v. hold_of (cond v (record s { transfer = holding s.transfer (Complete c) }) s) ≡ hold_of s) [ true ↦ refl | false ↦ refl ]

pub holds_of-kept : (slots : List OwnedTransfer) (i : ℕ) (s later : OwnedTransfer) (c : Completion) → slice_get slots i ≡ Some s → later ≡ with_completion s c → holds_of (set slots i later) ≡ holds_of slots
holds_of-kept slots i s later c at is = holds_of-same slots i s later at (ap hold_of is ∙ hold_of-kept s c)

-- the place of a ticket's slot
hold_at-slot : (slots : List OwnedTransfer) (i : ℕ) (s : OwnedTransfer) → slice_get slots i ≡ Some s → hold_at (holds_of slots) i ≡ hold_of s
hold_at-slot slots i s at =
    ap (λ (o : Option (Option Hold)). option_and_then (λ (p : Option Hold). p) o) (slice_get-map hold_of slots i ∙ ap (option_map hold_of) at)

pub owner-within : (slots : List OwnedTransfer) (i : ℕ) → IsSome (owner_at (holds_of slots) i) → i < length slots
owner-within [] i some = absurd (cc)
owner-within (x ∷ xs) zero some = omega arith
owner-within (x ∷ xs) (suc i) some = let IH = owner-within xs i some in omega arith

-- what is known of a ticket that is held
record HeldSlot (past : List Event) (slots : List OwnedTransfer) (i : ℕ) (s : OwnedTransfer) : Type 0 where
  place : hold_at (holds_of slots) i ≡ hold_of s
  owned : is_some s.owner ≡ true
  held : s.transfer.held ≡ held_of (cond (is_some s.owner) (transfer_completion past i) None)

owned-if : (s : OwnedTransfer) → IsSome (option_map (λ (p : Hold). p.key) (hold_of s)) → is_some s.owner ≡ true
owned-if s some = by_owner s.owner s.transfer some
  where
    by_owner : (o : Option ℕ) (t : TransferData) → IsSome (option_map (λ (p : Hold). p.key) (hold_of (record { owner = o; transfer = t }))) → is_some o ≡ true
    by_owner None t some = some
    by_owner (Some k) t some = refl

held_slot : (past : List Event) (slots : List OwnedTransfer) (i : ℕ) (s : OwnedTransfer) → Agree past slots → slice_get slots i ≡ Some s → IsSome (owner_at (holds_of slots) i) → HeldSlot past slots i s
held_slot past slots i s agree at some =
    let place = hold_at-slot slots i s at in
    record {
      place = place;
      owned = owned-if s (rw place at some);
      held = agree.each i s at;
    }

come-if : (o : Option ℕ) (t : TransferData) (come : Option Completion) → is_some o ≡ true → t.held ≡ held_of (cond (is_some o) come None) → is_some (completion_held t.held) ≡ is_some (value_for come (hold_of (record { owner = o; transfer = t })))
come-if None t come owned held = absurd (cc)
come-if (Some k) t None owned held = rw held refl
come-if (Some k) t (Some c) owned held = rw held refl

-- whether its transfer is complete
pub has-come : (past : List Event) (slots : List OwnedTransfer) (i : ℕ) (s : OwnedTransfer) → Agree past slots → slice_get slots i ≡ Some s → IsSome (owner_at (holds_of slots) i) → is_some (completion_held s.transfer.held) ≡ is_some (value_for (transfer_completion past i) (hold_at (holds_of slots) i))
has-come past slots i s agree at some =
    let h = held_slot past slots i s agree at some in
    come-if s.owner s.transfer (transfer_completion past i) h.owned h.held ∙ ap (λ (p : Option Hold). is_some (value_for (transfer_completion past i) p)) (sym h.place)

value-if : (o : Option ℕ) (t : TransferData) (come : Option Completion) → is_some o ≡ true → IsSome (value_for come (hold_of (record { owner = o; transfer = t }))) → t.held ≡ held_of (cond (is_some o) come None) → value_for come (hold_of (record { owner = o; transfer = t })) ≡ Some t
value-if None t come owned some held = absurd (cc)
value-if (Some k) t None owned some held = absurd (cc)
value-if (Some k) t (Some c) owned some held = ap (λ (h : Held). Some (holding t h)) (sym held)

-- and its value then
pub held-value : (past : List Event) (slots : List OwnedTransfer) (i : ℕ) (s : OwnedTransfer) → Agree past slots → slice_get slots i ≡ Some s → IsSome (owner_at (holds_of slots) i) → IsSome (value_for (transfer_completion past i) (hold_at (holds_of slots) i)) → value_for (transfer_completion past i) (hold_at (holds_of slots) i) ≡ Some s.transfer
held-value past slots i s agree at some come =
    let h = held_slot past slots i s agree at some in
    ap (value_for (transfer_completion past i)) h.place ∙ value-if s.owner s.transfer (transfer_completion past i) h.owned (rw h.place at come) h.held

-- a ticket that ends
pub Agree-end : (past : List Event) (slots : List OwnedTransfer) (i : ℕ) (s later : OwnedTransfer) → Agree past slots → later ≡ ended_slot s → Agree past (set slots i later)
Agree-end past slots i s later agree is =
    record {
      count = length-set slots i later ∙ agree.count;
      each = λ t x here. elim (slice_get-set slots i t later x here) [ inl w ↦ rw (w.1, is) refl | inr w ↦ agree.each t x w.1 ];
    }

-- the completions after the one that came
completed-same : (d : Done) (before : ℕ → Option Done) (t : ℕ) → d.ticket ≡ t → completed (Some d) before t ≡ Some d
completed-same d before t same = rw (eq-eqb d.ticket t same) refl

completed-other : (d : Done) (before : ℕ → Option Done) (t : ℕ) → d.ticket ≢ t → completed (Some d) before t ≡ before t
completed-other d before t apart = rw (ne_eqb d.ticket t apart) refl

transfer-as : (old new : List Event) (t u : ℕ) → completion new t ≡ completion old u → transfer_completion new t ≡ transfer_completion old u
unfolding transfer_completion
transfer-as old new t u same = ap (option_map completion_of) same

transfer-is : (past : List Event) (t : ℕ) (o : Option Done) → completion past t ≡ o → transfer_completion past t ≡ option_map completion_of o
unfolding transfer_completion
transfer-is past t o is = ap (option_map completion_of) is

-- where no completion came
pub Agree-none : (past next : List Event) (slots : List OwnedTransfer) (came : Option Done) → Agree past slots → CompletesOnly past next came → came ≡ None → Agree next slots
Agree-none past next slots came agree only is =
    record {
      count = agree.count ∙ sym only.count;
      each = λ t x here.
          let now : transfer_completion next t ≡ transfer_completion past t = transfer-as past next t t (only.each t ∙ ap (λ (o : Option Done). completed o (completion past) t) is) in
          rw now (agree.each t x here);
    }

-- where one came of a ticket that has no slot
pub Agree-beyond : (past next : List Event) (slots : List OwnedTransfer) (d : Done) (came : Option Done) → Agree past slots → CompletesOnly past next came → came ≡ Some d → length slots ≤ d.ticket → Agree next slots
Agree-beyond past next slots d came agree only is beyond =
    record {
      count = agree.count ∙ sym only.count;
      each = λ t x here.
          let within : t < length slots = slice_get_within slots t x here in
          let apart : d.ticket ≢ t = λ same. omega arith in
          let now : transfer_completion next t ≡ transfer_completion past t = transfer-as past next t t (only.each t ∙ (ap (λ (o : Option Done). completed o (completion past) t) is ∙ completed-other d (completion past) t apart)) in
          rw now (agree.each t x here);
    }

kept-if : (o : Option ℕ) (t : TransferData) (c : Completion) (was come : Option Completion) → come ≡ Some c → t.held ≡ held_of (cond (is_some o) was None)
    → (with_completion (record { owner = o; transfer = t }) c).transfer.held ≡ held_of (cond (is_some (with_completion (record { owner = o; transfer = t }) c).owner) come None)
kept-if None t c was come is old = old
kept-if (Some k) t c was come is old = rw is refl

-- where it came of one that has
pub Agree-store : (past next : List Event) (slots : List OwnedTransfer) (d : Done) (came : Option Done) (s later : OwnedTransfer) → Agree past slots → CompletesOnly past next came → came ≡ Some d → slice_get slots d.ticket ≡ Some s → later ≡ with_completion s (completion_of d) → Agree next (set slots d.ticket later)
Agree-store past next slots d came s later agree only is at kept =
    record {
      count = length-set slots d.ticket later ∙ (agree.count ∙ sym only.count);
      each = λ t x here.
          let now : completion next t ≡ completed (Some d) (completion past) t = only.each t ∙ ap (λ (o : Option Done). completed o (completion past) t) is in
          elim (slice_get-set slots d.ticket t later x here) [
            | inl w ↦
                let come : transfer_completion next t ≡ Some (completion_of d) = transfer-is next t (Some d) (now ∙ completed-same d (completion past) t (sym w.0)) in
                rw (w.1, kept) (kept-if s.owner s.transfer (completion_of d) (transfer_completion past d.ticket) (transfer_completion next t) come (agree.each d.ticket s at))
            | inr w ↦
                let same : transfer_completion next t ≡ transfer_completion past t = transfer-as past next t t (now ∙ completed-other d (completion past) t (λ e. w.0 (sym e))) in
                rw same (agree.each t x w.1)
          ];
    }

-- the next ticket, with its completion where it is refused
entered-before : (past : List Event) (sub : Submission) (refusal : Option ℕ) (n t : ℕ) → t < length (tickets past) → completion (submit_or_refuse n sub refusal ∷ past) t ≡ completion past t
entered-before past sub None n t within = completion-submit past n sub.device sub.endpoint sub.maximum _ sub.buffer.room sub.deadline t
entered-before past sub (Some errno) n t within = completion-refuse past sub n errno t within

entered-new : (past : List Event) (sub : Submission) (refusal : Option ℕ)
    → held_at_once (queued_or_refused (length (tickets past)) sub refusal) ≡ held_of (transfer_completion (submit_or_refuse (length (tickets past)) sub refusal ∷ past) (length (tickets past)))
entered-new past sub None =
    let none : completion (submit_or_refuse (length (tickets past)) sub None ∷ past) (length (tickets past)) ≡ None =
    completion-submit past (length (tickets past)) sub.device sub.endpoint sub.maximum _ sub.buffer.room sub.deadline (length (tickets past)) ∙ completion-fresh past (length (tickets past)) (omega arith) in
    ap held_of (sym (transfer-is _ (length (tickets past)) None none))
entered-new past sub (Some errno) =
    ap held_of (sym (transfer-is (submit_or_refuse (length (tickets past)) sub (Some errno) ∷ past) (length (tickets past)) (Some (refused_done (length (tickets past)) sub errno)) (completion-refused past sub (length (tickets past)) errno)))

entered-count : (past : List Event) (sub : Submission) (refusal : Option ℕ) (n : ℕ) → length (tickets (submit_or_refuse n sub refusal ∷ past)) ≡ length (tickets past) + 1
entered-count past sub None n = omega (arith, length-append {A = Ticket})
entered-count past sub (Some errno) n = omega (arith, length-append {A = Ticket})

pub Agree-enter : (past : List Event) (slots : List OwnedTransfer) (sub : Submission) (refusal : Option ℕ) (key : ℕ) (transfer : TransferData) → Agree past slots
    → Agree (submit_or_refuse (length (tickets past)) sub refusal ∷ past) (slots ++ record { owner = Some key; transfer = holding transfer (held_at_once (queued_or_refused (length (tickets past)) sub refusal)) } ∷ [])
Agree-enter past slots sub refusal key transfer agree =
    let later = submit_or_refuse (length (tickets past)) sub refusal ∷ past in
    let new : OwnedTransfer = record { owner = Some key; transfer = holding transfer (held_at_once (queued_or_refused (length (tickets past)) sub refusal)) } in
    let one : length (slots ++ new ∷ []) ≡ length slots + 1 = length-append slots (new ∷ []) in
    record {
      count = omega (arith, one, agree.count, entered-count past sub refusal (length (tickets past)));
      each = λ t x here.
          elim (slice_get-push slots new t x here) [
            | inl before ↦
                let within = slice_get_within slots t x before in
                let same : transfer_completion later t ≡ transfer_completion past t = transfer-as past later t t (entered-before past sub refusal (length (tickets past)) t (omega (arith, agree.count))) in
                rw same (agree.each t x before)
            | inr last ↦
                let n : t ≡ length (tickets past) = last.0 ∙ agree.count in
                rw (← last.1, n) (entered-new past sub refusal)
          ];
    }

-- the same, as the calls say it
pub Agree-entered : (past later : List Event) (slots reserved after : List OwnedTransfer) (sub : Submission) (refusal : Option ℕ) (key : ℕ) (transfer : TransferData) (submitted : Submitted) → Agree past slots
    → later ≡ submit_or_refuse (length (tickets past)) sub refusal ∷ past → reserved ≡ slots → submitted ≡ queued_or_refused (length (tickets past)) sub refusal
    → after ≡ reserved ++ record { owner = Some key; transfer = holding transfer (held_at_once submitted) } ∷ [] → Agree later after
Agree-entered past later slots reserved after sub refusal key transfer submitted agree is same answer items =
    rw (items, same, answer, is) (Agree-enter past slots sub refusal key transfer agree)

-- which completion a step, a reap and a discard bring
pub completes-step : (devices : List DeviceState) (clock : ℕ) (past : List Event) (s : KernelStep) (came : Option Done) → came ≡ step_done past s → CompletesOnly past (stepped devices clock past s) came
completes-step devices clock past s came is =
    record { count = ap length (tickets-step devices clock past s); each = λ u. completion-step devices clock past s u ∙ ap (λ (o : Option Done). completed o (completion past) u) (sym is) }

pub completes-reap : (past : List Event) (t : ℕ) (came : Option Done) → came ≡ reapable past t → CompletesOnly past (after_reap past t) came
completes-reap past t came is =
    record { count = ap length (tickets-reap past t); each = λ u. completion-reap past t u ∙ ap (λ (o : Option Done). completed o (completion past) u) (sym is) }

pub completes-timer : (clock : ℕ) (past : List Event) → CompletesOnly past (timer_turned clock past) None
completes-timer clock past = record { count = ap length (tickets-turned clock past); each = completion-turned clock past }

pub completes-discard : (past : List Event) (t : ℕ) → CompletesOnly past (after_discard past t) None
completes-discard past t = record { count = ap length (tickets-discard past t); each = completion-discard past t }

pub Agree-at : (past past' : List Event) (slots slots' : List OwnedTransfer) → past' ≡ past → slots' ≡ slots → Agree past slots → Agree past' slots'
Agree-at past past' slots slots' same same' agree = rw (same, same') agree
