-- What stands of a ticket that has no end.
use Rattle.std.proofs.Common.{◌≡◌, ◌<◌, ℕ, List, Option, Some, None, zero, suc, [], ◌∷◌, length, set, slice_get, true, refl, sym, ap, arith}
use Rattle.std.specs.Prelude.{IsSome, option_and_then}
use Rattle.std.specs.Option.{ForSome}
use Rattle.std.proofs.lemmas.Option.{none-some, same_Some}
use Rattle.usb_kernel.specs.declared.submission.Done.{Done}
use Rattle.usb_device_ledger.specs.declared.standing.Standing.{Standing}
use Rattle.usb_device_ledger.specs.declared.standing.Standing.TheVariants as standing
use Rattle.usb_device_ledger.specs.TicketStates.{TicketState, state_of, standing_of, standing_at}
use Rattle.usb_device_ledger.specs.TicketStates as slot
use Rattle.usb_device_ledger.specs.LedgerState.{host_ticket, ticket_key, slot_with, slot_without, is_given_up, abandoned_key}

state-standing : (s : TicketState) (x : Standing) → standing_of s ≡ Some x → s ≡ state_of x
state-standing (slot.HeldBy key transfer) x is = ap state_of (same_Some (standing.HeldBy key transfer) x is)
state-standing (slot.Abandoned key) x is = ap state_of (same_Some (standing.Abandoned key) x is)
state-standing (slot.Ended end) x is = absurd (none-some x is)

-- the slot of a ticket that has none
pub standing-slot : (slots : List TicketState) (t : ℕ) (x : Standing) → standing_at slots t ≡ Some x → slice_get slots t ≡ Some (state_of x)
standing-slot slots t x is = by (slice_get slots t) is
  where
    by : (o : Option TicketState) → option_and_then standing_of o ≡ Some x → o ≡ Some (state_of x)
    by None at = absurd (none-some x at)
    by (Some s) at = ap (λ (y : TicketState). Some y) (state-standing s x at)

keyed : (s : TicketState) → IsSome (ticket_key (host_ticket s)) → IsSome (standing_of s)
keyed (slot.HeldBy key transfer) some = refl
keyed (slot.Abandoned key) some = refl
keyed (slot.Ended end) some = some

-- a ticket with the key of an endpoint has none
pub keyed-standing : (slots : List TicketState) (t : ℕ) → t < length slots → ForSome (slice_get slots t) (λ s. IsSome (ticket_key (host_ticket s))) → IsSome (standing_at slots t)
keyed-standing [] t within some = absurd (omega arith)
keyed-standing (s ∷ ss) zero within some = keyed s (some s refl)
keyed-standing (s ∷ ss) (suc t) within some = keyed-standing ss t (omega arith) some

-- a ticket that has one keeps it
pub ended-with : (done : Done) (s : TicketState) → standing_of s ≡ None → slot_with done s ≡ s
ended-with done (slot.HeldBy key transfer) none = absurd (none-some _ (sym none))
ended-with done (slot.Abandoned key) none = absurd (none-some _ (sym none))
ended-with done (slot.Ended end) none = refl

pub ended-key : (s : TicketState) → standing_of s ≡ None → abandoned_key s ≡ None
ended-key (slot.HeldBy key transfer) none = absurd (none-some _ (sym none))
ended-key (slot.Abandoned key) none = absurd (none-some _ (sym none))
ended-key (slot.Ended end) none = refl

pub set-same : {X : Type 0} (xs : List X) (t : ℕ) (x : X) → slice_get xs t ≡ Some x → set xs t x ≡ xs
set-same [] t x at = refl
set-same (y ∷ ys) zero x at = ap (λ z. z ∷ ys) (sym (same_Some y x at))
set-same (y ∷ ys) (suc t) x at = ap (λ zs. y ∷ zs) (set-same ys t x at)

-- it is given up
pub without-key : (x : Standing) (key : ℕ) → ticket_key (host_ticket (state_of x)) ≡ Some key → slot_without (state_of x) ≡ slot.Abandoned key
without-key (standing.HeldBy k transfer) key is = ap slot.Abandoned (same_Some k key is)
without-key (standing.Abandoned k) key is = ap slot.Abandoned (same_Some k key is)

pub given-key : (s : TicketState) → is_given_up s ≡ true → ticket_key (host_ticket s) ≡ abandoned_key s
given-key (slot.HeldBy key transfer) is = absurd (cc)
given-key (slot.Abandoned key) is = refl
given-key (slot.Ended end) is = absurd (cc)

pub not-none : {X : Type 0} (o : Option X) → IsSome o → o ≡ None → ⊥
not-none None is none = absurd (cc)
not-none (Some x) is none = none-some x (sym none)
