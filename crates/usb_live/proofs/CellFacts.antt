-- What the rule of one cell says in each stage.
use Rattle.std.proofs.Common.{◌≡◌, ℕ, Bool, true, false, ◌||◌, Option, sym, refl, subst, inl, inr, ⊎_elim, MatchBool}
use mathlib.Core.Option.{some, none}
use Rattle.usb_xfer.specs.declared.transfer.Completion.{Completion}
use Rattle.usb_live.specs.declared.view.Owned.{Owned}
use Rattle.usb_live.specs.declared.view.Owned.TheVariants.{Free, Filled, Mine, Pending, Left}
use Rattle.usb_live.specs.declared.view.Handled.{Handled}
use Rattle.usb_live.specs.declared.view.Handled.TheVariants.{Idle, Working, Reclaim, Reclaimed}
use Rattle.usb_live.specs.declared.view.OwnerCell.{OwnerCell}
use Rattle.usb_live.specs.declared.view.HandlerCell.{HandlerCell}
use Rattle.usb_live.specs.Cells.{SlotValue, Home, Cell, CellAgrees, Holds, HoldsLast, OwnerTakes, HandlerTakes, is_out}
use Rattle.usb_live.specs.Steps.{OwnerFinds, HandlerFinds}

pub not_out : (b : Bool) → (b ≡ true → ⊥) → b ≡ false
not_out false h = refl
not_out true h = absurd (h refl)

pub or_true : (b : Bool) → (b || true) ≡ true
or_true false = refl
or_true true = refl

pub or_false : (b : Bool) → (b || false) ≡ b
or_false false = refl
or_false true = refl

-- the owner may have the slot out only while the handler is idle
pub with_idle : (w : ℕ) (home : Home) (s : Owned) (h : Handled) (last : Option Completion) → OwnerTakes s → CellAgrees w home s h last → h ≡ Idle
with_idle w home Free Idle last k a = refl
with_idle w home Free (Working u) last k a = absurd a
with_idle w home Free (Reclaim u) last k a = absurd a
with_idle w home Free (Reclaimed u) last k a = absurd a
with_idle w home (Filled t) Idle last k a = refl
with_idle w home (Filled t) (Working u) last k a = absurd a
with_idle w home (Filled t) (Reclaim u) last k a = absurd a
with_idle w home (Filled t) (Reclaimed u) last k a = absurd a
with_idle w home (Mine t) Idle last k a = refl
with_idle w home (Mine t) (Working u) last k a = absurd a
with_idle w home (Mine t) (Reclaim u) last k a = absurd a
with_idle w home (Mine t) (Reclaimed u) last k a = absurd a
with_idle w home (Pending t) h last k a = absurd k
with_idle w home (Left t) h last k a = absurd k

-- where the handler may have the slot out, the owner may not
pub owner_waits : (w : ℕ) (home : Home) (s : Owned) (h : Handled) (last : Option Completion) → HandlerTakes h → CellAgrees w home s h last → OwnerTakes s → ⊥
owner_waits w home s Idle last k a o = k
owner_waits w home s (Reclaimed u) last k a o = k
owner_waits w home Free (Working u) last k a o = a
owner_waits w home (Filled t) (Working u) last k a o = a
owner_waits w home (Mine t) (Working u) last k a o = a
owner_waits w home (Pending t) (Working u) last k a o = o
owner_waits w home (Left t) (Working u) last k a o = o
owner_waits w home Free (Reclaim u) last k a o = a
owner_waits w home (Filled t) (Reclaim u) last k a o = a
owner_waits w home (Mine t) (Reclaim u) last k a o = a
owner_waits w home (Pending t) (Reclaim u) last k a o = a
owner_waits w home (Left t) (Reclaim u) last k a o = o

-- the rule asks nothing of a slot that is out
pub leaves_home : (w : ℕ) (home : Home) (s : Owned) (h : Handled) (last : Option Completion) → CellAgrees w home s h last → CellAgrees w none s h last
leaves_home w home Free Idle last a = (a.0, tt)
leaves_home w home (Filled t) Idle last a = (a.0, tt)
leaves_home w home (Mine t) Idle last a = (a.0, tt)
leaves_home w home (Pending t) Idle last a = ⊎_elim (λ p. inl (p.0, tt)) (λ p. inr (p.0, tt)) a
leaves_home w home (Left t) Idle last a = (a.0, tt)
leaves_home w home (Pending t) (Working u) last a = (a.0, a.1, tt)
leaves_home w home (Left t) (Working u) last a = (a.0, a.1, tt)
leaves_home w home (Left t) (Reclaim u) last a = (a.0, a.1, tt)
leaves_home w home (Left t) (Reclaimed u) last a = (a.0, a.1, tt)
leaves_home w home _ _ last a = absurd a

pub owner_finds : (w : ℕ) (x : SlotValue) (s : Owned) (last : Option Completion) → CellAgrees w (some x) s Idle last → OwnerFinds s x
owner_finds w x Free last a = a.1
owner_finds w x (Filled t) last a = tt
owner_finds w x (Mine t) last a = a.1
owner_finds w x (Pending t) last a = tt
owner_finds w x (Left t) last a = tt

pub handler_finds : (w : ℕ) (x : SlotValue) (s : Owned) (h : Handled) (last : Option Completion) → CellAgrees w (some x) s h last → HandlerFinds h last x
handler_finds w x s Idle last a = tt
handler_finds w x s (Reclaimed u) last a = tt
handler_finds w x (Pending t) (Working u) last a = subst (λ (k : ℕ). Holds k x) (sym a.0) a.2
handler_finds w x (Left t) (Working u) last a = subst (λ (k : ℕ). Holds k x) (sym a.0) a.2
handler_finds w x (Left t) (Reclaim u) last a = subst (λ (k : ℕ). HoldsLast k last x) (sym a.0) a.2
handler_finds w x _ _ last a = absurd a

-- a slot is at home where neither seat has it out
pub in_home : (home : Home) (a b : Bool) → is_out home ≡ (a || b) → a ≡ false → b ≡ false → (x : SlotValue) × (home ≡ some x)
in_home (some x) a b e p q = (x, refl)
in_home none false false e p q = absurd (cc)
in_home none true b e p q = absurd (cc)
in_home none false true e p q = absurd (cc)

pub handler_has_not : (w : ℕ) (home : Home) (o : OwnerCell) (h : HandlerCell) → Cell w home o h → OwnerTakes o.stage → h.out ≡ false
handler_has_not w home o h c k = not_out h.out (λ e. subst HandlerTakes (with_idle w home o.stage h.stage h.last k c.agrees) (c.handler_out e))

pub owner_has_not : (w : ℕ) (home : Home) (o : OwnerCell) (h : HandlerCell) → Cell w home o h → HandlerTakes h.stage → o.out ≡ false
owner_has_not w home o h c k = not_out o.out (λ e. owner_waits w home o.stage h.stage h.last k c.agrees (c.owner_out e))

pub when_true : (b : Bool) (P Q : Type 0) → b ≡ true → P → MatchBool b P Q
when_true b P Q e p = subst (λ (x : Bool). MatchBool x P Q) (sym e) p

pub when_false : (b : Bool) (P Q : Type 0) → b ≡ false → Q → MatchBool b P Q
when_false b P Q e q = subst (λ (x : Bool). MatchBool x P Q) (sym e) q
