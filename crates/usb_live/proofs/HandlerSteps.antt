-- Each step of the handler keeps the rule.
use Rattle.std.proofs.Common.{◌≡◌, ℕ, ◌+◌, ◌*◌, ◌/◌, ◌%◌, ◌<◌, ◌≢◌, ◌⊎◌, List, ◌∷◌, Bool, true, false, get_or, Option, Some, None, sym, refl, ap, ◌∙◌, subst, inl, inr, ⊎_elim, arith}
use Rattle.std.proofs.lemmas.List.{set-get_or, set-set, get_or-set_same}
use mathlib.Core.Logic.{dite}
use mathlib.Core.Option.{some, none}
use native.Mathlib.Decide.{ℕ_discrete}
use Rattle.atomic_table.specs.Table.{keeps, takes, gives, step, rest, Allows}
use Rattle.usb_xfer.specs.declared.transfer.Completion.{Completion}
use Rattle.usb_live.specs.declared.view.Transfer.{Transfer}
use Rattle.usb_live.specs.declared.view.Owned.{Owned}
use Rattle.usb_live.specs.declared.view.Owned.TheVariants.{Free, Filled, Mine, Pending, Left}
use Rattle.usb_live.specs.declared.view.Handled.{Handled}
use Rattle.usb_live.specs.declared.view.Handled.TheVariants.{Idle, Working, Reclaim, Reclaimed}
use Rattle.usb_live.specs.declared.view.OwnerCell.{OwnerCell}
use Rattle.usb_live.specs.declared.view.HandlerCell.{HandlerCell}
use Rattle.usb_live.specs.declared.view.View.{View}
use Rattle.usb_live.specs.declared.view.Side.TheVariants.{Handler}
use Rattle.usb_live.specs.Cells.{SlotValue, Home, Cell, CellAgrees, AtHome, Holds, HoldsLast, HandlerTakes}
use Rattle.usb_live.specs.Rows.{Rowed, handler_cell, idle_cell}
use Rattle.usb_live.specs.Steps.{Sat, HandlerFinds, MayFind, handling, looked, handler_took_out, handler_looked, completion_in, finished, handler_took}
use Rattle.usb_live.specs.Seats.{IsHandler}
use Rattle.usb_live.proofs.Kept.{handler_step}
use Rattle.usb_live.proofs.CellFacts.{or_true, or_false, leaves_home, handler_finds, in_home, owner_has_not}

pub takes_out : (n id i : ℕ) (m : Sat) → i < 64 → m.0.side ≡ Handler → (handler_cell m.0 i).out ≡ false → HandlerTakes (handler_cell m.0 i).stage
    → Allows Rowed n id m i (λ y. y) (handler_took_out (step n i 0 0 none) m)
takes_out n id i m near side at_home takes_it = let h : HandlerCell = handler_cell m.0 i in
    handler_step n id i m (λ y. y) (handler_took_out (step n i 0 0 none) m) near side
    (λ w home o c.
    let quiet = owner_has_not w home o h c takes_it in
    let x = in_home home o.out h.out c.out quiet at_home in
    let here : CellAgrees w (some x.0) o.stage h.stage h.last = subst (λ (y : Home). CellAgrees w y o.stage h.stage h.last) x.1 c.agrees in
    record {
      to = handling m.0 i h.stage true h.last;
      cell = record { stage = h.stage; out = true; last = h.last };
      act = takes i x.0;
      home_to = none;
      side = side;
      cells = refl;
      moves = (refl, x.1, refl);
      keeps = record { agrees = leaves_home w home o.stage h.stage h.last c.agrees; out = sym (or_true o.out); owner_out = c.owner_out; handler_out = λ _. takes_it };
      tells = (x.0, refl, handler_finds w x.0 o.stage h.stage h.last here);
    })

below_three : (w : ℕ) (home : Home) (s : Owned) (h : Handled) (last : Option Completion) → CellAgrees w home s h last → w % 4 < 3
below_three w home Free Idle last a = omega (arith, a.0)
below_three w home (Filled t) Idle last a = omega (arith, a.0)
below_three w home (Mine t) Idle last a = omega (arith, a.0)
below_three w home (Pending t) Idle last a = ⊎_elim (λ (p : (w ≡ 4 * t + 1) × AtHome (Holds t) home). let e = p.0 in omega arith) (λ (p : (w ≡ 4 * t) × AtHome (HoldsLast t last) home). let e = p.0 in omega arith) a
below_three w home (Left t) Idle last a = omega (arith, a.0)
below_three w home (Pending t) (Working u) last a = omega (arith, a.1)
below_three w home (Left t) (Working u) last a = omega (arith, a.1)
below_three w home (Left t) (Reclaim u) last a = omega (arith, a.1)
below_three w home (Left t) (Reclaimed u) last a = omega (arith, a.1)
below_three w home _ _ last a = absurd a

-- where the word is pending or abandoned, the handler works on it
goes_on : (w : ℕ) (home : Home) (s : Owned) (h : Handled) (last : Option Completion) → w % 4 ≢ 0 → CellAgrees w home s h last → CellAgrees w home s (Working (w / 4)) last
goes_on w home Free Idle last n a = absurd (n a.0)
goes_on w home (Filled t) Idle last n a = absurd (n (let e = a.0 in omega arith))
goes_on w home (Mine t) Idle last n a = absurd (n (let e = a.0 in omega arith))
goes_on w home (Pending t) Idle last n a = ⊎_elim (λ (p : (w ≡ 4 * t + 1) × AtHome (Holds t) home). let e = p.0 in (omega arith, e, p.1))
    (λ (p : (w ≡ 4 * t) × AtHome (HoldsLast t last) home). absurd (n (let e = p.0 in omega arith))) a
goes_on w home (Left t) Idle last n a = let e = a.0 in (omega arith, e, a.1)
goes_on w home (Pending t) (Working u) last n a = let e = a.1 in (omega arith, e, a.2)
goes_on w home (Left t) (Working u) last n a = let e = a.1 in (omega arith, e, a.2)
goes_on w home (Left t) (Reclaim u) last n a = absurd (n (let e = a.1 in omega arith))
goes_on w home (Left t) (Reclaimed u) last n a = absurd (n (let e = a.1 in omega arith))
goes_on w home _ _ last n a = absurd a

may_find : (w : ℕ) (home : Home) (s : Owned) (h : Handled) (last : Option Completion) → CellAgrees w home s h last → MayFind h w
may_find w home s Idle last a = tt
may_find w home (Pending t) (Working u) last a = let e = a.1 in (λ z. omega arith)
may_find w home (Left t) (Working u) last a = let e = a.1 in (λ z. omega arith)
may_find w home (Left t) (Reclaim u) last a = let e = a.1 in let f = a.0 in omega arith
may_find w home (Left t) (Reclaimed u) last a = let e = a.1 in let f = a.0 in omega arith
may_find w home _ _ last a = absurd a

pub looks : (n id i : ℕ) (m : Sat) → i < 64 → m.0.side ≡ Handler → Allows Rowed n id m i (λ y. y) (handler_looked (step n i 0 0 none) m)
looks n id i m near side = let h : HandlerCell = handler_cell m.0 i in
    handler_step n id i m (λ y. y) (handler_looked (step n i 0 0 none) m) near side
    (λ w home o c. let few = below_three w home o.stage h.stage h.last c.agrees in let found = may_find w home o.stage h.stage h.last c.agrees in dite (ℕ_discrete (w % 4) 0)
    (λ idle. record {
      to = looked m.0 i w;
      cell = h;
      act = keeps;
      home_to = home;
      side = side;
      cells = sym (set-get_or m.0.handler i idle_cell);
      moves = refl;
      keeps = c;
      tells = (few, found, (λ _. refl), (λ n. absurd (n idle)));
    })
    (λ busy. record {
      to = looked (handling m.0 i (Working (w / 4)) h.out h.last) i w;
      cell = record { stage = Working (w / 4); out = h.out; last = h.last };
      act = keeps;
      home_to = home;
      side = side;
      cells = refl;
      moves = refl;
      keeps = record { agrees = goes_on w home o.stage h.stage h.last busy c.agrees; out = c.out; owner_out = c.owner_out; handler_out = λ _. tt };
      tells = (few, found, (λ e. absurd (busy e)), (λ _. refl));
    }))

-- the cell that the handler works on, as its word shows it
working : (w t : ℕ) (home : Home) (s : Owned) (last : Option Completion) → CellAgrees w home s (Working t) last → ((w ≡ 4 * t + 1) × (s ≡ Pending t)) ⊎ ((w ≡ 4 * t + 2) × (s ≡ Left t))
working w t home Free last a = absurd a
working w t home (Filled u) last a = absurd a
working w t home (Mine u) last a = absurd a
working w t home (Pending u) last a = inl (a.1 ∙ ap (λ (k : ℕ). 4 * k + 1) (sym a.0), ap Pending (sym a.0))
working w t home (Left u) last a = inr (a.1 ∙ ap (λ (k : ℕ). 4 * k + 2) (sym a.0), ap Left (sym a.0))

-- the handler leaves the slot at home with this value, in another stage
handler_rests : (w n : ℕ) (home : Home) (x : SlotValue) (o : OwnerCell) (h : HandlerCell) (s : Handled) (last : Option Completion) → Cell w home o h → HandlerTakes h.stage
    → CellAgrees n (some x) o.stage s last → Cell n (some x) o (record { stage = s; out = false; last = last })
handler_rests w n home x o h s last c takes_it now = let quiet = owner_has_not w home o h c takes_it in record {
  agrees = now;
  out = sym (or_false o.out ∙ quiet);
  owner_out = c.owner_out;
  handler_out = λ e. absurd (cc);
}

pub finishes : (n id i new t : ℕ) (m : Sat) (x : Transfer) (d : Completion) → i < 64 → m.0.side ≡ Handler → (handler_cell m.0 i).stage ≡ Working t
    → m.1 ≡ (i, Some x) ∷ rest m.1 → x.ticket ≡ t → x.completion ≡ Some d → new ≡ 4 * t → Allows Rowed n id m i (λ _. new) (finished (step n i new 0 none) m)
finishes n id i new t m x d near side works has ticket done is = let h : HandlerCell = handler_cell m.0 i in
    let takes_it : HandlerTakes h.stage = subst HandlerTakes (sym works) tt in
    let put : completion_in m.1 ≡ Some d = ap completion_in has ∙ done in
    let same : new / 4 ≡ t = omega arith in
    let holds : HoldsLast t (completion_in m.1) (Some x) = (x, d, refl, ticket, done, put) in
    handler_step n id i m (λ _. new) (finished (step n i new 0 none) m) near side
    (λ w home o c. ⊎_elim
    (λ (p : (w ≡ 4 * t + 1) × (o.stage ≡ Pending t)). record {
      to = handling m.0 i Idle false (completion_in m.1);
      cell = record { stage = Idle; out = false; last = completion_in m.1 };
      act = gives;
      home_to = some (Some x);
      side = side;
      cells = refl;
      moves = (Some x, has, refl);
      keeps = handler_rests w new home (Some x) o h Idle (completion_in m.1) c takes_it (subst (λ (s : Owned). CellAgrees new (some (Some x)) s Idle (completion_in m.1)) (sym p.1) (inr (is, holds)));
      tells = inl ((let e = p.0 in omega arith), refl);
    })
    (λ (p : (w ≡ 4 * t + 2) × (o.stage ≡ Left t)). record {
      to = handling m.0 i (Reclaim (new / 4)) false (completion_in m.1);
      cell = record { stage = Reclaim (new / 4); out = false; last = completion_in m.1 };
      act = gives;
      home_to = some (Some x);
      side = side;
      cells = refl;
      moves = (Some x, has, refl);
      keeps = handler_rests w new home (Some x) o h (Reclaim (new / 4)) (completion_in m.1) c takes_it
          (subst (λ (s : Owned). CellAgrees new (some (Some x)) s (Reclaim (new / 4)) (completion_in m.1)) (sym p.1) (same, is, holds));
      tells = inr ((let e = p.0 in omega arith), refl);
    })
    (working w t home o.stage h.last (subst (λ (s : Handled). CellAgrees w home o.stage s h.last) works c.agrees)))

reclaiming : (w t : ℕ) (home : Home) (s : Owned) (last : Option Completion) → CellAgrees w home s (Reclaim t) last → s ≡ Left t
reclaiming w t home Free last a = absurd a
reclaiming w t home (Filled u) last a = absurd a
reclaiming w t home (Mine u) last a = absurd a
reclaiming w t home (Pending u) last a = absurd a
reclaiming w t home (Left u) last a = ap Left (sym a.0)

pub reclaims : (n id i new t : ℕ) (m : Sat) → i < 64 → m.0.side ≡ Handler → (handler_cell m.0 i).stage ≡ Reclaim t
    → m.1 ≡ (i, None) ∷ rest m.1 → new ≡ 4 * t → Allows Rowed n id m i (λ _. new) (handler_took (step n i new 0 none) m)
reclaims n id i new t m near side works has is = let h : HandlerCell = handler_cell m.0 i in
    let takes_it : HandlerTakes h.stage = subst HandlerTakes (sym works) tt in let same : new / 4 ≡ t = omega arith in
    handler_step n id i m (λ _. new) (handler_took (step n i new 0 none) m) near side
    (λ w home o c. record {
      to = handling m.0 i (Reclaimed (new / 4)) false h.last;
      cell = record { stage = Reclaimed (new / 4); out = false; last = h.last };
      act = gives;
      home_to = some None;
      side = side;
      cells = refl;
      moves = (None, has, refl);
      keeps = handler_rests w new home None o h (Reclaimed (new / 4)) h.last c takes_it
          (subst (λ (s : Owned). CellAgrees new (some None) s (Reclaimed (new / 4)) h.last) (sym (reclaiming w t home o.stage h.last (subst (λ (s : Handled). CellAgrees w home o.stage s h.last) works c.agrees))) (same, is, refl));
      tells = refl;
    })

-- the seat while the handler has the slot of the cell i out
abbrev pub Has : ℕ → View → Handled → Option Completion → SlotValue → List (ℕ × SlotValue) → Sat → Type 0
Has i v s last x r m = m ≡ (handling v i s true last, (i, x) ∷ r)

pub handling_here : (v : View) (i : ℕ) (s : Handled) (b : Bool) (last : Option Completion) → i < 64 → IsHandler v → handler_cell (handling v i s b last) i ≡ record { stage = s; out = b; last = last }
handling_here v i s b last near own = get_or-set_same v.handler i (record { stage = s; out = b; last = last }) idle_cell (omega (arith, own.1))

stage_here : (v : View) (i : ℕ) (s : Handled) (b : Bool) (last : Option Completion) → i < 64 → IsHandler v → (handler_cell (handling v i s b last) i).stage ≡ s
stage_here v i s b last near own = ap (λ (c : HandlerCell). c.stage) (handling_here v i s b last near own)

pub put_in : (i : ℕ) (v : View) (s : Handled) (last : Option Completion) (x y : SlotValue) (r : List (ℕ × SlotValue)) (m n : Sat) → Has i v s last x r m → n ≡ (m.0, (i, y) ∷ rest m.1) → Has i v s last y r n
put_in i v s last x y r m n e f = f ∙ ap (λ (z : Sat). (z.0, (i, y) ∷ rest z.1)) e

pub rested : (i : ℕ) (v : View) (s t : Handled) (last now : Option Completion) (x : SlotValue) (r : List (ℕ × SlotValue)) (m n : Sat) → Has i v s last x r m → n ≡ (handling m.0 i t false now, rest m.1) → n ≡ (handling v i t false now, r)
rested i v s t last now x r m n e f = f ∙ (ap (λ (z : Sat). (handling z.0 i t false now, rest z.1)) e
    ∙ ap (λ (l : List HandlerCell). (record v { handler = l }, r)) (set-set v.handler i (record { stage = s; out = true; last = last }) (record { stage = t; out = false; last = now })))

pub finishes_out : (n id i new t : ℕ) (m : Sat) (v : View) (r : List (ℕ × SlotValue)) (s : Handled) (last : Option Completion) (x : Transfer) (d : Completion) → Has i v s last (Some x) r m → s ≡ Working t
    → i < 64 → IsHandler v → x.ticket ≡ t → x.completion ≡ Some d → new ≡ 4 * t → Allows Rowed n id m i (λ _. new) (finished (step n i new 0 none) m)
finishes_out n id i new t m v r s last x d e works near own ticket done is = subst (λ (z : Sat). Allows Rowed n id z i (λ _. new) (finished (step n i new 0 none) z)) (sym e)
    (finishes n id i new t (handling v i s true last, (i, Some x) ∷ r) x d near own.0 (stage_here v i s true last near own ∙ works) refl ticket done is)

pub reclaims_out : (n id i new t : ℕ) (m : Sat) (v : View) (r : List (ℕ × SlotValue)) (s : Handled) (last : Option Completion) → Has i v s last None r m → s ≡ Reclaim t
    → i < 64 → IsHandler v → new ≡ 4 * t → Allows Rowed n id m i (λ _. new) (handler_took (step n i new 0 none) m)
reclaims_out n id i new t m v r s last e works near own is = subst (λ (z : Sat). Allows Rowed n id z i (λ _. new) (handler_took (step n i new 0 none) z)) (sym e)
    (reclaims n id i new t (handling v i s true last, (i, None) ∷ r) near own.0 (stage_here v i s true last near own ∙ works) refl is)

-- the completion that was put in last stays in the view
pub rested_same : (i : ℕ) (v : View) (s t : Handled) (last : Option Completion) (x : SlotValue) (r : List (ℕ × SlotValue)) (m n : Sat) → i < 64 → IsHandler v → Has i v s last x r m
    → n ≡ (handling m.0 i t false (handler_cell m.0 i).last, rest m.1) → n ≡ (handling v i t false last, r)
rested_same i v s t last x r m n near own e f = rested i v s t last (handler_cell m.0 i).last x r m n e f
    ∙ ap (λ (d : Option Completion). (handling v i t false d, r)) (ap (λ (z : Sat). (handler_cell z.0 i).last) e ∙ ap (λ (c : HandlerCell). c.last) (handling_here v i s true last near own))

-- what was read is what the slot had
pub found : (i : ℕ) (v : View) (s : Handled) (last : Option Completion) (x y : SlotValue) (r : List (ℕ × SlotValue)) (m : Sat) → Has i v s last x r m → m.1 ≡ (i, y) ∷ rest m.1 → y ≡ x
found i v s last x y r m e f = ap (λ (l : List (ℕ × SlotValue)). (get_or l 0 (i, y)).1) (sym f ∙ ap (λ (z : Sat). z.1) e)

pub found_ticket : (t : ℕ) (s : Handled) (last : Option Completion) (x y : SlotValue) (z : Transfer) → s ≡ Working t → HandlerFinds s last x → y ≡ x → y ≡ Some z → z.ticket ≡ t
found_ticket t s last x y z is finds e f = let h : Holds t x = subst (λ (k : Handled). HandlerFinds k last x) is finds in
    let same : Some z ≡ Some h.0 = sym f ∙ (e ∙ h.1) in let same' : z ≡ h.0 = cc in ap (λ (k : Transfer). k.ticket) same' ∙ h.2
