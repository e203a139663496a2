-- Each step of the owner keeps the rule.
use Rattle.std.proofs.Common.{◌≡◌, ℕ, ◌+◌, ◌*◌, ◌/◌, ◌%◌, ◌<◌, ◌⊎◌, List, ◌∷◌, Bool, true, false, ◌||◌, eqb, get_or, Option, Some, None, sym, refl, ap, ◌∙◌, subst, inl, inr, ⊎_elim, arith}
use Rattle.std.proofs.lemmas.List.{set-get_or, set-set, get_or-set_same}
use mathlib.Core.Option.{some, none}
use prog.Atomic.{either}
use Rattle.atomic_table.specs.Table.{keeps, takes, gives, step, rest, Allows}
use Rattle.atomic_table.proofs.Lists.{exchanged}
use Rattle.usb_xfer.specs.declared.transfer.Completion.{Completion}
use Rattle.usb_live.specs.declared.view.Transfer.{Transfer}
use Rattle.usb_live.specs.declared.view.Owned.{Owned}
use Rattle.usb_live.specs.declared.view.Owned.TheVariants.{Free, Filled, Mine, Pending, Left}
use Rattle.usb_live.specs.declared.view.Handled.{Handled}
use Rattle.usb_live.specs.declared.view.Handled.TheVariants.{Idle, Working, Reclaim, Reclaimed}
use Rattle.usb_live.specs.declared.view.OwnerCell.{OwnerCell}
use Rattle.usb_live.specs.declared.view.HandlerCell.{HandlerCell}
use Rattle.usb_live.specs.declared.view.View.{View}
use Rattle.usb_live.specs.declared.view.Side.TheVariants.{Owner}
use Rattle.usb_live.specs.Cells.{SlotValue, Home, Cell, CellAgrees, AtHome, Holds, HoldsDone, HoldsLast, OwnerTakes, is_out}
use Rattle.usb_live.specs.Rows.{Rowed, owner_cell, free_cell}
use Rattle.usb_live.specs.Steps.{Sat, owning, looked, with_own, found_in, slot_completion, completion_in, owner_took_out, filled, refused, published, owner_looked, abandoned, owner_took}
use Rattle.usb_live.specs.Seats.{IsOwner}
use Rattle.usb_live.proofs.Kept.{OwnerGoes, owner_step}
use Rattle.usb_live.proofs.CellFacts.{not_out, with_idle, leaves_home, owner_finds, in_home, handler_has_not}

pub takes_out : (n id i : ℕ) (m : Sat) → i < 64 → m.0.side ≡ Owner → (owner_cell m.0 i).out ≡ false → OwnerTakes (owner_cell m.0 i).stage
    → Allows Rowed n id m i (λ y. y) (owner_took_out (step n i 0 0 none) m)
takes_out n id i m near side at_home takes_it = let o : OwnerCell = owner_cell m.0 i in
    owner_step n id i m (λ y. y) (owner_took_out (step n i 0 0 none) m) near side
    (λ w home h c.
    let quiet = handler_has_not w home o h c takes_it in
    let x = in_home home o.out h.out c.out at_home quiet in
    let idle = with_idle w home o.stage h.stage h.last takes_it c.agrees in
    let here : CellAgrees w (some x.0) o.stage Idle h.last = subst (λ (s : Handled). CellAgrees w (some x.0) o.stage s h.last) idle (subst (λ (y : Home). CellAgrees w y o.stage h.stage h.last) x.1 c.agrees) in
    record {
      to = owning (with_own m.0 (found_in o.stage x.0 m.0.own)) i o.stage true;
      cell = record { stage = o.stage; out = true };
      act = takes i x.0;
      home_to = none;
      side = side;
      cells = refl;
      moves = (refl, x.1, refl);
      keeps = record { agrees = leaves_home w home o.stage h.stage h.last c.agrees; out = refl; owner_out = λ _. takes_it; handler_out = c.handler_out };
      tells = (x.0, refl, owner_finds w x.0 o.stage h.last here);
    })

-- the owner leaves the slot at home, in a stage that the handler's idleness allows
pub owner_rests : (w n : ℕ) (home : Home) (x : SlotValue) (o : OwnerCell) (h : HandlerCell) (s : Owned) → Cell w home o h → OwnerTakes o.stage
    → CellAgrees n (some x) s Idle h.last → Cell n (some x) (record { stage = s; out = false }) h
owner_rests w n home x o h s c takes_it now = record {
  agrees = subst (λ (z : Handled). CellAgrees n (some x) s z h.last) (sym (with_idle w home o.stage h.stage h.last takes_it c.agrees)) now;
  out = sym (handler_has_not w home o h c takes_it);
  owner_out = λ e. absurd (cc);
  handler_out = c.handler_out;
}

pub fills : (n id i new t : ℕ) (m : Sat) (x : Transfer) → i < 64 → m.0.side ≡ Owner → OwnerTakes (owner_cell m.0 i).stage
    → m.1 ≡ (i, Some x) ∷ rest m.1 → x.ticket ≡ t → new ≡ 4 * t → Allows Rowed n id m i (λ _. new) (filled (step n i new 0 none) m)
fills n id i new t m x near side takes_it has ticket is = let o : OwnerCell = owner_cell m.0 i in let u : ℕ = new / 4 in
    owner_step n id i m (λ _. new) (filled (step n i new 0 none) m) near side
    (λ w home h c. record {
      to = owning m.0 i (Filled u) false;
      cell = record { stage = Filled u; out = false };
      act = gives;
      home_to = some (Some x);
      side = side;
      cells = refl;
      moves = (Some x, has, refl);
      keeps = owner_rests w new home (Some x) o h (Filled u) c takes_it (omega arith, (x, refl, omega arith));
      tells = refl;
    })

pub refuses : (n id i new t : ℕ) (m : Sat) (x : Transfer) (d : Completion) → i < 64 → m.0.side ≡ Owner → OwnerTakes (owner_cell m.0 i).stage
    → m.1 ≡ (i, Some x) ∷ rest m.1 → x.ticket ≡ t → x.completion ≡ Some d → new ≡ 4 * t → Allows Rowed n id m i (λ _. new) (refused (step n i new 0 none) m)
refuses n id i new t m x d near side takes_it has ticket done is = let o : OwnerCell = owner_cell m.0 i in let u : ℕ = new / 4 in
    owner_step n id i m (λ _. new) (refused (step n i new 0 none) m) near side
    (λ w home h c. record {
      to = owning (with_own m.0 (completion_in m.1)) i (Mine u) false;
      cell = record { stage = Mine u; out = false };
      act = gives;
      home_to = some (Some x);
      side = side;
      cells = refl;
      moves = (Some x, has, refl);
      keeps = owner_rests w new home (Some x) o h (Mine u) c takes_it (omega arith, (x, d, refl, omega arith, done));
      tells = refl;
    })

pub publishes : (n id i new t : ℕ) (m : Sat) → i < 64 → m.0.side ≡ Owner → (owner_cell m.0 i).out ≡ false → (owner_cell m.0 i).stage ≡ Filled t
    → new ≡ 4 * t + 1 → Allows Rowed n id m i (λ _. new) (published (step n i new 0 none) m)
publishes n id i new t m near side at_home is_filled is = let o : OwnerCell = owner_cell m.0 i in let u : ℕ = new / 4 in
    let takes_it : OwnerTakes o.stage = subst OwnerTakes (sym is_filled) tt in
    owner_step n id i m (λ _. new) (published (step n i new 0 none) m) near side
    (λ w home h c.
    let quiet = handler_has_not w home o h c takes_it in
    let x = in_home home o.out h.out c.out at_home quiet in
    let idle = with_idle w home o.stage h.stage h.last takes_it c.agrees in
    let here : CellAgrees w (some x.0) (Filled t) Idle h.last
    = subst (λ (s : Owned). CellAgrees w (some x.0) s Idle h.last) is_filled (subst (λ (s : Handled). CellAgrees w (some x.0) o.stage s h.last) idle (subst (λ (y : Home). CellAgrees w y o.stage h.stage h.last) x.1 c.agrees)) in
    let same : u ≡ t = omega arith in
    record {
      to = owning m.0 i (Pending u) false;
      cell = record { stage = Pending u; out = false };
      act = keeps;
      home_to = home;
      side = side;
      cells = refl;
      moves = refl;
      keeps = subst (λ (y : Home). Cell new y (record { stage = Pending u; out = false }) h) (sym x.1)
          (owner_rests w new home x.0 o h (Pending u) c takes_it (inl (omega arith, subst (λ (k : ℕ). Holds k x.0) (sym same) here.1)));
      tells = refl;
    })

by_stage : (w t : ℕ) (home : Home) (s : Handled) (last : Option Completion) → CellAgrees w home (Pending t) s last
    → ((w ≡ 4 * t + 1) × ((s ≡ Idle) ⊎ (s ≡ Working t)) × AtHome (Holds t) home) ⊎ ((w ≡ 4 * t) × (s ≡ Idle) × AtHome (HoldsLast t last) home)
by_stage w t home Idle last a = ⊎_elim (λ p. inl (p.0, inl refl, p.1)) (λ p. inr (p.0, refl, p.1)) a
by_stage w t home (Working u) last a = inl (a.1, inr (ap Working a.0), a.2)
by_stage w t home (Reclaim u) last a = absurd a
by_stage w t home (Reclaimed u) last a = absurd a

-- a pending cell, as its word shows it
pub pending_word : (w t : ℕ) (home : Home) (h : HandlerCell) → CellAgrees w home (Pending t) h.stage h.last
    → ((w ≡ 4 * t + 1) × ((h.stage ≡ Idle) ⊎ (h.stage ≡ Working t)) × AtHome (Holds t) home) ⊎ ((w ≡ 4 * t) × (h.stage ≡ Idle) × AtHome (HoldsLast t h.last) home)
pending_word w t home h a = by_stage w t home h.stage h.last a

pending_is : (t u : ℕ) → Pending t ≡ Pending u → t ≡ u
pending_is t u e = cc

-- a pending cell that the owner keeps at home, in another stage
pending_turns : (w n t : ℕ) (home : Home) (o : OwnerCell) (h : HandlerCell) (s : Owned) → Cell w home o h → o.stage ≡ Pending t
    → CellAgrees n home s h.stage h.last → Cell n home (record { stage = s; out = false }) h
pending_turns w n t home o h s c is now = record {
  agrees = now;
  out = subst (λ (b : Bool). is_out home ≡ (b || h.out)) (not_out o.out (λ e. subst OwnerTakes is (c.owner_out e))) c.out;
  owner_out = λ e. absurd (cc);
  handler_out = c.handler_out;
}

finds_done : (t : ℕ) (last : Option Completion) (home : Home) → AtHome (HoldsLast t last) home → AtHome (HoldsDone t) home
finds_done t last none a = tt
finds_done t last (some x) a = (a.0, a.1, a.2, a.3, a.4)

as_pending : (w t : ℕ) (home : Home) (o : OwnerCell) (h : HandlerCell) → Cell w home o h → o.stage ≡ Pending t → CellAgrees w home (Pending t) h.stage h.last
as_pending w t home o h c is = subst (λ (s : Owned). CellAgrees w home s h.stage h.last) is c.agrees

mine_now : (n t : ℕ) (home : Home) (h : HandlerCell) → n ≡ 4 * t → h.stage ≡ Idle → AtHome (HoldsLast t h.last) home → CellAgrees n home (Mine t) h.stage h.last
mine_now n t home h e idle a = subst (λ (s : Handled). CellAgrees n home (Mine t) s h.last) (sym idle) (e, finds_done t h.last home a)

left_now : (t : ℕ) (home : Home) (h : HandlerCell) → (h.stage ≡ Idle) ⊎ (h.stage ≡ Working t) → AtHome (Holds t) home → CellAgrees (4 * t + 2) home (Left t) h.stage h.last
left_now t home h e a = ⊎_elim
    (λ (p : h.stage ≡ Idle). subst (λ (s : Handled). CellAgrees (4 * t + 2) home (Left t) s h.last) (sym p) (refl, a))
    (λ (p : h.stage ≡ Working t). subst (λ (s : Handled). CellAgrees (4 * t + 2) home (Left t) s h.last) (sym p) (refl, refl, a)) e

pub looks : (n id i t : ℕ) (m : Sat) → i < 64 → m.0.side ≡ Owner → (owner_cell m.0 i).stage ≡ Pending t
    → Allows Rowed n id m i (λ y. y) (owner_looked (step n i 0 0 none) m)
looks n id i t m near side is = let o : OwnerCell = owner_cell m.0 i in
    owner_step n id i m (λ y. y) (owner_looked (step n i 0 0 none) m) near side
    (λ w home h c. ⊎_elim
    (λ (p : (w ≡ 4 * t + 1) × ((h.stage ≡ Idle) ⊎ (h.stage ≡ Working t)) × AtHome (Holds t) home). record {
      to = looked m.0 i w;
      cell = o;
      act = keeps;
      home_to = home;
      side = side;
      cells = sym (set-get_or m.0.owner i free_cell);
      moves = refl;
      keeps = c;
      tells = λ u e. inr (p.0 ∙ ap (λ (k : ℕ). 4 * k + 1) (pending_is t u (sym is ∙ e)), refl);
    })
    (λ (p : (w ≡ 4 * t) × (h.stage ≡ Idle) × AtHome (HoldsLast t h.last) home). record {
      to = looked (owning m.0 i (Mine t) false) i w;
      cell = record { stage = Mine t; out = false };
      act = keeps;
      home_to = home;
      side = side;
      cells = refl;
      moves = refl;
      keeps = pending_turns w w t home o h (Mine t) c is (mine_now w t home h p.0 p.1 p.2);
      tells = λ u e. let same = pending_is t u (sym is ∙ e) in
          inl (p.0 ∙ ap (λ (k : ℕ). 4 * k) same, ap (λ (k : ℕ). (looked (owning m.0 i (Mine k) false) i w, m.1)) same);
    })
    (pending_word w t home h (as_pending w t home o h c is)))

pub abandons : (n id i old new t : ℕ) (m : Sat) → i < 64 → m.0.side ≡ Owner → (owner_cell m.0 i).stage ≡ Pending t → old ≡ 4 * t + 1 → new ≡ 4 * t + 2
    → Allows Rowed n id m i (λ y. either (eqb y old) new y) (abandoned (step n i old new none) m)
abandons n id i old new t m near side is old_is new_is = let o : OwnerCell = owner_cell m.0 i in
    owner_step n id i m (λ y. either (eqb y old) new y) (abandoned (step n i old new none) m) near side
    (λ w home h c.
    let word = pending_word w t home h (as_pending w t home o h c is) in
    exchanged w old new (λ (k : ℕ). OwnerGoes i m k (abandoned (step n i old new none) m w) home h)
    (λ hit. ⊎_elim
    (λ (p : (w ≡ 4 * t + 1) × ((h.stage ≡ Idle) ⊎ (h.stage ≡ Working t)) × AtHome (Holds t) home). record {
      to = owning m.0 i (Left t) false;
      cell = record { stage = Left t; out = false };
      act = keeps;
      home_to = home;
      side = side;
      cells = refl;
      moves = refl;
      keeps = pending_turns w new t home o h (Left t) c is (subst (λ (k : ℕ). CellAgrees k home (Left t) h.stage h.last) (sym new_is) (left_now t home h p.1 p.2));
      tells = λ u e. let same = pending_is t u (sym is ∙ e) in
          inl (p.0 ∙ ap (λ (k : ℕ). 4 * k + 1) same, ap (λ (k : ℕ). (owning m.0 i (Left k) false, m.1)) same);
    })
    (λ (p : (w ≡ 4 * t) × (h.stage ≡ Idle) × AtHome (HoldsLast t h.last) home). absurd (omega (arith, p.0)))
    word)
    (λ miss. ⊎_elim
    (λ (p : (w ≡ 4 * t + 1) × ((h.stage ≡ Idle) ⊎ (h.stage ≡ Working t)) × AtHome (Holds t) home). absurd (miss (p.0 ∙ sym old_is)))
    (λ (p : (w ≡ 4 * t) × (h.stage ≡ Idle) × AtHome (HoldsLast t h.last) home). record {
      to = owning m.0 i (Mine t) false;
      cell = record { stage = Mine t; out = false };
      act = keeps;
      home_to = home;
      side = side;
      cells = refl;
      moves = refl;
      keeps = pending_turns w w t home o h (Mine t) c is (mine_now w t home h p.0 p.1 p.2);
      tells = λ u e. let same = pending_is t u (sym is ∙ e) in
          inr (p.0 ∙ ap (λ (k : ℕ). 4 * k) same, ap (λ (k : ℕ). (owning m.0 i (Mine k) false, m.1)) same);
    })
    word))

pub takes_it_back : (n id i new : ℕ) (m : Sat) → i < 64 → m.0.side ≡ Owner → OwnerTakes (owner_cell m.0 i).stage → m.1 ≡ (i, None) ∷ rest m.1 → new % 4 ≡ 0
    → Allows Rowed n id m i (λ _. new) (owner_took (step n i new 0 none) m)
takes_it_back n id i new m near side takes_it has is = let o : OwnerCell = owner_cell m.0 i in
    owner_step n id i m (λ _. new) (owner_took (step n i new 0 none) m) near side
    (λ w home h c. record {
      to = owning m.0 i Free false;
      cell = record { stage = Free; out = false };
      act = gives;
      home_to = some None;
      side = side;
      cells = refl;
      moves = (None, has, refl);
      keeps = owner_rests w new home None o h Free c takes_it (is, refl);
      tells = refl;
    })

-- the seat while the owner has the slot of the cell i out
abbrev pub Has : ℕ → View → Owned → SlotValue → List (ℕ × SlotValue) → Sat → Type 0
Has i v s x r m = m ≡ (owning v i s true, (i, x) ∷ r)

pub owning_here : (v : View) (i : ℕ) (s : Owned) (b : Bool) → i < 64 → IsOwner v → owner_cell (owning v i s b) i ≡ record { stage = s; out = b }
owning_here v i s b near own = get_or-set_same v.owner i (record { stage = s; out = b }) free_cell (omega (arith, own.1))

has_it : (v : View) (i : ℕ) (s : Owned) → i < 64 → IsOwner v → OwnerTakes s → OwnerTakes (owner_cell (owning v i s true) i).stage
has_it v i s near own k = subst (λ (c : OwnerCell). OwnerTakes c.stage) (sym (owning_here v i s true near own)) k

-- another value is put into the slot
pub put_in : (i : ℕ) (v : View) (s : Owned) (x y : SlotValue) (r : List (ℕ × SlotValue)) (m n : Sat) → Has i v s x r m → n ≡ (m.0, (i, y) ∷ rest m.1) → Has i v s y r n
put_in i v s x y r m n e f = f ∙ ap (λ (z : Sat). (z.0, (i, y) ∷ rest z.1)) e

-- the slot went home, and the cell is at the stage t
pub rested : (i : ℕ) (v : View) (s t : Owned) (x : SlotValue) (r : List (ℕ × SlotValue)) (m n : Sat) → Has i v s x r m → n ≡ (owning m.0 i t false, rest m.1) → n ≡ (owning v i t false, r)
rested i v s t x r m n e f =
    f ∙ (ap (λ (z : Sat). (owning z.0 i t false, rest z.1)) e ∙ ap (λ (l : List OwnerCell). (record v { owner = l }, r)) (set-set v.owner i (record { stage = s; out = true }) (record { stage = t; out = false })))

-- the same, where the value is a completion that the owner put in
pub rested_own : (i : ℕ) (v : View) (s t : Owned) (x : SlotValue) (r : List (ℕ × SlotValue)) (m n : Sat) → Has i v s x r m → n ≡ (owning (with_own m.0 (completion_in m.1)) i t false, rest m.1)
    → n ≡ (owning (with_own v (slot_completion x)) i t false, r)
rested_own i v s t x r m n e f =
    f ∙ (ap (λ (z : Sat). (owning (with_own z.0 (completion_in z.1)) i t false, rest z.1)) e
    ∙ ap (λ (l : List OwnerCell). (record v { owner = l; own = slot_completion x }, r)) (set-set v.owner i (record { stage = s; out = true }) (record { stage = t; out = false })))

-- the value that is carried is the one that was taken out
pub found : (i : ℕ) (v : View) (s : Owned) (x y : SlotValue) (r : List (ℕ × SlotValue)) (m : Sat) → Has i v s x r m → m.1 ≡ (i, y) ∷ rest m.1 → y ≡ x
found i v s x y r m e f = ap (λ (l : List (ℕ × SlotValue)). (get_or l 0 (i, y)).1) (sym f ∙ ap (λ (z : Sat). z.1) e)

pub fills_out : (n id i new : ℕ) (m : Sat) (v : View) (r : List (ℕ × SlotValue)) (s : Owned) (x : Transfer) → Has i v s (Some x) r m → i < 64 → IsOwner v → OwnerTakes s → new ≡ 4 * x.ticket
    → Allows Rowed n id m i (λ _. new) (filled (step n i new 0 none) m)
fills_out n id i new m v r s x e near own k is = subst (λ (z : Sat). Allows Rowed n id z i (λ _. new) (filled (step n i new 0 none) z)) (sym e)
    (fills n id i new x.ticket (owning v i s true, (i, Some x) ∷ r) x near own.0 (has_it v i s near own k) refl refl is)

pub refuses_out : (n id i new : ℕ) (m : Sat) (v : View) (r : List (ℕ × SlotValue)) (s : Owned) (x : Transfer) (d : Completion) → Has i v s (Some x) r m → x.completion ≡ Some d → i < 64 → IsOwner v → OwnerTakes s → new ≡ 4 * x.ticket
    → Allows Rowed n id m i (λ _. new) (refused (step n i new 0 none) m)
refuses_out n id i new m v r s x d e done near own k is = subst (λ (z : Sat). Allows Rowed n id z i (λ _. new) (refused (step n i new 0 none) z)) (sym e)
    (refuses n id i new x.ticket (owning v i s true, (i, Some x) ∷ r) x d near own.0 (has_it v i s near own k) refl refl done is)

pub takes_back_out : (n id i new : ℕ) (m : Sat) (v : View) (r : List (ℕ × SlotValue)) (s : Owned) → Has i v s None r m → i < 64 → IsOwner v → OwnerTakes s → new % 4 ≡ 0
    → Allows Rowed n id m i (λ _. new) (owner_took (step n i new 0 none) m)
takes_back_out n id i new m v r s e near own k is = subst (λ (z : Sat). Allows Rowed n id z i (λ _. new) (owner_took (step n i new 0 none) z)) (sym e)
    (takes_it_back n id i new (owning v i s true, (i, None) ∷ r) near own.0 (has_it v i s near own k) refl is)
