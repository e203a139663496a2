-- What the calls of the two seats put together from the steps.
use Rattle.std.proofs.Common.{◌≡◌, ℕ, ◌+◌, ◌*◌, ◌/◌, ◌%◌, ◌<◌, ◌≢◌, List, [], ◌∷◌, Bool, false, set, get_or, length, cond, zero, suc, Option, Some, sym, refl, ap, ◌∙◌, subst, arith}
use Rattle.std.proofs.lemmas.List.{set-set, get_or-set_same, get_or-set_other, get_or-replicate, length-replicate, length-set}
use mathlib.Core.Logic.{dite}
use native.Mathlib.Decide.{ℕ_discrete}
use Rattle.atomic_table.specs.Seated.{TableId}
use Rattle.atomic_table.specs.declared.shared.Seat.{Seat}
use Rattle.usb_xfer.specs.declared.transfer.Completion.{Completion}
use Rattle.usb_live.specs.declared.view.Owned.{Owned}
use Rattle.usb_live.specs.declared.view.Handled.{Handled}
use Rattle.usb_live.specs.declared.view.Handled.TheVariants.{Idle, Working, Reclaim, Reclaimed}
use Rattle.usb_live.specs.declared.view.OwnerCell.{OwnerCell}
use Rattle.usb_live.specs.declared.view.HandlerCell.{HandlerCell}
use Rattle.usb_live.specs.declared.view.View.{View}
use Rattle.usb_kernel.specs.Value.{KernelState}
use Rattle.usb_live.specs.declared.seats.CellStep.{CellStep}
use Rattle.usb_live.specs.Cells.{SlotValue}
use Rattle.usb_live.specs.Rows.{owner_cell, handler_cell, free_cell, idle_cell, owner_first, handler_first}
use Rattle.usb_live.specs.Steps.{Sat, owning, handling, looked, MayFind}
use Rattle.usb_live.specs.Seats.{IsOwner, IsHandler}
use Rattle.usb_live.specs.Rests.{IsUnused, OwnerRests, HandlerRests, HandlerCellRests, HandlerIsDone, OwnerCellRests}
use Rattle.usb_live.specs.Answers.{StepTells, Reaps, is_reclaimed, reclaimed_in, reclaimed_by}

-- the cell is changed again after the look
pub turned : (v : View) (i r : ℕ) (s t : Handled) (a b : Bool) (k l : Option Completion) → handling (looked (handling v i s a k) i r) i t b l ≡ looked (handling v i t b l) i r
turned v i r s t a b k l = ap (λ (cs : List HandlerCell). looked (record v { handler = cs }) i r) (set-set v.handler i (record { stage = s; out = a; last = k }) (record { stage = t; out = b; last = l }))

pub twice : (v : View) (i : ℕ) (s t : Owned) (a b : Bool) → owning (owning v i s a) i t b ≡ owning v i t b
twice v i s t a b = ap (λ (cs : List OwnerCell). record v { owner = cs }) (set-set v.owner i (record { stage = s; out = a }) (record { stage = t; out = b }))

pub finished_tells : (i r : ℕ) (v w : View) (k l : KernelState) (d : Completion) → w ≡ looked (handling v i Idle false (Some d)) i r → r % 4 ≢ 0 → MayFind (handler_cell v i).stage r
    → Reaps k l (r / 4) d → StepTells CellStep.Finished i v k w l
finished_tells i r v w k l d e n may reaped = subst (λ (z : View). StepTells CellStep.Finished i v k z l) (sym e) ((n, may), (d, refl, reaped))

pub reclaimed_tells : (i r : ℕ) (v w : View) (k l : KernelState) (d : Completion) → w ≡ looked (handling v i (Reclaimed (r / 4)) false (Some d)) i r → r % 4 ≢ 0 → MayFind (handler_cell v i).stage r
    → Reaps k l (r / 4) d → StepTells CellStep.Reclaimed i v k w l
reclaimed_tells i r v w k l d e n may reaped = subst (λ (z : View). StepTells CellStep.Reclaimed i v k z l) (sym e) ((n, may), (d, refl, reaped))

-- a seat rests after a call that ends with one cell in another stage
pub rests_on : (id : TableId) (s t : Seat SlotValue View) (i r : ℕ) (st : Handled) (last : Option Completion) → HandlerRests id s → i < 64 → t.table_id ≡ s.table_id
    → t.me ≡ (looked (handling s.me.0 i st false last) i r, s.me.1) → HandlerIsDone st → HandlerRests id t
rests_on id s t i r st last ok near same e done = let cs : List HandlerCell = set s.me.0.handler i (record { stage = st; out = false; last = last }) in
    let cells : t.me.0.handler ≡ cs = ap (λ (m : Sat). m.0.handler) e in
    record {
      table = same ∙ ok.table;
      handler = (ap (λ (m : Sat). m.0.side) e ∙ ok.handler.0, ap length cells ∙ (length-set s.me.0.handler i (record { stage = st; out = false; last = last }) ∙ ok.handler.1));
      carries = ap (λ (m : Sat). m.1) e ∙ ok.carries;
      each = λ j l. subst (λ (z : List HandlerCell). HandlerCellRests (get_or z j idle_cell)) (sym cells)
          (dite (ℕ_discrete j i)
          (λ q. subst (λ (k : ℕ). HandlerCellRests (get_or cs k idle_cell)) (sym q)
          (subst HandlerCellRests (sym (get_or-set_same s.me.0.handler i (record { stage = st; out = false; last = last }) idle_cell (omega (arith, ok.handler.1)))) (refl, done)))
          (λ ne. subst HandlerCellRests (sym (get_or-set_other s.me.0.handler i j (record { stage = st; out = false; last = last }) idle_cell ne)) (ok.each j l)));
    }

pub owner_begins : (id : TableId) (s : Seat SlotValue View) → s.table_id ≡ id → s.me ≡ (owner_first, []) → OwnerRests id s
owner_begins id s same e = record {
  table = same;
  owner = subst (λ (m : Sat). IsOwner m.0) (sym e) (refl, length-replicate {A = OwnerCell} 64 free_cell);
  carries = ap (λ (m : Sat). m.1) e;
  each = λ i l. subst (λ (m : Sat). OwnerCellRests (owner_cell m.0 i)) (sym e) (subst OwnerCellRests (sym (get_or-replicate 64 i free_cell free_cell l)) (refl, tt));
}

pub handler_begins : (id : TableId) (s : Seat SlotValue View) → s.table_id ≡ id → s.me ≡ (handler_first, []) → HandlerRests id s
handler_begins id s same e = record {
  table = same;
  handler = subst (λ (m : Sat). IsHandler m.0) (sym e) (refl, length-replicate {A = HandlerCell} 64 idle_cell);
  carries = ap (λ (m : Sat). m.1) e;
  each = λ i l. subst (λ (m : Sat). HandlerCellRests (handler_cell m.0 i)) (sym e) (subst HandlerCellRests (sym (get_or-replicate 64 i idle_cell idle_cell l)) (refl, tt));
}

-- a look, and then a step that changes the same cell
pub looked_then : (v : View) (i r : ℕ) (s t : Handled) (a b : Bool) (k l : Option Completion) (c : List (ℕ × SlotValue)) (m n : Sat)
    → m ≡ (looked (handling v i s a k) i r, c) → n ≡ (handling m.0 i t b l, m.1) → n ≡ (looked (handling v i t b l) i r, c)
looked_then v i r s t a b k l c m n e f = f ∙ (ap (λ (z : Sat). (handling z.0 i t b l, z.1)) e ∙ ap (λ (w : View). (w, c)) (turned v i r s t a b k l))

-- the completion that was put in last is still that one
pub last_is : (v : View) (i r : ℕ) (s : Handled) (a : Bool) (k : Option Completion) (c : List (ℕ × SlotValue)) (m : Sat) → i < 64 → IsHandler v
    → m ≡ (looked (handling v i s a k) i r, c) → (handler_cell m.0 i).last ≡ k
last_is v i r s a k c m near own e = ap (λ (z : Sat). (handler_cell z.0 i).last) e
    ∙ ap (λ (x : HandlerCell). x.last) (get_or-set_same v.handler i (record { stage = s; out = a; last = k }) idle_cell (omega (arith, own.1)))

not_reclaimed : (s : Handled) (r : ℕ) → MayFind s r → r % 4 ≢ 0 → is_reclaimed s ≡ false
not_reclaimed Idle r m n = refl
not_reclaimed (Working t) r m n = refl
not_reclaimed (Reclaim t) r m n = refl
not_reclaimed (Reclaimed t) r m n = absurd (n (let e : r ≡ 4 * t = m in omega arith))

abbrev bit : HandlerCell → ℕ
bit c = cond (is_reclaimed c.stage) 1 0

count_set : (xs : List HandlerCell) (i : ℕ) (c : HandlerCell) → i < length xs → reclaimed_in (set xs i c) + bit (get_or xs i idle_cell) ≡ reclaimed_in xs + bit c
count_set [] i c h = absurd (omega arith)
count_set (x ∷ xs) zero c h = omega arith
count_set (x ∷ xs) (suc i) c h = let e = count_set xs i c (omega arith) in let a : ℕ = bit x in let b : ℕ = reclaimed_in (set xs i c) in let d : ℕ = bit (get_or xs i idle_cell) in let f : ℕ = reclaimed_in xs in let g : ℕ = bit c in
    let e' : b + d ≡ f + g = e in let k : (a + b) + d ≡ (a + f) + g = omega arith in k

pub near_of : (i : ℕ) (v : View) → i < 64 → IsHandler v → i < length v.handler
near_of i v near own = omega (arith, own.1)

pub changed : (v w : View) (i r : ℕ) (s : Handled) (l : Option Completion) (n : ℕ) → i < length v.handler → w ≡ looked (handling v i s false l) i r → MayFind (handler_cell v i).stage r → r % 4 ≢ 0
    → cond (is_reclaimed s) 1 0 ≡ n → reclaimed_in w.handler ≡ reclaimed_in v.handler + n
changed v w i r s l n near e may busy is =
    let c : HandlerCell = record { stage = s; out = false; last = l } in
    let was : bit (handler_cell v i) ≡ 0 = ap (λ (b : Bool). cond b 1 0) (not_reclaimed (handler_cell v i).stage r may busy) in
    let now : reclaimed_in w.handler ≡ reclaimed_in (set v.handler i c) = ap (λ (z : View). reclaimed_in z.handler) e in
    let a : ℕ = reclaimed_in (set v.handler i c) in let b : ℕ = bit (handler_cell v i) in let d : ℕ = reclaimed_in v.handler in let f : ℕ = bit c in
    let k : a + b ≡ d + f = count_set v.handler i c near in let b0 : b ≡ 0 = was in let fn : f ≡ n = is in
    let g : a ≡ d + n = omega arith in now ∙ g

-- a step reclaims one cell more, or none
pub counts : (x : CellStep) (i : ℕ) (v w : View) (k l : KernelState) → i < length v.handler → StepTells x i v k w l → reclaimed_in w.handler ≡ reclaimed_in v.handler + reclaimed_by x
counts CellStep.Empty i v w k l near t = ap (λ (z : View). reclaimed_in z.handler) t.1 ∙ (let n : ℕ = reclaimed_in v.handler in let e : n ≡ n + 0 = omega arith in e)
counts CellStep.NotYet i v w k l near t = changed v w i w.word (Working (w.word / 4)) (handler_cell v i).last 0 near t.1 t.0.1 t.0.0 refl
counts CellStep.Finished i v w k l near t = changed v w i w.word Idle (Some t.1.0) 0 near t.1.1 t.0.1 t.0.0 refl
counts CellStep.Reclaimed i v w k l near t = changed v w i w.word (Reclaimed (w.word / 4)) (Some t.1.0) 1 near t.1.1 t.0.1 t.0.0 refl

-- the first view of the owner
pub unused_first : (v : View) → v ≡ owner_first → IsUnused v
unused_first v e = subst IsUnused (sym e) (record {
  wide = length-replicate {A = OwnerCell} 64 free_cell;
  free = λ i l. ap (λ (x : OwnerCell). x.stage) (get_or-replicate 64 i free_cell free_cell l);
})
