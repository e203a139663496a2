-- The queue of an endpoint over its cells.
use Rattle.std.proofs.Common.{◌≡◌, ℕ, zero, suc, ◌+◌, ◌*◌, ◌<◌, ◌^◌, ◌≢◌, ◌⊎◌, List, [], ◌∷◌, ◌++◌, Bool, true, false, cond, set, get_or, length, Option, Some, sym, refl, ap, ◌∙◌, subst, inl, inr, ⊎_elim, arith, option_to_list, length-set, min, replicate, not, ◌&&◌}
use Rattle.std.proofs.lemmas.List.{set-set, get_or-set_same, get_or-set_other, get_or-replicate, length-replicate}
use mathlib.Core.Logic.{dite}
use native.Mathlib.Decide.{ℕ_discrete}
use Rattle.usb_live.specs.declared.view.Owned.{Owned}
use Rattle.usb_live.specs.declared.view.Owned.TheVariants.{Free, Mine, Pending, Left}
use Rattle.usb_live.specs.declared.view.OwnerCell.{OwnerCell}
use Rattle.usb_live.specs.declared.view.View.{View}
use Rattle.usb_live.specs.declared.entry.Entry.{Entry}
use Rattle.usb_live.specs.Rows.{free_cell, stage_at}
use Rattle.usb_live.specs.Rests.{AllFree}
use Rattle.usb_live.specs.Seats.{OwnerState, owns, owner_looks, has_own}
use Rattle.usb_live.specs.Live.{stage_of, placed, emptied, IsDropped, Off, In, LiesInCell, Queued, IsLeft, CellAccounted, Orderly, Live}
use Rattle.usb_live.specs.Calls.{IsTaken, is_free, freed, up_to_end}
use Rattle.usb_xfer.specs.declared.transfer.Completion.{Completion}
use Rattle.usb_kernel.specs.declared.submission.Submitted.{Submitted}
use Rattle.usb_kernel.specs.declared.submission.Submitted.TheVariants as submission
use Rattle.usb_live.specs.Submits.{entry_of}
use Rattle.usb_live.specs.declared.entry.Receipt.{Receipt}
use Rattle.usb_live.specs.declared.entry.Tally.{Tally}

pub popped : (q es : List Entry) (o : Option Entry) (e : Entry) → q ≡ option_to_list o ++ es → o ≡ Some (get_or q 0 e) → e ≡ get_or q 0 e → q ≡ e ∷ es
popped q es o e p r s = p ∙ ap (λ (z : Option Entry). option_to_list z ++ es) (r ∙ ap (λ (x : Entry). Some x) (sym s))

-- a cell that is in no entry may change
pub queue_keeps : (cells : List OwnerCell) (q : List Entry) (i : ℕ) (c : OwnerCell) → Off i q → Queued cells q → Queued (set cells i c) q
queue_keeps cells [] i c off ok = tt
queue_keeps cells (e ∷ es) i c off ok =
    ((ok.0.0, ok.0.1, ap (λ (x : OwnerCell). x.stage) (get_or-set_other cells i e.cell c free_cell (λ z. off.0 (sym z))) ∙ ok.0.2), ok.1, queue_keeps cells es i c off.1 ok.2)

-- the front entry leaves the queue, and its cell is free
pub pops : (v w : View) (q es : List Entry) (e : Entry) (used now : List Bool) → Orderly v q used → q ≡ e ∷ es → w.owner ≡ set v.owner e.cell free_cell → now ≡ set used e.cell false → Orderly w es now
pops v w q es e used now ok is cells marks =
    let ok' : Orderly v (e ∷ es) used = subst (λ (z : List Entry). Orderly v z used) is ok in
    let i : ℕ = e.cell in let near : i < 64 = ok'.queued.0.0 in
    let after : List OwnerCell = set v.owner i free_cell in let marked : List Bool = set used i false in
    record {
      wide = ap length cells ∙ (length-set v.owner i free_cell ∙ ok.wide);
      long = ap length marks ∙ (length-set used i false ∙ ok.long);
      queued = subst (λ (z : List OwnerCell). Queued z es) (sym cells) (queue_keeps v.owner es i free_cell ok'.queued.1 ok'.queued.2);
      accounted = λ j l. subst (λ (z : List OwnerCell). CellAccounted z es now j) (sym cells) (subst (λ (z : List Bool). CellAccounted after es z j) (sym marks)
          (dite (ℕ_discrete j i)
          (λ same. subst (λ (k : ℕ). CellAccounted after es marked k) (sym same)
          (inl (get_or-set_same used i false true (omega (arith, ok.long)), ap (λ (x : OwnerCell). x.stage) (get_or-set_same v.owner i free_cell free_cell (omega (arith, ok.wide))))))
          (λ ne.
          let stage : stage_at after j ≡ stage_at v.owner j = ap (λ (x : OwnerCell). x.stage) (get_or-set_other v.owner i j free_cell free_cell ne) in
          let mark : get_or marked j true ≡ get_or used j true = get_or-set_other used i j false true ne in
          ⊎_elim
          (λ (p : (get_or used j true ≡ false) × (stage_at v.owner j ≡ Free)). inl (mark ∙ p.0, stage ∙ p.1))
          (λ (p : (get_or used j true ≡ true) × (IsLeft (stage_at v.owner j) ⊎ In j (e ∷ es))). inr (
            mark ∙ p.0,
            ⊎_elim
                (λ (x : IsLeft (stage_at v.owner j)). inl (subst IsLeft (sym stage) x))
                (λ (x : In j (e ∷ es)). ⊎_elim (λ (y : j ≡ i). absurd (ne y)) (λ (y : In j es). inr y) x) p.1,
          ))
          (ok'.accounted j l))));
    }

-- two changes of one cell
pub owns_twice : (s : OwnerState) (i : ℕ) (a b : Owned) → owns (owns s i a) i b ≡ owns s i b
owns_twice s i a b = ap (λ (cs : List OwnerCell). record s { view = record s.view { owner = cs } }) (set-set s.view.owner i (record { stage = a; out = false }) (record { stage = b; out = false }))

pub owner_is : (a b : OwnerState) → a.row ≡ b.row → a.view ≡ b.view → a.source ≡ b.source → a.ready ≡ b.ready → a.heard ≡ b.heard → a ≡ b
owner_is a b p q o r s = λ k. record { row = p k; view = q k; source = o k; ready = r k; heard = s k }

pub cell_freed : (s : OwnerState) (e : Entry) (b : Bool) (done : Completion) → has_own (owns (cond b s (owner_looks (owns s e.cell (Mine e.ticket)) e.cell (4 * e.ticket))) e.cell Free) done
    ≡ has_own (cond b (owns s e.cell Free) (owner_looks (owns s e.cell Free) e.cell (4 * e.ticket))) done
cell_freed s e true done = refl
cell_freed s e false done = ap (λ (z : OwnerState). has_own (owner_looks z e.cell (4 * e.ticket)) done) (owns_twice s e.cell (Mine e.ticket) Free)

pub freed_cells : (s : OwnerState) (e : Entry) (b : Bool) → (cond b (owns s e.cell Free) (owner_looks (owns s e.cell Free) e.cell (4 * e.ticket))).view.owner ≡ set s.view.owner e.cell free_cell
freed_cells s e true = refl
freed_cells s e false = refl

pub live_is : (a b : Live) → a.seat ≡ b.seat → a.route ≡ b.route → a.queue ≡ b.queue → a.tally ≡ b.tally → a ≡ b
live_is a b p q s t = λ k. record { seat = p k; route = q k; queue = s k; tally = t k }

pub now_taken : (x y : Live) (es : List Entry) (e : Entry) (r : Receipt) → x.queue ≡ e ∷ es → r.ticket ≡ e.ticket → y.queue ≡ es
    → y.seat ≡ emptied x.seat e r.completion
    → y.route ≡ x.route → y.tally ≡ record x.tally { taken = up_to_end (x.tally.taken + 1) } → IsTaken x.queue r x y
now_taken x y es e r a c d s o t = subst (λ (z : List Entry). IsTaken z r x y) (sym a) (c, live_is y _ s o d t)

pub pushed : (q r s : List Entry) (e f : Entry) → r ≡ s ++ f ∷ [] → s ≡ q → f ≡ e → r ≡ q ++ e ∷ []
pushed q r s e f a b c = a ∙ (ap (λ (l : List Entry). l ++ f ∷ []) b ∙ ap (λ (x : Entry). q ++ x ∷ []) c)

pub begins : (v : View) (q : List Entry) (used : List Bool) → length v.owner ≡ 64 → AllFree v.owner → q ≡ [] → used ≡ replicate 64 false → Orderly v q used
begins v q used wide free b c = subst (λ (x : List Entry). Orderly v x used) (sym b) (subst (λ (x : List Bool). Orderly v [] x) (sym c) (record {
  wide = wide;
  long = length-replicate {A = Bool} 64 false;
  queued = tt;
  accounted = λ i l. inl (get_or-replicate 64 i false true l, free i l);
}))

-- a cell in the queue is not free
entry_holds : (e : Entry) (b : Bool) → cond b (Mine e.ticket) (Pending e.ticket) ≡ Free → ⊥
entry_holds e true p = cc
entry_holds e false p = cc

pub in_queue : (cells : List OwnerCell) (q : List Entry) (i : ℕ) → Queued cells q → In i q → stage_at cells i ≡ Free → ⊥
in_queue cells [] i ok k p = k
in_queue cells (e ∷ es) i ok k p = ⊎_elim (λ (z : i ≡ e.cell). entry_holds e e.refused (sym ok.0.2 ∙ (ap (λ (j : ℕ). stage_at cells j) (sym z) ∙ p))) (λ (z : In i es). in_queue cells es i ok.2 z p) k

left_holds : (s : Owned) → IsLeft s → s ≡ Free → ⊥
left_holds s k p = subst IsLeft p k

pub occupied : (v : View) (q : List Entry) (used : List Bool) (i : ℕ) → Orderly v q used → i < 64 → get_or used i true ≡ true → stage_at v.owner i ≢ Free
occupied v q used i ok l marked p = ⊎_elim
    (λ (x : (get_or used i true ≡ false) × (stage_at v.owner i ≡ Free)). let e : true ≡ false = sym marked ∙ x.0 in absurd (cc))
    (λ (x : (get_or used i true ≡ true) × (IsLeft (stage_at v.owner i) ⊎ In i q)). ⊎_elim (λ (y : IsLeft (stage_at v.owner i)). left_holds (stage_at v.owner i) y p) (λ (y : In i q). in_queue v.owner q i ok.queued y p) x.1)
    (ok.accounted i l)

pub vacant : (v : View) (q : List Entry) (used : List Bool) (i : ℕ) → Orderly v q used → i < 64 → get_or used i true ≡ false → stage_at v.owner i ≡ Free
vacant v q used i ok l marked = ⊎_elim
    (λ (x : (get_or used i true ≡ false) × (stage_at v.owner i ≡ Free)). x.1)
    (λ (x : (get_or used i true ≡ true) × (IsLeft (stage_at v.owner i) ⊎ In i q)). let e : true ≡ false = sym x.0 ∙ marked in absurd (cc))
    (ok.accounted i l)

-- a free cell is in no entry
free_off : (cells : List OwnerCell) (q : List Entry) (i : ℕ) → Queued cells q → stage_at cells i ≡ Free → Off i q
free_off cells [] i ok p = tt
free_off cells (e ∷ es) i ok p = ((λ z. entry_holds e e.refused (sym ok.0.2 ∙ (ap (λ (j : ℕ). stage_at cells j) (sym z) ∙ p))), free_off cells es i ok.2 p)

off_snoc : (q : List Entry) (e : Entry) (i : ℕ) → Off i q → i ≢ e.cell → Off i (q ++ e ∷ [])
off_snoc [] e i off n = (n, tt)
off_snoc (x ∷ xs) e i off n = (off.0, off_snoc xs e i off.1 n)

queue_snoc : (cells : List OwnerCell) (q : List Entry) (e : Entry) → Queued cells q → LiesInCell cells e → Off e.cell q → Queued cells (q ++ e ∷ [])
queue_snoc cells [] e ok s off = (s, tt, tt)
queue_snoc cells (x ∷ xs) e ok s off = (ok.0, off_snoc xs e x.cell ok.1 (λ z. off.0 (sym z)), queue_snoc cells xs e ok.2 s off.1)

in_snoc : (q : List Entry) (e : Entry) (i : ℕ) → In i q → In i (q ++ e ∷ [])
in_snoc [] e i k = absurd k
in_snoc (x ∷ xs) e i k = ⊎_elim (λ (z : i ≡ x.cell). inl z) (λ (z : In i xs). inr (in_snoc xs e i z)) k

in_last : (q : List Entry) (e : Entry) → In e.cell (q ++ e ∷ [])
in_last [] e = inl refl
in_last (x ∷ xs) e = inr (in_last xs e)

-- a free cell becomes the last entry
pub pushes : (v w : View) (q r : List Entry) (e : Entry) (used now : List Bool) (c : OwnerCell) → Orderly v q used → r ≡ q ++ e ∷ [] → w.owner ≡ set v.owner e.cell c → now ≡ set used e.cell true
    → e.cell < 64 → e.ticket < 2 ^ 62 → stage_at v.owner e.cell ≡ Free → c.stage ≡ stage_of e → Orderly w r now
pushes v w q r e used now c ok is cells marks near small free stage =
    let i : ℕ = e.cell in let after : List OwnerCell = set v.owner i c in let marked : List Bool = set used i true in let all : List Entry = q ++ e ∷ [] in
    let here : stage_at after i ≡ stage_of e = ap (λ (x : OwnerCell). x.stage) (get_or-set_same v.owner i c free_cell (omega (arith, ok.wide))) ∙ stage in
    record {
      wide = ap length cells ∙ (length-set v.owner i c ∙ ok.wide);
      long = ap length marks ∙ (length-set used i true ∙ ok.long);
      queued = subst (λ (z : List OwnerCell). Queued z r) (sym cells) (subst (Queued after) (sym is)
          (queue_snoc after q e (queue_keeps v.owner q i c (free_off v.owner q i ok.queued free) ok.queued) (near, small, here) (free_off v.owner q i ok.queued free)));
      accounted = λ j l. subst (λ (z : List OwnerCell). CellAccounted z r now j) (sym cells) (subst (λ (z : List Entry). CellAccounted after z now j) (sym is) (subst (λ (z : List Bool). CellAccounted after all z j) (sym marks)
          (dite (ℕ_discrete j i)
          (λ same. subst (λ (k : ℕ). CellAccounted after all marked k) (sym same) (inr (get_or-set_same used i true true (omega (arith, ok.long)), inr (in_last q e))))
          (λ ne.
          let at : stage_at after j ≡ stage_at v.owner j = ap (λ (x : OwnerCell). x.stage) (get_or-set_other v.owner i j c free_cell ne) in
          let mark : get_or marked j true ≡ get_or used j true = get_or-set_other used i j true true ne in
          ⊎_elim
          (λ (p : (get_or used j true ≡ false) × (stage_at v.owner j ≡ Free)). inl (mark ∙ p.0, at ∙ p.1))
          (λ (p : (get_or used j true ≡ true) × (IsLeft (stage_at v.owner j) ⊎ In j q)). inr (mark ∙ p.0, ⊎_elim (λ (x : IsLeft (stage_at v.owner j)). inl (subst IsLeft (sym at) x)) (λ (x : In j q). inr (in_snoc q e j x)) p.1))
          (ok.accounted j l)))));
    }

-- the front entry leaves the queue, and its cell is left to the handler
pub leaves : (v w : View) (q es : List Entry) (e : Entry) (used now : List Bool) (t : ℕ) → Orderly v q used → q ≡ e ∷ es → w.owner ≡ set v.owner e.cell (record { stage = Left t; out = false }) → now ≡ used → Orderly w es now
leaves v w q es e used now t ok is cells marks =
    let ok' : Orderly v (e ∷ es) used = subst (λ (z : List Entry). Orderly v z used) is ok in
    let i : ℕ = e.cell in let near : i < 64 = ok'.queued.0.0 in let c : OwnerCell = record { stage = Left t; out = false } in let after : List OwnerCell = set v.owner i c in
    let here : stage_at after i ≡ Left t = ap (λ (x : OwnerCell). x.stage) (get_or-set_same v.owner i c free_cell (omega (arith, ok.wide))) in
    record {
      wide = ap length cells ∙ (length-set v.owner i c ∙ ok.wide);
      long = ap length marks ∙ ok.long;
      queued = subst (λ (z : List OwnerCell). Queued z es) (sym cells) (queue_keeps v.owner es i c ok'.queued.1 ok'.queued.2);
      accounted = λ j l. subst (λ (z : List OwnerCell). CellAccounted z es now j) (sym cells) (subst (λ (z : List Bool). CellAccounted after es z j) (sym marks)
          (dite (ℕ_discrete j i)
          (λ same. ⊎_elim
          (λ (p : (get_or used j true ≡ false) × (stage_at v.owner j ≡ Free)). absurd (in_queue v.owner (e ∷ es) j ok'.queued (inl same) p.1))
          (λ (p : (get_or used j true ≡ true) × (IsLeft (stage_at v.owner j) ⊎ In j (e ∷ es))). inr (p.0, inl (subst IsLeft (sym (ap (stage_at after) same ∙ here)) tt)))
          (ok'.accounted j l))
          (λ ne.
          let at : stage_at after j ≡ stage_at v.owner j = ap (λ (x : OwnerCell). x.stage) (get_or-set_other v.owner i j c free_cell ne) in
          ⊎_elim
          (λ (p : (get_or used j true ≡ false) × (stage_at v.owner j ≡ Free)). inl (p.0, at ∙ p.1))
          (λ (p : (get_or used j true ≡ true) × (IsLeft (stage_at v.owner j) ⊎ In j (e ∷ es))). inr (
            p.0,
            ⊎_elim
                (λ (x : IsLeft (stage_at v.owner j)). inl (subst IsLeft (sym at) x))
                (λ (x : In j (e ∷ es)). ⊎_elim (λ (y : j ≡ i). absurd (ne y)) (λ (y : In j es). inr y) x) p.1,
          ))
          (ok'.accounted j l))));
    }

-- how many cells were freed, as one of them changes
freed_step : (b : Bool) (n : ℕ) → n ≡ 0 → cond (not b && b) 1 0 + n ≡ 0
freed_step true n e = omega arith
freed_step false n e = omega arith

pub freed_none : (xs : List OwnerCell) → freed xs xs ≡ 0
freed_none [] = refl
freed_none (x ∷ xs) = freed_step (is_free x.stage) (freed xs xs) (freed_none xs)

freed_more : (b : Bool) (n : ℕ) → b ≡ false → cond (not b && true) 1 0 + n ≡ n + 1
freed_more b n e = subst (λ (c : Bool). cond (not c && true) 1 0 + n ≡ n + 1) (sym e) (omega arith)

was_not : (b c : Bool) (n : ℕ) → c ≡ false → cond (not b && c) 1 0 + n ≡ n
was_not true c n e = omega arith
was_not false c n e = subst (λ (d : Bool). cond (not false && d) 1 0 + n ≡ n) (sym e) (omega arith)

pub freed_one : (xs ys : List OwnerCell) (i : ℕ) → i < length xs → i < length ys → is_free (stage_at xs i) ≡ false → is_free (stage_at ys i) ≡ false → freed xs (set ys i free_cell) ≡ freed xs ys + 1
freed_one [] ys i h k a b = absurd (omega arith)
freed_one (x ∷ xs) [] i h k a b = absurd (omega arith)
freed_one (x ∷ xs) (y ∷ ys) zero h k a b = freed_more (is_free x.stage) (freed xs ys) a ∙ ap (λ (n : ℕ). n + 1) (sym (was_not (is_free x.stage) (is_free y.stage) (freed xs ys) b))
freed_one (x ∷ xs) (y ∷ ys) (suc i) h k a b = let m : ℕ = cond (not (is_free x.stage) && is_free y.stage) 1 0 in
    let e = freed_one xs ys i (omega arith) (omega arith) a b in ap (λ (n : ℕ). m + n) e ∙ (let n : ℕ = freed xs ys in let g : m + (n + 1) ≡ m + n + 1 = omega arith in g)

pub freed_not : (xs ys : List OwnerCell) (i : ℕ) (c : OwnerCell) → is_free c.stage ≡ false → is_free (stage_at ys i) ≡ false → freed xs (set ys i c) ≡ freed xs ys
freed_not [] ys i c a b = refl
freed_not (x ∷ xs) [] i c a b = refl
freed_not (x ∷ xs) (y ∷ ys) zero c a b = was_not (is_free x.stage) (is_free c.stage) (freed xs ys) a ∙ sym (was_not (is_free x.stage) (is_free y.stage) (freed xs ys) b)
freed_not (x ∷ xs) (y ∷ ys) (suc i) c a b = ap (λ (n : ℕ). cond (not (is_free x.stage) && is_free y.stage) 1 0 + n) (freed_not xs ys i c a b)

held : (e : Entry) (b : Bool) → is_free (cond b (Mine e.ticket) (Pending e.ticket)) ≡ false
held e true = refl
held e false = refl

pub stands_held : (cells : List OwnerCell) (e : Entry) → LiesInCell cells e → is_free (stage_at cells e.cell) ≡ false
stands_held cells e s = ap is_free s.2 ∙ held e e.refused

-- one round of the end: the entry e is left or dropped
pub record Shutting (v0 : View) (d0 d : ℕ) (v : View) (q : List Entry) (used : List Bool) : Type 0 where
  pub orderly : Orderly v q used
  pub began : Queued v0.owner q
  pub dropped : d ≡ min (d0 + freed v0.owner v.owner) 18446744073709551615

pub drops_one : (v0 v w : View) (d0 d k : ℕ) (q es : List Entry) (e : Entry) (used now : List Bool) → length v0.owner ≡ 64 → Shutting v0 d0 d v q used → q ≡ e ∷ es
    → ((k ≡ 1) × (w.owner ≡ set v.owner e.cell free_cell) × (now ≡ set used e.cell false)) ⊎ ((k ≡ 0) × (w.owner ≡ set v.owner e.cell (record { stage = Left e.ticket; out = false })) × (now ≡ used))
    → Shutting v0 d0 (min (d + k) 18446744073709551615) w es now
drops_one v0 v w d0 d k q es e used now wide ok is did =
    let began : Queued v0.owner (e ∷ es) = subst (Queued v0.owner) is ok.began in
    let queued : Queued v.owner (e ∷ es) = subst (Queued v.owner) is ok.orderly.queued in
    let near : e.cell < 64 = queued.0.0 in let was = stands_held v.owner e queued.0 in let first = stands_held v0.owner e began.0 in
    ⊎_elim
    (λ (p : (k ≡ 1) × (w.owner ≡ set v.owner e.cell free_cell) × (now ≡ set used e.cell false)). record {
      orderly = pops v w q es e used now ok.orderly is p.1 p.2;
      began = began.2;
      dropped = let more = freed_one v0.owner v.owner e.cell (omega (arith, wide)) (omega (arith, ok.orderly.wide)) first was in
          let all : freed v0.owner w.owner ≡ freed v0.owner v.owner + 1 = ap (freed v0.owner) p.1 ∙ more in
          let x : ℕ = freed v0.owner v.owner in let y : ℕ = freed v0.owner w.owner in let h : d ≡ min (d0 + x) 18446744073709551615 = ok.dropped in let k1 = p.0 in omega arith;
    })
    (λ (p : (k ≡ 0) × (w.owner ≡ set v.owner e.cell (record { stage = Left e.ticket; out = false })) × (now ≡ used)). record {
      orderly = leaves v w q es e used now e.ticket ok.orderly is p.1 p.2;
      began = began.2;
      dropped = let all : freed v0.owner w.owner ≡ freed v0.owner v.owner = ap (freed v0.owner) p.1 ∙ freed_not v0.owner v.owner e.cell (record { stage = Left e.ticket; out = false }) refl was in
          let x : ℕ = freed v0.owner v.owner in let y : ℕ = freed v0.owner w.owner in let h : d ≡ min (d0 + x) 18446744073709551615 = ok.dropped in let k0 = p.0 in omega arith;
    })
    did

-- what giving up an entry tells of the cells, of the row and of the source
abbrev pub GivenUp : OwnerState → OwnerState → ℕ → Entry → List Bool → List Bool → Type 0
GivenUp s t k e used now =
    ((k ≡ 1) × IsDropped e s t × (now ≡ set used e.cell false)) ⊎ ((k ≡ 0) × (t ≡ owns s e.cell (Left e.ticket)) × (now ≡ used))

pub given_cells : (s t : OwnerState) (k : ℕ) (e : Entry) (used now : List Bool) → GivenUp s t k e used now
    → ((k ≡ 1) × (t.view.owner ≡ set s.view.owner e.cell free_cell) × (now ≡ set used e.cell false))
    ⊎ ((k ≡ 0) × (t.view.owner ≡ set s.view.owner e.cell (record { stage = Left e.ticket; out = false })) × (now ≡ used))
given_cells s t k e used now did = ⊎_elim
    (λ (p : (k ≡ 1) × IsDropped e s t × (now ≡ set used e.cell false)). inl (p.0, ap (λ (z : OwnerState). z.view.owner) p.1.1, p.2))
    (λ (p : (k ≡ 0) × (t ≡ owns s e.cell (Left e.ticket)) × (now ≡ used)). inr (p.0, ap (λ (z : OwnerState). z.view.owner) p.1, p.2)) did

pub same_row : (s t : OwnerState) (k : ℕ) (e : Entry) (used now : List Bool) → GivenUp s t k e used now → t.row ≡ s.row
same_row s t k e used now did = ⊎_elim
    (λ (p : (k ≡ 1) × IsDropped e s t × (now ≡ set used e.cell false)). ap (λ (z : OwnerState). z.row) p.1.1)
    (λ (p : (k ≡ 0) × (t ≡ owns s e.cell (Left e.ticket)) × (now ≡ used)). ap (λ (z : OwnerState). z.row) p.1) did

pub same_source : (s t : OwnerState) (k : ℕ) (e : Entry) (used now : List Bool) → GivenUp s t k e used now → t.source ≡ s.source
same_source s t k e used now did = ⊎_elim
    (λ (p : (k ≡ 1) × IsDropped e s t × (now ≡ set used e.cell false)). ap (λ (z : OwnerState). z.source) p.1.1)
    (λ (p : (k ≡ 0) × (t ≡ owns s e.cell (Left e.ticket)) × (now ≡ used)). ap (λ (z : OwnerState). z.source) p.1) did

-- the cell where a transfer was put
pub placed_cells : (s : OwnerState) (x : Submitted) (i : ℕ) → (placed s x i).view.owner ≡ set s.view.owner i (record { stage = stage_of (entry_of x i); out = false })
placed_cells s (submission.Queued t) i = refl
placed_cells s (submission.Refused done) i = refl

-- a tally with another number of dropped transfers
pub tally_is : (a b : Tally) → a.submitted ≡ b.submitted → a.taken ≡ b.taken → a.dropped ≡ b.dropped → a.reclaimed ≡ b.reclaimed → a ≡ b
tally_is a b p q r s = λ k. record { submitted = p k; taken = q k; dropped = r k; reclaimed = s k }
