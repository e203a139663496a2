use Rattle.std.proofs.Common.{Bool, ◌≡◌, ◌≢◌, ℕ, ◌+◌, ◌<◌, ◌≤◌, suc, zero, arith, List, [], ◌∷◌, ◌++◌, length, set, Some, true, false, cond, refl, sym, ◌∙◌, slice_get, map}
use Rattle.std.specs.Prelude.{filter, position}
use Rattle.std.specs.List.{enumerate_from, position_from}
use Rattle.std.proofs.lemmas.Iterator.Adapters.{position_from-zero}
use Rattle.std.proofs.lemmas.Option.{same_Some, none-some}
use Rattle.std.proofs.lemmas.Bool.{eq-eqb, ne_eqb}
use Rattle.usb_kernel.specs.declared.slot.TicketRow.{TicketRow}
use Rattle.usb_kernel.specs.Tickets.{Ticket}
use Rattle.usb_kernel.specs.Fates.{Fate}
use Rattle.usb_kernel.specs.Journal.{at_ticket, is_open, oldest_among}
use Rattle.usb_kernel.specs.Rows.{row_of, rows_from, is_open_row}

-- the rows depend on the fates of their own tickets alone
pub rows_from-same : (ts : List Ticket) (k : ℕ) (f g : ℕ → Fate) → ((u : ℕ) → k ≤ u → u < k + length ts → f u ≡ g u) → rows_from k ts f ≡ rows_from k ts g
unfolding rows_from
rows_from-same [] k f g h = refl
rows_from-same (t ∷ ts) k f g h =
    let first : f k ≡ g k = h k (omega arith) (omega arith) in
    let others = rows_from-same ts (k + 1) f g (λ u a b. h u (omega arith) (omega arith)) in
    cc

-- one more ticket
pub rows_from-append : (ts : List Ticket) (k : ℕ) (s : Ticket) (f : ℕ → Fate) → rows_from k (ts ++ s ∷ []) f ≡ rows_from k ts f ++ row_of s (f (k + length ts)) ∷ []
unfolding rows_from
rows_from-append [] k s f = let e : k + 0 ≡ k = omega arith in rw e refl
rows_from-append (t ∷ ts) k s f =
    let others = rows_from-append ts (k + 1) s f in
    let e : (k + 1) + length ts ≡ k + length (t ∷ ts) = omega arith in
    rw (others, e) refl

-- a change of one row
pub set-rows_from : (ts : List Ticket) (k i : ℕ) (s : Ticket) (r : TicketRow) (f g : ℕ → Fate) → slice_get ts i ≡ Some s → r ≡ row_of s (g (k + i)) → ((u : ℕ) → u ≢ k + i → f u ≡ g u) → set (rows_from k ts f) i r ≡ rows_from k ts g
unfolding rows_from
set-rows_from [] k i s r f g at is others = absurd (none-some s at)
set-rows_from (t ∷ ts) k zero s r f g at is others =
    let e : k + 0 ≡ k = omega arith in
    let same : t ≡ s = same_Some t s at in
    let first : r ≡ row_of t (g k) = rw (same, ← e) is in
    let rest = rows_from-same ts (k + 1) f g (λ u a b. others u (omega arith)) in
    cc
set-rows_from (t ∷ ts) k (suc i) s r f g at is others =
    let e : (k + 1) + i ≡ k + suc i = omega arith in
    let first : f k ≡ g k = others k (omega arith) in
    let rest = set-rows_from ts (k + 1) i s r f g at (rw e is) (λ u ne. others u (omega arith)) in
    cc

-- a step on one ticket is a write of its row
pub set-at_ticket : (ts : List Ticket) (i : ℕ) (s : Ticket) (r : TicketRow) (f : ℕ → Fate) (step : Ticket → Fate → Fate) → slice_get ts i ≡ Some s → r ≡ row_of s (step s (f i)) → set (rows_from 0 ts f) i r ≡ rows_from 0 ts (at_ticket i step ts f)
set-at_ticket ts i s r f step at is =
    let z : 0 + i ≡ i = omega arith in
    set-rows_from ts 0 i s r f (at_ticket i step ts f) at
    (rw (z, eq-eqb i i refl, at) is)
    (λ u ne. let apart : i ≢ u = (λ same. ne (omega arith)) in rw (ne_eqb i u apart) refl)

-- the first open row is that of the oldest open ticket
pub position-rows_from : (ts : List Ticket) (k : ℕ) (f : ℕ → Fate) (d e : ℕ) → position_from (is_open_row d e) k (rows_from k ts f) ≡ slice_get (map (λ p. p.0) (filter (is_open f d e) (enumerate_from k ts))) 0
unfolding rows_from
position-rows_from [] k f d e = refl
position-rows_from (t ∷ ts) k f d e =
    elim (is_open f d e (k, t)) as (λ v. cond v (Some k) (position_from (is_open_row d e) (k + 1) (rows_from (k + 1) ts f)) ≡ slice_get (map (λ p. p.0) (cond v ((k, t) ∷ filter (is_open f d e) (enumerate_from (k + 1) ts)) (filter (is_open f d e) (enumerate_from (k + 1) ts)))) 0) [ true ↦ refl | false ↦ position-rows_from ts (k + 1) f d e ]

pub position-is_open_row : (ts : List Ticket) (f : ℕ → Fate) (d e : ℕ) → position (is_open_row d e) (rows_from 0 ts f) ≡ oldest_among ts f d e
position-is_open_row ts f d e = position_from-zero (is_open_row d e) (rows_from 0 ts f) ∙ position-rows_from ts 0 f d e

pub length-rows_from : (ts : List Ticket) (k : ℕ) (f : ℕ → Fate) → length (rows_from k ts f) ≡ length ts
unfolding rows_from
length-rows_from [] k f = refl
length-rows_from (t ∷ ts) k f = let e = length-rows_from ts (k + 1) f in cc

-- the row at a place is that of the ticket there
pub slice_get-rows_from : (ts : List Ticket) (k i : ℕ) (f : ℕ → Fate) (r : TicketRow) → slice_get (rows_from k ts f) i ≡ Some r → (s : Ticket) × (slice_get ts i ≡ Some s) × (r ≡ row_of s (f (k + i)))
unfolding rows_from
slice_get-rows_from [] k i f r e = absurd (none-some r e)
slice_get-rows_from (t ∷ ts) k zero f r e =
    let z : k + 0 ≡ k = omega arith in
    (t, refl, rw z (sym (same_Some _ r e)))
slice_get-rows_from (t ∷ ts) k (suc i) f r e =
    let h = slice_get-rows_from ts (k + 1) i f r e in
    let z : k + suc i ≡ (k + 1) + i = omega arith in
    (h.0, h.1, rw z h.2)

-- the first row that passes a test, where the test can be made on the journal
pub position-rows : (p : TicketRow → Bool) (q : (ℕ × Ticket) → Bool) (ts : List Ticket) (k : ℕ) (f : ℕ → Fate) → ((x : ℕ × Ticket) → p (row_of x.1 (f x.0)) ≡ q x) → position_from p k (rows_from k ts f) ≡ slice_get (map (λ x. x.0) (filter q (enumerate_from k ts))) 0
unfolding rows_from
position-rows p q [] k f same = refl
position-rows p q (t ∷ ts) k f same =
    rw (same (k, t)) (elim (q (k, t)) as (λ v. cond v (Some k) (position_from p (k + 1) (rows_from (k + 1) ts f)) ≡ slice_get (map (λ x. x.0) (cond v ((k, t) ∷ filter q (enumerate_from (k + 1) ts)) (filter q (enumerate_from (k + 1) ts)))) 0) [ true ↦ refl | false ↦ position-rows p q ts (k + 1) f same ])
