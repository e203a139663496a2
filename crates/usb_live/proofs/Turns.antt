-- What the event loop counts, and what a transfer that was submitted and taken leaves.
use Rattle.std.proofs.Common.{◌≡◌, ◌≢◌, ℕ, zero, suc, ◌+◌, ◌<◌, List, [], ◌∷◌, min, set, refl, sym, ap, ◌∙◌, subst, arith, ◌++◌, false}
use Rattle.std.proofs.lemmas.List.{get_or-set_other}
use mathlib.Core.Logic.{dite}
use native.Mathlib.Decide.{ℕ_discrete}
use Rattle.usb_kernel.specs.declared.submission.Submitted.{Submitted}
use Rattle.usb_live.specs.declared.view.Owned.TheVariants.{Free}
use Rattle.usb_live.specs.declared.view.OwnerCell.{OwnerCell}
use Rattle.usb_live.specs.declared.view.View.{View}
use Rattle.usb_live.specs.declared.entry.Entry.{Entry}
use Rattle.usb_live.specs.declared.entry.Receipt.{Receipt}
use Rattle.usb_live.specs.declared.entry.Tally.{Tally}
use Rattle.usb_live.specs.Rows.{free_cell, stage_at}
use Rattle.usb_live.specs.Rests.{AllFree}
use Rattle.usb_live.specs.Live.{Live, stage_of}
use Rattle.usb_live.specs.Submits.{entry_of}
use Rattle.usb_live.specs.Answers.{reclaimed_in}
use Rattle.usb_live.specs.Calls.{up_to_end, GetsCell, IsTaken}
use Rattle.usb_live.specs.Runs.{CountsReclaims, IsIdle, HasOne, TakesAfterLooks}
use Rattle.usb_live.proofs.Queue.{freed_cells, placed_cells}

capped : (x m r : ℕ) → min (min (x + m) 18446744073709551615 + r) 18446744073709551615 ≡ min (x + (m + r)) 18446744073709551615
capped x m r = omega arith

added : (n m k i r : ℕ) → n ≡ m + r → m ≡ k + i → n ≡ k + (i + r)
added n m k i r a b = omega arith

-- a round more
pub counts_more : (v w u : View) (a b c : Tally) (r : ℕ) → CountsReclaims v a w b → reclaimed_in u.handler ≡ reclaimed_in w.handler + r → c ≡ record b { reclaimed = up_to_end (b.reclaimed + r) }
    → CountsReclaims v a u c
counts_more v w u a b c r so_far cells is = record {
  more = so_far.more + r;
  cells = added _ _ _ _ _ cells so_far.cells;
  tally = is ∙ (ap (λ (t : Tally). record t { reclaimed = up_to_end (t.reclaimed + r) }) so_far.tally ∙ ap (λ (n : ℕ). record a { reclaimed = n }) (capped a.reclaimed so_far.more r));
}

-- the one transfer that an idle endpoint was handed
pub has_one : (s : Submitted) (t : ℕ) (x y : Live) → IsIdle x → GetsCell s t x y → HasOne x y
has_one s t x y idle to = let e : Entry = entry_of s to.cell in let c : OwnerCell = record { stage = stage_of e; out = false } in record {
  entry = e;
  queue = ap (λ (z : Live). z.queue) to.after ∙ ap (λ (q : List Entry). q ++ e ∷ []) idle.queue;
  free = λ i near other. ap (λ (z : Live). stage_at z.seat.view.owner i) to.after
      ∙ (ap (λ (cells : List OwnerCell). stage_at cells i) (placed_cells x.seat s to.cell)
      ∙ (ap (λ (d : OwnerCell). d.stage) (get_or-set_other x.seat.view.owner to.cell i c free_cell other) ∙ idle.free i near));
  submitted = ap (λ (z : Live). z.tally.submitted) to.after;
  taken = ap (λ (z : Live). z.tally.taken) to.after;
}

-- the cell of the transfer that was taken is free again
freed : (cells : List OwnerCell) (i : ℕ) → stage_at (set cells i free_cell) i ≡ Free
freed [] i = refl
freed (x ∷ xs) zero = refl
freed (x ∷ xs) (suc i) = freed xs i

all_free : (cells : List OwnerCell) (i : ℕ) → ((j : ℕ) → j < 64 → j ≢ i → stage_at cells j ≡ Free) → AllFree (set cells i free_cell)
all_free cells i others j near = dite (ℕ_discrete j i)
    (λ e. subst (λ (k : ℕ). stage_at (set cells i free_cell) k ≡ Free) (sym e) (freed cells i))
    (λ ne. ap (λ (c : OwnerCell). c.stage) (get_or-set_other cells i j free_cell free_cell ne) ∙ others j near ne)

pub record Again (y z : Live) : Type 0 where
  pub idle : IsIdle z
  pub submitted : z.tally.submitted ≡ y.tally.submitted
  pub taken : z.tally.taken ≡ up_to_end (y.tally.taken + 1)

pub idle_again : (x y z : Live) (r : Receipt) → HasOne x y → TakesAfterLooks y r z → Again y z
idle_again x y z r one took = let m = took.between in let e : Entry = one.entry in
    let queue : m.queue ≡ e ∷ [] = ap (λ (w : Live). w.queue) took.looked.rest ∙ one.queue in
    let k : IsTaken (e ∷ []) r m z = subst (λ (q : List Entry). IsTaken q r m z) queue took.taken in
    let tally : m.tally ≡ y.tally = ap (λ (w : Live). w.tally) took.looked.rest in
    let cells : z.seat.view.owner ≡ set y.seat.view.owner e.cell free_cell = ap (λ (w : Live). w.seat.view.owner) k.1 ∙ (freed_cells m.seat e e.refused
    ∙ ap (λ (cs : List OwnerCell). set cs e.cell free_cell) took.looked.cells) in
    record {
      idle = record { queue = ap (λ (w : Live). w.queue) k.1; free = subst AllFree (sym cells) (all_free y.seat.view.owner e.cell one.free) };
      submitted = ap (λ (w : Live). w.tally.submitted) k.1 ∙ ap (λ (t : Tally). t.submitted) tally;
      taken = ap (λ (w : Live). w.tally.taken) k.1 ∙ ap (λ (t : Tally). up_to_end (t.taken + 1)) tally;
    }

-- a count that is far from the end goes up by one
pub counts_one : (z y x j n : ℕ) → z ≡ y → y ≡ up_to_end (x + 1) → x ≡ j → j < n → n < 4294967296 → z ≡ j + 1
counts_one z y x j n a b c d e = omega arith
