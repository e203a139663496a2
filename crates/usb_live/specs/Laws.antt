-- Each kind of step keeps the rule of the row, whatever the row is when the word changes. In each law n is the number of slots,
-- id the number of the seat in the row, i the cell, and m the seat before.
-- `Allows Rowed n id m i f T` (of the kit's `atomic_table`): whatever row of n slots keeps the rule and has the view of m at
-- the seat number id, when the word of the cell i, a number below 2^64, becomes f of what it was, there are a new view and a
-- possible move of slots (maybe of none) after which the rule holds, and T holds of the word found and of the seat after.
-- `step n i a b none` is a step on the cell i with the operands a and b. `rest xs` is xs without its first, and `either b x y`
-- is x where b is true, and else y.
use Rattle.std.specs.Prelude.{◌≡◌, ℕ, ◌+◌, ◌*◌, ◌<◌, ◌∷◌, false, Some, None, ◌==◌}
use prog.Atomic.{either}
use Rattle.atomic_table.specs.Table.{Allows, step, rest}
use mathlib.Core.Option.{none}
use Rattle.usb_xfer.specs.declared.transfer.Completion.{Completion}
use Rattle.usb_live.specs.declared.view.Transfer.{Transfer}
use Rattle.usb_live.specs.declared.view.Side.TheVariants.{Owner, Handler}
use Rattle.usb_live.specs.declared.view.Owned.TheVariants.{Free, Filled, Mine, Pending}
use Rattle.usb_live.specs.declared.view.Handled.TheVariants.{Working, Reclaim}
use Rattle.usb_live.specs.Cells.{OwnerTakes, HandlerTakes}
use Rattle.usb_live.specs.Rows.{Rowed, owner_cell, handler_cell}
use Rattle.usb_live.specs.Steps.{Sat, owner_took_out, filled, refused, published, owner_looked, abandoned, owner_took, handler_took_out, handler_looked, finished, handler_took}

-- the owner takes a slot out that is at home
abbrev pub OwnerOutKeepsTheRule : Type 0
OwnerOutKeepsTheRule = (n id i : ℕ) (m : Sat) → i < 64 → m.0.side ≡ Owner → (owner_cell m.0 i).out ≡ false → OwnerTakes (owner_cell m.0 i).stage
    → Allows Rowed n id m i (λ w. w) (owner_took_out (step n i 0 0 none) m)

-- it puts the ticket t into a free cell, and writes 4 t
abbrev pub FillKeepsTheRule : Type 0
FillKeepsTheRule = (n id i t : ℕ) (m : Sat) (x : Transfer) → i < 64 → m.0.side ≡ Owner → (owner_cell m.0 i).stage ≡ Free
    → m.1 ≡ (i, Some x) ∷ rest m.1 → x.ticket ≡ t → Allows Rowed n id m i (λ _. 4 * t) (filled (step n i (4 * t) 0 none) m)

-- it puts a refused ticket t into a free cell with its completion, and writes 4 t
abbrev pub RefuseKeepsTheRule : Type 0
RefuseKeepsTheRule = (n id i t : ℕ) (m : Sat) (x : Transfer) (d : Completion) → i < 64 → m.0.side ≡ Owner → (owner_cell m.0 i).stage ≡ Free
    → m.1 ≡ (i, Some x) ∷ rest m.1 → x.ticket ≡ t → x.completion ≡ Some d → Allows Rowed n id m i (λ _. 4 * t) (refused (step n i (4 * t) 0 none) m)

-- it makes a filled cell pending, and writes 4 t + 1
abbrev pub PublishKeepsTheRule : Type 0
PublishKeepsTheRule = (n id i t : ℕ) (m : Sat) → i < 64 → m.0.side ≡ Owner → (owner_cell m.0 i).out ≡ false → (owner_cell m.0 i).stage ≡ Filled t
    → Allows Rowed n id m i (λ _. 4 * t + 1) (published (step n i (4 * t + 1) 0 none) m)

-- it looks at a pending cell
abbrev pub OwnerLookKeepsTheRule : Type 0
OwnerLookKeepsTheRule = (n id i t : ℕ) (m : Sat) → i < 64 → m.0.side ≡ Owner → (owner_cell m.0 i).stage ≡ Pending t
    → Allows Rowed n id m i (λ w. w) (owner_looked (step n i 0 0 none) m)

-- it leaves a pending cell, and writes 4 t + 2 only where it finds 4 t + 1
abbrev pub AbandonKeepsTheRule : Type 0
AbandonKeepsTheRule = (n id i t : ℕ) (m : Sat) → i < 64 → m.0.side ≡ Owner → (owner_cell m.0 i).stage ≡ Pending t
    → Allows Rowed n id m i (λ w. either (w == 4 * t + 1) (4 * t + 2) w) (abandoned (step n i (4 * t + 1) (4 * t + 2) none) m)

-- it leaves the slot of its own cell empty, and writes 4 t again
abbrev pub OwnerTakeKeepsTheRule : Type 0
OwnerTakeKeepsTheRule = (n id i t : ℕ) (m : Sat) → i < 64 → m.0.side ≡ Owner → (owner_cell m.0 i).stage ≡ Mine t
    → m.1 ≡ (i, None) ∷ rest m.1 → Allows Rowed n id m i (λ _. 4 * t) (owner_took (step n i (4 * t) 0 none) m)

-- the handler takes a slot out that is at home
abbrev pub HandlerOutKeepsTheRule : Type 0
HandlerOutKeepsTheRule = (n id i : ℕ) (m : Sat) → i < 64 → m.0.side ≡ Handler → (handler_cell m.0 i).out ≡ false → HandlerTakes (handler_cell m.0 i).stage
    → Allows Rowed n id m i (λ w. w) (handler_took_out (step n i 0 0 none) m)

-- it looks at a cell
abbrev pub HandlerLookKeepsTheRule : Type 0
HandlerLookKeepsTheRule = (n id i : ℕ) (m : Sat) → i < 64 → m.0.side ≡ Handler → Allows Rowed n id m i (λ w. w) (handler_looked (step n i 0 0 none) m)

-- it puts the completion of the ticket t in, and writes 4 t
abbrev pub FinishKeepsTheRule : Type 0
FinishKeepsTheRule = (n id i t : ℕ) (m : Sat) (x : Transfer) (d : Completion) → i < 64 → m.0.side ≡ Handler → (handler_cell m.0 i).stage ≡ Working t
    → m.1 ≡ (i, Some x) ∷ rest m.1 → x.ticket ≡ t → x.completion ≡ Some d → Allows Rowed n id m i (λ _. 4 * t) (finished (step n i (4 * t) 0 none) m)

-- it leaves the slot of a cell empty that the owner left, and writes 4 t again
abbrev pub HandlerTakeKeepsTheRule : Type 0
HandlerTakeKeepsTheRule = (n id i t : ℕ) (m : Sat) → i < 64 → m.0.side ≡ Handler → (handler_cell m.0 i).stage ≡ Reclaim t
    → m.1 ≡ (i, None) ∷ rest m.1 → Allows Rowed n id m i (λ _. 4 * t) (handler_took (step n i (4 * t) 0 none) m)
