-- What the two seats of a row are between and during their calls.
use Rattle.std.specs.Prelude.{◌≡◌, ℕ, ◌<◌, Bool, true, false, Some, length}
use Rattle.atomic_table.specs.Seated.{TableId}
use Rattle.atomic_table.specs.declared.shared.Seat.{Seat}
use Rattle.usb_xfer.specs.declared.transfer.Completion.{Completion}
use Rattle.usb_live.specs.declared.view.View.{View}
use Rattle.usb_live.specs.declared.view.Side.TheVariants.{Owner, Handler}
use Rattle.usb_live.specs.declared.view.Owned.{Owned}
use Rattle.usb_live.specs.declared.view.Handled.{Handled}
use Rattle.usb_live.specs.Cells.{SlotValue}
use Rattle.usb_live.specs.Rows.{owner_cell, handler_cell}
use Rattle.usb_live.specs.Steps.{owning, looked, with_own}

-- the owner's view, of 64 cells
abbrev pub IsOwner : View → Type 0
IsOwner v = (v.side ≡ Owner) × (length v.owner ≡ 64)

-- the handler's view, of 64 cells
abbrev pub IsHandler : View → Type 0
IsHandler v = (v.side ≡ Handler) × (length v.handler ≡ 64)

-- the owner's seat of this row
abbrev pub IsOwnerOf : TableId → Seat SlotValue View → Type 0
IsOwnerOf row s = (s.table_id ≡ row) × IsOwner s.me.0

-- the handler's seat of this row
abbrev pub IsHandlerOf : TableId → Seat SlotValue View → Type 0
IsHandlerOf row s = (s.table_id ≡ row) × IsHandler s.me.0

-- the owner has the cell i at this stage, and its slot is not out
abbrev pub OwnerHas : View → ℕ → Owned → Type 0
OwnerHas v i stage = (i < 64) × ((owner_cell v i).out ≡ false) × ((owner_cell v i).stage ≡ stage)

-- the handler has the cell i at this stage, and its slot is not out
abbrev pub HandlerHas : View → ℕ → Handled → Type 0
HandlerHas v i stage = (i < 64) × ((handler_cell v i).out ≡ false) × ((handler_cell v i).stage ≡ stage)

-- a step changes neither the row of a seat nor its number
abbrev pub IsSameSeat : Seat SlotValue View → Seat SlotValue View → Type 0
IsSameSeat s t = (t.table_id ≡ s.table_id) × (t.id ≡ s.id)

-- a seat as its holder sees it: the row that it is of, and what the holder knows
pub record SeatState : Type 0 where
  pub row : TableId
  pub view : View

-- the owner at work: the same, the `Notify` at which it hears of the handler's moves, by its number (`source`), whether a task is
-- registered there that has still to look, and whether the last look was made by such a task
pub record OwnerState : Type 0 where
  pub row : TableId
  pub view : View
  pub source : ℕ
  pub ready : Bool
  pub heard : Bool

-- the owner as it begins in a seat, where it hears of the handler's moves at the `Notify` of this number
abbrev pub owner_in : SeatState → ℕ → OwnerState
owner_in s source = record { row = s.row; view = s.view; source = source; ready = false; heard = false }

-- the owner's seat with the cell i at another stage
abbrev pub owns : OwnerState → ℕ → Owned → OwnerState
owns s i stage = record s { view = owning s.view i stage false }

-- and after one look more, at the cell i, which read the word w
abbrev pub owner_looks : OwnerState → ℕ → ℕ → OwnerState
owner_looks s i w = record s { view = looked s.view i w; ready = false; heard = s.ready }

-- and once it put this completion in, or found it
abbrev pub has_own : OwnerState → Completion → OwnerState
has_own s done = record s { view = with_own s.view (Some done) }

-- and once a task is registered that has still to look
abbrev pub hears : OwnerState → OwnerState
hears s = record s { ready = true }
