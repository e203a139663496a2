-- A seat between the calls.
use Rattle.std.specs.Prelude.{◌≡◌, ℕ, ◌^◌, ◌<◌, List, [], length, false}
use Rattle.atomic_table.specs.Seated.{TableId}
use Rattle.atomic_table.specs.declared.shared.Seat.{Seat}
use Rattle.usb_live.specs.declared.view.View.{View}
use Rattle.usb_live.specs.declared.view.Owned.{Owned}
use Rattle.usb_live.specs.declared.view.Owned.TheVariants.{Free, Filled, Mine, Pending, Left}
use Rattle.usb_live.specs.declared.view.Handled.{Handled}
use Rattle.usb_live.specs.declared.view.Handled.TheVariants.{Reclaim}
use Rattle.usb_live.specs.declared.view.OwnerCell.{OwnerCell}
use Rattle.usb_live.specs.declared.view.HandlerCell.{HandlerCell}
use Rattle.usb_live.specs.Cells.{SlotValue}
use Rattle.usb_live.specs.Rows.{owner_cell, handler_cell, stage_at}
use Rattle.usb_live.specs.Seats.{IsOwner, IsHandler}

-- four times the ticket, and a state of it, can be written as a word
abbrev pub IsSmall : Owned → Type 0
IsSmall Free = Unit {0}
IsSmall (Filled t) = t < 2 ^ 62
IsSmall (Mine t) = t < 2 ^ 62
IsSmall (Pending t) = t < 2 ^ 62
IsSmall (Left t) = t < 2 ^ 62

-- no slot is out
abbrev pub OwnerCellRests : OwnerCell → Type 0
OwnerCellRests c = (c.out ≡ false) × IsSmall c.stage

-- the owner between its calls
pub record OwnerRests (id : TableId) (s : Seat SlotValue View) : Type 0 where
  pub table : s.table_id ≡ id
  pub owner : IsOwner s.me.0
  pub carries : s.me.1 ≡ []
  pub each : (i : ℕ) → i < 64 → OwnerCellRests (owner_cell s.me.0 i)

-- the handler takes out at once what it has to reclaim
abbrev pub HandlerIsDone : Handled → Type 0
HandlerIsDone (Reclaim t) = ⊥
HandlerIsDone _ = Unit {0}

-- no slot is out
abbrev pub HandlerCellRests : HandlerCell → Type 0
HandlerCellRests c = (c.out ≡ false) × HandlerIsDone c.stage

-- the handler between its calls
pub record HandlerRests (id : TableId) (s : Seat SlotValue View) : Type 0 where
  pub table : s.table_id ≡ id
  pub handler : IsHandler s.me.0
  pub carries : s.me.1 ≡ []
  pub each : (i : ℕ) → i < 64 → HandlerCellRests (handler_cell s.me.0 i)

-- each cell is free
abbrev pub AllFree : List OwnerCell → Type 0
AllFree cells = (i : ℕ) → i < 64 → stage_at cells i ≡ Free

-- no transfer was put into the row, or each that was is taken
pub record IsUnused (v : View) : Type 0 where
  pub wide : length v.owner ≡ 64
  pub free : AllFree v.owner

-- the owner's seat before an endpoint takes it
pub record IsUnusedSeat (id : TableId) (s : Seat SlotValue View) : Type 0 where
  pub rests : OwnerRests id s
  pub unused : IsUnused s.me.0
