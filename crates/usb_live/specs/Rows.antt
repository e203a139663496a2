-- The rule of a row of 64 cells, which is the rule of one cell asked of each.
use Rattle.std.specs.Prelude.{◌≡◌, ◌⊎◌, ℕ, ◌<◌, List, [], ◌∷◌, length, replicate, false, None, slice_index, slice_index_or}
use mathlib.Core.Option.{none}
use Rattle.atomic_table.specs.Table.{State}
use Rattle.usb_live.specs.declared.view.OwnerCell.{OwnerCell}
use Rattle.usb_live.specs.declared.view.HandlerCell.{HandlerCell}
use Rattle.usb_live.specs.declared.view.View.{View}
use Rattle.usb_live.specs.declared.view.Side.TheVariants.{Both, Owner, Handler}
use Rattle.usb_live.specs.declared.view.Owned.{Owned}
use Rattle.usb_live.specs.declared.view.Owned.TheVariants.{Free}
use Rattle.usb_live.specs.declared.view.Handled.TheVariants.{Idle}
use Rattle.usb_live.specs.Cells.{SlotValue, Home, Cell}

-- a free cell, as the owner sees it
abbrev pub free_cell : OwnerCell
free_cell = record { stage = Free; out = false }

-- a cell in which the handler does nothing and put no completion yet
abbrev pub idle_cell : HandlerCell
idle_cell = record { stage = Idle; out = false; last = None }

-- the cell i as the owner sees it
abbrev pub owner_cell : View → ℕ → OwnerCell
owner_cell v i = slice_index_or v.owner i free_cell

-- the cell i as the handler sees it
abbrev pub handler_cell : View → ℕ → HandlerCell
handler_cell v i = slice_index_or v.handler i idle_cell

-- the stage of the cell i, in the owner's list of cells
abbrev pub stage_at : List OwnerCell → ℕ → Owned
stage_at cells i = (slice_index_or cells i free_cell).stage

-- the first view, of the seat that is cut in two
abbrev pub first : View
first = record { side = Both; owner = []; handler = []; looks = 0; cell = 0; word = 0; own = None }

-- the first view of the owner, and that of the handler
abbrev pub owner_first : View
owner_first = record { side = Owner; owner = replicate 64 free_cell; handler = []; looks = 0; cell = 0; word = 0; own = None }

abbrev pub handler_first : View
handler_first = record { side = Handler; owner = []; handler = replicate 64 idle_cell; looks = 0; cell = 0; word = 0; own = None }

-- a row as its table has it: the words, the slots at home and the views of the seats
abbrev pub St : Type 0
St = State SlotValue View

-- before the two seats are made, each cell is free
abbrev pub One : List ℕ → List Home → List View → Type 0
One ws hs vs = (v : View) × (vs ≡ v ∷ []) × (v.side ≡ Both) × ((i : ℕ) → i < 64 → Cell (slice_index ws i) (slice_index_or hs i none) free_cell idle_cell)

-- with two seats, the rule of a cell is asked of each cell
pub record Two (ws : List ℕ) (hs : List Home) (o h : View) : Type 0 where
  pub owner : (o.side ≡ Owner) × (length o.owner ≡ 64)
  pub handler : (h.side ≡ Handler) × (length h.handler ≡ 64)
  pub each : (i : ℕ) → i < 64 → Cell (slice_index ws i) (slice_index_or hs i none) (owner_cell o i) (handler_cell h i)

-- the rule of a row
pub record Rowed (s : St) : Type 0 where
  pub words : length s.words ≡ 64
  pub homes : length s.homes ≡ 64
  pub seats : One s.words s.homes s.views ⊎ ((o : View) × (h : View) × (s.views ≡ o ∷ h ∷ []) × Two s.words s.homes o h)
