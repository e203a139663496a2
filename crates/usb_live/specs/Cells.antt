-- The rule of one cell: its word, its slot, what the owner knows of it, and what the handler does.
-- A word is 4 t and a state: 0 idle, 1 pending, 2 abandoned.
use Rattle.std.specs.Prelude.{◌≡◌, ◌⊎◌, ℕ, ◌+◌, ◌*◌, ◌%◌, Bool, true, false, ◌||◌, Option, Some, None}
use mathlib.Core.Option.{some, none}
use mathlib.Core.Option as maybe
use Rattle.usb_xfer.specs.declared.transfer.Completion.{Completion}
use Rattle.usb_live.specs.declared.view.Transfer.{Transfer}
use Rattle.usb_live.specs.declared.view.Owned.{Owned}
use Rattle.usb_live.specs.declared.view.Owned.TheVariants.{Free, Filled, Mine, Pending, Left}
use Rattle.usb_live.specs.declared.view.Handled.{Handled}
use Rattle.usb_live.specs.declared.view.Handled.TheVariants.{Idle, Working, Reclaim, Reclaimed}
use Rattle.usb_live.specs.declared.view.OwnerCell.{OwnerCell}
use Rattle.usb_live.specs.declared.view.HandlerCell.{HandlerCell}

-- what a slot holds: nothing, or a transfer
abbrev pub SlotValue : Type 0
SlotValue = Option Transfer

-- a slot at home with its value, or out
abbrev pub Home : Type 0
Home = maybe.Option SlotValue

-- the slot holds nothing
abbrev pub IsEmpty : SlotValue → Type 0
IsEmpty x = x ≡ None

-- the slot holds the transfer of the ticket t
abbrev pub Holds : ℕ → SlotValue → Type 0
Holds t x = (y : Transfer) × (x ≡ Some y) × (y.ticket ≡ t)

-- the same, with some completion
abbrev pub HoldsDone : ℕ → SlotValue → Type 0
HoldsDone t x = (y : Transfer) × (c : Completion) × (x ≡ Some y) × (y.ticket ≡ t) × (y.completion ≡ Some c)

-- the same, with the completion that was put in last
abbrev pub HoldsLast : ℕ → Option Completion → SlotValue → Type 0
HoldsLast t last x = (y : Transfer) × (c : Completion) × (x ≡ Some y) × (y.ticket ≡ t) × (y.completion ≡ Some c) × (last ≡ Some c)

-- a fact of the slot's value, while it is at home
abbrev pub AtHome : (SlotValue → Type 0) → Home → Type 0
AtHome P none = Unit {0}
AtHome P (some x) = P x

-- The table of the rule: of a cell's word, its slot, what the owner knows, what the handler does, and the completion that the
-- handler put in last.
-- A free cell has an idle word and an empty slot. A filled cell and one of the owner's have the word 4 t and hold t, the owner's
-- with its completion. In all three the handler does nothing.
-- While t is pending the word is 4 t + 1 and the slot holds t, whether the handler works on it yet or not. Once the handler is done
-- the word is 4 t, and the slot has the completion that it put in.
-- While t is left the word is 4 t + 2 and the slot holds t. Once the handler is done the word is 4 t, and the slot has the completion
-- that it put in until it has reclaimed t, and then nothing
abbrev pub CellAgrees : ℕ → Home → Owned → Handled → Option Completion → Type 0
CellAgrees w home Free Idle last = (w % 4 ≡ 0) × AtHome IsEmpty home
CellAgrees w home (Filled t) Idle last = (w ≡ 4 * t) × AtHome (Holds t) home
CellAgrees w home (Mine t) Idle last = (w ≡ 4 * t) × AtHome (HoldsDone t) home
CellAgrees w home (Pending t) Idle last = ((w ≡ 4 * t + 1) × AtHome (Holds t) home) ⊎ ((w ≡ 4 * t) × AtHome (HoldsLast t last) home)
CellAgrees w home (Pending t) (Working u) last = (u ≡ t) × (w ≡ 4 * t + 1) × AtHome (Holds t) home
CellAgrees w home (Left t) Idle last = (w ≡ 4 * t + 2) × AtHome (Holds t) home
CellAgrees w home (Left t) (Working u) last = (u ≡ t) × (w ≡ 4 * t + 2) × AtHome (Holds t) home
CellAgrees w home (Left t) (Reclaim u) last = (u ≡ t) × (w ≡ 4 * t) × AtHome (HoldsLast t last) home
CellAgrees w home (Left t) (Reclaimed u) last = (u ≡ t) × (w ≡ 4 * t) × AtHome IsEmpty home
CellAgrees w home _ _ last = ⊥

-- the stages (what a seat knows of a cell, `Owned` or `Handled`) in which the owner may have the slot out
abbrev pub OwnerTakes : Owned → Type 0
OwnerTakes Free = Unit {0}
OwnerTakes (Filled t) = Unit {0}
OwnerTakes (Mine t) = Unit {0}
OwnerTakes _ = ⊥

-- the stages in which the handler may have it out
abbrev pub HandlerTakes : Handled → Type 0
HandlerTakes (Working t) = Unit {0}
HandlerTakes (Reclaim t) = Unit {0}
HandlerTakes _ = ⊥

-- the slot is out, with the one seat or the other
abbrev pub is_out : Home → Bool
is_out none = true
is_out (some x) = false

-- the rule of a cell: the table; the slot is out exactly where a seat says that it has it; and a seat says so only where it may
pub record Cell (w : ℕ) (home : Home) (o : OwnerCell) (h : HandlerCell) : Type 0 where
  pub agrees : CellAgrees w home o.stage h.stage h.last
  pub out : is_out home ≡ (o.out || h.out)
  pub owner_out : o.out ≡ true → OwnerTakes o.stage
  pub handler_out : h.out ≡ true → HandlerTakes h.stage
