-- What an endpoint is to its caller, and how its queue stands to the cells.
use Rattle.std.specs.Prelude.{◌≡◌, ◌≢◌, ◌⊎◌, ℕ, ◌^◌, ◌*◌, ◌<◌, List, [], ◌∷◌, length, true, false, Bool, cond, slice_index_or}
use Rattle.usb_xfer.specs.declared.transfer.Completion.{Completion}
use Rattle.usb_kernel.specs.declared.submission.Submitted.{Submitted}
use Rattle.usb_kernel.specs.declared.submission.Submitted.TheVariants as submission
use Rattle.usb_kernel.specs.TransferCompletions.{completion_of}
use Rattle.usb_live.specs.declared.view.View.{View}
use Rattle.usb_live.specs.declared.view.Owned.{Owned}
use Rattle.usb_live.specs.declared.view.Owned.TheVariants.{Free, Mine, Pending, Left}
use Rattle.usb_live.specs.declared.view.OwnerCell.{OwnerCell}
use Rattle.usb_live.specs.declared.entry.Entry.{Entry}
use Rattle.usb_live.specs.declared.entry.Tally.{Tally}
use Rattle.usb_device_endpoint.specs.declared.route.Route.{Route}
use Rattle.usb_live.specs.Rows.{stage_at}
use Rattle.usb_live.specs.Seats.{OwnerState, owns, owner_looks, has_own}

-- the owner of the cells, where transfers go, the transfers on their way, the oldest first, and how many there were
pub record Live : Type 0 where
  pub seat : OwnerState
  pub route : Route
  pub queue : List Entry
  pub tally : Tally

-- a transfer on its way lies in a cell that is pending, or that is the owner's where it was refused
abbrev pub stage_of : Entry → Owned
stage_of e = cond e.refused (Mine e.ticket) (Pending e.ticket)

-- the owner once a transfer lies in the free cell i: for the handler to finish, or with its completion where it was refused
abbrev pub placed : OwnerState → Submitted → ℕ → OwnerState
placed s (submission.Queued t) i = owns s i (Pending t)
placed s (submission.Refused done) i = has_own (owns s i (Mine done.ticket)) (completion_of done)

-- the owner once it took this completion out of the cell of an entry, which is free. It looked there and read the word as idle, unless
-- the ticket was refused
abbrev pub emptied : OwnerState → Entry → Completion → OwnerState
emptied s e done = has_own (cond e.refused (owns s e.cell Free) (owner_looks (owns s e.cell Free) e.cell (4 * e.ticket))) done

-- the owner dropped the completion of an entry, whose cell is free
abbrev pub IsDropped : Entry → OwnerState → OwnerState → Type 0
IsDropped e s t = (done : Completion) × (t ≡ has_own (owns s e.cell Free) done)

-- the transfer of an entry lies in its cell
abbrev pub LiesInCell : List OwnerCell → Entry → Type 0
LiesInCell cells e = (e.cell < 64) × (e.ticket < 2 ^ 62) × (stage_at cells e.cell ≡ stage_of e)

-- the cell i is that of no entry
abbrev pub Off : ℕ → List Entry → Type 0
Off i [] = Unit {0}
Off i (e ∷ es) = (i ≢ e.cell) × Off i es

-- the cell i is that of an entry
abbrev pub In : ℕ → List Entry → Type 0
In i [] = ⊥
In i (e ∷ es) = (i ≡ e.cell) ⊎ In i es

-- the transfer of each entry lies in a cell of its own
abbrev pub Queued : List OwnerCell → List Entry → Type 0
Queued cells [] = Unit {0}
Queued cells (e ∷ es) = LiesInCell cells e × Off e.cell es × Queued cells es

-- the owner left the cell to the handler
abbrev pub IsLeft : Owned → Type 0
IsLeft (Left t) = Unit {0}
IsLeft _ = ⊥

-- a cell is free and not used; or it is used, and left or in the queue
abbrev pub CellAccounted : List OwnerCell → List Entry → List Bool → ℕ → Type 0
CellAccounted cells q used i =
    ((slice_index_or used i true ≡ false) × (stage_at cells i ≡ Free))
    ⊎ ((slice_index_or used i true ≡ true) × (IsLeft (stage_at cells i) ⊎ In i q))

-- the queue and the marks of used cells are in order with the owner's view
pub record Orderly (v : View) (q : List Entry) (used : List Bool) : Type 0 where
  pub wide : length v.owner ≡ 64
  pub long : length used ≡ 64
  pub queued : Queued v.owner q
  pub accounted : (i : ℕ) → i < 64 → CellAccounted v.owner q used i
