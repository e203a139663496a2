-- What each step tells: of the step (st), the seat before (m), the word found (r) and the seat after (n).
-- Of a step `st.word` is the number of its cell, and `st.first` its first operand: where it is used here, the word that the
-- step writes.
use Rattle.std.specs.Prelude.{◌≡◌, ◌≢◌, ◌⊎◌, ℕ, ◌+◌, ◌*◌, ◌/◌, ◌%◌, ◌<◌, List, [], ◌∷◌, true, false, Bool, Option, Some, None, slice_set}
use Rattle.atomic_table.specs.Table.{Me, Step, rest}
use Rattle.usb_xfer.specs.declared.transfer.Completion.{Completion}
use Rattle.usb_live.specs.declared.view.Owned.{Owned}
use Rattle.usb_live.specs.declared.view.Owned.TheVariants.{Free, Filled, Mine, Pending, Left}
use Rattle.usb_live.specs.declared.view.Handled.{Handled}
use Rattle.usb_live.specs.declared.view.Handled.TheVariants.{Idle, Working, Reclaim, Reclaimed}
use Rattle.usb_live.specs.declared.view.View.{View}
use Rattle.usb_live.specs.Cells.{SlotValue, IsEmpty, Holds, HoldsDone, HoldsLast}
use Rattle.usb_live.specs.Rows.{owner_cell, handler_cell}

-- a seat: what it knows, and the slots that it has out, each with its cell
abbrev pub Sat : Type 0
Sat = Me SlotValue View

-- what a step tells
abbrev pub Tells : Type 1
Tells = Step SlotValue → Sat → ℕ → Sat → Type 0

-- the owner's view with the cell i at another stage
abbrev pub owning : View → ℕ → Owned → Bool → View
owning v i stage out = record v { owner = slice_set v.owner i (record { stage = stage; out = out }) }

-- the handler's view with the cell i at another stage
abbrev pub handling : View → ℕ → Handled → Bool → Option Completion → View
handling v i stage out last = record v { handler = slice_set v.handler i (record { stage = stage; out = out; last = last }) }

-- one look more, at the cell i, which read the word w
abbrev pub looked : View → ℕ → ℕ → View
looked v i w = record v { looks = v.looks + 1; cell = i; word = w }

-- the completion in a slot
abbrev pub slot_completion : SlotValue → Option Completion
slot_completion None = None
slot_completion (Some y) = y.completion

-- the completion in the slot that was taken last
abbrev pub completion_in : List (ℕ × SlotValue) → Option Completion
completion_in [] = None
completion_in (x ∷ xs) = slot_completion x.1

-- the owner's view with the completion that it last put in or found
abbrev pub with_own : View → Option Completion → View
with_own v own = record v { own = own }

-- that completion once the owner took a slot out: the one in the slot, where the transfer there has ended
abbrev pub found_in : Owned → SlotValue → Option Completion → Option Completion
found_in (Mine t) x own = slot_completion x
found_in _ x own = own

-- what the owner finds in a slot that it takes out
abbrev pub OwnerFinds : Owned → SlotValue → Type 0
OwnerFinds Free x = IsEmpty x
OwnerFinds (Mine t) x = HoldsDone t x
OwnerFinds _ x = Unit {0}

-- and what the handler finds
abbrev pub HandlerFinds : Handled → Option Completion → SlotValue → Type 0
HandlerFinds (Working t) last x = Holds t x
HandlerFinds (Reclaim t) last x = HoldsLast t last x
HandlerFinds _ last x = Unit {0}

-- the owner has the slot out
abbrev pub owner_took_out : Tells
owner_took_out st m r n = let stage : Owned = (owner_cell m.0 st.word).stage in
    (x : SlotValue) × (n ≡ (owning (with_own m.0 (found_in stage x m.0.own)) st.word stage true, (st.word, x) ∷ m.1)) × OwnerFinds stage x

-- the slot went home with a transfer
abbrev pub filled : Tells
filled st m r n = n ≡ (owning m.0 st.word (Filled (st.first / 4)) false, rest m.1)

-- the slot went home with a transfer that ended at once
abbrev pub refused : Tells
refused st m r n = n ≡ (owning (with_own m.0 (completion_in m.1)) st.word (Mine (st.first / 4)) false, rest m.1)

-- the filled cell is pending
abbrev pub published : Tells
published st m r n = n ≡ (owning m.0 st.word (Pending (st.first / 4)) false, m.1)

-- the owner's look at a pending cell
abbrev pub owner_looked : Tells
owner_looked st m r n = (t : ℕ) → (owner_cell m.0 st.word).stage ≡ Pending t
    → ((r ≡ 4 * t) × (n ≡ (looked (owning m.0 st.word (Mine t) false) st.word r, m.1))) ⊎ ((r ≡ 4 * t + 1) × (n ≡ (looked m.0 st.word r, m.1)))

-- the owner leaves a pending cell, or finds it finished
abbrev pub abandoned : Tells
abandoned st m r n = (t : ℕ) → (owner_cell m.0 st.word).stage ≡ Pending t
    → ((r ≡ 4 * t + 1) × (n ≡ (owning m.0 st.word (Left t) false, m.1))) ⊎ ((r ≡ 4 * t) × (n ≡ (owning m.0 st.word (Mine t) false, m.1)))

-- the slot went home empty
abbrev pub owner_took : Tells
owner_took st m r n = n ≡ (owning m.0 st.word Free false, rest m.1)

-- the handler has the slot out
abbrev pub handler_took_out : Tells
handler_took_out st m r n = let c = handler_cell m.0 st.word in
    (x : SlotValue) × (n ≡ (handling m.0 st.word c.stage true c.last, (st.word, x) ∷ m.1)) × HandlerFinds c.stage c.last x

-- the words that the handler may find at a stage
abbrev pub MayFind : Handled → ℕ → Type 0
MayFind Idle r = Unit {0}
MayFind (Working t) r = r % 4 ≢ 0
MayFind (Reclaim t) r = r ≡ 4 * t
MayFind (Reclaimed t) r = r ≡ 4 * t

-- the handler's look: it works where the word is pending or abandoned
abbrev pub handler_looked : Tells
handler_looked st m r n = let c = handler_cell m.0 st.word in
    (r % 4 < 3) × MayFind c.stage r × (r % 4 ≡ 0 → n ≡ (looked m.0 st.word r, m.1)) × (r % 4 ≢ 0 → n ≡ (looked (handling m.0 st.word (Working (r / 4)) c.out c.last) st.word r, m.1))

-- the slot went home with its completion: the owner still waited for it, or had left it
abbrev pub finished : Tells
finished st m r n = ((r % 4 ≡ 1) × (n ≡ (handling m.0 st.word Idle false (completion_in m.1), rest m.1)))
    ⊎ ((r % 4 ≡ 2) × (n ≡ (handling m.0 st.word (Reclaim (st.first / 4)) false (completion_in m.1), rest m.1)))

-- the slot went home empty
abbrev pub handler_took : Tells
handler_took st m r n = n ≡ (handling m.0 st.word (Reclaimed (st.first / 4)) false (handler_cell m.0 st.word).last, rest m.1)
