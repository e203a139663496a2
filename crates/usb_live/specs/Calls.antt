-- What the calls of an endpoint tell: of its value before and after, and of the kernel's where one is lent.
use Rattle.std.specs.Prelude.{◌≡◌, ◌≢◌, ◌⊎◌, ◌&&◌, not, ℕ, ◌+◌, ◌*◌, ◌<◌, List, [], ◌∷◌, ◌++◌, true, false, Bool, cond, min, None, Result, Ok, Err}
use Rattle.futures.specs.declared.task.Poll.{Poll}
use Rattle.futures.specs.declared.task.Poll.TheVariants.{Ready}
use Rattle.usb_xfer.specs.BufferState.{BufferState}
use Rattle.usb_kernel.specs.declared.submission.Submitted.{Submitted}
use Rattle.usb_kernel.specs.Value.{KernelState}
use Rattle.usb_kernel.specs.Steps.{after_discard}
use Rattle.usb_live.specs.declared.view.Owned.{Owned}
use Rattle.usb_live.specs.declared.view.Owned.TheVariants.{Free}
use Rattle.usb_live.specs.declared.view.OwnerCell.{OwnerCell}
use Rattle.usb_live.specs.declared.entry.Entry.{Entry}
use Rattle.usb_live.specs.declared.entry.LiveError.{LiveError}
use Rattle.usb_live.specs.declared.entry.LiveError.TheVariants.{Full, Memory}
use Rattle.usb_live.specs.declared.entry.Receipt.{Receipt}
use Rattle.usb_live.specs.declared.entry.Tally.{Tally}
use Rattle.usb_live.specs.Rows.{stage_at}
use Rattle.usb_live.specs.Seats.{owner_looks}
use Rattle.usb_device_endpoint.specs.Routes.{submission_of}
use Rattle.usb_live.specs.Submits.{submitted, after_submitted, entry_of}
use Rattle.usb_live.specs.Live.{Live, IsLeft, placed, emptied}

-- a number that stands still at the greatest `u64`
abbrev pub up_to_end : ℕ → ℕ
up_to_end n = min n 18446744073709551615

-- a free cell got the transfer, which stands at the end of the queue
pub record GetsCell (s : Submitted) (t : ℕ) (x y : Live) : Type 0 where
  pub cell : ℕ
  pub below : cell < 64
  pub free : stage_at x.seat.view.owner cell ≡ Free
  pub ticket : t ≡ (entry_of s cell).ticket
  pub after : y ≡ record x {
    seat = placed x.seat s cell;
    queue = x.queue ++ entry_of s cell ∷ [];
    tally = record x.tally { submitted = up_to_end (x.tally.submitted + 1) };
  }

-- Of the answer, the buffer, the endpoint and the kernel before, and both after.
-- Ok: the transfer is submitted, and the kernel has its Submit or Refuse. Full: each cell is occupied. Memory: some cell is free
abbrev pub SubmitTells : Result ℕ LiveError → BufferState → Live → KernelState → Live → KernelState → Type 0
SubmitTells (Ok t) b x k y l =
    GetsCell (submitted k (submission_of x.route None b)) t x y × (l ≡ after_submitted k (submission_of x.route None b))
SubmitTells (Err (Full c)) b x k y l = (c ≡ b) × (y ≡ x) × (l ≡ k) × ((i : ℕ) → i < 64 → stage_at x.seat.view.owner i ≢ Free)
SubmitTells (Err (Memory c)) b x k y l = (c ≡ b) × (y ≡ x) × (l ≡ k) × ((i : ℕ) × (i < 64) × (stage_at x.seat.view.owner i ≡ Free))

-- no receipt: the last look was at the front's cell and read its word as pending
abbrev pub StillPending : List Entry → Live → Live → Type 0
StillPending [] x y = ⊥
StillPending (e ∷ es) x y = (e.refused ≡ false) × (y ≡ record x { seat = owner_looks x.seat e.cell (4 * e.ticket + 1) })

-- the front's receipt, with the completion that lay in its cell, which is free
abbrev pub IsTaken : List Entry → Receipt → Live → Live → Type 0
IsTaken [] r x y = ⊥
IsTaken (e ∷ es) r x y =
    (r.ticket ≡ e.ticket)
    × (y ≡ record x {
      seat = emptied x.seat e r.completion;
      queue = es;
      tally = record x.tally { taken = up_to_end (x.tally.taken + 1) };
    })

-- of the answer to a poll
abbrev pub NextTells : Poll Receipt → Live → Live → Type 0
NextTells Poll.Pending x y = StillPending x.queue x y
NextTells (Ready r) x y = IsTaken x.queue r x y

-- the kernel after the tickets of the queue were discarded, from the last to the first
abbrev pub cancelled : List Entry → KernelState → KernelState
cancelled [] k = k
cancelled (e ∷ es) k = let l : KernelState = cancelled es k in record l { past = after_discard l.past e.ticket }

-- the cell is free
abbrev pub is_free : Owned → Bool
is_free Free = true
is_free _ = false

-- how many cells were not free before and are free after
abbrev pub freed : List OwnerCell → List OwnerCell → ℕ
freed [] ys = 0
freed (x ∷ xs) [] = 0
freed (x ∷ xs) (y ∷ ys) = cond (not (is_free x.stage) && is_free y.stage) 1 0 + freed xs ys

-- each cell is free, or left to the handler
abbrev pub IsShut : List OwnerCell → Type 0
IsShut cells = (i : ℕ) → i < 64 → (stage_at cells i ≡ Free) ⊎ IsLeft (stage_at cells i)

-- each transfer that was dropped is counted
abbrev pub with_dropped : Tally → List OwnerCell → List OwnerCell → Tally
with_dropped t before after = record t { dropped = up_to_end (t.dropped + freed before after) }
