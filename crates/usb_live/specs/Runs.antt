-- What the event loop and a run on two threads tell.
use Rattle.std.specs.Prelude.{◌≡◌, ◌≢◌, ◌⊎◌, ℕ, ◌+◌, ◌<◌, ◌≤◌, [], ◌∷◌}
use Rattle.usb_live.specs.declared.view.View.{View}
use Rattle.usb_live.specs.declared.entry.Tally.{Tally}
use Rattle.usb_live.specs.declared.entry.Receipt.{Receipt}
use Rattle.futures.specs.declared.task.Poll.TheVariants.{Ready}
use Rattle.usb_live.specs.Answers.{reclaimed_in}
use Rattle.usb_live.specs.Rests.{AllFree}
use Rattle.usb_live.specs.Live.{Live}
use Rattle.usb_live.specs.Rows.{stage_at}
use Rattle.usb_live.specs.declared.entry.Entry.{Entry}
use Rattle.usb_live.specs.declared.view.Owned.TheVariants.{Free}
use Rattle.usb_live.specs.Calls.{up_to_end, NextTells}

-- the handler reclaimed so many cells more, and the tally counts them
pub record CountsReclaims (v : View) (a : Tally) (w : View) (b : Tally) : Type 0 where
  pub more : ℕ
  pub cells : reclaimed_in w.handler ≡ reclaimed_in v.handler + more
  pub tally : b ≡ record a { reclaimed = up_to_end (a.reclaimed + more) }

-- nothing is on its way, and each cell is free
pub record IsIdle (x : Live) : Type 0 where
  pub queue : x.queue ≡ []
  pub free : AllFree x.seat.view.owner

-- the endpoint is as it was, but for what its seat keeps beside the row and the owner's cells: its looks, and what it heard and
-- found
pub record OnlyLooked (x y : Live) : Type 0 where
  pub rest : y ≡ record x { seat = y.seat }
  pub row : y.seat.row ≡ x.seat.row
  pub cells : y.seat.view.owner ≡ x.seat.view.owner

-- the receipt of the oldest transfer was taken, after some looks
pub record TakesAfterLooks (x : Live) (r : Receipt) (y : Live) : Type 0 where
  pub between : Live
  pub looked : OnlyLooked x between
  pub taken : NextTells (Ready r) between y

-- one transfer more was submitted, it alone is on its way, and each other cell is free
pub record HasOne (x y : Live) : Type 0 where
  pub entry : Entry
  pub queue : y.queue ≡ entry ∷ []
  pub free : (i : ℕ) → i < 64 → i ≢ entry.cell → stage_at y.seat.view.owner i ≡ Free
  pub submitted : y.tally.submitted ≡ up_to_end (x.tally.submitted + 1)
  pub taken : y.tally.taken ≡ x.tally.taken

-- Of how many transfers were asked for, how many were submitted, and how many were taken: each was taken; or the last that was
-- submitted was not, and no more than were asked for were submitted
abbrev pub IsWholeOrCut : ℕ → ℕ → ℕ → Type 0
IsWholeOrCut n submitted taken = ((submitted ≡ n) × (taken ≡ n)) ⊎ ((submitted ≡ taken + 1) × (submitted ≤ n))
