-- Tickets in a list, in the order of their numbers.
use Rattle.std.specs.Prelude.{ℕ, ◌+◌, ◌<◌, ◌≤◌, ◌≡◌, ◌≢◌, Bool, true, false, List, Option, Some, slice_get}
use Rattle.std.specs.Option.{option_map, option_map_or}
use Rattle.usb_kernel.specs.declared.slot.TicketRow.{TicketRow}
use Rattle.usb_kernel.specs.declared.record.Link.{Link}
use Rattle.usb_kernel.specs.declared.record.Ends.{Ends}
use Rattle.usb_kernel.specs.declared.record.Record.{Record}
use Rattle.usb_kernel.specs.declared.record.Chain.{Chain}
use Rattle.usb_kernel.specs.Links.{link_of}

-- o is the first number from k on that passes the test
pub record IsFirst (p : ℕ → Bool) (k : ℕ) (o : Option ℕ) : Type 0 where
  pub least : (i : ℕ) → k ≤ i → p i ≡ true → (j : ℕ) × (o ≡ Some j) × (j ≤ i)
  pub passes : (j : ℕ) → o ≡ Some j → (k ≤ j) × (p j ≡ true)

-- where a number below k passes the test, o is the last such one
abbrev pub IsLast : (ℕ → Bool) → ℕ → Option ℕ → Type 0
IsLast p k o = (i : ℕ) → i < k → p i ≡ true → (j : ℕ) × (o ≡ Some j) × (i ≤ j) × (j < k) × (p j ≡ true)

-- the tickets that pass the test are linked: each has the next one behind it, and, unless it is the first, the one before it
pub record IsChained (p : ℕ → Bool) (links : ℕ → Option Link) (count : ℕ) (ends : Ends) : Type 0 where
  pub first : IsFirst p 0 ends.first
  pub last : IsLast p count ends.last
  pub after : (k : ℕ) (l : Link) → p k ≡ true → links k ≡ Some l → IsFirst p (k + 1) l.after
  pub before : (k : ℕ) (l : Link) → p k ≡ true → links k ≡ Some l → IsLast p k l.before
  pub within : (k : ℕ) → p k ≡ true → k < count

-- the neighbours of the tickets in a list
abbrev pub links : Chain → List Record → ℕ → Option Link
links chain records k = option_map (link_of chain) (slice_get records k)

-- whether the row of a ticket passes a test
abbrev pub row_passes : (TicketRow → Bool) → List Record → ℕ → Bool
row_passes p records k = option_map_or (λ (r : Record). p r.row) (slice_get records k) false

-- q is the test p for all tickets but t, which passes p
pub record IsWithout (p q : ℕ → Bool) (t : ℕ) : Type 0 where
  pub there : p t ≡ true
  pub gone : q t ≡ false
  pub others : (k : ℕ) → k ≢ t → q k ≡ p k
