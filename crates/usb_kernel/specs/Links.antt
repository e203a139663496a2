-- The links of tickets in lists.
use Rattle.std.specs.Prelude.{ℕ, ◌≡◌, ◌<◌, ◌==◌, Bool, false, List, set, Option, Some, None, is_none, slice_get, if◌then◌else◌}
use Rattle.std.specs.Option.{option_map_or}
use Rattle.usb_kernel.specs.declared.record.Link.{Link}
use Rattle.usb_kernel.specs.declared.record.Ends.{Ends}
use Rattle.usb_kernel.specs.declared.record.Record.{Record}
use Rattle.usb_kernel.specs.declared.record.Chain.{Chain}
use Rattle.usb_kernel.specs.declared.record.Chain.TheVariants.{Queue, Unreaped}

-- the neighbours of a ticket in a list
abbrev pub link_of : Chain → Record → Link
link_of Queue r = r.queue
link_of Unreaped r = r.unreaped

-- a record with other neighbours in a list
abbrev pub with_link : Chain → Link → Record → Record
with_link Queue l r = record r { queue = l }
with_link Unreaped l r = record r { unreaped = l }

-- a record with another neighbour before it, and behind it
abbrev pub with_before : Chain → Option ℕ → Record → Record
with_before chain b r = with_link chain (record (link_of chain r) { before = b }) r

abbrev pub with_after : Chain → Option ℕ → Record → Record
with_after chain a r = with_link chain (record (link_of chain r) { after = a }) r

-- the records when that of a ticket changes, if there is one
abbrev pub changed_at : (Record → Record) → List Record → ℕ → Option Record → List Record
changed_at f records t None = records
changed_at f records t (Some r) = set records t (f r)

unfoldable pub changed : (Record → Record) → List Record → Option ℕ → List Record
changed f records None = records
changed f records (Some t) = changed_at f records t (slice_get records t)

-- whether a list begins with a ticket
abbrev pub is_first : Ends → ℕ → Bool
is_first ends t = option_map_or (λ first. first == t) ends.first false

-- the records when a ticket that has these neighbours is taken out of a list: where the list begins with it, the next
-- one's neighbour before it is left as it is, since nobody asks for what stands before the first
abbrev pub unlinked : Chain → ℕ → Link → Ends → List Record → List Record
unlinked chain t link ends records =
    if is_first ends t then records
    else changed (with_before chain link.before) (changed (with_after chain link.after) records link.before) link.after

-- and the ends of the list
abbrev pub ends_without : ℕ → Link → Ends → Ends
ends_without t link ends =
    if is_first ends t then record ends { first = link.after }
    else (if is_none link.after then record ends { last = link.before } else ends)

-- the records when ticket n is put at the end of a list, and the ends then
abbrev pub last_linked : Chain → ℕ → Ends → List Record → List Record
last_linked chain n ends records = if is_none ends.first then records else changed (with_after chain (Some n)) records ends.last

abbrev pub ends_with : ℕ → Ends → Ends
ends_with n ends = record { first = if is_none ends.first then Some n else ends.first; last = Some n }

-- the neighbours of a ticket at the end of a list that had these ends
abbrev pub link_behind : Ends → Link
link_behind ends = record { before = ends.last; after = None }

-- both neighbours are tickets
pub record IsWithin (link : Link) (count : ℕ) : Type 0 where
  pub before : (b : ℕ) → link.before ≡ Some b → b < count
  pub after : (a : ℕ) → link.after ≡ Some a → a < count
