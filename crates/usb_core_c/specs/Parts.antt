-- Where descriptors stand, as a caller in C is told it: USB 2.0, sections 9.5 and 9.6.
use Rattle.std.specs.Prelude.{ℕ, ◌≡◌, ◌+◌, ◌≤◌, List, ◌∷◌, length, take, drop}
use Rattle.usb_desc.specs.Groups.{groups}
use Rattle.usb_desc.specs.Forms.{BeginsWith}
use Rattle.usb_core_c.specs.declared.parts.Part.{Part}

-- the bytes of a part, and those behind it
abbrev pub part_of : Part → List ℕ → List ℕ
part_of part bytes = take part.len (drop part.start bytes)

abbrev pub behind_part : Part → List ℕ → List ℕ
behind_part part bytes = drop (part.start + part.len) bytes

-- a part is the first group of a type; the others are those of the bytes behind it
pub record IsFirstGroup (kind least : ℕ) (bytes : List ℕ) (part : Part) : Type 0 where
  pub within : part.start + part.len ≤ length bytes
  pub form : BeginsWith kind least (part_of part bytes)
  pub groups_are : groups kind least bytes ≡ part_of part bytes ∷ groups kind least (behind_part part bytes)
