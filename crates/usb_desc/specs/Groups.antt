-- Groups of descriptors: a descriptor of one type, and those that belong to it. USB 2.0, section
-- 9.6.5: the descriptors of an interface and of its endpoints follow it up to the next interface.
use Rattle.std.specs.Prelude.{ℕ, Bool, ◌&&◌, ◌==◌, not, nat_lt, nat_le, List, [], ◌∷◌, ◌++◌, if◌then◌else◌}
use Rattle.usb_desc.specs.Bytes.{length_field, type_field}
use Rattle.usb_desc.specs.Chain.{chain}

-- a descriptor of the type with at least so many bytes begins a group
abbrev pub begins_group : ℕ → ℕ → List ℕ → Bool
begins_group kind least descriptor = type_field descriptor == kind && nat_le least (length_field descriptor)

-- a descriptor of another type with more than two bytes goes on with a group
abbrev pub goes_on : ℕ → List ℕ → Bool
goes_on kind descriptor = nat_lt 2 (length_field descriptor) && not (type_field descriptor == kind)

-- the bytes of the descriptors that go on with a group, up to the first that doesn't
abbrev pub run_bytes : ℕ → List (List ℕ) → List ℕ
run_bytes kind [] = []
run_bytes kind (d ∷ ds) = if goes_on kind d then d ++ run_bytes kind ds else []

-- each descriptor that begins a group, joined with those that go on with it
abbrev pub groups_among : ℕ → ℕ → List (List ℕ) → List (List ℕ)
groups_among kind least [] = []
groups_among kind least (d ∷ ds) =
    if begins_group kind least d then (d ++ run_bytes kind ds) ∷ groups_among kind least ds
    else groups_among kind least ds

-- the groups of a type in a chain
unfoldable pub groups : ℕ → ℕ → List ℕ → List (List ℕ)
groups kind least bytes = groups_among kind least (chain bytes)
