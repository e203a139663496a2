-- A chain of descriptors, cut by first bytes: USB 2.0, section 9.5.
use Rattle.std.specs.Prelude.{◌≡◌, ℕ, zero, suc, Bool, ◌&&◌, nat_le, List, [], ◌∷◌, ◌++◌, length, take, drop, Option, Some, None, MatchOption, if◌then◌else◌}
use Rattle.std.specs.Iterator.{YieldsFirst, Yields}
use Rattle.std.specs.List.{concat}
use Rattle.usb_desc.specs.Bytes.{length_field}

-- a descriptor stands at the front: there are at least 2 bytes, and the first of them counts at
-- least 2 and no more than there are
abbrev pub begins_descriptor : List ℕ → Bool
begins_descriptor bytes =
    nat_le 2 (length bytes) && nat_le 2 (length_field bytes) && nat_le (length_field bytes) (length bytes)

-- the first descriptor, and the bytes behind it
abbrev pub first_descriptor : List ℕ → List ℕ
first_descriptor bytes = take (length_field bytes) bytes

abbrev pub behind_first : List ℕ → List ℕ
behind_first bytes = drop (length_field bytes) bytes

-- at most so many descriptors
abbrev pub chain_of_at_most : ℕ → List ℕ → List (List ℕ)
chain_of_at_most zero bytes = []
chain_of_at_most (suc count) bytes =
    if begins_descriptor bytes then first_descriptor bytes ∷ chain_of_at_most count (behind_first bytes) else []

-- the descriptors that stand one behind the other, up to the first place where none stands
unfoldable pub chain : List ℕ → List (List ℕ)
chain bytes = chain_of_at_most (length bytes) bytes

-- a single descriptor: at least 2 bytes, of which the first counts no more than there are
abbrev pub is_descriptor : List ℕ → Bool
is_descriptor bytes = nat_le 2 (length bytes) && nat_le (length_field bytes) (length bytes)

abbrev pub descriptor_of : List ℕ → Option (List ℕ)
descriptor_of bytes = if is_descriptor bytes then Some bytes else None

-- one step of a walk: the next descriptor of the chain comes off the bytes, or none is left, and
-- the bytes stay
abbrev pub WalksChain : List ℕ → Option (List ℕ) → List ℕ → Type 0
WalksChain before step after = YieldsFirst chain before step after
    × MatchOption step (after ≡ before) (λ descriptor. before ≡ descriptor ++ after)

-- however far a walk has come, what it has yielded, joined, and what it has left are the bytes
abbrev pub WalkLosesNothing : List ℕ → Type 0
WalkLosesNothing bytes = (yielded : List (List ℕ)) (rest : List ℕ) → Yields WalksChain bytes yielded rest
    → bytes ≡ concat yielded ++ rest
