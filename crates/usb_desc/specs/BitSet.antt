-- Endpoint addresses as bits of a number: two bits for each endpoint number, first that of OUT and
-- then that of IN (the parts of an address: USB 2.0, table 9-13).
use Rattle.std.specs.Prelude.{◌⊎◌, ℕ, zero, suc, ◌+◌, ◌*◌, ◌/◌, ◌%◌, ◌^◌, ◌<◌, ◌≤◌, ◌==◌, if◌then◌else◌}
use Rattle.std.specs.Ordering.{nat_cmp}
use Rattle.std.specs.FinSet as set
use Rattle.std.specs.Int.{bit_at}

-- the place of an address's bit; bits 4 to 6 of the address are left out
abbrev pub bit_of : ℕ → ℕ
bit_of address = 2 * (address % 16) + address / 128

abbrev pub mask_of : ℕ → ℕ
mask_of address = 2 ^ bit_of address

-- an address whose bits 4 to 6 are 0
abbrev pub IsEndpointAddress : ℕ → Type 0
IsEndpointAddress address = (address < 16) ⊎ ((128 ≤ address) × (address < 144))

-- the places below a count at which a number has a bit that is 1
abbrev pub bits_below : ℕ → ℕ → set.FinSet nat_cmp
bits_below zero number = set.empty
bits_below (suc count) number =
    if bit_at number count == 1 then set.insert (bits_below count number) count else bits_below count number

-- the set that a number of 32 bits stands for: the places of its bits that are 1
unfoldable pub members : ℕ → set.FinSet nat_cmp
members number = bits_below 32 number
