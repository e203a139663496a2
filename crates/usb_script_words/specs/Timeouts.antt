-- For how long a call may wait, in nanoseconds.
use Rattle.std.specs.Prelude.{ℕ, Bool, nat_le, ◌==◌, ◌||◌}

-- at most 10 ^ 18, or the greatest number of 64 bits
abbrev pub is_timeout : ℕ → Bool
is_timeout n = nat_le n 1000000000000000000 || n == 18446744073709551615
