-- Lengths in whole packets.
use Rattle.std.specs.Prelude.{ℕ, ◌%◌, ◌==◌, ◌&&◌, nat_lt, Bool}

-- a length is that of whole packets, at least one. USB 2.0, section 5.8.3: a transfer ends at a
-- packet that isn't full
abbrev pub is_whole : ℕ → ℕ → Bool
is_whole maximum n = nat_lt 0 maximum && (nat_lt 0 n && n % maximum == 0)
