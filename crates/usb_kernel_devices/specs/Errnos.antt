-- Errnos.
use Rattle.std.specs.Prelude.{ℕ, ◌≤◌}

-- the numbers of errors
abbrev pub IsErrno : ℕ → Type 0
IsErrno errno = (1 ≤ errno) × (errno ≤ 4095)
