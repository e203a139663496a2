-- The line of a run in which each transfer was taken.
use Rattle.std.proofs.Common.{◌≡◌, ℕ, ◌+◌, refl, arith}
use Rattle.usb_session_run.specs.Live.{run_line, live_line}

pub all-taken : (n submitted taken dropped reclaimed : ℕ) → submitted ≡ n → taken ≡ n → submitted ≡ taken + dropped + reclaimed → run_line n submitted taken dropped reclaimed ≡ live_line n
all-taken n submitted taken dropped reclaimed all each sum =
    let none : dropped ≡ 0 = omega arith in
    let left : reclaimed ≡ 0 = omega arith in
    rw (all, each, none, left) refl
