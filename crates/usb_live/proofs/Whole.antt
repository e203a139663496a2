-- Lengths that an endpoint may be asked for.
use Rattle.std.proofs.Common.{◌≡◌, ℕ, zero, suc, ◌+◌, ◌-◌, ◌*◌, ◌/◌, ◌%◌, ◌<◌, ◌≤◌, arith, true, false, mul_comm, Bool, refl}
use Rattle.std.specs.Prelude.{nat_lt, ◌&&◌, ◌||◌, ◌==◌}
use Rattle.std.proofs.lemmas.Bool.{and_parts, eqb-true, ltb-true}
use Rattle.usb_kernel.specs.declared.submission.Submission.{Submission}
use Rattle.usb_kernel.specs.Submissions.{IsWhole}
use Rattle.usb_kernel.proofs.Wholes.{whole-in}
use Rattle.usb_kernel.specs.WholePackets.{is_whole}
use Rattle.usb_live.specs.Submits.{is_valid}

times : (m n q : ℕ) → n ≡ m * q → 0 < q → ((q - 1) + 1) * m ≡ n
times m n q is some = let e : (q - 1) + 1 ≡ q = omega arith in rw (e, is) (mul_comm q m)

positive : (m n q : ℕ) → n ≡ m * q → 0 < n → 0 < q
positive m n zero is some = absurd (let z : m * 0 ≡ 0 = omega arith in omega arith)
positive m n (suc q) is some = omega arith

multiple : (m n : ℕ) → is_whole m n ≡ true → (more : ℕ) × ((more + 1) * m ≡ n)
multiple m n whole =
    let first : (nat_lt 0 m ≡ true) × ((nat_lt 0 n && n % m == 0) ≡ true) = and_parts _ _ whole in
    let second : (nat_lt 0 n ≡ true) × ((n % m == 0) ≡ true) = and_parts _ _ first.1 in
    let more : 0 < m = ltb-true 0 m first.0 in
    let some : 0 < n = ltb-true 0 n second.0 in
    let rest : n % m ≡ 0 = eqb-true _ _ second.1 in
    let is : n ≡ m * (n / m) = omega arith in
    (n / m - 1, times m n (n / m) is (positive m n (n / m) is some))

by_side : (b : Bool) (e m n : ℕ) → nat_lt e 128 ≡ b → (b || is_whole m n) ≡ true → 128 ≤ e → (more : ℕ) × ((more + 1) * m ≡ n)
by_side true e m n is whole input = absurd (let out : e < 128 = ltb-true e 128 is in omega arith)
by_side false e m n is whole input = multiple m n whole

-- the kernel may be asked for what is valid
pub IsWhole-valid : (s : Submission) → is_valid s ≡ true → IsWhole s
IsWhole-valid s whole = whole-in s (λ input. by_side (nat_lt s.endpoint 128) s.endpoint s.maximum s.buffer.requested refl whole input)
