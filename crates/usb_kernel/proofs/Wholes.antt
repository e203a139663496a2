-- Submissions of whole packets.
use Rattle.std.proofs.Common.{◌≡◌, ℕ, zero, suc, arith, ◌+◌, ◌-◌, ◌*◌, ◌/◌, ◌%◌, ◌<◌, ◌≤◌, mul_comm, Bool, true, false, refl}
use Rattle.std.specs.Prelude.{nat_le, nat_lt, ◌&&◌, ◌==◌}
use Rattle.std.proofs.lemmas.Bool.{and_parts, eqb-true, ltb-true, leb-true}
use Rattle.usb_kernel.specs.declared.submission.Submission.{Submission}
use Rattle.usb_kernel.specs.Submissions.{IsWhole}
use Rattle.usb_kernel.specs.WholePackets.{is_whole}

-- only an IN endpoint has to be asked for whole packets
pub whole-in : (s : Submission) → (128 ≤ s.endpoint → (more : ℕ) × ((more + 1) * s.maximum ≡ s.buffer.requested)) → IsWhole s
whole-in s input = by (nat_le 128 s.endpoint) refl
  where
    by : (v : Bool) → nat_le 128 s.endpoint ≡ v → IsWhole s
    by true is = rw is (input (leb-true 128 s.endpoint is))
    by false is = rw is tt

-- a length in whole packets is a multiple of the maximum that is not 0
times : (m n q : ℕ) → n ≡ m * q → 0 < q → ((q - 1) + 1) * m ≡ n
times m n q is some = let e : (q - 1) + 1 ≡ q = omega arith in rw (e, is) (mul_comm q m)

positive : (m n q : ℕ) → n ≡ m * q → 0 < n → 0 < q
positive m n zero is some = absurd (let z : m * 0 ≡ 0 = omega arith in omega arith)
positive m n (suc q) is some = omega arith

pub whole-times : (m n : ℕ) → is_whole m n ≡ true → (more : ℕ) × ((more + 1) * m ≡ n)
whole-times m n whole =
    let first : (nat_lt 0 m ≡ true) × ((nat_lt 0 n && n % m == 0) ≡ true) = and_parts _ _ whole in
    let second : (nat_lt 0 n ≡ true) × ((n % m == 0) ≡ true) = and_parts _ _ first.1 in
    let more : 0 < m = ltb-true 0 m first.0 in
    let some : 0 < n = ltb-true 0 n second.0 in
    let rest : n % m ≡ 0 = eqb-true _ _ second.1 in
    let is : n ≡ m * (n / m) = omega arith in
    (n / m - 1, times m n (n / m) is (positive m n (n / m) is some))
