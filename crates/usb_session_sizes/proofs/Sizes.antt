-- How large a size is that is rounded up to whole packets of fewer than 2048 bytes.
use Rattle.std.proofs.Common.{ℕ, ◌≤◌, ◌≡◌, ◌∙◌, ◌+◌, ◌-◌, ◌*◌, ◌/◌, arith, ap, sym}
use Rattle.std.proofs.Math.Nat.{div-mul-le_self, suc-mul}
use Rattle.std.proofs.Math.Numerals.{suc-eq-add-one}
use Rattle.usb_io.specs.Readers.{rounded}

pub small-size : (maximum : ℕ) → maximum ≤ 2047 → maximum ≤ 65536
small-size maximum small = omega (arith, small)

pub rounded-sized : (maximum size : ℕ) → maximum ≤ 2047 → size ≤ 65536 → rounded maximum size ≤ 67582
rounded-sized maximum size small few =
    let whole : (size - 1) / maximum * maximum ≤ size - 1 = div-mul-le_self (size - 1) maximum in
    let parts : rounded maximum size ≡ (size - 1) / maximum * maximum + maximum = sum-mul ((size - 1) / maximum) maximum in
    rw parts (omega (arith, whole, small, few))
  where
    sum-mul : (n m : ℕ) → (n + 1) * m ≡ n * m + m
    sum-mul n m = ap (λ k. k * m) (sym (suc-eq-add-one n)) ∙ suc-mul n m
