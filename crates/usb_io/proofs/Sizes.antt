-- The sizes of transfers.
use Rattle.std.proofs.Common.{◌≡◌, ◌∙◌, ℕ, ◌+◌, ◌-◌, ◌*◌, ◌/◌, ◌<◌, ◌≤◌, ◌^◌, inl, inr, arith, ap, sym}
use Rattle.std.proofs.Math.Nat.{div-mul-le_self, suc-mul}
use Rattle.std.proofs.Math.Numerals.{suc-eq-add-one}
use Rattle.usb_io.specs.Readers.{rounded, FitsRounded}

-- a size that is rounded up to whole packets fits
pub rounded_small : (maximum size : ℕ) → 0 < maximum → maximum < 2 ^ 11 → size ≤ 2 ^ 31 - 2048 → rounded maximum size < 2 ^ 31
rounded_small maximum size some small length_ =
    let whole : (size - 1) / maximum * maximum ≤ size - 1 = div-mul-le_self (size - 1) maximum in
    let parts : rounded maximum size ≡ (size - 1) / maximum * maximum + maximum = sum-mul ((size - 1) / maximum) maximum in
    rw parts (omega (arith, whole))
  where
    sum-mul : (n m : ℕ) → (n + 1) * m ≡ n * m + m
    sum-mul n m = ap (λ k. k * m) (sym (suc-eq-add-one n)) ∙ suc-mul n m

-- whichever way that is known
pub rounded-fits : (maximum size : ℕ) → 0 < maximum → maximum < 2 ^ 11 → FitsRounded maximum size → rounded maximum size < 2 ^ 31
rounded-fits maximum size some small (inl few) = rounded_small maximum size some small few
rounded-fits maximum size some small (inr fits) = fits
