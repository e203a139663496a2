use Rattle.std.proofs.Common.{ℕ, ◌^◌, ◌≤◌, arith}
use Rattle.std.proofs.Math.Nat.{pow-le-pow_right}
use Rattle.usb_trace_lines.proofs.reading.digits.Goals as goal

-- 19 digits are a number below 10 ^ 19
power_le : (i : ℕ) → i ≤ 19 → 10 ^ i ≤ 10000000000000000000
power_le i small = pow-le-pow_right {n = 10} (omega arith) {i = i} {j = 19} small

pub overflow_mul-value : goal.overflow_mul-value
overflow_mul-value c = omega (arith, power_le c.loop-b.b-index (omega arith))

pub overflow_add-value : goal.overflow_add-value
overflow_add-value c = omega (arith, power_le c.loop-b.b-index (omega arith))
