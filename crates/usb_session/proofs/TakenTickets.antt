-- What a call took of an endpoint, by what is pending behind it.
use Rattle.std.proofs.Common.{◌≡◌, ◌∙◌, ℕ, ◌-◌, arith, List, ◌++◌, length, take, length-append, ap}
use Rattle.std.proofs.Math.Seq.{take-append_seam}
use Rattle.usb_session_streams.specs.Numbers.{numbers_from}
use Rattle.usb_session_calls.specs.Readers.{taken_by_call}

take-first : (xs ys : List ℕ) → take (length (xs ++ ys) - length ys) (xs ++ ys) ≡ xs
take-first xs ys =
    let n : length (xs ++ ys) - length ys ≡ length xs = omega (arith, length-append xs ys) in
    ap (λ k. take k (xs ++ ys)) n ∙ take-append_seam xs ys

-- of what was pending and what came the first were taken, and the others are pending
pub taken-are : (old new : ℕ) (before after taken : List ℕ) → before ++ numbers_from old (new - old) ≡ taken ++ after → taken_by_call old new before after ≡ taken
taken-are old new before after taken came = ap (λ (ts : List ℕ). take (length ts - length after) ts) came ∙ take-first taken after
