use Rattle.std.proofs.Common.{◌≡◌, ℕ, ◌<◌, get_or, false, []}
use Rattle.usb_script_words.specs.KernelSteps.{is_semicolon}
use Rattle.usb_script_words.proofs.line.first_part.Given as goal

abbrev pub invariant-loop-i : goal.invariant-loop-i
invariant-loop-i l = (k : ℕ) → k < l.i → is_semicolon (get_or l.words k (record { ref_ptr = (0, 0); now = [] })).now ≡ false
