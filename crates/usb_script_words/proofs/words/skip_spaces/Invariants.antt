use Rattle.std.proofs.Common.{◌≡◌, ◌≤◌, length}
use Rattle.usb_script_words.specs.Lines.{words_of, is_skipped}
use Rattle.usb_script_words.proofs.words.skip_spaces.Given as goal

abbrev pub invariant-loop-rest : goal.invariant-loop-rest
invariant-loop-rest l = record {
  words : words_of l.rest ≡ words_of l.line;
  skipped : is_skipped l.rest ≡ is_skipped l.line;
  within : length l.rest ≤ length l.line;
}

abbrev pub decreases-loop-rest : goal.decreases-loop-rest
decreases-loop-rest l = length l.rest
