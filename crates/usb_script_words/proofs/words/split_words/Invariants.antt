use Rattle.std.proofs.Common.{◌≡◌, ◌≤◌, ◌+◌, ◌++◌, length}
use Rattle.usb_script_words.specs.Fields.{texts}
use Rattle.usb_script_words.specs.Lines.{words_of}
use Rattle.usb_script_words.proofs.words.split_words.Given as goal

abbrev pub invariant-loop-word : goal.invariant-loop-word
invariant-loop-word l = record {
  words : texts l.words.items ++ words_of l.rest ≡ words_of l.line;
  few : length l.words.items + length l.rest ≤ length l.line;
}

abbrev pub decreases-loop-word : goal.decreases-loop-word
decreases-loop-word l = length l.rest
