use Rattle.std.proofs.Common.{◌≡◌, ◌<◌, ◌^◌, drop}
use Rattle.usb_script_words.specs.Words.{digits_after}
use Rattle.usb_trace_lines.proofs.reading.digits.Given as goal

abbrev pub invariant-loop-b : goal.invariant-loop-b
invariant-loop-b l = record {
  reads : digits_after l.value (drop l.b-index l.word) ≡ digits_after 0 l.word;
  small : l.value < 10 ^ l.b-index;
}
