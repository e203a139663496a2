use Rattle.std.proofs.Common.{◌≡◌, ◌≤◌, ◌+◌, length, []}
use Rattle.usb_script_words.specs.Lines.{lines_of}
use Rattle.usb_script.specs.Parse.{parse_from}
use Rattle.usb_script_lines.specs.ItemKinds.{place_count}
use Rattle.usb_script.proofs.script.parse_script.Given as goal

abbrev pub invariant-loop-rest : goal.invariant-loop-rest
invariant-loop-rest l = record {
  parsed : parse_from l.items l.line (lines_of l.rest) ≡ parse_from [] 1 (lines_of l.bytes);
  room : l.line + length l.rest ≤ 1048577;
  few : length l.items + length l.rest ≤ 1048576;
  places : place_count l.items + length l.rest ≤ 1048576;
}

abbrev pub decreases-loop-rest : goal.decreases-loop-rest
decreases-loop-rest l = length l.rest
