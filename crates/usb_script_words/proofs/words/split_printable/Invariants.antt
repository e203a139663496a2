use Rattle.std.proofs.Common.{◌≡◌, ◌≤◌, true, length, take, drop}
use Rattle.std.specs.List.{list_all}
use Rattle.usb_script_words.specs.Fields.{texts}
use Rattle.usb_script_words.specs.Lines.{is_printable}
use Rattle.usb_script_words.proofs.LineWords.{Open}
use Rattle.usb_script_words.proofs.words.split_printable.Given as goal

abbrev pub invariant-loop-i : goal.invariant-loop-i
invariant-loop-i l = record {
  words : Open (take l.i l.bytes) (texts l.words.items) (drop l.start (take l.i l.bytes));
  printable : list_all is_printable (take l.i l.bytes) ≡ true;
  order : l.start ≤ l.i;
  few : length l.words.items ≤ l.start;
}
