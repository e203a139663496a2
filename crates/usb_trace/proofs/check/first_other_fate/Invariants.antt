use Rattle.std.proofs.Common.{◌≡◌, ◌≤◌, length, take}
use Rattle.usb_trace_lines.specs.Fates.{fates_of}
use Rattle.usb_trace.proofs.check.first_other_fate.Given as goal

abbrev pub invariant-loop-ticket : goal.invariant-loop-ticket
invariant-loop-ticket l = record {
  within : l.ticket ≤ length l.fates;
  same : take l.ticket l.fates ≡ take l.ticket (fates_of l.kernel.past);
}
