use Rattle.std.proofs.Common.{take, reverse}
use Rattle.std.specs.List.{All}
use Rattle.usb_trace_lines.specs.Types.{IsTyped}
use Rattle.usb_trace_lines.proofs.types.journal_is_typed.Given as goal

abbrev pub invariant-loop-event : goal.invariant-loop-event
invariant-loop-event l = All IsTyped (take l.event-index (reverse l.kernel.past))
