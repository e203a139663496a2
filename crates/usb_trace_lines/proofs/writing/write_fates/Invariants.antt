use Rattle.std.proofs.Common.{drop, flat_map}
use Rattle.usb_trace_lines.specs.Fates.{fates_of}
use Rattle.usb_trace_lines.specs.Texts.{fate_text}
use Rattle.usb_trace_lines.proofs.Going.{Going}
use Rattle.usb_trace_lines.proofs.writing.write_fates.Given as goal

abbrev pub invariant-loop-ticket : goal.invariant-loop-ticket
invariant-loop-ticket g l =
    Going (g.K.Lines.state l.initial.out) (g.K.Lines.state l.out) (flat_map fate_text (fates_of l.kernel.past)) (flat_map fate_text (drop l.ticket (fates_of l.kernel.past)))
