-- The order of the lines of a trace: the first line, the lines of events, those of fates, and the last line.
use Rattle.std.specs.Prelude.{List, [], ◌∷◌, Option, Some, None, option_and_then}
use Rattle.usb_trace_lines.specs.declared.line.TraceLine.{TraceLine}
use Rattle.usb_trace_lines.specs.declared.line.TraceLine.TheVariants as line
use Rattle.usb_trace_lines.specs.declared.order.Phase.{Phase}
use Rattle.usb_trace_lines.specs.declared.order.Phase.TheVariants.{Start, Events, Fates, End}

-- where a text stands behind one line more, if that may stand there
abbrev pub next_phase : Phase → TraceLine → Option Phase
next_phase Start line.First = Some Events
next_phase Events (line.Event event) = Some Events
next_phase Events (line.Fate f) = Some Fates
next_phase Events line.Last = Some End
next_phase Fates (line.Fate f) = Some Fates
next_phase Fates line.Last = Some End
next_phase phase told = None

-- and behind several
abbrev pub phase_behind : Phase → List TraceLine → Option Phase
phase_behind phase [] = Some phase
phase_behind phase (told ∷ more) = option_and_then (λ next. phase_behind next more) (next_phase phase told)
