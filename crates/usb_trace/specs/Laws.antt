-- The laws of traces that are written.
use Rattle.std.specs.Prelude.{List, ◌≡◌, ◌⊎◌, Result, Ok, Err, reverse}
use Rattle.std.specs.List.{All}
use Rattle.usb_kernel.specs.declared.event.Event.{Event}
use Rattle.usb_trace_lines.specs.Directions.{IsDirected}
use Rattle.usb_trace_lines.specs.Forms.{IsSized}
use Rattle.usb_trace_lines.specs.Texts.{trace}
use Rattle.usb_trace_lines.specs.Types.{IsTyped}
use Rattle.usb_trace.specs.Verdicts.{IsTrace}
use Rattle.usb_trace.specs.declared.check.Verdict.{Verdict}
use Rattle.usb_trace.specs.declared.check.Verdict.TheVariants.{Yes}
use Rattle.usb_trace.specs.declared.error.TraceError.{TraceError}
use Rattle.usb_trace.specs.declared.error.TraceError.TheVariants.{Memory}

-- what is written of a journal is the trace of one in which each event acts, where each event is sized, as `write_trace` asks, and its body
-- goes with the direction of its endpoint
abbrev pub WrittenIsTrace : List Event → Type 0
WrittenIsTrace past = All IsSized (reverse past) → All IsDirected past → IsTrace (trace past)

-- so it is where each event is typed, as `write_trace` says
abbrev pub TypedIsTrace : List Event → Type 0
TypedIsTrace past = All IsTyped past → WrittenIsTrace past

-- the check says yes, or memory ran out
abbrev pub IsYesOrMemory : Result Verdict TraceError → Type 0
IsYesOrMemory result = (result ≡ Ok Yes) ⊎ (result ≡ Err Memory)
