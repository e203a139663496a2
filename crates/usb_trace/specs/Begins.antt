-- Texts of the form of a trace.
use Rattle.std.specs.Prelude.{ℕ, ◌≡◌, List, flat_map, Some}
use Rattle.std.specs.List.{All}
use Rattle.usb_trace_lines.specs.declared.line.TraceLine.{TraceLine}
use Rattle.usb_trace_lines.specs.declared.order.Phase.TheVariants.{Start, End}
use Rattle.usb_trace_lines.specs.Forms.{IsLineTold}
use Rattle.usb_trace_lines.specs.Order.{phase_behind}
use Rattle.usb_trace_lines.specs.Texts.{line_text}

-- a text of the form of a trace: its lines tell something, in order
pub record IsForm (text : List ℕ) : Type 0 where
  pub told : List TraceLine
  pub each : All IsLineTold told
  pub order : phase_behind Start told ≡ Some End
  pub is : text ≡ flat_map line_text told
