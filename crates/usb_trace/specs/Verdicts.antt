-- The traces of journals in which each event acts.
use Rattle.std.specs.Prelude.{ℕ, ◌≡◌, List}
use Rattle.std.specs.List.{All}
use Rattle.usb_kernel.specs.declared.event.Event.{Event}
use Rattle.usb_trace_lines.specs.Forms.{IsTold}
use Rattle.usb_trace_lines.specs.Texts.{trace}
use Rattle.usb_kernel.specs.Acts.{EachActs}

-- a text is the trace of such a journal, which is read from its latest event
pub record IsTrace (text : List ℕ) : Type 0 where
  pub past : List Event
  pub told : All IsTold past
  pub acts : EachActs past
  pub is : text ≡ trace past
