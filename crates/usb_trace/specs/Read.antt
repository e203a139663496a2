-- The lines of a text that were read so far, in order.
use Rattle.std.specs.Prelude.{ℕ, ◌≡◌, ◌≢◌, ◌<◌, ◌≤◌, ◌+◌, ◌^◌, List, [], ◌∷◌, ◌++◌, length, slice_index, map, take, Some}
use Rattle.std.specs.List.{All}
use Rattle.usb_kernel.specs.declared.event.Event.{Event}
use Rattle.usb_trace.specs.declared.text.LinesRead.{LinesRead}
use Rattle.usb_trace.specs.declared.text.TraceText.{TraceText}
use Rattle.usb_trace.specs.Replayed.{IsReplayed}
use Rattle.usb_trace_lines.specs.declared.fate_line.FateLine.{FateLine}
use Rattle.usb_trace_lines.specs.declared.line.TraceLine.{TraceLine}
use Rattle.usb_trace_lines.specs.declared.line.TraceLine.TheVariants as line
use Rattle.usb_trace_lines.specs.declared.order.Phase.{Phase}
use Rattle.usb_trace_lines.specs.declared.order.Phase.TheVariants.{Start, Events, Fates, End}
use Rattle.usb_trace_lines.specs.Forms.{IsTold, IsFateTold, IsLineTold}
use Rattle.usb_trace_lines.specs.Order.{phase_behind}
use Rattle.usb_trace_lines.specs.Texts.{line_text, trace_text}

-- the lines up to a phase that tell these events and fates
abbrev pub lines_up_to : Phase → List Event → List FateLine → List TraceLine
lines_up_to Start events fates = []
lines_up_to Events events fates = line.First ∷ map line.Event events
lines_up_to Fates events fates = line.First ∷ (map line.Event events ++ map line.Fate fates)
lines_up_to End events fates = line.First ∷ (map line.Event events ++ (map line.Fate fates ++ line.Last ∷ []))

-- what is told fits the phase: nothing at the start, and fates behind the events alone
abbrev pub FitsPhase : Phase → List Event → List FateLine → Type 0
FitsPhase Start events fates = (events ≡ []) × (fates ≡ [])
FitsPhase Events events fates = fates ≡ []
FitsPhase Fates events fates = fates ≢ []
FitsPhase End events fates = Unit {0}

-- the events, and the fates, with that of one line more, where it tells one
abbrev pub events_with : List Event → TraceLine → List Event
events_with events (line.Event event) = events ++ event ∷ []
events_with events told = events

abbrev pub fates_with : List FateLine → TraceLine → List FateLine
fates_with fates (line.Fate fate) = fates ++ fate ∷ []
fates_with fates told = fates

-- no lines of a trace that may stand in this phase begin as these do
abbrev pub IsStuck : Phase → List (List ℕ) → Type 0
IsStuck phase next = (xs : List TraceLine) → All IsLineTold xs → phase_behind phase xs ≡ Some End → take 1 (map line_text xs) ≡ take 1 next → ⊥

-- the lines that were read, by what is kept of them: their events were done again
pub record HasLines (told : List TraceLine) (read : LinesRead) : Type 0 where
  pub events : List Event
  pub lines : told ≡ lines_up_to read.phase events read.fates.items
  pub fits : FitsPhase read.phase events read.fates.items
  pub replayed : IsReplayed events read.replay

-- one line more was read, which stands there without its LF
pub record HasRead (old new : LinesRead) (bytes : List ℕ) : Type 0 where
  pub told : TraceLine
  pub is_told : IsLineTold told
  pub text : bytes ++ 10 ∷ [] ≡ line_text told
  pub more : (before : List TraceLine) → HasLines before old → HasLines (before ++ told ∷ []) new

-- what is kept of a text of the form, when all its lines were read
pub record HasText (bytes : List ℕ) (text : TraceText) : Type 0 where
  pub events : List Event
  pub is : bytes ≡ trace_text events text.fates.items
  pub told : All IsTold events
  pub fates : All IsFateTold text.fates.items
  pub few : length events + length text.fates.items ≤ 2 ^ 24
  pub replayed : IsReplayed events text.replay

-- no byte is an LF
abbrev pub HasNoEnd : List ℕ → Type 0
HasNoEnd bytes = (k : ℕ) → k < length bytes → slice_index bytes k ≡ 10 → ⊥
