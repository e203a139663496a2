-- How large what the journals of scripts have is, and which way it goes.
use Rattle.std.specs.Prelude.{◌≡◌, ◌++◌, ℕ, List, reverse, Ok}
use Rattle.std.specs.List.{All}
use Rattle.usb_kernel.specs.declared.event.Event.{Event}
use Rattle.usb_kernel.specs.Legal.{IsLawful}
use Rattle.usb_script_lines.specs.declared.item.Item.{Item}
use Rattle.usb_script.specs.Parse.{script_of}
use Rattle.usb_session.specs.Output.{start, behind, final_host}
use Rattle.usb_trace_lines.specs.Directions.{IsDirected}
use Rattle.usb_trace_lines.specs.Forms.{IsSized}
use Rattle.usb_session_sizes.specs.Bounds.{AreBounded}

-- behind the first lines of a script, however many, and at its end, each event of the journal is bounded
pub record JournalsAreBounded : Type 0 where
  pub line : (bytes : List ℕ) (before after : List Item) → script_of bytes ≡ Ok (before ++ after) → AreBounded (behind (start (before ++ after)) before).host.kernel.past
  pub end : (bytes : List ℕ) (items : List Item) → script_of bytes ≡ Ok items → AreBounded (final_host items).kernel.past

-- where a journal is bounded and lawful, a trace can tell each of its events
abbrev pub BoundedJournalsAreSized : Type 0
BoundedJournalsAreSized = (past : List Event) → AreBounded past → IsLawful past → All IsSized (reverse past)

-- where a journal is bounded, the body of each of its events goes with the direction of its endpoint
abbrev pub BoundedJournalsAreDirected : Type 0
BoundedJournalsAreDirected = (past : List Event) → AreBounded past → All IsDirected past
