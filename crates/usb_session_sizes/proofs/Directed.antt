-- The body of each event of a journal that is bounded goes with the direction of its endpoint.
use Rattle.std.proofs.Common.{List, [], ◌∷◌}
use Rattle.std.specs.List.{All}
use Rattle.std.proofs.lemmas.List.Elements.{All-nil, All-cons}
use Rattle.usb_kernel.specs.declared.event.Event.{Event}
use Rattle.usb_kernel.specs.declared.event.Event.TheVariants.{Submit, Refuse}
use Rattle.usb_trace_lines.specs.Directions.{IsDirected}
use Rattle.usb_session_sizes.specs.Bounds.{IsBounded, AreBounded}
use Rattle.usb_session_sizes.specs.Scripts.{BoundedJournalsAreDirected}

event-directed : (event : Event) → IsBounded event → IsDirected event
event-directed (Submit t d e m body room deadline) is = is.2
event-directed (Refuse t d e m body room errno) is = is.2
event-directed event is = tt

journal-directed : (past : List Event) → AreBounded past → All IsDirected past
journal-directed [] bounded = All-nil IsDirected
journal-directed (event ∷ before) bounded = All-cons IsDirected event before (event-directed event bounded.0) (journal-directed before bounded.1)

pub bounded_journals_are_directed : BoundedJournalsAreDirected
bounded_journals_are_directed = journal-directed
