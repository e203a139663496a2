-- Events that are typed, sized and directed are those that lines tell.
use Rattle.std.proofs.Common.{ℕ, List}
use Rattle.std.specs.List.{All}
use Rattle.usb_kernel.specs.declared.event.Event.{Event}
use Rattle.usb_kernel.specs.declared.event.Event.TheVariants.{Submit, Refuse, Packet, Ack, Echo, Fail, Discard, Reap, Unplug}
use Rattle.usb_kernel.specs.declared.event.Body.{Body}
use Rattle.usb_kernel.specs.declared.event.Body.TheVariants.{Wanted, Sent}
use Rattle.usb_trace_lines.specs.Directions.{IsBodyDirected, IsDirected}
use Rattle.usb_trace_lines.specs.Forms.{HasBytes, GoesWith, IsSized, IsTold}
use Rattle.usb_trace_lines.specs.Types.{IsTyped}

body-goes : (e : ℕ) (body : Body) → HasBytes body → IsBodyDirected e body → GoesWith e body
body-goes e (Wanted n) bytes directed = directed
body-goes e (Sent bytes) are directed = (directed, are)

pub event-told : (event : Event) → IsTyped event → IsSized event → IsDirected event → IsTold event
event-told (Submit t d e m body room deadline) typed sized directed =
    (record { ticket = typed.0; device = typed.1.0; endpoint = typed.1.1.0; maximum = sized.0; sized = sized.1; direction = body-goes e body typed.1.1.1.0 directed }, typed.1.1.1.1)
event-told (Refuse t d e m body room errno) typed sized directed =
    (record { ticket = typed.0; device = typed.1.0; endpoint = typed.1.1.0; maximum = sized.0; sized = sized.1.0; direction = body-goes e body typed.1.1.1 directed }, sized.1.1)
event-told (Packet d e bytes) typed sized directed = (typed.0, (typed.1.0, (sized, typed.1.1)))
event-told (Ack d e) typed sized directed = typed
event-told (Echo d o i) typed sized directed = typed
event-told (Fail d e errno) typed sized directed = (typed.0, (typed.1, sized))
event-told (Discard t) typed sized directed = typed
event-told (Reap t) typed sized directed = typed
event-told (Unplug d) typed sized directed = typed

-- so it is of each event of a journal
pub events-told : (past : List Event) → All IsTyped past → All IsSized past → All IsDirected past → All IsTold past
events-told past typed sized directed = λ k d within. event-told _ (typed k d within) (sized k d within) (directed k d within)
