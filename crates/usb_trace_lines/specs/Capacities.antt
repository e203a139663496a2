-- Capacities of buffers, which a trace leaves out.
use Rattle.std.specs.Prelude.{ℕ}
use Rattle.usb_kernel.specs.declared.event.Event.{Event}
use Rattle.usb_kernel.specs.declared.event.Event.TheVariants.{Submit, Refuse}

-- an event with another capacity, where it has one
abbrev pub with_capacity : ℕ → Event → Event
with_capacity room (Submit t d e m body r deadline) = Submit t d e m body room deadline
with_capacity room (Refuse t d e m body r errno) = Refuse t d e m body room errno
with_capacity room event = event

-- an event as a trace tells it
abbrev pub without_capacity : Event → Event
without_capacity event = with_capacity 0 event
