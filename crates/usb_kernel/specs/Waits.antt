-- The event that ends the waiting of a ticket.
use Rattle.std.specs.Prelude.{Bool, true, false}
use Rattle.usb_kernel.specs.declared.event.Event.{Event}
use Rattle.usb_kernel.specs.declared.event.Event.TheVariants.{Reap}

-- whether an event is a reap
abbrev pub reaps : Event → Bool
reaps (Reap t) = true
reaps _ = false
