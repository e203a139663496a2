-- What a driver sent to an OUT endpoint.
use Rattle.std.specs.Prelude.{ℕ, List, Option, Some, None, slice_get, ◌==◌, if◌then◌else◌}
use Rattle.std.specs.List.{filter_map}
use Rattle.usb_kernel.specs.declared.event.Event.{Event}
use Rattle.usb_kernel.specs.declared.event.Event.TheVariants.{Submit}
use Rattle.usb_kernel.specs.declared.event.Body.TheVariants.{Sent}

-- the bytes of the transfer that an event submits to the endpoint of this address
abbrev pub sent_by : ℕ → Event → Option (List ℕ)
sent_by address (Submit ticket device endpoint maximum (Sent bytes) room deadline) =
    if endpoint == address then Some bytes else None
sent_by address _ = None

-- those that came last, of the events of a kernel, the latest first
abbrev pub last_sent : ℕ → List Event → Option (List ℕ)
last_sent address past = slice_get (filter_map (sent_by address) past) 0
