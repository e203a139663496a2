-- What a call on a reader or a writer keeps of its endpoint and of the rest of its bus.
use Rattle.std.specs.Prelude.{max, ◌≤◌, ◌≡◌, length}
use Rattle.usb_device_endpoint.specs.BusState.{BusState}
use Rattle.usb_device_endpoint.specs.Later.{Extends, GoesOn}
use Rattle.usb_device_endpoint.specs.EndpointState.{EndpointState}
use Rattle.usb_device_endpoint.specs.Handles.{Stands, KeepsOthers}

-- the bus went on so (On); the endpoint stands, and is the same but for what is pending, of which there are no more than 64, or
-- than there were; and the others stand too
pub record KeepsAlong (On : Type 0) (old new : BusState) (e e' : EndpointState) : Type 0 where
  pub goes_on : On
  pub stands : Stands new e'
  pub others : KeepsOthers old new e.key
  pub endpoint : e' ≡ record e { pending = e'.pending }
  pub few : length e'.pending ≤ max (length e.pending) 64

-- over a call on a reader the journal and the clock went on, and no turn was added
abbrev pub ReadsAlong : BusState → BusState → EndpointState → EndpointState → Type 0
ReadsAlong old new e e' = KeepsAlong (GoesOn old new) old new e e'

-- over a call on a writer the journal and the clock went on. (What it sends may be acknowledged, which takes turns)
pub record WentOn (old new : BusState) : Type 0 where
  pub past : Extends old.past new.past
  pub clock : old.clock ≤ new.clock

abbrev pub WritesAlong : BusState → BusState → EndpointState → EndpointState → Type 0
WritesAlong old new e e' = KeepsAlong (WentOn old new) old new e e'
