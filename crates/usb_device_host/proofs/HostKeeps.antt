-- What a host keeps over its steps and over the calls of handles.
use Rattle.std.specs.Prelude.{ℕ, ◌≡◌, ◌-◌}
use Rattle.usb_device_endpoint.specs.Later.{IsLater}
use Rattle.usb_device_host.specs.HostState.{HostState}
use Rattle.usb_device_host.specs.HostBus.{bus_of}
use Rattle.usb_device_host.specs.HostFrames.{ClaimsGoOn, EndpointsGoOn}

-- so many places of the kernel were used, each by a step, and what handles stand on is as it was
pub record UsesPlaces (places : ℕ) (old new : HostState) : Type 0 where
  pub steps : new.steps ≡ old.steps
  pub spare : new.kernel.spare ≡ old.kernel.spare - places
  pub devices : new.devices ≡ old.devices
  pub interfaces : ClaimsGoOn old.interfaces new.interfaces
  pub endpoints : EndpointsGoOn old.endpoints new.endpoints
  pub later : IsLater (bus_of old) (bus_of new)

-- the line and the places for its steps are as they were
pub record KeepsSteps (old new : HostState) : Type 0 where
  pub steps : new.steps ≡ old.steps
  pub spare : new.kernel.spare ≡ old.kernel.spare

-- and so are the open devices
pub record KeepsLine (old new : HostState) : Type 0 where
  pub steps : new.steps ≡ old.steps
  pub spare : new.kernel.spare ≡ old.kernel.spare
  pub devices : new.devices ≡ old.devices

-- and so are the claimed interfaces with handles, and the endpoints that are open
pub record KeepsOpen (old new : HostState) : Type 0 where
  pub line : KeepsLine old new
  pub interfaces : ClaimsGoOn old.interfaces new.interfaces
  pub endpoints : EndpointsGoOn old.endpoints new.endpoints
