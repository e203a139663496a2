-- What is opened or claimed has a key of its own: it is that of no handle that stood.
use Rattle.std.specs.Prelude.{ℕ, ◌≢◌}
use Rattle.usb_device_endpoint.specs.EndpointState.{EndpointState}
use Rattle.usb_device_endpoint.specs.Handles.{Stands}
use Rattle.usb_device_host.specs.HostState.{HostState}
use Rattle.usb_device_host.specs.HostBus.{bus_of}
use Rattle.usb_device_host.specs.HandleStates.{InterfaceState, StandsDevice, StandsInterface}

abbrev pub IsOwnDevice : HostState → ℕ → Type 0
IsOwnDevice old new = (d : ℕ) → StandsDevice old d → d ≢ new

abbrev pub IsOwnInterface : HostState → InterfaceState → Type 0
IsOwnInterface old new = (i : InterfaceState) → StandsInterface old i → i.key ≢ new.key

abbrev pub IsOwnEndpoint : HostState → EndpointState → Type 0
IsOwnEndpoint old new = (e : EndpointState) → Stands (bus_of old) e → e.key ≢ new.key
