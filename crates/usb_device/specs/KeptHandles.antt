-- Which handles stand over a call. Where a handle is closed the interfaces stand that have one of their own and are not
-- it, if nothing is kept that has gone (`DevicesAreHeld`): so it is at the start of a host, and so it stays.
use Rattle.std.specs.Prelude.{ℕ, ◌≢◌}
use Rattle.usb_device_endpoint.specs.EndpointState.{EndpointState}
use Rattle.usb_device_endpoint.specs.Handles.{Stands}
use Rattle.usb_device_host.specs.HostState.{HostState}
use Rattle.usb_device_host.specs.HostBus.{bus_of}
use Rattle.usb_device_host.specs.DeviceLaws.{DevicesAreHeld}
use Rattle.usb_device.specs.Futures.{FutureState, StandsFuture}
use Rattle.usb_device_host.specs.HandleStates.{InterfaceState, StandsDevice, StandsInterface}

-- each handle of a device, each of an interface, each endpoint and each future that stood stands
pub record HandlesStand (old new : HostState) : Type 0 where
  pub devices : (d : ℕ) → StandsDevice old d → StandsDevice new d
  pub interfaces : (i : InterfaceState) → StandsInterface old i → StandsInterface new i
  pub endpoints : (e : EndpointState) → Stands (bus_of old) e → Stands (bus_of new) e
  pub futures : (f : FutureState) → StandsFuture old f → StandsFuture new f
  pub held : DevicesAreHeld old → DevicesAreHeld new

-- the same beside a handle that was closed: of the device of this key
pub record StandBesideDevice (old new : HostState) (key : ℕ) : Type 0 where
  pub devices : (d : ℕ) → d ≢ key → StandsDevice old d → StandsDevice new d
  pub interfaces : DevicesAreHeld old → (i : InterfaceState) → StandsInterface old i →
      StandsInterface new i
  pub endpoints : (e : EndpointState) → Stands (bus_of old) e → Stands (bus_of new) e
  pub futures : (f : FutureState) → StandsFuture old f → StandsFuture new f
  pub held : DevicesAreHeld old → DevicesAreHeld new

-- of the interface of this key
pub record StandBesideInterface (old new : HostState) (key : ℕ) : Type 0 where
  pub devices : (d : ℕ) → StandsDevice old d → StandsDevice new d
  pub interfaces : DevicesAreHeld old → (i : InterfaceState) → i.key ≢ key →
      StandsInterface old i → StandsInterface new i
  pub endpoints : (e : EndpointState) → Stands (bus_of old) e → Stands (bus_of new) e
  pub futures : (f : FutureState) → StandsFuture old f → StandsFuture new f
  pub held : DevicesAreHeld old → DevicesAreHeld new

-- and beside the endpoint, or the future, of this key, which gave its answer or was closed
pub record StandBesideKey (old new : HostState) (key : ℕ) : Type 0 where
  pub devices : (d : ℕ) → StandsDevice old d → StandsDevice new d
  pub interfaces : (i : InterfaceState) → StandsInterface old i → StandsInterface new i
  pub endpoints : (e : EndpointState) → e.key ≢ key → Stands (bus_of old) e →
      Stands (bus_of new) e
  pub futures : (f : FutureState) → f.key ≢ key → StandsFuture old f → StandsFuture new f
  pub held : DevicesAreHeld old → DevicesAreHeld new
