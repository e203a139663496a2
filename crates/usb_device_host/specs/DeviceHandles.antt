-- Which handles stand at a host over the calls of endpoints.
use Rattle.std.specs.Prelude.{ℕ}
use Rattle.usb_device_host.specs.HostState.{HostState}
use Rattle.usb_device_host.specs.HandleStates.{InterfaceState, StandsDevice, StandsInterface}
use Rattle.usb_device_host.specs.DeviceLaws.{DevicesAreHeld}

-- each handle of a device and each of an interface that stood stands, and nothing is kept that has
-- gone, as before
pub record DeviceHandlesStand (old new : HostState) : Type 0 where
  pub devices : (d : ℕ) → StandsDevice old d → StandsDevice new d
  pub interfaces : (i : InterfaceState) → StandsInterface old i → StandsInterface new i
  pub held : DevicesAreHeld old → DevicesAreHeld new

-- over no call
pub handles-same : (h : HostState) → DeviceHandlesStand h h
handles-same h =
    record {
      devices = λ d stands. stands;
      interfaces = λ i stands. stands;
      held = λ held. held;
    }

-- and over calls in a row
pub handles-in_turn : (h mid new : HostState) → DeviceHandlesStand h mid →
    DeviceHandlesStand mid new → DeviceHandlesStand h new
handles-in_turn h mid new first second =
    record {
      devices = λ d stands. second.devices d (first.devices d stands);
      interfaces = λ i stands. second.interfaces i (first.interfaces i stands);
      held = λ held. second.held (first.held held);
    }
