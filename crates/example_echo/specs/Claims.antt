-- The host once interface 0 of the device at an address of a bus is claimed.
use Rattle.std.specs.Prelude.{ℕ, false, length}
use Rattle.usb_device_host.specs.HostState.{HostState}
use Rattle.usb_device_host.specs.Opens.{host_opened}
use Rattle.usb_device_host.specs.Handles.{device_closed}
use Rattle.usb_device_host.specs.InterfaceClaims.{host_claimed}

-- the device is opened, its interface is claimed, and the device's handle is closed
unfoldable pub claimed : HostState → ℕ → ℕ → HostState
claimed h bus address =
    device_closed (host_claimed (host_opened h bus address) (length h.devices) 0 false)
    (length h.devices)

-- the key of the interface: how many were claimed before
unfoldable pub claimed_as : HostState → ℕ → ℕ → ℕ
claimed_as h bus address = length (host_opened h bus address).interfaces
