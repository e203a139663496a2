-- Handles, and when they stand.
use Rattle.std.specs.Prelude.{ℕ, ◌≡◌, ◌<◌, Some, IsSome}
use Rattle.usb_device_ledger.specs.Entries.{ClaimedInterface}
use Rattle.usb_device_tables.specs.History.{value_at}
use Rattle.usb_device_ledger.specs.declared.opened.OpenDevice.{OpenDevice}
use Rattle.usb_device_host.specs.HostState.{HostState}

-- a handle of an interface: the interface's key and its number
pub record InterfaceState : Type 0 where
  pub key : ℕ
  pub number : ℕ

-- a handle of a device, which is its key, stands where the host has a device of this key with an
-- open handle
pub record StandsDevice (h : HostState) (key : ℕ) : Type 0 where
  pub device : OpenDevice
  pub at : value_at h.devices key ≡ Some device
  pub open_handle : 0 < device.handles

-- a handle of an interface stands where the host has an interface of this key and number with an
-- open handle, and its device
pub record StandsInterface (h : HostState) (i : InterfaceState) : Type 0 where
  pub claim : ClaimedInterface
  pub at : value_at h.interfaces i.key ≡ Some claim
  pub number : claim.number ≡ i.number
  pub open_handle : 0 < claim.handles
  pub device : IsSome (value_at h.devices claim.opened)
