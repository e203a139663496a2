-- What a host keeps where all is closed: nothing.
use Rattle.std.specs.Prelude.{ℕ, ◌≡◌, false, Some}
use Rattle.usb_device_tables.specs.History.{value_at}
use Rattle.usb_device_ledger.specs.declared.opened.OpenDevice.{OpenDevice}
use Rattle.usb_device_ledger.specs.Entries.{ClaimedInterface, HostEndpoint}
use Rattle.usb_device_host.specs.HostState.{HostState}
use Rattle.usb_device_host.specs.DeviceLaws.{DevicesAreHeld}
use Rattle.usb_device.specs.OwnerLaws.{InterfacesAreOwned, EndpointsLive}
use Rattle.usb_device_host.specs.Finishes.{HasEnds, KeepsNothing}

-- no handle is open, and each ticket has its end
pub record IsClosed (h : HostState) : Type 0 where
  pub devices : (k : ℕ) (o : OpenDevice) → value_at h.devices k ≡ Some o → o.handles ≡ 0
  pub interfaces : (k : ℕ) (c : ClaimedInterface) → value_at h.interfaces k ≡ Some c →
      c.handles ≡ 0
  pub endpoints : (k : ℕ) (e : HostEndpoint) → value_at h.endpoints k ≡ Some e → e.is_open ≡ false
  pub tickets : HasEnds h.tickets

-- where nothing is kept that has gone, nothing is kept once all is closed
abbrev pub ClosedKeepsNothing : Type 0
ClosedKeepsNothing =
    (h : HostState) → DevicesAreHeld h → InterfacesAreOwned h → EndpointsLive h → IsClosed h →
    KeepsNothing h
