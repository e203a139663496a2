-- What is open under a name of a device or of an interface, as the host has it.
use Rattle.std.specs.Prelude.{ℕ, Option, option_and_then}
use Rattle.std.specs.Option.{option_map}
use Rattle.usb_device_tables.specs.History.{value_at}
use Rattle.usb_device_ledger.specs.declared.opened.OpenDevice.{OpenDevice}
use Rattle.usb_device_ledger.specs.Entries.{ClaimedInterface}
use Rattle.usb_device_host.specs.HandleStates.{InterfaceState}
use Rattle.usb_session_calls.specs.Names.{named}
use Rattle.usb_session_calls.specs.State.{State}

-- an open device (`opened`; in a claimed interface the field of this name is its device's key), and
-- its key
pub record DeviceAt : Type 0 where
  pub key : ℕ
  pub opened : OpenDevice

-- a claimed interface, and the handle that has it
pub record InterfaceAt : Type 0 where
  pub handle : InterfaceState
  pub claimed : ClaimedInterface

abbrev pub device_with : ℕ → OpenDevice → DeviceAt
device_with key o = record { key = key; opened = o }

abbrev pub interface_with : InterfaceState → ClaimedInterface → InterfaceAt
interface_with f c = record { handle = f; claimed = c }

-- what the host has of the device that is open under a name
abbrev pub device_at : State → ℕ → Option DeviceAt
device_at state d =
    option_and_then (λ key. option_map (device_with key) (value_at state.host.devices key)) (named state.devices d)

-- what the host has of the interface that is open under a name
abbrev pub interface_at : State → ℕ → Option InterfaceAt
interface_at state i =
    option_and_then (λ (f : InterfaceState). option_map (interface_with f) (value_at state.host.interfaces f.key)) (named state.interfaces i)
