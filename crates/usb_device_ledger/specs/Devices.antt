-- The open devices of a host, and what holds them.
use Rattle.std.specs.Prelude.{ℕ, ◌+◌, ◌-◌, ◌||◌, Bool, List, set, nat_lt, Option, Some, None, if◌then◌else◌}
use Rattle.usb_device_tables.specs.History.{value_at}
use Rattle.usb_device_ledger.specs.declared.opened.OpenDevice.{OpenDevice}

-- an open device is held while a handle of it is open, or one of an interface that was claimed on it
abbrev pub is_held : OpenDevice → Bool
is_held o = nat_lt 0 o.handles || nat_lt 0 o.interfaces

abbrev pub if_held : OpenDevice → Option OpenDevice
if_held o = if is_held o then Some o else None

-- the open devices when one of them changes: it goes where it is held no more
abbrev pub changed_on : List (Option OpenDevice) → ℕ → (OpenDevice → OpenDevice) →
    Option OpenDevice → List (Option OpenDevice)
changed_on devices key change None = devices
changed_on devices key change (Some o) = set devices key (if_held (change o))

unfoldable pub device_changed : List (Option OpenDevice) → ℕ → (OpenDevice → OpenDevice) →
    List (Option OpenDevice)
device_changed devices key change = changed_on devices key change (value_at devices key)

-- a handle of it is opened, or closed
abbrev pub handle_more : OpenDevice → OpenDevice
handle_more o = record o { handles = o.handles + 1 }

abbrev pub handle_less : OpenDevice → OpenDevice
handle_less o = record o { handles = o.handles - 1 }

-- one more interface of it has handles, or one has none any more
abbrev pub interface_more : OpenDevice → OpenDevice
interface_more o = record o { interfaces = o.interfaces + 1 }

abbrev pub interface_less : OpenDevice → OpenDevice
interface_less o = record o { interfaces = o.interfaces - 1 }
