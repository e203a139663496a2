-- Handles of open devices and of claimed interfaces are cloned and closed.
use Rattle.std.specs.Prelude.{ℕ, ◌+◌, ◌-◌, List, set, nat_lt, if◌then◌else◌, Option, Some, None}
use Rattle.usb_device_tables.specs.History.{value_at}
use Rattle.usb_device_ledger.specs.Entries.{ClaimedInterface}
use Rattle.usb_device_ledger.specs.declared.opened.OpenDevice.{OpenDevice}
use Rattle.usb_device_ledger.specs.Devices.{device_changed, handle_more, handle_less, interface_less}
use Rattle.usb_device_host.specs.HostState.{HostState}
use Rattle.usb_device_host.specs.Releases.{owner_gone}

-- one more handle of an open device is open
abbrev pub device_cloned : HostState → ℕ → HostState
device_cloned h key = record h { devices = device_changed h.devices key handle_more }

-- a handle of an open device is closed. The kernel isn't told: it keeps nothing of who opened a device
abbrev pub device_closed : HostState → ℕ → HostState
device_closed h key = record h { devices = device_changed h.devices key handle_less }

-- one more handle of an interface is open
abbrev pub handle_added : HostState → ℕ → Option ClaimedInterface → HostState
handle_added h i None = h
handle_added h i (Some c) =
    record h { interfaces = set h.interfaces i (Some (record c { handles = c.handles + 1 })) }

unfoldable pub handle_cloned : HostState → ℕ → HostState
handle_cloned h i = handle_added h i (value_at h.interfaces i)

-- the open devices when a handle of an interface is closed: with the last one it holds its device no more
abbrev pub devices_left : List (Option OpenDevice) → ClaimedInterface → List (Option OpenDevice)
devices_left devices c =
    if nat_lt 1 c.handles then devices else device_changed devices c.opened interface_less

-- a handle of an interface is closed
abbrev pub handle_gone : HostState → ℕ → Option ClaimedInterface → HostState
handle_gone h i None = h
handle_gone h i (Some c) =
    owner_gone
    (record h {
      devices = devices_left h.devices c;
      interfaces = set h.interfaces i (Some (record c { handles = c.handles - 1 }));
    })
    i

unfoldable pub handle_closed : HostState → ℕ → HostState
handle_closed h i = handle_gone h i (value_at h.interfaces i)
