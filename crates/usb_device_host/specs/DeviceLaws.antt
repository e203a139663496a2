-- Which open devices a host keeps.
use Rattle.std.specs.Prelude.{ℕ, ◌≡◌, ◌<◌, ◌==◌, ◌&&◌, Bool, true, false, nat_lt, Option, Some, None, IsSome}
use Rattle.std.specs.List.{count_by}
use Rattle.usb_device_tables.specs.History.{value_at}
use Rattle.usb_device_ledger.specs.Entries.{ClaimedInterface}
use Rattle.usb_device_ledger.specs.declared.opened.OpenDevice.{OpenDevice}
use Rattle.usb_device_ledger.specs.Devices.{is_held}
use Rattle.usb_device_host.specs.HostState.{HostState}

-- whether a claimed interface holds the open device of a key: it was claimed on it, and has an open handle
abbrev pub holds : ℕ → ClaimedInterface → Bool
holds key c = nat_lt 0 c.handles && c.opened == key

abbrev pub holds_at : ℕ → Option ClaimedInterface → Bool
holds_at key None = false
holds_at key (Some c) = holds key c

-- nothing is kept that has gone: each open device that is there is held. It counts the interfaces that hold it; and one
-- that an interface holds is there
pub record DevicesAreHeld (h : HostState) : Type 0 where
  pub held : (key : ℕ) (o : OpenDevice) → value_at h.devices key ≡ Some o → is_held o ≡ true
  pub counted : (key : ℕ) (o : OpenDevice) → value_at h.devices key ≡ Some o →
      o.interfaces ≡ count_by (holds_at key) h.interfaces
  pub there : (i : ℕ) (c : ClaimedInterface) → value_at h.interfaces i ≡ Some c → 0 < c.handles →
      IsSome (value_at h.devices c.opened)
