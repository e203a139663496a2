-- Which endpoints of a claimed interface are in use at a host, and who owns it.
use Rattle.std.specs.Prelude.{ℕ, ◌-◌, Bool}
use Rattle.usb_device_ledger.specs.Entries.{ClaimedInterface}
use Rattle.usb_device_ledger.specs.Owners.{is_used_among, is_owned_among}
use Rattle.usb_device_host.specs.HostState.{HostState}

-- whether the bit of an address is in use
abbrev pub is_in_use : HostState → ℕ → ℕ → Bool
is_in_use h i address = is_used_among h.tickets h.endpoints i address

-- whether an interface has an owner beside one of its handles
abbrev pub is_shared : HostState → ℕ → ClaimedInterface → Bool
is_shared h i c = is_owned_among h.tickets h.endpoints i (record c { handles = c.handles - 1 })
