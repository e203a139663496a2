-- What a bus with a disk ends as, where a `&mut` to its host is returned.
use Rattle.std.specs.Borrow.{Lends, MutBor, Fml}
use Rattle.usb_device_host.specs.HostState.{HostState}
use Rattle.usb_device_host.specs.contracts.host.Host.{the_row as host_row}
use Rattle.usb_bot_disk.specs.contracts.disk_bus.DiskBus.{the_row}
use Rattle.usb_bot_disk.specs.DiskState.{DiskState}
use Rattle.usb_bot_disk.specs.DiskCalls.{with_host}

-- the host is what was written last, and the rest is as it was
abbrev pub LendsHost : MutBor DiskState → MutBor HostState → Fml
LendsHost b r = Lends the_row host_row b r (with_host b.now)
