-- When a simulated disk stores the data of a write.
use Rattle.std.specs.Prelude.{◌≡◌, true}
use Rattle.usb_bot_disk.specs.DiskState.{DiskState}
use Rattle.usb_bot_disk.specs.DiskTurns.{disk_turned}
use Rattle.usb_bot_disk.specs.Machine.{listens}

-- while the disk waits for a packet, of a wrapper or of data that are not over, its blocks stay: the data of a write are stored at once,
-- when they have ended
abbrev pub WritesAreGathered : Type 0
WritesAreGathered =
    (b : DiskState) → listens (disk_turned b).machine.stage ≡ true →
    (disk_turned b).machine.disk ≡ b.machine.disk
