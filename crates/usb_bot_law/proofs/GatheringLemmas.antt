-- A disk that still waits for a packet has stored nothing.
use Rattle.std.proofs.Common.{◌≡◌, true, Option, Some, None, refl}
use Rattle.usb_bot_disk.specs.DiskState.{DiskState}
use Rattle.usb_bot_disk.specs.DiskTurns.{Action, Takes, Sends, action_of, turned_by, disk_turned}
use Rattle.usb_bot_disk.specs.Machine.{listens, taken, machine_or}
use Rattle.usb_bot_disk.proofs.MachineLemmas.{kept_listening}
use Rattle.usb_bot_law.specs.Gathering.{WritesAreGathered}

turned-keeps : (b : DiskState) (a : Option Action) → listens (turned_by b a).machine.stage ≡ true → (turned_by b a).machine.disk ≡ b.machine.disk
turned-keeps b None hears = refl
turned-keeps b (Some (Takes p m)) hears = kept_listening b.machine (machine_or b.machine (taken b.machine p m)) p m refl hears
turned-keeps b (Some (Sends p)) hears = refl

pub writes_are_gathered : WritesAreGathered
unfolding disk_turned
writes_are_gathered b hears = turned-keeps b (action_of b) hears
