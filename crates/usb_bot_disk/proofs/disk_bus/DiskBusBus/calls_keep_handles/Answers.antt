use Rattle.usb_bot_disk.proofs.DiskHandleLemmas.{disk-keeps_handles}
use Rattle.usb_bot_disk.proofs.disk_bus.DiskBusBus.calls_keep_handles.Goals as goal

pub returns : goal.returns
returns c = record { law = disk-keeps_handles }
