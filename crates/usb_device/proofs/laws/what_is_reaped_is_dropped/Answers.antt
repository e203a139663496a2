use Rattle.usb_device.proofs.DroppedLaw.{dropped_where_reaped, future_dropped}
use Rattle.usb_device.proofs.laws.what_is_reaped_is_dropped.Goals as goal

pub returns : goal.returns
returns c = record { dropped = dropped_where_reaped; future_dropped = future_dropped }
