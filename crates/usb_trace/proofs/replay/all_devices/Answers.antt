use Rattle.std.proofs.Common.{refl}
use Rattle.usb_trace.proofs.Plugged.{plugged-more}
use Rattle.usb_trace.proofs.replay.all_devices.Goals as goal

pub loop-number-preserved : goal.loop-number-preserved
loop-number-preserved c = rw c.in_ok-add_device.ensures.more (plugged-more c.loop-number.devices.items _ c.loop-number.number refl c.loop-number.invariant)
