use Rattle.std.proofs.Common.{get_or, take}
use Rattle.std.proofs.lemmas.List.{take_more}
use Rattle.usb_kernel_devices.proofs.InterfaceLemmas.{set_of-push}
use Rattle.usb_kernel_devices.proofs.interfaces.InterfaceSet.from_slice.Goals as goal

pub loop-number-preserved : goal.loop-number-preserved
loop-number-preserved c =
    rw (take_more c.args.numbers.now c.loop-number.number-index 0 c.loop-number-test.true, set_of-push (take c.loop-number.number-index c.args.numbers.now) (get_or c.args.numbers.now c.loop-number.number-index 0), ← c.loop-number.invariant) c.insert.ensures.numbers
