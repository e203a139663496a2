use Rattle.std.proofs.Common.{sym}
use Rattle.usb_device_host.proofs.OpeningLemmas.{read-refused}
use Rattle.usb_device_host.proofs.opening.open_at.Goals as goal

pub returns-in-Err-read_descriptors-clause-kernel : goal.returns-in-Err-read_descriptors-clause-kernel
returns-in-Err-read_descriptors-clause-kernel c =
    let rest = c.open.ensures.rest in
    let refused = c.in-Err-read_descriptors in
    read-refused c.args.kernel.now c.read_descriptors.new.kernel c.args.bus c.args.address c.in-Ok.device refused.error (sym c.in-Ok.ensures.number) (rw rest at refused.ensures.tried) (rw rest at refused.ensures.kernel)
