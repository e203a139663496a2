use Rattle.std.proofs.Common.{ap}
use Rattle.usb_device_host.specs.HandleStates.{InterfaceState}
use Rattle.usb_device.proofs.KeptLemmas.{beside-handle_closed}
use Rattle.usb_device.proofs.device.Interface.close.Goals as goal

pub returns-clause-handles : goal.returns-clause-handles
returns-clause-handles c =
    let key = ap (λ (i : InterfaceState). i.key) c.self.view_is in
    rw (c.close_handle.ensures.closed, key) (beside-handle_closed c.args.host.now c.args.self c.requires.stands)
