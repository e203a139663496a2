use Rattle.std.proofs.Common.{ap}
use Rattle.usb_device_host.specs.HandleStates.{InterfaceState}
use Rattle.usb_device.proofs.KeptLemmas.{stand-handle_cloned}
use Rattle.usb_device.proofs.device.Interface.clone_on.Goals as goal

pub returns-clause-handles : goal.returns-clause-handles
returns-clause-handles c =
    let key = ap (λ (i : InterfaceState). i.key) c.self.view_is in
    rw (c.in_ok-clone_handle.ensures.ok, key) (stand-handle_cloned c.args.host.now c.args.self.now c.requires.stands)

pub returns-clause-stands : goal.returns-clause-stands
returns-clause-stands c = (returns-clause-handles c).interfaces c.args.self.now c.requires.stands
