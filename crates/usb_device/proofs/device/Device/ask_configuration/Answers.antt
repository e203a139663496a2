use Rattle.std.proofs.Common.{sym, subst}
use Rattle.usb_device_host.specs.HostState.{HostState}
use Rattle.usb_device_host.specs.HandleStates.{StandsDevice}
use Rattle.usb_device_host.specs.EndpointOpens.{host_asked}
use Rattle.usb_device_host.proofs.DeviceLemmas.{counts-stands}
use Rattle.usb_device_host.proofs.InterfaceFrames.{asked-counts}
use Rattle.usb_device.proofs.KeptLemmas.{stand-asked}
use Rattle.usb_device.proofs.device.Device.ask_configuration.Goals as goal

pub returns-clause-stands : goal.returns-clause-stands
returns-clause-stands c =
    let h = c.args.host.now in
    let key = c.self.inside.key.serial in
    let stands = rw (← c.self.view_is) at c.requires.stands in
    rw (← c.self.view_is) (subst (λ (g : HostState). StandsDevice g key) (sym c.ask_configuration.ensures.asked) (counts-stands h (host_asked h key) key (asked-counts h key) stands))

pub returns-clause-handles : goal.returns-clause-handles
returns-clause-handles c = rw c.ask_configuration.ensures.asked (stand-asked c.args.host.now c.self.inside.key.serial)
