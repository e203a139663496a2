use Rattle.std.proofs.Common.{◌≡◌, ◌∙◌, ap, Some}
use Rattle.usb_device_tables.specs.History.{value_at}
use Rattle.usb_device_host.specs.HandleStates.{InterfaceState}
use Rattle.usb_device.proofs.StandLemmas.{asked-interface}
use Rattle.usb_device.proofs.KeptLemmas.{stand-asked}
use Rattle.usb_device.proofs.device.Interface.ask_configuration.Goals as goal

pub returns-clause-stands : goal.returns-clause-stands
returns-clause-stands c =
    let host = c.args.host.now in
    let stands = c.requires.stands in
    let at : value_at host.interfaces c.self.inside.key.serial ≡ Some stands.claim = ap (λ (i : InterfaceState). value_at host.interfaces i.key) c.self.view_is ∙ stands.at in
    asked-interface host c.ask_configuration_of.new.self c.args.self.now stands.claim.opened stands (c.ask_configuration_of.ensures.asked stands.claim at)

pub returns-clause-handles : goal.returns-clause-handles
returns-clause-handles c =
    let host = c.args.host.now in
    let stands = c.requires.stands in
    let at : value_at host.interfaces c.self.inside.key.serial ≡ Some stands.claim = ap (λ (i : InterfaceState). value_at host.interfaces i.key) c.self.view_is ∙ stands.at in
    rw (c.ask_configuration_of.ensures.asked stands.claim at) (stand-asked host stands.claim.opened)
