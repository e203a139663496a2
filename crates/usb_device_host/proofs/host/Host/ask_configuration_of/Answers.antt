use Rattle.std.proofs.Common.{◌≡◌, ◌∙◌, Some, ap}
use Rattle.usb_device_tables.specs.History.{value_at}
use Rattle.usb_device_host.specs.HostState.{HostState}
use Rattle.usb_device_tables.proofs.ValueLemmas.{some-of}
use Rattle.usb_device_host.proofs.host.Host.ask_configuration_of.Goals as goal

pub ask_configuration-requires : goal.ask_configuration-requires
ask_configuration-requires c =
    let there = some-of (value_at c.args.self.now.interfaces c.args.interface.serial) c.requires.interface in
    let inside : value_at c.self.inside.ledger.interfaces c.args.interface.serial ≡ Some there.0 = ap (λ (h : HostState). value_at h.interfaces c.args.interface.serial) c.self.view_is ∙ there.1 in
    record { device = rw (c.opened-opened.ensures.opened there.0 inside) (c.requires.device there.0 there.1) }
