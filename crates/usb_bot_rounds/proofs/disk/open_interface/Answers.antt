use Rattle.std.proofs.Common.{◌≡◌}
use Rattle.usb_bot_rounds.specs.Starts.{claimed_host, first_interface}
use Rattle.usb_bot_rounds.proofs.OpenLemmas.{interface-given, passes-on, handle-of, host-of}
use Rattle.usb_bot_rounds.proofs.disk.open_interface.Goals as goal

pub unrefused-requires : goal.unrefused-requires
unrefused-requires c =
    let given = interface-given c.open_device.new.host c.into_interface.new.host c.in_ok-device.device c.into_interface.result c.in_ok-device.ensures.host c.in_ok-device.ensures.device c.into_interface.ensures.claims in
    record { memory = given.0 }

pub returns-clause-host : goal.returns-clause-host
returns-clause-host c =
    let given = interface-given c.open_device.new.host c.into_interface.new.host c.in_ok-device.device c.into_interface.result c.in_ok-device.ensures.host c.in_ok-device.ensures.device c.into_interface.ensures.claims in
    host-of first_interface (c.into_interface.new.host ≡ claimed_host) c.unrefused.result (passes-on (λ it. (it ≡ first_interface) × (c.into_interface.new.host ≡ claimed_host)) c.unrefused.result c.into_interface.result c.unrefused.ensures.ok given.1)

pub returns-clause-interface : goal.returns-clause-interface
returns-clause-interface c =
    let given = interface-given c.open_device.new.host c.into_interface.new.host c.in_ok-device.device c.into_interface.result c.in_ok-device.ensures.host c.in_ok-device.ensures.device c.into_interface.ensures.claims in
    handle-of first_interface (c.into_interface.new.host ≡ claimed_host) c.unrefused.result (passes-on (λ it. (it ≡ first_interface) × (c.into_interface.new.host ≡ claimed_host)) c.unrefused.result c.into_interface.result c.unrefused.ensures.ok given.1)
