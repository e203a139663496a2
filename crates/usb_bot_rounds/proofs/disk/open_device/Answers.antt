use Rattle.std.proofs.Common.{◌≡◌}
use Rattle.usb_bot_rounds.specs.Starts.{held_host}
use Rattle.usb_bot_rounds.proofs.OpenLemmas.{device-given, passes-on, handle-of, host-of}
use Rattle.usb_bot_rounds.proofs.disk.open_device.Goals as goal

pub unrefused-requires : goal.unrefused-requires
unrefused-requires c =
    let given = device-given c.args.host.now c.open_at.new.host c.open_at.result c.requires.first c.open_at.ensures.tried c.open_at.ensures.host in
    record { memory = given.0 }

pub returns-clause-host : goal.returns-clause-host
returns-clause-host c =
    let given = device-given c.args.host.now c.open_at.new.host c.open_at.result c.requires.first c.open_at.ensures.tried c.open_at.ensures.host in
    host-of 0 (c.open_at.new.host ≡ held_host) c.unrefused.result (passes-on (λ it. (it ≡ 0) × (c.open_at.new.host ≡ held_host)) c.unrefused.result c.open_at.result c.unrefused.ensures.ok given.1)

pub returns-clause-device : goal.returns-clause-device
returns-clause-device c =
    let given = device-given c.args.host.now c.open_at.new.host c.open_at.result c.requires.first c.open_at.ensures.tried c.open_at.ensures.host in
    handle-of 0 (c.open_at.new.host ≡ held_host) c.unrefused.result (passes-on (λ it. (it ≡ 0) × (c.open_at.new.host ≡ held_host)) c.unrefused.result c.open_at.result c.unrefused.ensures.ok given.1)
