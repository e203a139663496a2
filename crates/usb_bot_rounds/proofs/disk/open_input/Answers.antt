use Rattle.std.proofs.Common.{◌≡◌}
use Rattle.usb_bot_rounds.specs.Starts.{listening_host, inp}
use Rattle.usb_bot_rounds.proofs.OpenLemmas.{in-given, passes-on, handle-of, host-of}
use Rattle.usb_bot_rounds.proofs.disk.open_input.Goals as goal

pub unrefused-requires : goal.unrefused-requires
unrefused-requires c =
    let given = in-given c.args.host.now c.endpoint.new.host c.args.interface.now.key c.endpoint.result c.requires.first c.requires.key c.endpoint.ensures.opens in
    record { memory = given.0 }

pub returns-clause-host : goal.returns-clause-host
returns-clause-host c =
    let given = in-given c.args.host.now c.endpoint.new.host c.args.interface.now.key c.endpoint.result c.requires.first c.requires.key c.endpoint.ensures.opens in
    host-of inp (c.endpoint.new.host ≡ listening_host) c.unrefused.result (passes-on (λ it. (it ≡ inp) × (c.endpoint.new.host ≡ listening_host)) c.unrefused.result c.endpoint.result c.unrefused.ensures.ok given.1)

pub returns-clause-endpoint : goal.returns-clause-endpoint
returns-clause-endpoint c =
    let given = in-given c.args.host.now c.endpoint.new.host c.args.interface.now.key c.endpoint.result c.requires.first c.requires.key c.endpoint.ensures.opens in
    handle-of inp (c.endpoint.new.host ≡ listening_host) c.unrefused.result (passes-on (λ it. (it ≡ inp) × (c.endpoint.new.host ≡ listening_host)) c.unrefused.result c.endpoint.result c.unrefused.ensures.ok given.1)
