use Rattle.std.proofs.Common.{◌≡◌}
use Rattle.usb_bot_rounds.specs.Starts.{opened_host, out}
use Rattle.usb_bot_rounds.proofs.OpenLemmas.{out-given, passes-on, handle-of, host-of}
use Rattle.usb_bot_rounds.proofs.disk.open_output.Goals as goal

pub unrefused-requires : goal.unrefused-requires
unrefused-requires c =
    let given = out-given c.args.host.now c.into_endpoint.new.host c.args.interface.key c.into_endpoint.result c.requires.first c.requires.key c.into_endpoint.ensures.opens in
    record { memory = given.0 }

pub returns-clause-host : goal.returns-clause-host
returns-clause-host c =
    let given = out-given c.args.host.now c.into_endpoint.new.host c.args.interface.key c.into_endpoint.result c.requires.first c.requires.key c.into_endpoint.ensures.opens in
    host-of out (c.into_endpoint.new.host ≡ opened_host) c.unrefused.result (passes-on (λ it. (it ≡ out) × (c.into_endpoint.new.host ≡ opened_host)) c.unrefused.result c.into_endpoint.result c.unrefused.ensures.ok given.1)

pub returns-clause-endpoint : goal.returns-clause-endpoint
returns-clause-endpoint c =
    let given = out-given c.args.host.now c.into_endpoint.new.host c.args.interface.key c.into_endpoint.result c.requires.first c.requires.key c.into_endpoint.ensures.opens in
    handle-of out (c.into_endpoint.new.host ≡ opened_host) c.unrefused.result (passes-on (λ it. (it ≡ out) × (c.into_endpoint.new.host ≡ opened_host)) c.unrefused.result c.into_endpoint.result c.unrefused.ensures.ok given.1)
