use Rattle.std.proofs.Common.{◌≡◌, ◌∙◌, ap, Some, length, []}
use Rattle.usb_device_tables.specs.History.{value_at}
use Rattle.usb_device_endpoint.specs.declared.route.Route.{Route}
use Rattle.usb_device_endpoint.specs.EndpointState.{EndpointState}
use Rattle.usb_device_host.specs.HandleStates.{InterfaceState}
use Rattle.usb_device_host.specs.EndpointOpens.{host_asked, with_endpoint}
use Rattle.usb_device_host.proofs.EndpointLemmas.{endpoint-stands, endpoint-others}
use Rattle.usb_device.proofs.StandLemmas.{endpoint-interface, asked-interface}
use Rattle.usb_device.proofs.KeptLemmas.{stand-asked, stand-endpoint}
use Rattle.usb_device.proofs.ForDrivers.{endpoint_apart}
use Rattle.usb_device.proofs.device.Interface.endpoint.Goals as goal

pub returns-in-Ok-clause-opens : goal.returns-in-Ok-clause-opens
returns-in-Ok-clause-opens g c =
    let host = c.args.host.now in
    let claim = c.requires.stands.claim in
    let key = ap (λ (i : InterfaceState). i.key) c.self.view_is in
    let at : value_at host.interfaces c.self.inside.key.serial ≡ Some claim = ap (value_at host.interfaces) key ∙ c.requires.stands.at in
    record {
      interface = claim;
      at = c.requires.stands.at;
      tried = rw (← key, ← c.TYPE.ensures, ← c.DIR.ensures, c.new.ensures.fresh) (c.in-Ok.ensures.tried claim at);
      endpoint = rw (c.new.ensures.fresh, ← c.TYPE.ensures) (ap (λ (r : Route). record { device = r.device; address = r.endpoint; kind = c.TYPE.result; maximum = r.maximum; key = r.key; pending = [] }) (c.in-Ok.ensures.route claim at));
      ok = c.in-Ok.ensures.ok claim at ∙ ap (λ k. with_endpoint (host_asked host claim.opened) k c.args.address) key;
      err = tt;
    }

pub returns-in-Ok-clause-stands : goal.returns-in-Ok-clause-stands
returns-in-Ok-clause-stands g c =
    let host = c.args.host.now in
    let stands = c.requires.stands in
    let at : value_at host.interfaces c.self.inside.key.serial ≡ Some stands.claim = ap (λ (i : InterfaceState). value_at host.interfaces i.key) c.self.view_is ∙ stands.at in
    let ok = c.in-Ok.ensures.ok stands.claim at in
    let route = c.in-Ok.ensures.route stands.claim at in
    let key : c.new.result.key ≡ length host.endpoints = ap (λ (e : EndpointState). e.key) c.new.ensures.fresh ∙ ap (λ (r : Route). r.key) route in
    let none = ap (λ (e : EndpointState). e.pending) c.new.ensures.fresh in
    endpoint-stands host c.open_endpoint.new.self stands.claim.opened c.self.inside.key.serial c.args.address c.new.result ok key none

pub returns-in-Ok-clause-others : goal.returns-in-Ok-clause-others
returns-in-Ok-clause-others g c =
    let host = c.args.host.now in
    let stands = c.requires.stands in
    let at : value_at host.interfaces c.self.inside.key.serial ≡ Some stands.claim = ap (λ (i : InterfaceState). value_at host.interfaces i.key) c.self.view_is ∙ stands.at in
    endpoint-others host c.open_endpoint.new.self stands.claim.opened c.self.inside.key.serial c.args.address c.new.result.key (c.in-Ok.ensures.ok stands.claim at)

pub returns-in-Ok-clause-interface : goal.returns-in-Ok-clause-interface
returns-in-Ok-clause-interface g c =
    let host = c.args.host.now in
    let stands = c.requires.stands in
    let at : value_at host.interfaces c.self.inside.key.serial ≡ Some stands.claim = ap (λ (i : InterfaceState). value_at host.interfaces i.key) c.self.view_is ∙ stands.at in
    let key : c.self.inside.key.serial ≡ c.args.self.now.key = ap (λ (i : InterfaceState). i.key) c.self.view_is in
    endpoint-interface host c.open_endpoint.new.self c.args.self.now stands.claim.opened c.args.address stands (c.in-Ok.ensures.ok stands.claim at ∙ ap (λ k. with_endpoint (host_asked host stands.claim.opened) k c.args.address) key)

pub returns-in-Err-clause-interface : goal.returns-in-Err-clause-interface
returns-in-Err-clause-interface g c =
    let host = c.args.host.now in
    let stands = c.requires.stands in
    let at : value_at host.interfaces c.self.inside.key.serial ≡ Some stands.claim = ap (λ (i : InterfaceState). value_at host.interfaces i.key) c.self.view_is ∙ stands.at in
    asked-interface host c.open_endpoint.new.self c.args.self.now stands.claim.opened stands (c.in-Err.ensures.err stands.claim at)

pub returns-in-Err-clause-opens : goal.returns-in-Err-clause-opens
returns-in-Err-clause-opens g c =
    let host = c.args.host.now in
    let claim = c.requires.stands.claim in
    let key = ap (λ (i : InterfaceState). i.key) c.self.view_is in
    let at : value_at host.interfaces c.self.inside.key.serial ≡ Some claim = ap (value_at host.interfaces) key ∙ c.requires.stands.at in
    record {
      interface = claim;
      at = c.requires.stands.at;
      tried = rw (← key, ← c.TYPE.ensures, ← c.DIR.ensures) (c.in-Err.ensures.tried claim at);
      endpoint = tt;
      ok = tt;
      err = c.in-Err.ensures.err claim at;
    }

pub returns-in-Ok-clause-handles : goal.returns-in-Ok-clause-handles
returns-in-Ok-clause-handles g c =
    let host = c.args.host.now in
    let stands = c.requires.stands in
    let at : value_at host.interfaces c.self.inside.key.serial ≡ Some stands.claim = ap (λ (i : InterfaceState). value_at host.interfaces i.key) c.self.view_is ∙ stands.at in
    rw (c.in-Ok.ensures.ok stands.claim at) (stand-endpoint host stands.claim.opened c.self.inside.key.serial c.args.address)

pub returns-in-Err-clause-handles : goal.returns-in-Err-clause-handles
returns-in-Err-clause-handles g c =
    let host = c.args.host.now in
    let stands = c.requires.stands in
    let at : value_at host.interfaces c.self.inside.key.serial ≡ Some stands.claim = ap (λ (i : InterfaceState). value_at host.interfaces i.key) c.self.view_is ∙ stands.at in
    rw (c.in-Err.ensures.err stands.claim at) (stand-asked host stands.claim.opened)

pub returns-in-Ok-clause-apart : goal.returns-in-Ok-clause-apart
returns-in-Ok-clause-apart g c = λ e stands. endpoint_apart c.args.host.now c.open_endpoint.new.self c.args.self.now.key c.args.address _ _ c.new.result e (returns-in-Ok-clause-opens g c) stands
