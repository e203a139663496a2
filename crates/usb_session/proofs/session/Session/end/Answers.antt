use Rattle.std.proofs.Common.{◌≡◌, ◌∙◌, ℕ, None, ap, sym, refl}
use Rattle.usb_device_host.specs.HostState.{HostState}
use Rattle.usb_device_host.specs.Finishes.{HasEnds, KeepsNothing}
use Rattle.usb_session_calls.specs.Names.{named}
use Rattle.usb_session_calls.specs.State.{State, Endpoint}
use Rattle.usb_session.specs.Ends.{streams_closed, endpoints_closed, futures_closed, interfaces_closed, devices_closed, all_closed}
use Rattle.usb_session_calls.specs.Relation.{Represents}
use Rattle.usb_session_calls.specs.EndpointNames.{EndpointName, Own, OfReader, OfWriter, OfClientWriter, endpoint_under}
use Rattle.usb_session_calls.specs.SessionState.{SessionState, open_under}
use Rattle.usb_session.specs.SessionFacts.{made_of}
use Rattle.usb_session.proofs.KeptNames.{unmapped}
use Rattle.usb_session.proofs.Replaced.{reader_endpoint, writer_endpoint, client_writer_endpoint}
use Rattle.usb_session.proofs.EndLemmas.{none-all, none-open, none-holds, none-claimed, end-host, end-none, end-empty}
use Rattle.usb_session_calls.proofs.Answering.{under_kept, host_is}
use Rattle.usb_session.proofs.Later.{later-ended}
use Rattle.usb_session.proofs.session.Session.end.Goals as goal

pub drop_names-requires : goal.drop_names-requires
drop_names-requires c = record {
  none =
      none-all c.session.inside.futures.items c.session.invariant.future_names
      (λ n below. ap (λ (v : SessionState). named v.futures n) c.session.view_is ∙ ap (λ l. named l n) (c.close_devices.ensures.futures ∙ c.close_interfaces.ensures.futures) ∙ c.close_futures.ensures.none n below);
}

pub drop_names-requires-2 : goal.drop_names-requires-2
drop_names-requires-2 c = record {
  none = λ n. none-open c.close_streams.new.self (made_of c.session.inside) c.session.invariant c.close_streams.ensures.clients c.close_streams.ensures.readers c.close_streams.ensures.writers c.close_streams.ensures.endpoints
      (ap open_under c.session.view_is ∙ c.close_devices.ensures.endpoints ∙ c.close_interfaces.ensures.endpoints ∙ c.close_futures.ensures.endpoints) (Own n);
}

pub drop_names-requires-3 : goal.drop_names-requires-3
drop_names-requires-3 c = record {
  none = λ n. unmapped reader_endpoint (named c.session.inside.readers.items n)
      (none-open c.close_streams.new.self (made_of c.session.inside) c.session.invariant c.close_streams.ensures.clients c.close_streams.ensures.readers c.close_streams.ensures.writers c.close_streams.ensures.endpoints
      (ap open_under c.session.view_is ∙ c.close_devices.ensures.endpoints ∙ c.close_interfaces.ensures.endpoints ∙ c.close_futures.ensures.endpoints) (OfReader n));
}

pub drop_names-requires-4 : goal.drop_names-requires-4
drop_names-requires-4 c = record {
  none = λ n. unmapped writer_endpoint (named c.session.inside.writers.items n)
      (none-open c.close_streams.new.self (made_of c.session.inside) c.session.invariant c.close_streams.ensures.clients c.close_streams.ensures.readers c.close_streams.ensures.writers c.close_streams.ensures.endpoints
      (ap open_under c.session.view_is ∙ c.close_devices.ensures.endpoints ∙ c.close_interfaces.ensures.endpoints ∙ c.close_futures.ensures.endpoints) (OfWriter n));
}

pub drop_names-requires-5 : goal.drop_names-requires-5
drop_names-requires-5 c = record {
  none = λ n. unmapped client_writer_endpoint (named c.session.inside.clients.items n)
      (none-open c.close_streams.new.self (made_of c.session.inside) c.session.invariant c.close_streams.ensures.clients c.close_streams.ensures.readers c.close_streams.ensures.writers c.close_streams.ensures.endpoints
      (ap open_under c.session.view_is ∙ c.close_devices.ensures.endpoints ∙ c.close_interfaces.ensures.endpoints ∙ c.close_futures.ensures.endpoints) (OfClientWriter n));
}

pub drop_names-requires-6 : goal.drop_names-requires-6
drop_names-requires-6 c = record {
  none =
      none-all c.session.inside.interfaces.items c.session.invariant.interface_names
      (λ n below. ap (λ (v : SessionState). named v.interfaces n) c.session.view_is ∙ ap (λ l. named l n) c.close_devices.ensures.interfaces ∙ c.close_interfaces.ensures.none n below);
}

pub drop_names-requires-7 : goal.drop_names-requires-7
drop_names-requires-7 c = record {
  none =
      none-all c.session.inside.devices.items c.session.invariant.device_names
      (λ n below. ap (λ (v : SessionState). named v.devices n) c.session.view_is ∙ c.close_devices.ensures.none n below);
}

pub returns : goal.returns
returns c =
    let s = made_of c.session.inside in
    let before = c.session.inside.host in
    let now = c.finish.new.self in
    let no_devices : (d : ℕ) → named s.devices d ≡ None =
    none-all s.devices c.session.invariant.device_names
    (λ n below. ap (λ (v : SessionState). named v.devices n) c.session.view_is ∙ c.close_devices.ensures.none n below) in
    let no_interfaces : (i : ℕ) → named s.interfaces i ≡ None =
    none-all s.interfaces c.session.invariant.interface_names
    (λ n below. ap (λ (v : SessionState). named v.interfaces n) c.session.view_is ∙ ap (λ l. named l n) c.close_devices.ensures.interfaces ∙ c.close_interfaces.ensures.none n below) in
    let no_endpoints : (e : EndpointName) → open_under s e ≡ None =
    none-open c.close_streams.new.self (made_of c.session.inside) c.session.invariant c.close_streams.ensures.clients c.close_streams.ensures.readers c.close_streams.ensures.writers c.close_streams.ensures.endpoints
    (ap open_under c.session.view_is ∙ c.close_devices.ensures.endpoints ∙ c.close_interfaces.ensures.endpoints ∙ c.close_futures.ensures.endpoints) in
    let no_futures : (n : ℕ) → named s.futures n ≡ None =
    none-all s.futures c.session.invariant.future_names
    (λ n below. ap (λ (v : SessionState). named v.futures n) c.session.view_is ∙ ap (λ l. named l n) (c.close_devices.ensures.futures ∙ c.close_interfaces.ensures.futures) ∙ c.close_futures.ensures.none n below) in
    let stands : (state : State) → Represents c.args.self state → Represents c.close_devices.new.self (devices_closed (interfaces_closed (futures_closed (endpoints_closed (streams_closed state) 64) 64) 64) 64) =
    λ state r.
    let closed = endpoints_closed (streams_closed state) 64 in
    c.close_devices.ensures.stands (interfaces_closed (futures_closed closed 64) 64)
    (c.close_interfaces.ensures.stands (futures_closed closed 64) (c.close_futures.ensures.stands closed (c.close_streams.ensures.stands state r))) in
    let all_end : HasEnds now.tickets = c.finish.ensures.ended (none-holds s c.session.invariant no_endpoints no_futures) in
    let empty : KeepsNothing now = end-empty s before now refl c.finish.ensures.finished c.session.invariant no_devices no_interfaces no_endpoints no_futures c.nothing_is_kept_that_has_gone.ensures.owned c.nothing_is_kept_that_has_gone.ensures.alive all_end in
    record {
      host = λ state r. end-host c.close_devices.new.self before now state (sym (ap (λ (v : SessionState). v.host) c.session.view_is)) c.finish.ensures.finished (stands state r);
      ended = all_end;
      reaped = c.finish.ensures.reaped;
      lawful = rw (← c.kernel.ensures.kernel) c.journal.ensures.lawful;
      none_open = end-none s before now refl c.finish.ensures.finished c.session.invariant no_devices no_interfaces;
      keeps_nothing = empty;
      unclaimed = none-claimed before now c.finish.ensures.finished c.session.invariant.claims_owned empty.interfaces;
      goes_on = later-ended c.args.self now (λ state r. end-host c.close_devices.new.self before now state (sym (ap (λ (v : SessionState). v.host) c.session.view_is)) c.finish.ensures.finished (stands state r));
    }
