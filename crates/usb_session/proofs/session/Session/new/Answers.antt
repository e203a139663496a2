use Rattle.std.proofs.Common.{◌≡◌, sym, subst}
use Rattle.usb_session_calls.specs.SessionState.{SessionState}
use Rattle.usb_session_calls.specs.Relation.{Represents}
use Rattle.usb_session.specs.Output.{start}
use Rattle.usb_session.proofs.RunLemmas.{sound-start, represents-start, spare-start}
use Rattle.usb_session.proofs.session.Session.new.Goals as goal

pub session_of-requires : goal.session_of-requires
session_of-requires c =
    let names = c.in_ok-host.names in
    record {
      sound = sound-start c.args.items.now c.in_ok-tree.tree c.in_ok-tree.watch c.in_ok-host.host names.devices.items names.interfaces.items names.endpoints.items names.readers.items names.writers.items names.clients.items names.futures.items
          (c.in_ok-host.ensures.host c.requires.places) c.in_ok-host.ensures.devices c.in_ok-host.ensures.interfaces c.in_ok-host.ensures.endpoints c.in_ok-host.ensures.readers c.in_ok-host.ensures.writers c.in_ok-host.ensures.clients c.in_ok-host.ensures.futures;
    }

pub returns-clause-stands : goal.returns-clause-stands
returns-clause-stands c =
    let names = c.in_ok-host.names in
    subst (λ (s : SessionState). Represents s (start c.args.items.now)) (sym c.session_of.ensures.parts)
    (represents-start c.args.items.now c.in_ok-tree.tree c.in_ok-tree.watch c.in_ok-host.host names.devices.items names.interfaces.items names.endpoints.items names.readers.items names.writers.items names.clients.items names.futures.items
    (c.in_ok-host.ensures.host c.requires.places) c.in_ok-host.ensures.devices c.in_ok-host.ensures.interfaces c.in_ok-host.ensures.endpoints c.in_ok-host.ensures.readers c.in_ok-host.ensures.writers c.in_ok-host.ensures.clients c.in_ok-host.ensures.futures c.in_ok-tree.ensures.tree c.in_ok-tree.ensures.packets)

pub returns-clause-spare : goal.returns-clause-spare
returns-clause-spare c =
    subst (λ (s : SessionState). s.host.kernel.spare ≡ c.args.places) (sym c.session_of.ensures.parts)
    (spare-start c.args.items.now c.in_ok-host.host c.args.places (c.in_ok-host.ensures.host c.requires.places) c.requires.places)
