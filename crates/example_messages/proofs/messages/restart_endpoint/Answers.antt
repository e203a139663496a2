use Rattle.std.proofs.Common.{◌∙◌, ap, subst, ℕ}
use Rattle.usb_device_endpoint.specs.EndpointState.{EndpointState}
use Rattle.usb_device_endpoint.specs.Handles.{KeepsOthers}
use Rattle.usb_device_endpoint.proofs.HandleLemmas.{others_in_turn}
use Rattle.usb_device_host.specs.HostBus.{bus_of}
use Rattle.example_messages.proofs.messages.restart_endpoint.Goals as goal

-- a wait leaves all but what is pending
pub tickets-preserved : goal.tickets-preserved
tickets-preserved g c =
    let first = c.cancel_all.new in
    let now = c.tickets in
    let waited = c.wait_next_complete in
    record {
      stands = waited.ensures.stands;
      same = waited.ensures.rest
          ∙ ap (λ (e : EndpointState). record e { pending = waited.new.self.pending }) now.invariant.same;
      others = others_in_turn (bus_of first.bus) (bus_of now.host) (bus_of waited.new.bus) first.self.key now.invariant.others
          (subst (λ (k : ℕ). KeepsOthers (bus_of now.host) (bus_of waited.new.bus) k) (ap (λ (e : EndpointState). e.key) now.invariant.same) waited.ensures.others);
    }
