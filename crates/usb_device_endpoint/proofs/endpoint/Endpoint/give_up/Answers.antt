use Rattle.std.proofs.Common.{ap, ◌∙◌}
use Rattle.usb_device_endpoint.specs.BusState.{BusState, without_owner}
use Rattle.usb_device_endpoint.specs.Closes.{all_abandoned}
use Rattle.usb_device_endpoint.proofs.HandleLemmas.{AreHeld-without_owner, KeepsOthers-end}
use Rattle.usb_device_endpoint.proofs.CloseLemmas.{owner-only}
use Rattle.usb_device_endpoint.proofs.endpoint.Endpoint.give_up.Goals as goal

pub tickets-preserved : goal.tickets-preserved
tickets-preserved g c =
    let items = c.in-Some.ensures.items in
    let held = rw items at c.tickets.invariant.held in
    let t = c.in-Some.ticket in
    let after = c.abandon.ensures.state in
    record {
      bus = ap (λ b. all_abandoned g.B.Bus.calls.abandoned b c.pop_front.new.self.items) c.abandon.ensures.ok ∙ rw items at c.tickets.invariant.bus;
      held = rw after (AreHeld-without_owner (g.B.Bus.calls.state c.tickets.bus).owner c.self.inside.key t c.pop_front.new.self.items held.1 held.2);
      others = KeepsOthers-end _ (g.B.Bus.calls.state c.tickets.bus) _ c.self.inside.key t c.tickets.invariant.others held.0 after;
      owner = ap (λ (b : BusState). all_abandoned without_owner b.owner c.pop_front.new.self.items) after ∙ rw items at c.tickets.invariant.owner;
      state = owner-only (g.B.Bus.calls.state c.args.bus.now) (g.B.Bus.calls.state c.tickets.bus) (g.B.Bus.calls.state c.abandon.new.self) (without_owner (g.B.Bus.calls.state c.tickets.bus).owner t) after c.tickets.invariant.state;
      handles = g.met.B.Bus.handles_in_turn c.args.bus.now c.tickets.bus _ c.tickets.invariant.handles (rw c.abandon.ensures.ok (c.calls_keep_handles.ensures.law.abandoned c.tickets.bus t));
    }
