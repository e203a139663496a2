use Rattle.std.proofs.Common.{ap, ◌∙◌, arith, ◌-◌}
use Rattle.std.specs.Prelude.{is_some}
use Rattle.usb_device_endpoint.specs.BusState.{BusState}
use Rattle.usb_device_endpoint.proofs.HandleLemmas.{AreHeld-at}
use Rattle.usb_device_endpoint.proofs.CloseLemmas.{all_discarded-step, discarded-state}
use Rattle.usb_device_endpoint.proofs.endpoint.Endpoint.cancel_all.Goals as goal

pub discard-requires : goal.discard-requires
discard-requires g c =
    let stands = rw (← c.self.view_is) at c.requires.stands in
    let ok = c.self.inside.pending.ok.0 in
    let own = AreHeld-at (g.B.Bus.calls.state c.args.bus.now).owner c.self.inside.key c.self.inside.pending.items (c.tickets.i - 1) c.index.result.now (omega arith) stands.held in
    let here = ap (g.B.Bus.calls.state c.args.bus.now).owner c.index.ensures ∙ own in
    record { stands = g.met.B.Bus.stands_is c.tickets.bus c.index.result.now ∙ ap is_some (ap (λ (b : BusState). b.owner c.index.result.now) c.tickets.invariant.state ∙ here) }

pub tickets-preserved : goal.tickets-preserved
tickets-preserved g c =
    let ok = c.self.inside.pending.ok.0 in
    record {
      bus = c.discard.ensures.ok ∙ all_discarded-step g.B.Bus.calls.discarded c.args.bus.now c.tickets.bus c.self.inside.pending.items c.tickets.i c.index.result.now (omega arith) (omega arith) c.index.ensures c.tickets.invariant.bus;
      state = discarded-state (g.B.Bus.calls.state c.args.bus.now) (g.B.Bus.calls.state c.tickets.bus) (g.B.Bus.calls.state c.discard.new.self) c.self.inside.pending.items c.tickets.i c.index.result.now (omega arith) (omega arith) c.index.ensures c.tickets.invariant.state c.discard.ensures.state;
      handles = g.met.B.Bus.handles_in_turn c.args.bus.now c.tickets.bus _ c.tickets.invariant.handles (rw c.discard.ensures.ok (c.calls_keep_handles.ensures.law.discarded c.tickets.bus c.index.result.now));
    }
