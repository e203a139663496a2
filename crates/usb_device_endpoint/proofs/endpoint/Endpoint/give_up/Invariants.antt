use Rattle.std.proofs.Common.{◌≡◌}
use Rattle.std.specs.VecDeque.{deque_len}
use Rattle.usb_device_endpoint.specs.BusState.{without_owner}
use Rattle.usb_device_endpoint.specs.Handles.{AreHeld, KeepsOthers}
use Rattle.usb_device_endpoint.specs.Closes.{all_abandoned}
use Rattle.usb_device_endpoint.proofs.endpoint.Endpoint.give_up.Given as goal

abbrev pub invariant-tickets : goal.invariant-tickets
invariant-tickets g l = record {
  bus : all_abandoned g.B.Bus.calls.abandoned l.bus l.pending.items ≡ all_abandoned g.B.Bus.calls.abandoned l.initial.bus l.initial.pending.items;
  held : AreHeld (g.B.Bus.calls.state l.bus).owner l.key l.pending.items;
  others : KeepsOthers (g.B.Bus.calls.state l.initial.bus) (g.B.Bus.calls.state l.bus) l.key;
  owner : all_abandoned without_owner (g.B.Bus.calls.state l.bus).owner l.pending.items ≡ all_abandoned without_owner (g.B.Bus.calls.state l.initial.bus).owner l.initial.pending.items;
  state : g.B.Bus.calls.state l.bus ≡ record (g.B.Bus.calls.state l.initial.bus) { owner = (g.B.Bus.calls.state l.bus).owner };
  handles : g.B.Bus.handles_stand l.initial.bus l.bus;
}

abbrev pub decreases-tickets : goal.decreases-tickets
decreases-tickets g l = deque_len l.pending
