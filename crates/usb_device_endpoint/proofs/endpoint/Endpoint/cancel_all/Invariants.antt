use Rattle.std.proofs.Common.{◌≡◌, drop}
use Rattle.usb_kernel.specs.Steps.{after_discard}
use Rattle.usb_device_endpoint.specs.Closes.{all_discarded}
use Rattle.usb_device_endpoint.proofs.endpoint.Endpoint.cancel_all.Given as goal

abbrev pub invariant-tickets : goal.invariant-tickets
invariant-tickets g l = record {
  bus : l.bus ≡ all_discarded g.B.Bus.calls.discarded l.initial.bus (drop l.i l.self-inside.pending.items);
  state : g.B.Bus.calls.state l.bus ≡ record (g.B.Bus.calls.state l.initial.bus) {
    past = all_discarded after_discard (g.B.Bus.calls.state l.initial.bus).past (drop l.i l.self-inside.pending.items);
    turns_left = (g.B.Bus.calls.state l.bus).turns_left;
  };
  handles : g.B.Bus.handles_stand l.initial.bus l.bus;
}
