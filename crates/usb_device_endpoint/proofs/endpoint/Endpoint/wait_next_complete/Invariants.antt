use Rattle.std.proofs.Common.{◌≡◌, ◌<◌, ◌⊎◌}
use Rattle.usb_device_endpoint.specs.Later.{IsLater, GoesOn}
use Rattle.usb_device_endpoint.specs.Handles.{Stands}
use Rattle.usb_device_endpoint.specs.Waits.{front_of}
use Rattle.usb_device_endpoint.proofs.WaitLemmas.{Looks}
use Rattle.usb_device_endpoint.proofs.endpoint.Endpoint.wait_next_complete.Given as goal

abbrev pub invariant-turns : goal.invariant-turns
invariant-turns g l = record {
  same : l.self ≡ l.initial.self;
  stands : Stands (g.B.Bus.calls.state l.bus) l.self;
  later : IsLater (g.B.Bus.calls.state l.initial.bus) (g.B.Bus.calls.state l.bus);
  goes_on : GoesOn (g.B.Bus.calls.state l.initial.bus) (g.B.Bus.calls.state l.bus);
  first : (g.B.Bus.calls.state l.bus ≡ g.B.Bus.calls.state l.initial.bus) ⊎ ((g.B.Bus.calls.state l.bus).turns_left < (g.B.Bus.calls.state l.initial.bus).turns_left);
  moved : (g.B.Bus.calls.state l.initial.bus).clock < (g.B.Bus.calls.state l.bus).clock → (g.B.Bus.calls.state l.bus).turns_left < (g.B.Bus.calls.state l.initial.bus).turns_left;
  looks : Looks g.B.Bus.calls (front_of l.initial.self.pending) l.timeout l.initial.bus l.bus;
  handles : g.B.Bus.handles_stand l.initial.bus l.bus;
}

abbrev pub decreases-turns : goal.decreases-turns
decreases-turns g l = (g.B.Bus.calls.state l.bus).turns_left
