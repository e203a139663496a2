use Rattle.std.proofs.Common.{◌≡◌}
use Rattle.usb_device_endpoint.specs.Handles.{Stands, KeepsOthers}
use Rattle.usb_device_endpoint.specs.Waits.{front_of}
use Rattle.usb_device_endpoint.specs.Blocking.{IsFinished}
use Rattle.usb_device_endpoint.proofs.SecondLemmas.{Seconds}
use Rattle.usb_device_endpoint.proofs.endpoint.Endpoint.wait_finished.Given as goal

abbrev pub invariant-waits : goal.invariant-waits
invariant-waits g l = record {
  same : l.self ≡ l.initial.self;
  stands : Stands (g.B.Bus.calls.state l.bus) l.self;
  others : KeepsOthers (g.B.Bus.calls.state l.initial.bus) (g.B.Bus.calls.state l.bus) l.initial.self.key;
  finished : IsFinished (g.B.Bus.calls.state l.bus).past (front_of l.initial.self.pending);
  seconds : Seconds g.B.Bus.calls (front_of l.initial.self.pending) l.initial.bus l.bus;
  handles : g.B.Bus.handles_stand l.initial.bus l.bus;
}

abbrev pub decreases-waits : goal.decreases-waits
decreases-waits g l = (g.B.Bus.calls.state l.bus).turns_left
