use Rattle.std.proofs.Common.{◌≡◌, Some, false, IsSome}
use Rattle.usb_device_endpoint.specs.Waits.{is_reaped}
use Rattle.usb_device_host.specs.HostAwaits.{deadline_of}
use Rattle.usb_device_host.specs.HostBus.{hold_at}
use Rattle.usb_device_host.specs.HostCalls.{host_calls}
use Rattle.usb_device_host.specs.HostFrames.{HostGoesOn}
use Rattle.usb_device_host.proofs.AwaitLemmas.{Awaits, left_until}
use Rattle.usb_device_host.proofs.host.Host.await_ticket.Given as goal

abbrev pub invariant-turns : goal.invariant-turns
invariant-turns l = record {
  awaits : Awaits l.ticket l.deadline l.initial.self l.self;
  held : IsSome (hold_at l.self.tickets l.ticket);
  due : is_reaped host_calls l.ticket l.self ≡ false → deadline_of l.self.kernel.past l.ticket ≡ Some l.deadline;
  went : HostGoesOn l.initial.self l.self;
}

abbrev pub decreases-turns : goal.decreases-turns
decreases-turns l = left_until l.ticket l.self
