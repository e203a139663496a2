use Rattle.std.proofs.Common.{◌≡◌, length}
use Rattle.usb_device_host.specs.HostTurns.{host_rest}
use Rattle.usb_device_host.proofs.host.Host.rest.Given as goal

abbrev pub invariant-loop-step : goal.invariant-loop-step
invariant-loop-step l = host_rest l.self ≡ host_rest l.initial.self

abbrev pub decreases-loop-step : goal.decreases-loop-step
decreases-loop-step l = length l.self.steps
