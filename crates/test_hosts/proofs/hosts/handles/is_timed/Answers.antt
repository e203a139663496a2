use Rattle.usb_device.proofs.ForDrivers.{future_stands}
use Rattle.test_hosts.proofs.hosts.handles.is_timed.Goals as goal

pub wait-requires-clause-stands : goal.wait-requires-clause-stands
wait-requires-clause-stands c = future_stands c.start.new.host c.timer.new.self c.in-Ok.future c.timer.ensures.went c.in-Ok.ensures.future
