use Rattle.usb_device.specs.Futures.{StandsFuture}
use Rattle.usb_device.proofs.ForDrivers.{ok_kept}
use Rattle.test_hosts.proofs.hosts.handles.start.Goals as goal

pub returns-clause-future : goal.returns-clause-future
returns-clause-future c =
    let started = c.start_control_in-started in
    ok_kept (StandsFuture started.new.host) (StandsFuture c.close.new.host) started.result c.close.ensures.handles.futures started.ensures.future_stands
