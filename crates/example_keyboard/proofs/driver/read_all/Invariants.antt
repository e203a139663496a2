use Rattle.std.proofs.Common.{◌≡◌, ◌≤◌, []}
use Rattle.usb_device_endpoint.specs.Handles.{Stands}
use Rattle.usb_device_host.specs.HostBus.{bus_of, turns_left}
use Rattle.example_keyboard.specs.Closing.{LeavesNoneOpen}
use Rattle.example_keyboard.proofs.ReportLemmas.{Follows}
use Rattle.example_keyboard.proofs.driver.read_all.Given as goal

abbrev pub invariant-reports : goal.invariant-reports
invariant-reports l =
    record {
      none : l.endpoint.pending ≡ [];
      stands : Stands (bus_of l.host) l.endpoint;
      key : l.endpoint.key ≡ l.initial.endpoint.key;
      closed : LeavesNoneOpen l.initial.host l.host;
      input : 128 ≤ l.endpoint.address;
      follows : Follows l.initial.host.kernel.past l.host.kernel.past l.initial.reports.items l.reports.items;
    }

abbrev pub decreases-reports : goal.decreases-reports
decreases-reports l = turns_left l.host
