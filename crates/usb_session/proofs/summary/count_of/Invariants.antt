use Rattle.std.proofs.Common.{◌≡◌, ◌≤◌, take}
use Rattle.std.specs.List.{count_by}
use Rattle.usb_session.specs.Sums.{has_end}
use Rattle.usb_session.proofs.summary.count_of.Given as goal

abbrev pub invariant-loop-ticket : goal.invariant-loop-ticket
invariant-loop-ticket l = record {
  counted : l.count ≡ count_by (has_end l.end) (take l.ticket l.host.tickets);
  few : l.count ≤ l.ticket;
}
