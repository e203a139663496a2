use Rattle.std.proofs.Common.{◌≡◌, ◌≤◌, ◌-◌, length}
use Rattle.usb_kernel.specs.Tickets.{tickets}
use Rattle.usb_session.specs.Fates.{fate_lines, fate_lines_from}
use Rattle.usb_session_run.specs.Causes.{Wrote}
use Rattle.usb_session_run.proofs.run.write_fates.Given as goal

abbrev pub invariant-loop-ticket : goal.invariant-loop-ticket
invariant-loop-ticket g l = record {
  wrote : Wrote (g.K.Sink.written l.initial.sink) (g.K.Sink.written l.sink) (fate_lines l.host) (fate_lines_from l.host l.ticket (length (tickets l.host.kernel.past) - l.ticket));
  later : g.K.Sink.faults l.initial.sink ≤ g.K.Sink.faults l.sink;
  quiet : g.K.Sink.faults l.sink ≡ g.K.Sink.faults l.initial.sink;
}
