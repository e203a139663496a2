use Rattle.std.proofs.Common.{◌≡◌}
use Rattle.usb_live.specs.Runs.{CountsReclaims}
use Rattle.usb_live.proofs.looping.event_loop.Given as goal

abbrev pub invariant-rounds : goal.invariant-rounds
invariant-rounds g l = record {
  row : l.handler.row ≡ l.fn.handler.row;
  count : CountsReclaims l.fn.handler.view l.fn.tally l.handler.view l.tally;
}
