use Rattle.std.proofs.Common.{◌≡◌, ◌+◌}
use Rattle.usb_live.specs.Answers.{reclaimed_in}
use Rattle.usb_live.specs.Rounds.{steps_of, StepsOnCells, AppendsReaps}
use Rattle.usb_live.proofs.seats.HandlerSeat.round.Given as goal

abbrev pub invariant-loop-cell : goal.invariant-loop-cell
invariant-loop-cell l = record {
  row : l.self.row ≡ l.initial.self.row;
  each : StepsOnCells l.cell l.initial.self.view l.initial.kernel l.self.view l.kernel l.round;
  steps : steps_of l.round ≡ l.cell;
  looks : l.self.view.looks ≡ l.initial.self.view.looks + l.cell;
  count : reclaimed_in l.self.view.handler ≡ reclaimed_in l.initial.self.view.handler + l.round.reclaimed;
  kernel : AppendsReaps (l.round.finished + l.round.reclaimed) l.initial.kernel l.kernel;
}
