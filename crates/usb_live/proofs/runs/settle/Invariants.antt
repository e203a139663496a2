use Rattle.usb_live.specs.Runs.{CountsReclaims}
use Rattle.usb_live.proofs.runs.settle.Given as goal

abbrev pub invariant-rounds : goal.invariant-rounds
invariant-rounds g l = record { count : CountsReclaims l.fn.handler.view l.fn.looped l.handler.view l.looped }
