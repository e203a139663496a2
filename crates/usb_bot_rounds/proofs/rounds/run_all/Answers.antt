use Rattle.std.proofs.Common.{◌∙◌}
use Rattle.usb_bot_rounds.proofs.StepLemmas.{serves-more, tally-next, first-tally, first-within}
use Rattle.usb_bot_rounds.proofs.rounds.run_all.Goals as goal

pub loop-number-init : goal.loop-number-init
loop-number-init c = record {
  serves = c.requires.serves;
  stand = c.requires.stand;
  tally = c.new-tally.ensures.none ∙ first-tally;
  within = first-within c.new-tally.result c.new-tally.ensures.none;
}

pub loop-number-preserved : goal.loop-number-preserved
loop-number-preserved c =
    let l = c.loop-number in
    let new = c.in_ok-tally.ensures in
    record {
      serves = serves-more c.run_round.new.bus c.run_round.new.client l.bus.machine.disk l.number l.invariant.serves.disk new.blocks;
      stand = c.run_round.ensures.stand;
      tally = tally-next l.bus.machine.disk l.number l.tally c.in_ok-tally.tally l.invariant.serves.disk l.invariant.tally new.answers;
      within = new.within;
    }
