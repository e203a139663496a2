use Rattle.std.proofs.Common.{rules, arith}
use Rattle.usb_bot_rounds.proofs.ByteSums.{byte-sum}
use Rattle.usb_bot_rounds.proofs.tally.sum_of.Goals as goal

pub returns-clause-sum : goal.returns-clause-sum
returns-clause-sum c = search rules

pub returns-clause-small : goal.returns-clause-small
returns-clause-small c = omega (arith, returns-clause-sum c, byte-sum c.args.bytes.now c.type_inv.bytes)
