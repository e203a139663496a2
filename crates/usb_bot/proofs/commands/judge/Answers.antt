use Rattle.std.proofs.Common.{arith, Some}
use Rattle.usb_bot.proofs.JudgeLemmas.{judged-as, passed-moved}
use Rattle.usb_bot.proofs.commands.judge.Goals as goal

pub returns-in-Some-clause-failed : goal.returns-in-Some-clause-failed
returns-in-Some-clause-failed c = judged-as c.args.command c.args.done c.args.told c.as_slice.result.now (Some c.in-Some.error) c.in-Some.ensures.error c.as_slice.ensures.bytes

pub returns-clause-whole : goal.returns-clause-whole
returns-clause-whole c =
    let within = c.requires.within in
    let moved = passed-moved c.args.command c.args.done.actual_len c.as_slice.result.now c.in_default.ensures.error in
    omega (arith, within, moved)
