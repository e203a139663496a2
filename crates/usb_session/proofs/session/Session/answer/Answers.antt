use Rattle.usb_session.proofs.CrowdCode.{answers-barred, answers-line}
use Rattle.usb_session.proofs.session.Session.answer.Goals as goal

pub returns-then-bars_line-clause-answered : goal.returns-then-bars_line-clause-answered
returns-then-bars_line-clause-answered c =
    answers-barred _ _ c.args.line.now c.answer_barred.new.line c.args.item c.answer_barred.result c.bars_line.result c.bars_line.ensures.value c.if-bars_line.true c.answer_barred.ensures.answered

pub returns-clause-answered : goal.returns-clause-answered
returns-clause-answered c =
    answers-line _ _ c.args.line.now c.call.new.line c.args.item c.call.result c.bars_line.result c.bars_line.ensures.value c.if-bars_line.false c.call_of.result c.call_of.ensures.call c.call.ensures.answered
