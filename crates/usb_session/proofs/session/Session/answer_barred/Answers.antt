use Rattle.usb_session.proofs.CrowdCode.{barred-answered}
use Rattle.usb_session.proofs.session.Session.answer_barred.Goals as goal

pub returns-clause-answered : goal.returns-clause-answered
returns-clause-answered c =
    barred-answered _ _ c.args.line.now c.write_condition.new.out c.write_condition.result _ c.args.item c.into_steps-steps.ensures.value c.step_all.ensures.stands c.write_condition.ensures.text
