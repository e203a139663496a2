use Rattle.std.proofs.Common.{true, false, ap, sym, ◌∙◌}
use Rattle.std.specs.Prelude.{is_some}
use Rattle.usb_session_calls.specs.Names.{named}
use Rattle.usb_session_calls.specs.State.{State}
use Rattle.usb_session_calls.specs.Closes.{close_device_answer}
use Rattle.usb_session.specs.Ends.{device_closed_at, name_closed}
use Rattle.usb_session_calls.specs.SessionState.{SessionState}
use Rattle.usb_session.proofs.CloseAnswers.{close-answers}
use Rattle.usb_session.proofs.Later.{later-stands, name_closed-goes}
use Rattle.usb_session.proofs.session.Session.close_device.Goals as goal

pub returns-then-close_name-clause-answered : goal.returns-then-close_name-clause-answered
unfolding close_device_answer name_closed
returns-then-close_name-clause-answered c =
    close-answers (λ (state : State) n. named state.devices n) device_closed_at c.args.self.now c.close_name.new.self c.number.result c.args.name c.args.line.now c.write_ok.new.out c.write_ok.result true c.number.ensures.value
    (λ state r. ap (λ (v : SessionState). is_some (named v.devices c.number.result)) (sym r) ∙ sym c.close_name.ensures.was_open ∙ c.if-close_name.true)
    c.close_name.ensures.stands c.write_ok.ensures.text

pub returns-else-close_name-clause-answered : goal.returns-else-close_name-clause-answered
unfolding close_device_answer name_closed
returns-else-close_name-clause-answered c =
    close-answers (λ (state : State) n. named state.devices n) device_closed_at c.args.self.now c.close_name.new.self c.number.result c.args.name c.args.line.now c.write_condition.new.out c.write_condition.result false c.number.ensures.value
    (λ state r. ap (λ (v : SessionState). is_some (named v.devices c.number.result)) (sym r) ∙ sym c.close_name.ensures.was_open ∙ c.if-close_name.false)
    c.close_name.ensures.stands c.write_condition.ensures.text

pub returns-then-close_name-clause-later : goal.returns-then-close_name-clause-later
returns-then-close_name-clause-later c = later-stands _ _ _ (name_closed-goes c.number.result) c.close_name.ensures.stands

pub returns-else-close_name-clause-later : goal.returns-else-close_name-clause-later
returns-else-close_name-clause-later c = later-stands _ _ _ (name_closed-goes c.number.result) c.close_name.ensures.stands
