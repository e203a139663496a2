use Rattle.std.proofs.Common.{true, false, ap, sym, ◌∙◌}
use Rattle.std.specs.Prelude.{is_some}
use Rattle.usb_session_calls.specs.Names.{named}
use Rattle.usb_session_calls.specs.State.{State}
use Rattle.usb_session_calls.specs.Closes.{close_interface_answer}
use Rattle.usb_session.specs.Ends.{interface_closed_at, interface_closed}
use Rattle.usb_session_calls.specs.SessionState.{SessionState}
use Rattle.usb_session.proofs.CloseAnswers.{close-answers}
use Rattle.usb_session.proofs.Later.{later-stands, interface_closed-goes}
use Rattle.usb_session.proofs.session.Session.close_interface.Goals as goal

pub returns-then-close_handle-clause-answered : goal.returns-then-close_handle-clause-answered
unfolding close_interface_answer interface_closed
returns-then-close_handle-clause-answered c =
    close-answers (λ (state : State) n. named state.interfaces n) interface_closed_at c.args.self.now c.close_handle.new.self c.number.result c.args.name c.args.line.now c.write_ok.new.out c.write_ok.result true c.number.ensures.value
    (λ state r. ap (λ (v : SessionState). is_some (named v.interfaces c.number.result)) (sym r) ∙ sym c.close_handle.ensures.was_open ∙ c.if-close_handle.true)
    c.close_handle.ensures.stands c.write_ok.ensures.text

pub returns-else-close_handle-clause-answered : goal.returns-else-close_handle-clause-answered
unfolding close_interface_answer interface_closed
returns-else-close_handle-clause-answered c =
    close-answers (λ (state : State) n. named state.interfaces n) interface_closed_at c.args.self.now c.close_handle.new.self c.number.result c.args.name c.args.line.now c.write_condition.new.out c.write_condition.result false c.number.ensures.value
    (λ state r. ap (λ (v : SessionState). is_some (named v.interfaces c.number.result)) (sym r) ∙ sym c.close_handle.ensures.was_open ∙ c.if-close_handle.false)
    c.close_handle.ensures.stands c.write_condition.ensures.text

pub returns-then-close_handle-clause-later : goal.returns-then-close_handle-clause-later
returns-then-close_handle-clause-later c = later-stands _ _ _ (interface_closed-goes c.number.result) c.close_handle.ensures.stands

pub returns-else-close_handle-clause-later : goal.returns-else-close_handle-clause-later
returns-else-close_handle-clause-later c = later-stands _ _ _ (interface_closed-goes c.number.result) c.close_handle.ensures.stands
