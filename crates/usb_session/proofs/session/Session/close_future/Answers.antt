use Rattle.std.proofs.Common.{true, false, ap, sym, ◌∙◌}
use Rattle.std.specs.Prelude.{is_some}
use Rattle.usb_session_calls.specs.Names.{named}
use Rattle.usb_session_calls.specs.State.{State}
use Rattle.usb_session_calls.specs.Closes.{close_future_answer}
use Rattle.usb_session.specs.Ends.{future_closed_at, future_closed_under}
use Rattle.usb_session_calls.specs.SessionState.{SessionState}
use Rattle.usb_session.proofs.CloseAnswers.{close-answers}
use Rattle.usb_session.proofs.Later.{later-stands, future_closed-goes}
use Rattle.usb_session.proofs.session.Session.close_future.Goals as goal

pub returns-then-close_future_at-clause-answered : goal.returns-then-close_future_at-clause-answered
unfolding close_future_answer future_closed_under
returns-then-close_future_at-clause-answered c =
    close-answers (λ (state : State) n. named state.futures n) future_closed_at c.args.self.now c.close_future_at.new.self c.number.result c.args.name c.args.line.now c.write_ok.new.out c.write_ok.result true c.number.ensures.value
    (λ state r. ap (λ (v : SessionState). is_some (named v.futures c.number.result)) (sym r) ∙ sym c.close_future_at.ensures.was_open ∙ c.if-close_future_at.true)
    c.close_future_at.ensures.stands c.write_ok.ensures.text

pub returns-else-close_future_at-clause-answered : goal.returns-else-close_future_at-clause-answered
unfolding close_future_answer future_closed_under
returns-else-close_future_at-clause-answered c =
    close-answers (λ (state : State) n. named state.futures n) future_closed_at c.args.self.now c.close_future_at.new.self c.number.result c.args.name c.args.line.now c.write_condition.new.out c.write_condition.result false c.number.ensures.value
    (λ state r. ap (λ (v : SessionState). is_some (named v.futures c.number.result)) (sym r) ∙ sym c.close_future_at.ensures.was_open ∙ c.if-close_future_at.false)
    c.close_future_at.ensures.stands c.write_condition.ensures.text

pub returns-then-close_future_at-clause-later : goal.returns-then-close_future_at-clause-later
returns-then-close_future_at-clause-later c = later-stands _ _ _ (future_closed-goes c.number.result) c.close_future_at.ensures.stands

pub returns-else-close_future_at-clause-later : goal.returns-else-close_future_at-clause-later
returns-else-close_future_at-clause-later c = later-stands _ _ _ (future_closed-goes c.number.result) c.close_future_at.ensures.stands
