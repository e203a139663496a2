use Rattle.std.proofs.Common.{true, false, sym, ◌∙◌}
use Rattle.usb_session_calls.specs.Names.{named}
use Rattle.usb_session_calls.specs.State.{State}
use Rattle.usb_session_calls.specs.Closes.{close_answer, closed, closed_at}
use Rattle.usb_session_calls.proofs.Called.{endpoints_kept}
use Rattle.usb_session.proofs.KeptNames.{kept-some}
use Rattle.usb_session.proofs.CloseAnswers.{close-answers}
use Rattle.usb_session.proofs.Later.{later-stands, closed-goes}
use Rattle.usb_session.proofs.session.Session.close.Goals as goal

pub returns-then-close_endpoint-clause-answered : goal.returns-then-close_endpoint-clause-answered
unfolding close_answer closed
returns-then-close_endpoint-clause-answered c =
    close-answers (λ (state : State) n. named state.endpoints n) closed_at c.args.self.now c.close_endpoint.new.self c.number.result c.args.name c.args.line.now c.write_ok.new.out c.write_ok.result true c.number.ensures.value
    (λ state r. kept-some _ _ _ (endpoints_kept c.args.self.now state r) c.number.result true (sym c.close_endpoint.ensures.was_open ∙ c.if-close_endpoint.true))
    c.close_endpoint.ensures.stands c.write_ok.ensures.text

pub returns-else-close_endpoint-clause-answered : goal.returns-else-close_endpoint-clause-answered
unfolding close_answer closed
returns-else-close_endpoint-clause-answered c =
    close-answers (λ (state : State) n. named state.endpoints n) closed_at c.args.self.now c.close_endpoint.new.self c.number.result c.args.name c.args.line.now c.write_condition.new.out c.write_condition.result false c.number.ensures.value
    (λ state r. kept-some _ _ _ (endpoints_kept c.args.self.now state r) c.number.result false (sym c.close_endpoint.ensures.was_open ∙ c.if-close_endpoint.false))
    c.close_endpoint.ensures.stands c.write_condition.ensures.text

pub returns-then-close_endpoint-clause-later : goal.returns-then-close_endpoint-clause-later
returns-then-close_endpoint-clause-later c = later-stands _ _ _ (closed-goes c.number.result) c.close_endpoint.ensures.stands

pub returns-else-close_endpoint-clause-later : goal.returns-else-close_endpoint-clause-later
returns-else-close_endpoint-clause-later c = later-stands _ _ _ (closed-goes c.number.result) c.close_endpoint.ensures.stands
