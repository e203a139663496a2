use Rattle.std.proofs.Common.{true, false, refl, sym, ◌∙◌}
use Rattle.usb_session_calls.specs.Names.{named}
use Rattle.usb_session_calls.specs.State.{State}
use Rattle.usb_session_calls.specs.Clients.{close_client_answer, client_closed, client_closed_at}
use Rattle.usb_session_calls.proofs.Called.{clients_kept}
use Rattle.usb_session.proofs.KeptNames.{kept-some}
use Rattle.usb_session.proofs.CloseAnswers.{close-answers}
use Rattle.usb_session.proofs.Later.{later-stands, client_closed-goes}
use Rattle.usb_session.proofs.session.Session.close_client.Goals as goal

pub returns-then-close_client_at-clause-answered : goal.returns-then-close_client_at-clause-answered
unfolding close_client_answer client_closed
returns-then-close_client_at-clause-answered c =
    close-answers (λ (state : State) n. named state.clients n) client_closed_at c.args.self.now c.close_client_at.new.self c.args.name c.args.name c.args.line.now c.write_ok.new.out c.write_ok.result true refl
    (λ state r. kept-some _ _ _ (clients_kept c.args.self.now state r) c.args.name true (sym c.close_client_at.ensures.was_open ∙ c.if-close_client_at.true))
    c.close_client_at.ensures.stands c.write_ok.ensures.text

pub returns-else-close_client_at-clause-answered : goal.returns-else-close_client_at-clause-answered
unfolding close_client_answer client_closed
returns-else-close_client_at-clause-answered c =
    close-answers (λ (state : State) n. named state.clients n) client_closed_at c.args.self.now c.close_client_at.new.self c.args.name c.args.name c.args.line.now c.write_condition.new.out c.write_condition.result false refl
    (λ state r. kept-some _ _ _ (clients_kept c.args.self.now state r) c.args.name false (sym c.close_client_at.ensures.was_open ∙ c.if-close_client_at.false))
    c.close_client_at.ensures.stands c.write_condition.ensures.text

pub returns-then-close_client_at-clause-later : goal.returns-then-close_client_at-clause-later
returns-then-close_client_at-clause-later c = later-stands _ _ _ (client_closed-goes c.args.name) c.close_client_at.ensures.stands

pub returns-else-close_client_at-clause-later : goal.returns-else-close_client_at-clause-later
returns-else-close_client_at-clause-later c = later-stands _ _ _ (client_closed-goes c.args.name) c.close_client_at.ensures.stands
