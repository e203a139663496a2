use Rattle.std.proofs.Common.{◌≡◌, ◌∙◌, arith, ap, sym, subst}
use Rattle.usb_session_calls.specs.Names.{freed}
use Rattle.usb_session_calls.specs.Clients.{client_closed}
use Rattle.usb_session.specs.Ends.{clients_closed}
use Rattle.usb_session_calls.specs.Relation.{Represents}
use Rattle.usb_session.proofs.EndLemmas.{is_name, no_name, none-more, below-more}
use Rattle.usb_session.proofs.session.Session.close_clients.Goals as goal

pub loop-number-preserved : goal.loop-number-preserved
loop-number-preserved c =
    let number = c.loop-number.number in
    let same : c.in-Some.name ≡ number = is_name number c.in-Some.name (sym c.new.ensures.value ∙ c.in-Some.is) in
    let after = c.close_client_at.new.self in
    let before = c.loop-number.self in
    record {
      stands =
          λ state r. subst (Represents after) (ap (client_closed (clients_closed state number)) same ∙ sym (below-more client_closed state number))
          (c.close_client_at.ensures.stands (clients_closed state number) (c.loop-number.invariant.stands state r));
      none = none-more before.clients after.clients number (c.close_client_at.ensures.freed ∙ ap (freed before.clients) same) c.loop-number.invariant.none;
    }

pub unreachable-requires : goal.unreachable-requires
unreachable-requires c = absurd (no_name c.loop-number.number (omega (arith, c.loop-number-test.true)) (sym c.new.ensures.value ∙ c.in_default.is))

pub returns-clause-stands : goal.returns-clause-stands
returns-clause-stands c = λ state r. let all : c.loop-number.number ≡ 64 = omega arith in rw all at (c.loop-number.invariant.stands state r)
