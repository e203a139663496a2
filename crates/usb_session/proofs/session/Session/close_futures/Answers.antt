use Rattle.std.proofs.Common.{◌≡◌, arith, sym, subst, ◌∙◌}
use Rattle.usb_session.specs.Ends.{future_closed_under, futures_closed}
use Rattle.usb_session_calls.specs.Relation.{Represents}
use Rattle.usb_session.proofs.EndLemmas.{none-more, below-more}
use Rattle.usb_session.proofs.session.Session.close_futures.Goals as goal

pub loop-name-preserved : goal.loop-name-preserved
loop-name-preserved c = record {
  stands =
      λ state r. subst (Represents c.close_future_at.new.self) (sym (below-more future_closed_under state c.loop-name.name))
      (c.close_future_at.ensures.stands (futures_closed state c.loop-name.name) (c.loop-name.invariant.stands state r));
  none = none-more c.loop-name.self.futures c.close_future_at.new.self.futures c.loop-name.name c.close_future_at.ensures.freed c.loop-name.invariant.none;
  endpoints = c.close_future_at.ensures.endpoints ∙ c.loop-name.invariant.endpoints;
}

pub returns-clause-stands : goal.returns-clause-stands
returns-clause-stands c = λ state r. let all : c.loop-name.name ≡ 64 = omega arith in rw all at (c.loop-name.invariant.stands state r)
