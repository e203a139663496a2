use Rattle.std.proofs.Common.{◌≡◌, arith, sym, subst, ◌∙◌}
use Rattle.usb_session_calls.specs.Closes.{closed}
use Rattle.usb_session.specs.Ends.{endpoints_closed}
use Rattle.usb_session_calls.specs.Relation.{Represents}
use Rattle.usb_session.proofs.EndLemmas.{none-more, below-more}
use Rattle.usb_session.proofs.session.Session.close_endpoints.Goals as goal

pub loop-name-preserved : goal.loop-name-preserved
loop-name-preserved c = record {
  stands =
      λ state r. subst (Represents c.close_endpoint.new.self) (sym (below-more closed state c.loop-name.name))
      (c.close_endpoint.ensures.stands (endpoints_closed state c.loop-name.name) (c.loop-name.invariant.stands state r));
  none = none-more c.loop-name.self.endpoints c.close_endpoint.new.self.endpoints c.loop-name.name c.close_endpoint.ensures.freed c.loop-name.invariant.none;
  readers = c.close_endpoint.ensures.readers ∙ c.loop-name.invariant.readers;
  writers = c.close_endpoint.ensures.writers ∙ c.loop-name.invariant.writers;
  clients = c.close_endpoint.ensures.clients ∙ c.loop-name.invariant.clients;
}

pub returns-clause-stands : goal.returns-clause-stands
returns-clause-stands c = λ state r. let all : c.loop-name.name ≡ 64 = omega arith in rw all at (c.loop-name.invariant.stands state r)
