use Rattle.std.proofs.Common.{sym, ap, ◌∙◌}
use Rattle.usb_live.specs.declared.row.Row.{Row}
use Rattle.usb_live.specs.Steps.{Sat}
use Rattle.usb_live.proofs.StepFacts.{owner_begins, handler_begins, unused_first}
use Rattle.usb_live.proofs.row.Row.seats.Goals as goal

pub invariant_of-result : goal.invariant_of-result
invariant_of-result c = let e = c.in_ok-row.ensures in record {
  rests = owner_begins _ _ (e.0 ∙ ap (λ (r : Row). r.table.shared.table_id) (sym c.in_ok-row-2.ensures.ok)) e.2;
  unused = unused_first _ (ap (λ (m : Sat). m.0) e.2);
}

pub invariant_of-result-2 : goal.invariant_of-result-2
invariant_of-result-2 c = let e = c.in_ok-row.ensures in handler_begins _ _ (e.1 ∙ ap (λ (r : Row). r.table.shared.table_id) (sym c.in_ok-row-2.ensures.ok ∙ sym c.in_ok-other.ensures)) e.3
