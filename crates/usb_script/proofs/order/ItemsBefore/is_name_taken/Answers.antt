use Rattle.std.proofs.Common.{ap, ◌∙◌}
use Rattle.std.specs.List.{list_any}
use Rattle.usb_script.specs.Order.{has_name}
use Rattle.usb_script.proofs.TakenLemmas.{name-taken}
use Rattle.usb_script.proofs.order.ItemsBefore.is_name_taken.Goals as goal

pub returns : goal.returns
returns c = record {
  value =
      c.is_name_in.ensures.value
      ∙ name-taken c.args.name c.as_slice.result.now c.self.inside.items.items (c.as_slice.ensures.value ∙ c.self.invariant.places)
      ∙ ap (list_any (has_name c.args.name)) c.self.view_is;
}
