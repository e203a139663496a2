use Rattle.std.proofs.Common.{ap, ◌∙◌}
use Rattle.std.specs.List.{list_any}
use Rattle.usb_script.specs.Order.{has_bus_address}
use Rattle.usb_script.proofs.TakenLemmas.{place-taken}
use Rattle.usb_script.proofs.order.ItemsBefore.is_place_taken.Goals as goal

pub returns : goal.returns
returns c = record {
  value =
      c.is_place_in.ensures.value
      ∙ place-taken c.args.bus c.args.address c.as_slice.result.now c.self.inside.items.items (c.as_slice.ensures.value ∙ c.self.invariant.places)
      ∙ ap (list_any (has_bus_address c.args.bus c.args.address)) c.self.view_is;
}
