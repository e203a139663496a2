use Rattle.std.proofs.Common.{ap, sym, ◌∙◌}
use Rattle.std.specs.List.{slice_get}
use Rattle.std.proofs.lemmas.Iterator.Adapters.{option_map_id}
use Rattle.std.proofs.lemmas.Iterator.Consumers.{YieldsList-from_first, nth_from_yields_List}
use Rattle.usb_desc.specs.Configurations.{endpoints}
use Rattle.usb_core_c.specs.Walks.{endpoints_in}
use Rattle.usb_core_c.proofs.descriptors.endpoint_at.Goals as goal

pub returns-in-Some : goal.returns-in-Some
returns-in-Some c =
    let all = endpoints c.in-Some.setting in
    let nth = nth_from_yields_List _ _ c.args.number c.nth.ensures.ran (YieldsList-from_first (λ x. x) (λ items. items) all c.endpoints.ensures.items) in
    let same = ap (λ found. slice_get (endpoints_in found) c.args.number) (sym c.setting_at.ensures.at ∙ c.in-Some.is) in
    record { at = sym (same ∙ sym nth ∙ option_map_id c.nth.result) }
