use Rattle.std.proofs.Common.{◌∙◌, sym, rules}
use Rattle.std.proofs.lemmas.Iterator.Adapters.{option_map_id}
use Rattle.std.proofs.lemmas.Iterator.Consumers.{YieldsList-from_first}
use Rattle.std.proofs.lemmas.Iterator.Search.{find_from_yields_List}
use borrow.Author.Tests.{tests}
use Rattle.usb_desc.specs.Configurations.{alt_settings}
use Rattle.usb_desc.specs.Lookups.{has_setting}
use Rattle.usb_desc.proofs.configuration.ConfigurationDescriptor.find_alt_setting.Goals as goal

pub returns : goal.returns
returns c =
    let all = alt_settings c.args.self.now in
    record { first = sym (option_map_id c.find.result) ∙ find_from_yields_List (has_setting c.args.number c.args.alternate) _ _ c.find.result c.find.ensures.ran (YieldsList-from_first (λ x. x) (λ items. items) all c.interface_alt_settings.ensures.items) (λ x b q k. search (rules, tests)) }
