use Rattle.std.proofs.Common.{◌∙◌, sym, rules}
use Rattle.std.proofs.lemmas.Iterator.Adapters.{option_map_id}
use Rattle.std.proofs.lemmas.Iterator.Consumers.{YieldsList-from_first}
use Rattle.std.proofs.lemmas.Iterator.Search.{find_from_yields_List}
use borrow.Author.Tests.{tests}
use Rattle.usb_desc.specs.Configurations.{endpoints}
use Rattle.usb_desc.specs.Lookups.{has_address}
use Rattle.usb_desc.proofs.interface.InterfaceDescriptor.find_endpoint.Goals as goal

pub returns : goal.returns
returns c =
    let all = endpoints c.args.self.now in
    record { first = sym (option_map_id c.find.result) ∙ find_from_yields_List (has_address c.args.address) _ _ c.find.result c.find.ensures.ran (YieldsList-from_first (λ x. x) (λ items. items) all c.endpoints.ensures.items) (λ x b q k. search (rules, tests)) }
