use Rattle.std.proofs.Common.{rules}
use Rattle.std.proofs.lemmas.Iterator.Consumers.{YieldsList-from_first}
use Rattle.std.proofs.lemmas.Iterator.Search.{any_from_yields_List}
use borrow.Author.Tests.{tests}
use Rattle.usb_desc.specs.Configurations.{alt_settings}
use Rattle.usb_desc.specs.Lookups.{has_number}
use Rattle.usb_desc.proofs.configuration.ConfigurationDescriptor.has_interface.Goals as goal

pub returns : goal.returns
returns c =
    let all = alt_settings c.args.self.now in
    record { any = any_from_yields_List (has_number c.args.number) _ _ c.any.result c.any.ensures.ran (YieldsList-from_first (λ x. x) (λ items. items) all c.interface_alt_settings.ensures.items) (λ x b q k. search (rules, tests)) }
