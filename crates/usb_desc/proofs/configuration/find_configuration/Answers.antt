use Rattle.std.proofs.Common.{◌≡◌, ◌∙◌, sym, ap, rules, find, arith}
use Rattle.std.proofs.lemmas.Iterator.Adapters.{option_map_id}
use Rattle.std.proofs.lemmas.Iterator.Consumers.{YieldsList-from_first}
use Rattle.std.proofs.lemmas.Iterator.Search.{find_from_yields_List}
use borrow.Author.Tests.{tests}
use Rattle.usb_desc.specs.Configurations.{configurations, concatenated}
use Rattle.usb_desc.specs.Lookups.{has_value}
use Rattle.usb_desc.proofs.ConfigurationLemmas.{configurations_short, configurations_behind}
use Rattle.usb_desc.proofs.configuration.find_configuration.Goals as goal

pub returns-then-bytes-lt-DEVICE_LEN : goal.returns-then-bytes-lt-DEVICE_LEN
returns-then-bytes-lt-DEVICE_LEN c =
    record { first = sym (ap (find (has_value c.args.value)) (configurations_short c.args.bytes.now (omega arith))) }

pub returns : goal.returns
returns c =
    let all = configurations c.args.bytes.now in
    let items : c.concatenated.result ≡ all = c.concatenated.ensures.items ∙ ap concatenated c.split_at.ensures.back ∙ sym (configurations_behind c.args.bytes.now) in
    record { first = sym (option_map_id c.find.result) ∙ find_from_yields_List (has_value c.args.value) _ _ c.find.result c.find.ensures.ran (YieldsList-from_first (λ x. x) (λ items. items) all items) (λ x b q k. search (rules, tests)) }
