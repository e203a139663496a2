use Rattle.std.proofs.lemmas.Iterator.Consumers.{YieldsList-from_first, nth_from_yields_List}
use Rattle.usb_desc.specs.Configurations.{alt_settings}
use Rattle.usb_core_c.proofs.SettingLemmas.{setting_is}
use Rattle.usb_core_c.proofs.descriptors.setting_at.Goals as goal

pub returns-in-Some : goal.returns-in-Some
returns-in-Some c =
    let all = alt_settings c.in-Some.configuration in
    let nth = nth_from_yields_List _ _ c.args.index c.nth.ensures.ran (YieldsList-from_first (λ x. x) (λ items. items) all c.interface_alt_settings.ensures.items) in
    record { at = setting_is c.args.bytes.now c.in-Some.configuration c.new.result c.nth.result c.args.index c.new.ensures.value c.in-Some.is nth }
