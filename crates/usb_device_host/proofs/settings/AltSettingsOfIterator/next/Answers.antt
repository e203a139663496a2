use Rattle.std.proofs.Common.{◌≡◌, ◌∙◌, sym, ap, rules, []}
use Rattle.std.specs.Option.{option_map_or}
use borrow.Author.Tests.{tests}
use Rattle.usb_desc.specs.Interfaces.{settings_of}
use Rattle.usb_desc.specs.Lookups.{has_number}
use Rattle.usb_device_host.proofs.SettingLemmas.{finds-first, first-goes}
use Rattle.usb_device_host.proofs.settings.AltSettingsOfIterator.next.Goals as goal

pub returns-clause-steps : goal.returns-clause-steps
returns-clause-steps c =
    let number = c.self.inside.number in
    let all = c.in_ok-settings.settings.now in
    let is : c.args.self.now ≡ settings_of all number = sym c.self.view_is ∙ ap (λ o. option_map_or (λ settings. settings_of settings number) o []) (sym c.in_ok-settings.ensures.value) in
    finds-first _ (has_number number) _ (λ x b q k. search (rules, tests)) c.args.self.now all c.find.new.self c.find.result is c.find.ensures.ran

pub returns-clause-goes : goal.returns-clause-goes
returns-clause-goes c =
    let number = c.self.inside.number in
    let all = c.in_ok-settings.settings.now in
    let is : c.args.self.now ≡ settings_of all number = sym c.self.view_is ∙ ap (λ o. option_map_or (λ settings. settings_of settings number) o []) (sym c.in_ok-settings.ensures.value) in
    first-goes _ (λ items. tt) c.args.self.now (settings_of c.find.new.self number) c.find.result (finds-first _ (has_number number) _ (λ x b q k. search (rules, tests)) c.args.self.now all c.find.new.self c.find.result is c.find.ensures.ran)
