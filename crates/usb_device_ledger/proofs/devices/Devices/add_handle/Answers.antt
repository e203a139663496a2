use Rattle.std.proofs.Common.{◌≡◌, ◌∙◌, sym, ap, Some, None}
use Rattle.usb_device_tables.specs.History.{value_at}
use Rattle.usb_device_tables.proofs.ValueLemmas.{set-value_same}
use Rattle.usb_device_ledger.specs.Devices.{device_changed, handle_more}
use Rattle.usb_device_ledger.proofs.DeviceLemmas.{changed-none, changed-held, held-handle_more}
use Rattle.usb_device_ledger.proofs.devices.Devices.add_handle.Goals as goal

pub returns-in_default-clause-ok : goal.returns-in_default-clause-ok
returns-in_default-clause-ok c =
    let none : value_at c.self.inside.entries.values c.args.key.serial ≡ None = sym c.in_default.ensures.value in
    sym (changed-none c.self.inside.entries.values c.args.key.serial handle_more none) ∙ ap (λ ds. device_changed ds c.args.key.serial handle_more) c.self.view_is

pub returns-then-opened-clause-err : goal.returns-then-opened-clause-err
returns-then-opened-clause-err c = set-value_same c.self.inside.entries.values c.args.key.serial c.in-Some.opened.now (sym c.in-Some.ensures.value) ∙ c.self.view_is

pub returns-clause-ok : goal.returns-clause-ok
returns-clause-ok c =
    let values = c.self.inside.entries.values in
    let o = c.in-Some.opened.now in
    let at : value_at values c.args.key.serial ≡ Some o = sym c.in-Some.ensures.value in
    sym (changed-held values c.args.key.serial handle_more o at (held-handle_more o))
    ∙ ap (λ ds. device_changed ds c.args.key.serial handle_more) c.self.view_is
