use Rattle.std.proofs.Common.{◌≡◌, ◌∙◌, sym, ap, Some, None}
use Rattle.usb_device_tables.specs.History.{value_at}
use Rattle.usb_device_ledger.specs.Devices.{device_changed, interface_more}
use Rattle.usb_device_ledger.proofs.DeviceLemmas.{changed-none, changed-held, held-interface_more}
use Rattle.usb_device_ledger.proofs.devices.Devices.add_interface.Goals as goal
use Rattle.usb_device_ledger.proofs.devices.Devices.add_interface.Goals.{in-Some, in_default}

pub returns : goal.returns
returns c =
    let values = c.self.inside.entries.values in
    elim c.match-get_mut.branch [
      | in-Some w ↦
          let o = w.in-Some.opened.now in
          let at : value_at values c.args.key.serial ≡ Some o = sym w.in-Some.ensures.value in
          record { added = ap (λ s. s.entries.values) w.self-inside-is ∙ sym (changed-held values c.args.key.serial interface_more o at (held-interface_more o)) ∙ ap (λ ds. device_changed ds c.args.key.serial interface_more) c.self.view_is }
      | in_default w ↦
          let none : value_at values c.args.key.serial ≡ None = sym w.in_default.ensures.value in
          record { added = ap (λ s. s.entries.values) w.self-inside-is ∙ sym (changed-none values c.args.key.serial interface_more none) ∙ ap (λ ds. device_changed ds c.args.key.serial interface_more) c.self.view_is }
    ]
