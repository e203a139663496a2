use Rattle.std.proofs.Common.{◌≡◌, ◌∙◌, sym, ap, Some, None, true, false, set}
use Rattle.usb_device_tables.specs.History.{RegistryState, value_at}
use Rattle.usb_device_ledger.specs.declared.opened.OpenDevice.{OpenDevice}
use Rattle.usb_device_ledger.specs.Devices.{device_changed, is_held, handle_less}
use Rattle.usb_device_ledger.proofs.DeviceLemmas.{changed-none, changed-held, changed-removed}
use Rattle.usb_device_ledger.proofs.devices.Devices.close_handle.Goals as goal
use Rattle.usb_device_ledger.proofs.devices.Devices.close_handle.Goals.{in-Some-1, in-None-1}

pub returns-in_default : goal.returns-in_default
returns-in_default c =
    let none : value_at c.self.inside.entries.values c.args.key.serial ≡ None = sym c.in_default.ensures.value in
    record { closed = sym (changed-none c.self.inside.entries.values c.args.key.serial handle_less none) ∙ ap (λ ds. device_changed ds c.args.key.serial handle_less) c.self.view_is }

pub returns-then-not-is_held : goal.returns-then-not-is_held
returns-then-not-is_held c =
    let values = c.self.inside.entries.values in
    let o = c.in-Some.opened.now in
    let at : value_at values c.args.key.serial ≡ Some o = sym c.in-Some.ensures.value in
    let gone : is_held (handle_less o) ≡ false = rw (← c.saturating_sub-opened.ensures) (sym c.is_held-is_held.ensures.held ∙ c.if-not-is_held.true) in
    let less : ◌≡◌ {A = OpenDevice} (record o { handles = c.saturating_sub-opened.result }) (handle_less o) = ap (λ n. record o { handles = n }) c.saturating_sub-opened.ensures in
    let rest : c.remove.new.self.values ≡ set (set values c.args.key.serial (Some (handle_less o))) c.args.key.serial None = ap (λ (r : RegistryState OpenDevice). r.values) c.remove.ensures.rest ∙ ap (λ (d : OpenDevice). set (set values c.args.key.serial (Some d)) c.args.key.serial None) less in
    let is = changed-removed values c.args.key.serial handle_less o c.remove.new.self.values at gone rest ∙ ap (λ ds. device_changed ds c.args.key.serial handle_less) c.self.view_is in
    elim c.match-remove.branch [
      | in-Some-1 w ↦ record { closed = w.self-is ∙ is }
      | in-None-1 w ↦ record { closed = w.self-is ∙ is }
    ]

pub returns-else-not-is_held : goal.returns-else-not-is_held
returns-else-not-is_held c =
    let values = c.self.inside.entries.values in
    let o = c.in-Some.opened.now in
    let at : value_at values c.args.key.serial ≡ Some o = sym c.in-Some.ensures.value in
    let held : is_held (handle_less o) ≡ true = rw (← c.saturating_sub-opened.ensures) (sym c.is_held-is_held.ensures.held ∙ c.if-not-is_held.false) in
    let less : ◌≡◌ {A = OpenDevice} (record o { handles = c.saturating_sub-opened.result }) (handle_less o) = ap (λ n. record o { handles = n }) c.saturating_sub-opened.ensures in
    record {
      closed =
          ap (λ (d : OpenDevice). set values c.args.key.serial (Some d)) less
          ∙ sym (changed-held values c.args.key.serial handle_less o at held)
          ∙ ap (λ ds. device_changed ds c.args.key.serial handle_less) c.self.view_is;
    }
