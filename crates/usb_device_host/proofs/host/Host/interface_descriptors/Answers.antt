use Rattle.std.specs.Prelude.{IsSome}
use Rattle.std.proofs.Common.{◌≡◌, ◌∙◌, ap, sym, subst, Some}
use Rattle.usb_device_tables.specs.History.{value_at}
use Rattle.usb_device_ledger.specs.Entries.{ClaimedInterface}
use Rattle.usb_device_ledger.specs.OwnerRows.{claim_state}
use Rattle.usb_device_host.specs.HostState.{HostState}
use Rattle.usb_device_host.proofs.host.Host.interface_descriptors.Goals as goal

pub get-requires : goal.get-requires
get-requires c =
    let claim : ClaimedInterface = claim_state c.interface-claim.result.now in
    let here : value_at c.args.self.now.interfaces c.args.interface.serial ≡ Some claim = ap (λ (h : HostState). value_at h.interfaces c.args.interface.serial) (sym c.self.view_is) ∙ c.interface-claim.ensures.claim in
    record { there = subst (λ (h : HostState). IsSome (value_at h.devices claim.opened)) (sym c.self.view_is) (c.requires.device claim here) }
