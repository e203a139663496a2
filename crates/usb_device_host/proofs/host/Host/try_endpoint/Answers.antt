use Rattle.std.specs.Prelude.{IsSome}
use Rattle.std.proofs.Common.{subst, ◌≡◌, ◌∙◌, ap, sym, Some}
use Rattle.std.proofs.lemmas.Option.{same_Some}
use Rattle.usb_device_ledger.specs.Entries.{ClaimedInterface}
use Rattle.usb_device_tables.specs.History.{value_at}
use Rattle.usb_device_host.specs.HostState.{HostState}
use Rattle.usb_device_host.specs.Owners.{is_in_use}
use Rattle.usb_device_ledger.specs.OwnerRows.{claim_state}
use Rattle.usb_device_host.specs.EndpointRefusals.{endpoint_tried}
use Rattle.usb_device_host.specs.EndpointOpens.{endpoint_of_setting, host_tries}
use Rattle.usb_device_host.proofs.EndpointLemmas.{tries-at}
use Rattle.usb_device_host.proofs.host.Host.try_endpoint.Goals as goal

pub returns-clause-tried : goal.returns-clause-tried
returns-clause-tried c = λ x there.
    let now = c.args.self.now in
    let devices = c.self.inside.devices in
    let claim : ClaimedInterface = claim_state c.interface-claim.result.now in
    let same : x ≡ claim = same_Some x claim (sym there ∙ ap (λ (h : HostState). value_at h.interfaces c.args.interface.serial) (sym c.self.view_is) ∙ c.interface-claim.ensures.claim) in
    let here : value_at now.interfaces c.args.interface.serial ≡ Some claim = ap (λ (h : HostState). value_at h.interfaces c.args.interface.serial) (sym c.self.view_is) ∙ c.interface-claim.ensures.claim in
    let o = c.get-opened.result.now in
    let at : value_at now.devices claim.opened ≡ Some o = ap (λ (h : HostState). value_at h.devices claim.opened) (sym c.self.view_is) ∙ c.get-opened.ensures.device in
    let used = c.is_used-is_used.ensures.used ∙ ap (λ (h : HostState). is_in_use h c.args.interface.serial c.args.address) c.self.view_is in
    c.maximum_of.ensures.tried
    ∙ ap (λ f. endpoint_tried f c.args.address c.args.kind c.args.direction c.is_used-is_used.result) c.find_endpoint-found.ensures.value
    ∙ ap (λ u. endpoint_tried (endpoint_of_setting o claim.number claim.setting c.args.address) c.args.address c.args.kind c.args.direction u) used
    ∙ sym (tries-at now c.args.interface.serial claim o c.args.address c.args.kind c.args.direction at)
    ∙ ap (λ y. host_tries now c.args.interface.serial y c.args.address c.args.kind c.args.direction) (sym same)

pub get-opened-requires : goal.get-opened-requires
get-opened-requires c =
    let now = c.args.self.now in
    let claim : ClaimedInterface = claim_state c.interface-claim.result.now in
    let here : value_at now.interfaces c.args.interface.serial ≡ Some claim = ap (λ (h : HostState). value_at h.interfaces c.args.interface.serial) (sym c.self.view_is) ∙ c.interface-claim.ensures.claim in
    record { there = subst (λ (h : HostState). IsSome (value_at h.devices claim.opened)) (sym c.self.view_is) (c.requires.device claim here) }
