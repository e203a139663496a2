use Rattle.std.proofs.Common.{◌≡◌, ◌∙◌, ap, sym, refl, true, false, Some, None, set}
use Rattle.usb_device_tables.specs.History.{value_at}
use Rattle.usb_kernel_devices.specs.declared.step.KernelCall.TheVariants as call
use Rattle.usb_kernel_devices.specs.Claims.{ok_unless}
use Rattle.usb_kernel_devices.specs.Calls.{same, set_interface_rules}
use Rattle.usb_kernel.specs.Calls.{called}
use Rattle.usb_kernel.specs.Value.{KernelState}
use Rattle.usb_device_ledger.specs.Entries.{ClaimedInterface}
use Rattle.usb_device_host.specs.HostState.{HostState}
use Rattle.usb_device_host.specs.HostFacts.{host_made}
use Rattle.usb_device_ledger.specs.OwnerRows.{claim_state}
use Rattle.usb_device_ledger.specs.Owners.{has_living}
use Rattle.usb_device_ledger.specs.LedgerState.{LedgerState}
use Rattle.usb_device_host.specs.OnInterfaces.{alt_setting_errno}
use Rattle.usb_device_tables.proofs.ValueLemmas.{some-of}
use Rattle.usb_device_host.proofs.CalledHosts.{matched-next, called-past, called-spare, kernel-put, errno-of_err, errno-of_ok, setting-in_use, setting-refused, setting-set}
use Rattle.usb_device_host.proofs.host.Host.set_alt_setting.Goals as goal

pub returns-then-has_living-clause-host : goal.returns-then-has_living-clause-host
returns-then-has_living-clause-host c =
    let now = c.args.self.now in
    let there = some-of (value_at now.interfaces c.args.interface.serial) c.requires.interface in
    let living : has_living now.tickets now.endpoints c.args.interface.serial ≡ true = ap (λ (h : HostState). has_living h.tickets h.endpoints c.args.interface.serial) (sym c.self.view_is) ∙ sym c.has_living.ensures.living ∙ c.if-has_living.true in
    sym (setting-in_use now c.args.interface.serial c.args.setting there.0 there.1 living)

pub invariant_of-self : goal.invariant_of-self
invariant_of-self c =
    let k = c.self.inside.kernel in
    let claim = c.interface-claim.result.now in
    let past : c.set_interface.new.self.past ≡ k.past = ap (λ (x : KernelState). x.past) c.set_interface.ensures.rest ∙ called-past k claim.device call.Alt (set_interface_rules claim.number c.args.setting) same in
    let spare : c.set_interface.new.self.spare ≡ k.spare = ap (λ (x : KernelState). x.spare) c.set_interface.ensures.rest ∙ called-spare k claim.device call.Alt (set_interface_rules claim.number c.args.setting) same in
    matched-next c.self.inside _ c.self.invariant past spare refl refl

pub returns-in-Err-clause-host : goal.returns-in-Err-clause-host
returns-in-Err-clause-host c =
    let now = c.args.self.now in
    let inside = c.self.inside in
    let claim : ClaimedInterface = claim_state c.interface-claim.result.now in
    let at : value_at now.interfaces c.args.interface.serial ≡ Some claim = ap (λ (h : HostState). value_at h.interfaces c.args.interface.serial) (sym c.self.view_is) ∙ c.interface-claim.ensures.claim in
    let living : has_living now.tickets now.endpoints c.args.interface.serial ≡ false = ap (λ (h : HostState). has_living h.tickets h.endpoints c.args.interface.serial) (sym c.self.view_is) ∙ sym c.has_living.ensures.living ∙ c.if-has_living.false in
    let kernel : c.set_interface.new.self ≡ called now.kernel claim.device call.Alt (set_interface_rules claim.number c.args.setting) same =
    c.set_interface.ensures.rest ∙ ap (λ (h : HostState). called h.kernel claim.device call.Alt (set_interface_rules claim.number c.args.setting) same) c.self.view_is in
    let answer = c.in-Err.ensures.result ∙ ap (λ (h : HostState). ok_unless (alt_setting_errno h claim c.args.setting)) c.self.view_is in
    let errno : alt_setting_errno now claim c.args.setting ≡ Some c.in-Err.errno = errno-of_err (alt_setting_errno now claim c.args.setting) c.in-Err.errno answer in
    kernel-put inside.kernel inside.devices inside.ledger inside.steps.items now c.set_interface.new.self _ c.self.view_is kernel ∙ sym (setting-refused now c.args.interface.serial c.args.setting claim at c.in-Err.errno living errno)

pub invariant_of-self-2 : goal.invariant_of-self-2
invariant_of-self-2 c =
    let k = c.self.inside.kernel in
    let claim = c.interface-claim.result.now in
    let past : c.set_interface.new.self.past ≡ k.past = ap (λ (x : KernelState). x.past) c.set_interface.ensures.rest ∙ called-past k claim.device call.Alt (set_interface_rules claim.number c.args.setting) same in
    let spare : c.set_interface.new.self.spare ≡ k.spare = ap (λ (x : KernelState). x.spare) c.set_interface.ensures.rest ∙ called-spare k claim.device call.Alt (set_interface_rules claim.number c.args.setting) same in
    let slots : c.set_setting.new.self.slots ≡ c.self.inside.ledger.slots = ap (λ (l : LedgerState). l.slots) (c.set_setting.ensures.interfaces (claim_state claim) c.interface-claim.ensures.claim) in
    matched-next c.self.inside _ c.self.invariant past spare slots refl

pub returns-clause-host : goal.returns-clause-host
returns-clause-host c =
    let now = c.args.self.now in
    let inside = c.self.inside in
    let devices = inside.devices in
    let steps = inside.steps.items in
    let claim : ClaimedInterface = claim_state c.interface-claim.result.now in
    let at : value_at now.interfaces c.args.interface.serial ≡ Some claim = ap (λ (h : HostState). value_at h.interfaces c.args.interface.serial) (sym c.self.view_is) ∙ c.interface-claim.ensures.claim in
    let living : has_living now.tickets now.endpoints c.args.interface.serial ≡ false = ap (λ (h : HostState). has_living h.tickets h.endpoints c.args.interface.serial) (sym c.self.view_is) ∙ sym c.has_living.ensures.living ∙ c.if-has_living.false in
    let next = called now.kernel claim.device call.Alt (set_interface_rules claim.number c.args.setting) same in
    let kernel : c.set_interface.new.self ≡ next =
    c.set_interface.ensures.rest ∙ ap (λ (h : HostState). called h.kernel claim.device call.Alt (set_interface_rules claim.number c.args.setting) same) c.self.view_is in
    let answer = c.in_default.ensures.result ∙ ap (λ (h : HostState). ok_unless (alt_setting_errno h claim c.args.setting)) c.self.view_is in
    let errno : alt_setting_errno now claim c.args.setting ≡ None = errno-of_ok (alt_setting_errno now claim c.args.setting) c.in_default.field-0 answer in
    let kept : ClaimedInterface = record claim { setting = c.args.setting } in
    let ledger = c.set_setting.ensures.interfaces claim c.interface-claim.ensures.claim in
    ap (λ (l : LedgerState). host_made c.set_interface.new.self devices l steps) ledger
    ∙ ap (λ (x : KernelState). host_made x devices (record inside.ledger { interfaces = set inside.ledger.interfaces c.args.interface.serial (Some kept) }) steps) kernel
    ∙ ap (λ (h : HostState). record h { kernel = next; interfaces = set h.interfaces c.args.interface.serial (Some kept) }) c.self.view_is
    ∙ sym (setting-set now c.args.interface.serial c.args.setting claim at living errno)
