use Rattle.std.proofs.Common.{arith, ◌≡◌, ◌∙◌, ap, sym, refl, length, Ok, Err, Some, ◌++◌, ◌∷◌, []}
use Rattle.std.proofs.lemmas.Option.{same_Some}
use Rattle.usb_kernel.specs.Value.{KernelState}
use Rattle.usb_device_tables.specs.History.{value_at}
use Rattle.usb_device_ledger.specs.declared.opened.OpenDevice.{OpenDevice}
use Rattle.usb_device_ledger.specs.Entries.{fresh_interface}
use Rattle.usb_device_host.specs.HostState.{HostState}
use Rattle.usb_device_ledger.specs.Devices.{device_changed, interface_more}
use Rattle.usb_device_host.specs.HostFacts.{host_made}
use Rattle.usb_device_host.specs.InterfaceClaims.{claim_tried, claimed_key, kernel_claimed}
use Rattle.usb_device_ledger.specs.LedgerState.{LedgerState}
use Rattle.usb_device_endpoint.specs.CallErrors.{or_error}
use Rattle.usb_error.specs.Errors.{claim_error}
use Rattle.usb_device_host.proofs.OpeningLemmas.{claimed-refused, claimed-at}
use Rattle.usb_device_host.proofs.KernelFrames.{kernel_claimed-is}
use Rattle.usb_device_host.proofs.host.Host.claim.Goals as goal

pub returns-in-Err-clause-tried : goal.returns-in-Err-clause-tried
returns-in-Err-clause-tried c = λ x here.
    let now = c.args.self.now in
    let devices = c.self.inside.devices in
    let o = c.get-opened.result.now in
    let at = c.get-opened.ensures.device in
    let at_now : value_at now.devices c.args.device.serial ≡ Some o = ap (λ (h : HostState). value_at h.devices c.args.device.serial) (sym c.self.view_is) ∙ at in
    let answer : claim_tried now o c.args.number c.args.reattach ≡ Err (claim_error c.in-Err.errno) = ap (λ (h : HostState). claim_tried h o c.args.number c.args.reattach) (sym c.self.view_is) ∙ ap (or_error claim_error) (sym c.in-Err.ensures.result) in
    ap (λ (y : OpenDevice). claimed_key (length now.interfaces) (claim_tried now y c.args.number c.args.reattach)) (same_Some x o (sym here ∙ at_now)) ∙ ap (claimed_key (length now.interfaces)) answer ∙ ap Err (sym c.claim.ensures.error)

pub returns-in-Err-clause-host : goal.returns-in-Err-clause-host
returns-in-Err-clause-host c =
    let now = c.args.self.now in
    let k = c.self.inside.kernel in
    let devices = c.self.inside.devices in
    let steps = c.self.inside.steps.items in
    let o = c.get-opened.result.now in
    let at = c.get-opened.ensures.device in
    let at_now : value_at now.devices c.args.device.serial ≡ Some o = ap (λ (h : HostState). value_at h.devices c.args.device.serial) (sym c.self.view_is) ∙ at in
    let answer : claim_tried now o c.args.number c.args.reattach ≡ Err (claim_error c.in-Err.errno) = ap (λ (h : HostState). claim_tried h o c.args.number c.args.reattach) (sym c.self.view_is) ∙ ap (or_error claim_error) (sym c.in-Err.ensures.result) in
    ap (λ x. host_made x devices c.reserve_claim.new.self steps) c.claim_at.ensures.kernel
    ∙ ap (λ x. host_made (kernel_claimed k o c.args.number c.args.reattach) devices x steps) c.reserve_claim.ensures.rest
    ∙ ap (λ (h : HostState). record h { kernel = kernel_claimed h.kernel o c.args.number c.args.reattach }) c.self.view_is
    ∙ sym (claimed-refused now c.args.device.serial c.args.number c.args.reattach o (claim_error c.in-Err.errno) at_now answer)

pub returns-clause-tried : goal.returns-clause-tried
returns-clause-tried c = λ x here.
    let now = c.args.self.now in
    let devices = c.self.inside.devices in
    let o = c.get-opened.result.now in
    let at = c.get-opened.ensures.device in
    let at_now : value_at now.devices c.args.device.serial ≡ Some o = ap (λ (h : HostState). value_at h.devices c.args.device.serial) (sym c.self.view_is) ∙ at in
    let answer : claim_tried now o c.args.number c.args.reattach ≡ Ok c.in_default.field-0 = ap (λ (h : HostState). claim_tried h o c.args.number c.args.reattach) (sym c.self.view_is) ∙ ap (or_error claim_error) (sym c.in_default.ensures.result) in
    let reserved = ap (λ (l : LedgerState). length l.interfaces) c.reserve_claim.ensures.rest in
    let key : length now.interfaces ≡ c.open_interface.result.serial = ap (λ (h : HostState). length h.interfaces) (sym c.self.view_is) ∙ sym (c.open_interface.ensures.key ∙ reserved) in
    ap (λ (y : OpenDevice). claimed_key (length now.interfaces) (claim_tried now y c.args.number c.args.reattach)) (same_Some x o (sym here ∙ at_now)) ∙ ap (claimed_key (length now.interfaces)) answer ∙ ap Ok key

pub returns-clause-host : goal.returns-clause-host
returns-clause-host c =
    let now = c.args.self.now in
    let k = c.self.inside.kernel in
    let l = c.self.inside.ledger in
    let devices = c.self.inside.devices in
    let steps = c.self.inside.steps.items in
    let o = c.get-opened.result.now in
    let at = c.get-opened.ensures.device in
    let at_now : value_at now.devices c.args.device.serial ≡ Some o = ap (λ (h : HostState). value_at h.devices c.args.device.serial) (sym c.self.view_is) ∙ at in
    let answer : claim_tried now o c.args.number c.args.reattach ≡ Ok c.in_default.field-0 = ap (λ (h : HostState). claim_tried h o c.args.number c.args.reattach) (sym c.self.view_is) ∙ ap (or_error claim_error) (sym c.in_default.ensures.result) in
    let fresh = fresh_interface c.args.device.serial o.device c.args.number c.args.reattach in
    let opened : c.open_interface.new.self ≡ record l { interfaces = l.interfaces ++ Some fresh ∷ []; claim_capacity = c.reserve_claim.new.self.claim_capacity } =
    c.open_interface.ensures.interfaces ∙ rw c.reserve_claim.ensures.rest refl in
    ap (λ x. host_made x c.add_interface.new.self c.open_interface.new.self steps) c.claim_at.ensures.kernel
    ∙ ap (λ ds. host_made (kernel_claimed k o c.args.number c.args.reattach) ds c.open_interface.new.self steps) c.add_interface.ensures.added
    ∙ ap (λ x. host_made (kernel_claimed k o c.args.number c.args.reattach) (device_changed devices c.args.device.serial interface_more) x steps) opened
    ∙ ap (λ (h : HostState). record h { kernel = kernel_claimed h.kernel o c.args.number c.args.reattach; devices = device_changed h.devices c.args.device.serial interface_more; interfaces = h.interfaces ++ Some fresh ∷ [] }) c.self.view_is
    ∙ sym (claimed-at now c.args.device.serial c.args.number c.args.reattach o c.in_default.field-0 at_now answer)

pub invariant_of-self-in-Err : goal.invariant_of-self-in-Err
invariant_of-self-in-Err c =
    let rest = c.claim_at.ensures.kernel ∙ kernel_claimed-is c.self.inside.kernel c.get-opened.result.now c.args.number c.args.reattach in
    let slots = ap (λ (l : LedgerState). l.slots) c.reserve_claim.ensures.rest in
    record {
      agree = rw (slots, ap (λ (k : KernelState). k.past) rest) c.self.invariant.agree;
      room = omega (arith, ap (λ (k : KernelState). k.spare) rest, c.self.invariant.room);
      errnos = c.self.invariant.errnos;
    }

pub invariant_of-self-2 : goal.invariant_of-self-2
invariant_of-self-2 c =
    let rest = c.claim_at.ensures.kernel ∙ kernel_claimed-is c.self.inside.kernel c.get-opened.result.now c.args.number c.args.reattach in
    let slots = ap (λ (l : LedgerState). l.slots) c.open_interface.ensures.interfaces ∙ ap (λ (l : LedgerState). l.slots) c.reserve_claim.ensures.rest in
    record {
      agree = rw (slots, ap (λ (k : KernelState). k.past) rest) c.self.invariant.agree;
      room = omega (arith, ap (λ (k : KernelState). k.spare) rest, c.self.invariant.room);
      errnos = c.self.invariant.errnos;
    }
