use Rattle.std.proofs.Common.{◌≡◌, ◌∙◌, ap, sym, refl, Some, None, set}
use Rattle.usb_kernel_devices.specs.declared.step.KernelCall.TheVariants as call
use Rattle.usb_kernel_devices.specs.Claims.{ok_unless}
use Rattle.usb_kernel_devices.specs.Calls.{set_configuration_rules, with_configuration}
use Rattle.usb_kernel.specs.Calls.{errno_of, called}
use Rattle.usb_kernel.specs.Value.{KernelState}
use Rattle.usb_device_tables.specs.History.{value_at}
use Rattle.usb_device_ledger.specs.declared.opened.OpenDevice.{OpenDevice}
use Rattle.usb_device_host.specs.HostState.{HostState}
use Rattle.usb_device_host.specs.HostFacts.{host_made}
use Rattle.usb_device_host.specs.OnDevices.{set_configuration_errno}
use Rattle.usb_device_tables.specs.History.{value_at}
use Rattle.usb_device_tables.proofs.ValueLemmas.{some-of}
use Rattle.usb_device_host.proofs.CalledHosts.{matched-next, called-past, called-spare, kernel-put, errno-of_err, errno-of_ok, configured-refused, configured-at}
use Rattle.usb_device_host.proofs.host.Host.set_configuration.Goals as goal

pub invariant_of-self : goal.invariant_of-self
invariant_of-self c =
    let k = c.self.inside.kernel in
    let n = c.number_of-number.result in
    let past : c.set_configuration.new.self.past ≡ k.past = ap (λ (x : KernelState). x.past) c.set_configuration.ensures.rest ∙ called-past k n call.SetConfig (set_configuration_rules c.args.value) (with_configuration c.args.value) in
    let spare : c.set_configuration.new.self.spare ≡ k.spare = ap (λ (x : KernelState). x.spare) c.set_configuration.ensures.rest ∙ called-spare k n call.SetConfig (set_configuration_rules c.args.value) (with_configuration c.args.value) in
    matched-next c.self.inside _ c.self.invariant past spare refl refl

pub returns-in-Err-clause-host : goal.returns-in-Err-clause-host
returns-in-Err-clause-host c =
    let now = c.args.self.now in
    let inside = c.self.inside in
    let there = some-of (value_at now.devices c.args.device.serial) c.requires.device in
    let o = there.0 in
    let number = c.number_of-number.ensures.number o there.1 in
    let kernel : c.set_configuration.new.self ≡ called now.kernel o.device call.SetConfig (set_configuration_rules c.args.value) (with_configuration c.args.value) =
    c.set_configuration.ensures.rest ∙ ap (λ n. called inside.kernel n call.SetConfig (set_configuration_rules c.args.value) (with_configuration c.args.value)) number
    ∙ ap (λ (h : HostState). called h.kernel o.device call.SetConfig (set_configuration_rules c.args.value) (with_configuration c.args.value)) c.self.view_is in
    let answer = c.in-Err.ensures.result ∙ ap (λ n. ok_unless (errno_of inside.kernel n call.SetConfig (set_configuration_rules c.args.value))) number ∙ ap (λ (h : HostState). ok_unless (set_configuration_errno h o c.args.value)) c.self.view_is in
    let errno : set_configuration_errno now o c.args.value ≡ Some c.in-Err.errno = errno-of_err (set_configuration_errno now o c.args.value) c.in-Err.errno answer in
    kernel-put inside.kernel inside.devices inside.ledger inside.steps.items now c.set_configuration.new.self _ c.self.view_is kernel ∙ sym (configured-refused now c.args.device.serial o there.1 c.args.value c.in-Err.errno errno)

pub invariant_of-self-2 : goal.invariant_of-self-2
invariant_of-self-2 c =
    let k = c.self.inside.kernel in
    let n = c.number_of-number.result in
    let past : c.set_configuration.new.self.past ≡ k.past = ap (λ (x : KernelState). x.past) c.set_configuration.ensures.rest ∙ called-past k n call.SetConfig (set_configuration_rules c.args.value) (with_configuration c.args.value) in
    let spare : c.set_configuration.new.self.spare ≡ k.spare = ap (λ (x : KernelState). x.spare) c.set_configuration.ensures.rest ∙ called-spare k n call.SetConfig (set_configuration_rules c.args.value) (with_configuration c.args.value) in
    matched-next c.self.inside _ c.self.invariant past spare refl refl

pub returns-clause-host : goal.returns-clause-host
returns-clause-host c =
    let now = c.args.self.now in
    let inside = c.self.inside in
    let devices = inside.devices in
    let steps = inside.steps.items in
    let there = some-of (value_at now.devices c.args.device.serial) c.requires.device in
    let o = there.0 in
    let at_now = there.1 in
    let at : value_at devices c.args.device.serial ≡ Some o = ap (λ (h : HostState). value_at h.devices c.args.device.serial) c.self.view_is ∙ at_now in
    let number = c.number_of-number.ensures.number o at_now in
    let next = called now.kernel o.device call.SetConfig (set_configuration_rules c.args.value) (with_configuration c.args.value) in
    let kernel : c.set_configuration.new.self ≡ next =
    c.set_configuration.ensures.rest ∙ ap (λ n. called inside.kernel n call.SetConfig (set_configuration_rules c.args.value) (with_configuration c.args.value)) number
    ∙ ap (λ (h : HostState). called h.kernel o.device call.SetConfig (set_configuration_rules c.args.value) (with_configuration c.args.value)) c.self.view_is in
    let answer = c.in_default.ensures.result ∙ ap (λ n. ok_unless (errno_of inside.kernel n call.SetConfig (set_configuration_rules c.args.value))) number ∙ ap (λ (h : HostState). ok_unless (set_configuration_errno h o c.args.value)) c.self.view_is in
    let errno : set_configuration_errno now o c.args.value ≡ None = errno-of_ok (set_configuration_errno now o c.args.value) c.in_default.field-0 answer in
    let kept : OpenDevice = record o { configuration = c.args.value } in
    ap (λ (x : KernelState). host_made x c.set_configuration-2.new.self inside.ledger steps) kernel
    ∙ ap (λ ds. host_made next ds inside.ledger steps) (c.set_configuration-2.ensures.kept o at)
    ∙ ap (λ (h : HostState). record h { kernel = next; devices = set h.devices c.args.device.serial (Some kept) }) c.self.view_is
    ∙ sym (configured-at now c.args.device.serial o at_now c.args.value errno)
