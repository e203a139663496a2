use Rattle.std.proofs.Common.{◌≡◌, ◌∙◌, ap, sym, refl}
use Rattle.usb_kernel_devices.specs.declared.step.KernelCall.TheVariants as call
use Rattle.usb_kernel_devices.specs.Calls.{attach_rules, with_driver}
use Rattle.usb_kernel.specs.Calls.{called}
use Rattle.usb_kernel.specs.Value.{KernelState}
use Rattle.usb_device_host.specs.HostState.{HostState}
use Rattle.usb_device_tables.specs.History.{value_at}
use Rattle.usb_device_tables.proofs.ValueLemmas.{some-of}
use Rattle.usb_device_host.proofs.CalledHosts.{matched-next, called-past, called-spare, kernel-put, attached-at}
use Rattle.usb_device_host.proofs.host.Host.attach.Goals as goal

pub invariant_of-self : goal.invariant_of-self
invariant_of-self c =
    let k = c.self.inside.kernel in
    let n = c.number_of-number.result in
    let past : c.attach.new.self.past ≡ k.past = ap (λ (x : KernelState). x.past) c.attach.ensures.rest ∙ called-past k n call.Attach (attach_rules c.args.interface) (with_driver c.args.interface) in
    let spare : c.attach.new.self.spare ≡ k.spare = ap (λ (x : KernelState). x.spare) c.attach.ensures.rest ∙ called-spare k n call.Attach (attach_rules c.args.interface) (with_driver c.args.interface) in
    matched-next c.self.inside _ c.self.invariant past spare refl refl

pub returns-clause-host : goal.returns-clause-host
returns-clause-host c =
    let now = c.args.self.now in
    let inside = c.self.inside in
    let there = some-of (value_at now.devices c.args.device.serial) c.requires.device in
    let o = there.0 in
    let kernel : c.attach.new.self ≡ called now.kernel o.device call.Attach (attach_rules c.args.interface) (with_driver c.args.interface) =
    c.attach.ensures.rest ∙ ap (λ n. called inside.kernel n call.Attach (attach_rules c.args.interface) (with_driver c.args.interface)) (c.number_of-number.ensures.number o there.1) ∙ ap (λ (h : HostState). called h.kernel o.device call.Attach (attach_rules c.args.interface) (with_driver c.args.interface)) c.self.view_is in
    kernel-put inside.kernel inside.devices inside.ledger inside.steps.items now c.attach.new.self _ c.self.view_is kernel ∙ sym (attached-at now c.args.device.serial o there.1 c.args.interface)
