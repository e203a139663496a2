use Rattle.std.proofs.Common.{◌≡◌, None, reverse, ap, sym, ◌∙◌}
use Rattle.usb_kernel_devices.specs.Refusals.{call_refusal}
use Rattle.usb_kernel_devices.specs.DeviceCalls.{kind_of, call_rules, call_change}
use Rattle.usb_kernel.specs.Value.{KernelState}
use Rattle.usb_kernel.proofs.CallLemmas.{called-refused, errno-rows, called-rows}
use Rattle.usb_kernel.proofs.Gone.{gone-answered}
use Rattle.usb_kernel.proofs.Kept.{kept-devices}
use Rattle.usb_kernel.proofs.kernel.Kernel.call.Goals as goal

pub returns-in-Some-clause-rest : goal.returns-in-Some-clause-rest
returns-in-Some-clause-rest c =
    let kind = c.kind.ensures.kind in
    c.refusal.ensures.armed
    ∙ rw kind (called-refused c.args.self.now c.args.device c.in-Some.errno (kind_of c.args.call) (call_rules c.args.call) (call_change c.args.call) (rw kind at (sym c.in-Some.ensures.errno)))

pub returns-clause-rest : goal.returns-clause-rest
returns-clause-rest c =
    let k = c.args.self.now in
    let kind = c.kind.ensures.kind in
    let before = c.self.view_is ∙ c.refusal.ensures.armed in
    let devices : c.self.inside.devices.items ≡ k.devices = ap (λ (v : KernelState). v.devices) before in
    let none : call_refusal k.devices k.armed c.args.device (kind_of c.args.call) ≡ None = rw kind at (sym c.in_default.ensures.errno) in
    let answered = rw devices at c.answer.ensures.result ∙ errno-rows k c.args.device (kind_of c.args.call) (call_rules c.args.call) none in
    ap (λ (v : KernelState). record v { devices = c.answer.new.devices.items }) before
    ∙ rw kind (called-rows k c.args.device (kind_of c.args.call) (call_rules c.args.call) (call_change c.args.call) c.answer.result c.answer.new.devices.items none answered (rw devices at c.answer.ensures.ok) (rw devices at c.answer.ensures.err))

pub invariant_of-self : goal.invariant_of-self
invariant_of-self c = kept-devices c.self.inside c.answer.new.devices c.self.invariant (gone-answered (reverse c.self.inside.journal.items) c.self.inside.devices.items c.answer.new.devices.items c.args.device c.args.call c.answer.result c.answer.ensures.ok c.answer.ensures.err c.self.invariant.gone)
