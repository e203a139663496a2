use Rattle.std.proofs.Common.{◌≡◌, ◌∷◌, [], length, ap, sym, ◌∙◌, arith, List}
use Rattle.std.proofs.lemmas.List.{nil_from_length}
use Rattle.usb_kernel_devices.specs.declared.step.KernelStep.{KernelStep}
use Rattle.usb_device_host.specs.HostState.{HostState}
use Rattle.usb_device_host.specs.HostFacts.{host_made}
use Rattle.usb_device_host.specs.HostTurns.{host_rest, host_stepped}
use Rattle.usb_device_host.proofs.HostCallLemmas.{rest-more, rest-none, stepped-same}
use Rattle.usb_device_host.proofs.host.Host.rest.Goals as goal

pub loop-step-smaller : goal.loop-step-smaller
loop-step-smaller c =
    let popped : c.loop-step.self.steps ≡ c.in-Some.step ∷ c.pop_front.new.self.items = sym (ap (λ (h : HostState). h.steps) c.self.view_is) ∙ c.in-Some.ensures.items in
    let same : c.step.new.self.steps ≡ c.pop_front.new.self.items = ap (λ (h : HostState). h.steps) c.step.ensures.stepped ∙ stepped-same _ c.in-Some.step in
    omega (arith, ap length popped, ap length same)

pub loop-step-preserved : goal.loop-step-preserved
loop-step-preserved c =
    let h = c.loop-step.self in
    let items = c.pop_front.new.self.items in
    let popped : h.steps ≡ c.in-Some.step ∷ items = sym (ap (λ (h : HostState). h.steps) c.self.view_is) ∙ c.in-Some.ensures.items in
    let stepped : c.step.new.self ≡ host_stepped (record h { steps = items }) c.in-Some.step = c.step.ensures.stepped ∙ ap (λ (h : HostState). host_stepped (record h { steps = items }) c.in-Some.step) c.self.view_is in
    ap host_rest stepped ∙ rest-more h c.in-Some.step items popped ∙ c.loop-step.invariant

pub returns : goal.returns
returns c =
    let nil : c.self.inside.steps.items ≡ [] = nil_from_length c.self.inside.steps.items (omega (arith, c.in_default.ensures.cases)) in
    let left : c.pop_front.new.self.items ≡ [] = nil_from_length c.pop_front.new.self.items (omega (arith, c.in_default.ensures.cases)) in
    let none : c.loop-step.self.steps ≡ [] = sym (ap (λ (h : HostState). h.steps) c.self.view_is) ∙ nil in
    record { rest = ap (λ (ss : List KernelStep). host_made c.self.inside.kernel c.self.inside.devices c.self.inside.ledger ss) (left ∙ sym nil) ∙ c.self.view_is ∙ sym (rest-none c.loop-step.self none) ∙ c.loop-step.invariant }
