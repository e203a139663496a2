use Rattle.std.proofs.Common.{◌≡◌, List, [], Some, None, ap, sym, ◌∙◌, arith}
use Rattle.usb_kernel_devices.specs.declared.step.KernelStep.{KernelStep}
use Rattle.usb_device_host.specs.HostState.{HostState}
use Rattle.usb_device_host.specs.HostTurns.{host_stepped, host_reaped}
use Rattle.usb_device_host.specs.HostFacts.{host_made}
use Rattle.usb_device_host.proofs.HostCallLemmas.{turned-more, turned-none, turn-more, turn-none}
use Rattle.std.proofs.lemmas.List.{nil_from_length}
use Rattle.usb_device_host.proofs.host.Host.take_turn.Goals as goal

pub returns-in-Some-clause-turn : goal.returns-in-Some-clause-turn
returns-in-Some-clause-turn c = sym (turn-more c.args.self.now c.in-Some.step c.pop_front.new.self.items (rw (← c.self.view_is) c.in-Some.ensures.items))

pub returns-in-Some-clause-next : goal.returns-in-Some-clause-next
returns-in-Some-clause-next c =
    c.step.ensures.stepped ∙ ap (λ (h : HostState). host_stepped (record h { steps = c.pop_front.new.self.items }) c.in-Some.step) c.self.view_is
    ∙ sym (turned-more c.args.self.now c.in-Some.step c.pop_front.new.self.items (rw (← c.self.view_is) c.in-Some.ensures.items))

pub returns-in-Some-lowest_finished-clause-turn : goal.returns-in-Some-lowest_finished-clause-turn
returns-in-Some-lowest_finished-clause-turn c =
    let nil : c.self.inside.steps.items ≡ [] = nil_from_length c.self.inside.steps.items (omega (arith, c.in_default.ensures.cases)) in
    let left : c.pop_front.new.self.items ≡ [] = nil_from_length c.pop_front.new.self.items (omega (arith, c.in_default.ensures.cases)) in
    sym (turn-none c.args.self.now (Some c.in-Some-lowest_finished.ticket) (rw (← c.self.view_is) nil) (rw (← c.self.view_is) (sym c.in-Some-lowest_finished.ensures.lowest)))

pub returns-in-Some-lowest_finished-clause-next : goal.returns-in-Some-lowest_finished-clause-next
returns-in-Some-lowest_finished-clause-next c =
    let nil : c.self.inside.steps.items ≡ [] = nil_from_length c.self.inside.steps.items (omega (arith, c.in_default.ensures.cases)) in
    let left : c.pop_front.new.self.items ≡ [] = nil_from_length c.pop_front.new.self.items (omega (arith, c.in_default.ensures.cases)) in
    c.reap.ensures.reaped ∙ ap (λ (ss : List KernelStep). host_reaped (host_made c.self.inside.kernel c.self.inside.devices c.self.inside.ledger ss) c.in-Some-lowest_finished.ticket) (left ∙ sym nil) ∙ ap (λ h. host_reaped h c.in-Some-lowest_finished.ticket) c.self.view_is
    ∙ sym (turned-none c.args.self.now (Some c.in-Some-lowest_finished.ticket) (rw (← c.self.view_is) nil) (rw (← c.self.view_is) (sym c.in-Some-lowest_finished.ensures.lowest)))

pub returns-in-None-clause-turn : goal.returns-in-None-clause-turn
returns-in-None-clause-turn c =
    let nil : c.self.inside.steps.items ≡ [] = nil_from_length c.self.inside.steps.items (omega (arith, c.in_default.ensures.cases)) in
    let left : c.pop_front.new.self.items ≡ [] = nil_from_length c.pop_front.new.self.items (omega (arith, c.in_default.ensures.cases)) in
    sym (turn-none c.args.self.now None (rw (← c.self.view_is) nil) (rw (← c.self.view_is) (sym c.in-None.ensures.lowest)))

pub returns-in-None-clause-next : goal.returns-in-None-clause-next
returns-in-None-clause-next c =
    let nil : c.self.inside.steps.items ≡ [] = nil_from_length c.self.inside.steps.items (omega (arith, c.in_default.ensures.cases)) in
    let left : c.pop_front.new.self.items ≡ [] = nil_from_length c.pop_front.new.self.items (omega (arith, c.in_default.ensures.cases)) in
    ap (λ (ss : List KernelStep). host_made c.self.inside.kernel c.self.inside.devices c.self.inside.ledger ss) (left ∙ sym nil) ∙ c.self.view_is
    ∙ sym (turned-none c.args.self.now None (rw (← c.self.view_is) nil) (rw (← c.self.view_is) (sym c.in-None.ensures.lowest)))
