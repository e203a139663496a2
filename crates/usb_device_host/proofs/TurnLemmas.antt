-- The turns of a host: by a step of the line, and else by a reap.
use Rattle.std.proofs.Common.{ℕ, ◌≡◌, ◌<◌, false, List, [], ◌∷◌, length, Option, Some, ◌∙◌, ap, arith}
use Rattle.usb_kernel.specs.declared.event.Event.{Event}
use Rattle.usb_kernel.specs.declared.event.Event.TheVariants.{Reap}
use Rattle.usb_kernel_devices.specs.declared.step.KernelStep.{KernelStep}
use Rattle.usb_kernel.specs.Completions.{reapable, waiting, lowest}
use Rattle.usb_kernel.specs.Steps.{after_reap}
use Rattle.usb_kernel.proofs.Waiting.{lowest-reapable, waiting-one_less}
use Rattle.usb_device_endpoint.specs.Waits.{time_is_up}
use Rattle.usb_device_endpoint.specs.Turns.{reap_turn}
use Rattle.usb_device_host.specs.HostState.{HostState}
use Rattle.usb_device_host.specs.HostTurns.{with_past, turned_of, turn_for, reaped_of, host_stepped, host_reaped, host_turned, host_turn}
use Rattle.usb_device_host.proofs.HostFrames.{came-is}

-- the journal after a reap, and the clock
pub reaped-past : (h : HostState) (u : ℕ) → (host_reaped h u).kernel.past ≡ after_reap h.kernel.past u
unfolding host_reaped
reaped-past h u = ap (λ (g : HostState). g.kernel.past) (came-is (with_past h (after_reap h.kernel.past u)) (reapable h.kernel.past u))

pub reaped-clock : (h : HostState) (u : ℕ) → (host_reaped h u).kernel.clock ≡ h.kernel.clock
unfolding host_reaped
reaped-clock h u = ap (λ (g : HostState). g.kernel.clock) (came-is (with_past h (after_reap h.kernel.past u)) (reapable h.kernel.past u))

fewer-waiting : (past : List Event) (u : ℕ) → lowest past ≡ Some u → length (waiting (after_reap past u)) < length (waiting past)
fewer-waiting past u is =
    let some = lowest-reapable past u is in
    let less = waiting-one_less past u some in
    let fewer : length (waiting (Reap u ∷ past)) < length (waiting past) = omega (arith, less) in
    rw some fewer

-- the reap of the lowest ticket that waits leaves fewer
pub reaped-fewer : (h : HostState) (u : ℕ) → lowest h.kernel.past ≡ Some u → length (waiting (host_reaped h u).kernel.past) < length (waiting h.kernel.past)
reaped-fewer h u is = rw (reaped-past h u) (fewer-waiting h.kernel.past u is)

-- turns with no step left
pub turn-nil : (h : HostState) (o : Option ℕ) → h.steps ≡ [] → lowest h.kernel.past ≡ o → time_is_up (host_turn h) ≡ time_is_up (reap_turn o)
unfolding host_turn
turn-nil h o nil is = ap time_is_up (ap (turn_for h.kernel.past) nil ∙ ap reap_turn is)

pub turned-nil : (h : HostState) (o : Option ℕ) → h.steps ≡ [] → lowest h.kernel.past ≡ o → host_turned h ≡ reaped_of h o
unfolding host_turned
turned-nil h o nil is = ap (turned_of h) nil ∙ ap (reaped_of h) is

-- turns at a step
pub turn-step : (h : HostState) (s : KernelStep) (ss : List KernelStep) → h.steps ≡ s ∷ ss → time_is_up (host_turn h) ≡ false
unfolding host_turn
turn-step h s ss same = ap time_is_up (ap (turn_for h.kernel.past) same)

pub turned-step : (h : HostState) (s : KernelStep) (ss : List KernelStep) → h.steps ≡ s ∷ ss → host_turned h ≡ host_stepped (record h { steps = ss }) s
unfolding host_turned
turned-step h s ss same = ap (turned_of h) same
