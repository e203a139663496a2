-- While a host goes on no packets come to stand at an OUT endpoint.
use Rattle.std.proofs.Common.{◌≡◌, ℕ, ◌≤◌, Bool, true, false, cond, List, [], ◌∷◌, Option, Some, None, refl, sym, ap, ◌∙◌, arith, subst}
use Rattle.std.specs.Prelude.{is_some, nat_le, nat_lt, ◌&&◌}
use Rattle.usb_kernel.specs.declared.event.Event.{Event}
use Rattle.usb_kernel.specs.declared.event.Event.TheVariants.{Packet, Ack, Echo, Fail, Discard, Reap, Unplug}
use Rattle.usb_kernel_devices.specs.declared.devices.DeviceState.{DeviceState}
use Rattle.usb_kernel_devices.specs.declared.step.KernelStep.{KernelStep}
use Rattle.usb_kernel_devices.specs.declared.step.KernelStep.TheVariants as step
use Rattle.usb_kernel_devices.specs.Devices.{plugged_device}
use Rattle.usb_kernel.specs.Tickets.{tickets}
use Rattle.usb_kernel.specs.Journal.{oldest}
use Rattle.usb_kernel.specs.Completions.{reapable, lowest}
use Rattle.usb_kernel.specs.Steps.{stepped, after_reap, after_reap_of, reaped_by, after_discard, is_unfinished}
use Rattle.usb_kernel.specs.Timers.{due, discarded_in_order, timer_turned}
use Rattle.usb_device_endpoint.specs.BusState.{BusState}
use Rattle.usb_device_host.specs.HostState.{HostState}
use Rattle.usb_device_host.specs.HostTurns.{host_stepped, host_reaped, reaped_of, turned_of, host_turned, all_stepped}
use Rattle.usb_device_host.proofs.BusLemmas.{bus_of-stepped, bus_of-reaped}
use Rattle.usb_bot_disk.specs.Standing.{packets_open}
use Rattle.usb_bot_disk.proofs.StandingLemmas.{open-falls}

-- no ticket came, and no more packets stand
pub record Quiet (d e : ℕ) (old new : List Event) : Type 0 where
  pub same : tickets new ≡ tickets old
  pub fewer : packets_open new d e ≤ packets_open old d e

module _ (d e : ℕ) where
  pub quiet-same : (past : List Event) → Quiet d e past past
  quiet-same past = record { same = refl; fewer = omega arith }

  pub quiet-event : (past : List Event) (event : Event) → tickets (event ∷ past) ≡ tickets past → Quiet d e past (event ∷ past)
  quiet-event past event same = record { same = same; fewer = open-falls past event d e same }

  pub quiet-trans : (a b c : List Event) → Quiet d e a b → Quiet d e b c → Quiet d e a c
  quiet-trans a b c first second = record { same = second.same ∙ first.same; fewer = omega (arith, first.fewer, second.fewer) }

  quiet-if : (v : Bool) (past : List Event) (event : Event) → tickets (event ∷ past) ≡ tickets past → Quiet d e past (cond v (event ∷ past) past)
  quiet-if true past event same = quiet-event past event same
  quiet-if false past event same = quiet-same past

  quiet-reap : (past : List Event) (t : ℕ) → Quiet d e past (after_reap past t)
  quiet-reap past t = quiet-if (is_some (reapable past t)) past (Reap t) refl

  quiet-reap_of : (past : List Event) (o : Option ℕ) → Quiet d e past (after_reap_of past o)
  quiet-reap_of past None = quiet-same past
  quiet-reap_of past (Some t) = quiet-reap past t

  quiet-discard : (past : List Event) (t : ℕ) → Quiet d e past (after_discard past t)
  quiet-discard past t = quiet-if (is_unfinished past t) past (Discard t) refl

  quiet-in_order : (past : List Event) (ts : List ℕ) → Quiet d e past (discarded_in_order past ts)
  quiet-in_order past [] = quiet-same past
  quiet-in_order past (t ∷ ts) = quiet-trans past (after_discard past t) (discarded_in_order (after_discard past t) ts) (quiet-discard past t) (quiet-in_order (after_discard past t) ts)

  quiet-timer : (clock : ℕ) (past : List Event) → Quiet d e past (timer_turned clock past)
  unfolding timer_turned
  quiet-timer clock past = quiet-in_order past (due past clock)

  quiet-step : (devices : List DeviceState) (clock : ℕ) (past : List Event) (s : KernelStep) → Quiet d e past (stepped devices clock past s)
  quiet-step devices clock past (step.Packet k i b) = quiet-if (nat_le 128 i && is_some (oldest past k i)) past (Packet k i b) refl
  quiet-step devices clock past (step.Ack k o) = quiet-if (nat_lt o 128 && is_some (oldest past k o)) past (Ack k o) refl
  quiet-step devices clock past (step.Echo k o i) = quiet-if (nat_lt o 128 && nat_le 128 i && is_some (oldest past k o) && is_some (oldest past k i)) past (Echo k o i) refl
  quiet-step devices clock past (step.Fail k i errno) = quiet-if (is_some (oldest past k i)) past (Fail k i errno) refl
  quiet-step devices clock past (step.Unplug k) = quiet-if (is_some (plugged_device devices k)) past (Unplug k) refl
  quiet-step devices clock past (step.Clock to) = quiet-same past
  quiet-step devices clock past step.Timer = quiet-timer clock past
  quiet-step devices clock past (step.Reap ticket) = quiet-reap_of past (reaped_by past ticket)
  quiet-step devices clock past (step.Refuse k call errno) = quiet-same past

  pub quiet-stepped : (h : HostState) (s : KernelStep) → Quiet d e h.kernel.past (host_stepped h s).kernel.past
  quiet-stepped h s =
      subst (λ (past : List Event). Quiet d e h.kernel.past past) (sym (ap (λ (b : BusState). b.past) (bus_of-stepped h s)))
      (quiet-step h.kernel.devices h.kernel.clock h.kernel.past s)

  pub quiet-all : (h : HostState) (ss : List KernelStep) → Quiet d e h.kernel.past (all_stepped h ss).kernel.past
  quiet-all h [] = quiet-same h.kernel.past
  quiet-all h (s ∷ ss) = quiet-trans h.kernel.past (host_stepped h s).kernel.past (all_stepped (host_stepped h s) ss).kernel.past (quiet-stepped h s) (quiet-all (host_stepped h s) ss)

  quiet-reaped : (h : HostState) (t : ℕ) → Quiet d e h.kernel.past (host_reaped h t).kernel.past
  quiet-reaped h t =
      subst (λ (past : List Event). Quiet d e h.kernel.past past) (sym (ap (λ (b : BusState). b.past) (bus_of-reaped h t))) (quiet-reap h.kernel.past t)

  quiet-reaped_of : (h : HostState) (o : Option ℕ) → Quiet d e h.kernel.past (reaped_of h o).kernel.past
  quiet-reaped_of h None = quiet-same h.kernel.past
  quiet-reaped_of h (Some t) = quiet-reaped h t

  quiet-turned_of : (h : HostState) (ss : List KernelStep) → Quiet d e h.kernel.past (turned_of h ss).kernel.past
  quiet-turned_of h [] = quiet-reaped_of h (lowest h.kernel.past)
  quiet-turned_of h (s ∷ ss) = quiet-stepped (record h { steps = ss }) s

  pub quiet-turned : (h : HostState) → Quiet d e h.kernel.past (host_turned h).kernel.past
  unfolding host_turned
  quiet-turned h = quiet-turned_of h h.steps
