-- What a host keeps over a step, a reap, a discard and the raise of its clock, it keeps over turns and waits.
use Rattle.std.proofs.Common.{ℕ, zero, suc, ◌+◌, ◌*◌, ◌≡◌, Bool, true, false, List, [], ◌∷◌, length, Option, Some, None, refl}
use Rattle.std.proofs.lemmas.Bool.{cond_both}
use Rattle.usb_kernel_devices.specs.declared.step.KernelStep.{KernelStep}
use Rattle.usb_kernel.specs.Tickets.{tickets}
use Rattle.usb_kernel.specs.Completions.{lowest}
use Rattle.usb_device_endpoint.specs.Waits.{time_is_up, is_reaped, unless, waited}
use Rattle.usb_device_endpoint.specs.Blocking.{blocked}
use Rattle.usb_device_endpoint.proofs.WaitKeeps.{waited-keeps, blocked-keeps}
use Rattle.usb_device_host.specs.HostState.{HostState}
use Rattle.usb_device_host.specs.HostTurns.{host_stepped, host_reaped, reaped_of, turned_of, host_turned, host_turn}
use Rattle.usb_device_host.specs.HostCalls.{host_discarded, host_idled, host_calls}
use Rattle.usb_device_host.specs.HostAwaits.{host_turned_until, awaited_from, host_awaited}

-- such a relation of a host before and after
pub record IsKept (Keeps : HostState → HostState → Type 0) : Type 0 where
  pub same : (h : HostState) → Keeps h h
  pub more : (a b c : HostState) → Keeps a b → Keeps b c → Keeps a c
  pub step : (h : HostState) (s : KernelStep) (ss : List KernelStep) → h.steps ≡ s ∷ ss → Keeps h (host_stepped (record h { steps = ss }) s)
  pub reap : (h : HostState) (t : ℕ) → Keeps h (host_reaped h t)
  pub discard : (h : HostState) (t : ℕ) → Keeps h (host_discarded h t)
  pub idle : (h : HostState) (until : ℕ) → Keeps h (host_idled h until)

-- what holds of both outcomes of a look
pub of_both : (P : HostState → Type 0) (b : Bool) (h : HostState) (next : HostState → HostState) → P h → P (next h) → P (unless b h next)
of_both P true h next here on = here
of_both P false h next here on = on

module _ (Keeps : HostState → HostState → Type 0) (kept : IsKept Keeps) where
  kept-reaped_of : (h : HostState) (o : Option ℕ) → Keeps h (reaped_of h o)
  kept-reaped_of h None = kept.same h
  kept-reaped_of h (Some t) = kept.reap h t

  kept-turned_of : (h : HostState) (ss : List KernelStep) → h.steps ≡ ss → Keeps h (turned_of h ss)
  kept-turned_of h [] is = kept-reaped_of h (lowest h.kernel.past)
  kept-turned_of h (s ∷ ss) is = kept.step h s ss is

  pub kept-turned : (h : HostState) → Keeps h (host_turned h)
  unfolding host_turned
  kept-turned h = kept-turned_of h h.steps refl

  -- and so over one more turn
  turns : (h g : HostState) → Keeps h g → Keeps h (host_turned g)
  turns h g goes = kept.more h g (host_turned g) goes (kept-turned g)

  pub kept-waited : (h : HostState) (t timeout : ℕ) → Keeps h (waited host_calls t timeout h)
  kept-waited h t timeout = waited-keeps host_calls (Keeps h) (turns h) t timeout h (kept.same h)

  pub kept-blocked : (h : HostState) (t timeout : ℕ) → Keeps h (blocked host_calls t timeout h)
  kept-blocked h t timeout = blocked-keeps host_calls (Keeps h) (turns h) t (λ g goes. kept.more h g (host_discarded g t) goes (kept.discard g t)) timeout h (kept.same h)

  -- a wait for a control transfer
  pub kept-until : (h : HostState) (deadline : ℕ) → Keeps h (host_turned_until h deadline)
  kept-until h deadline =
      let turned = host_turned h in
      cond_both (time_is_up (host_turn h)) (host_idled turned deadline) turned (Keeps h)
      (λ up. kept.more h turned (host_idled turned deadline) (kept-turned h) (kept.idle turned deadline)) (λ on. kept-turned h)

  kept-from : (t deadline n : ℕ) (h : HostState) → Keeps h (awaited_from t deadline n h)
  kept-from t deadline zero h = kept.same h
  kept-from t deadline (suc n) h =
      let next = host_turned_until h deadline in
      of_both (Keeps h) (is_reaped host_calls t h) h (λ h. awaited_from t deadline n (host_turned_until h deadline)) (kept.same h)
      (kept.more h next (awaited_from t deadline n next) (kept-until h deadline) (kept-from t deadline n next))

  pub kept-awaited : (h : HostState) (t deadline : ℕ) → Keeps h (host_awaited h t deadline)
  unfolding host_awaited
  kept-awaited h t deadline = kept-from t deadline (length h.steps + 2 * length (tickets h.kernel.past) + 2) h
