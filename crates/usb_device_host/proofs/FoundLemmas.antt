-- A blocking transfer ends with its ticket reaped.
use Rattle.std.proofs.Common.{ℕ, zero, suc, arith, ◌≡◌, ◌<◌, ◌≤◌, ◌+◌, ◌-◌, ◌⊎◌, true, false, List, [], ◌∷◌, length, Option, Some, None, refl, sym, ◌∙◌, ap, subst, inl, inr, length-append}
use Rattle.std.specs.Prelude.{is_some, IsSome, nat_le}
use Rattle.std.specs.Option.{option_map}
use Rattle.std.proofs.lemmas.Bool.{cases_Bool}
use Rattle.std.proofs.lemmas.Bool.Decides.{nat_tests}
use Rattle.std.proofs.lemmas.Option.{slice_get_within}
use Rattle.usb_kernel.specs.declared.event.Event.{Event}
use Rattle.usb_kernel_devices.specs.declared.step.KernelStep.{KernelStep}
use Rattle.usb_kernel.specs.Extends.{Extends}
use Rattle.usb_kernel.specs.Tickets.{tickets}
use Rattle.usb_kernel.specs.Journal.{fate}
use Rattle.usb_kernel.specs.Completions.{completion, waiting, lowest}
use Rattle.usb_kernel.proofs.Completions.{tickets-discard}
use Rattle.usb_kernel.proofs.Extends.{ticket-stays, status-stays}
use Rattle.usb_kernel.proofs.Waiting.{finished-reapable, lowest-some, discard-finishes}
use Rattle.usb_kernel.specs.TransferCompletions.{completion_of, transfer_completion}
use Rattle.usb_device_endpoint.specs.Waits.{time_is_up, is_reaped, unless, waited_from, waited}
use Rattle.usb_device_endpoint.specs.Blocking.{seconds_from, waited_by_seconds, blocked}
use Rattle.usb_device_host.specs.HostState.{HostState}
use Rattle.usb_device_host.specs.HostTurns.{host_reaped, host_turned, host_turn}
use Rattle.usb_device_host.specs.HostBus.{turns_left}
use Rattle.usb_device_host.specs.HostCalls.{host_discarded, host_calls}
use Rattle.usb_device_host.proofs.Places.{some-at}
use Rattle.usb_device_host.proofs.FinishLemmas.{some-of, completion-some}
use Rattle.usb_device_host.proofs.HostFrames.{uses-reaped, uses-stepped}
use Rattle.usb_device_host.proofs.TurnKeeps.{of_both}
use Rattle.usb_device_host.proofs.WaitFrames.{went-turned}
use Rattle.usb_device_host.proofs.TurnLemmas.{reaped-clock, reaped-fewer, turn-nil, turned-nil, turn-step, turned-step}
use Rattle.usb_device_host.proofs.FollowLemmas.{on-reaped, on-waited}

-- a ticket that is finished, and so are those of journals that go on
record Finished (past : List Event) (t : ℕ) : Type 0 where
  within : t < length (tickets past)
  some : IsSome (fate past t).status

finished-stays : (old new : List Event) (t : ℕ) → Extends old new → Finished old t → Finished new t
finished-stays old new t extends f =
    let s = some-at (tickets old) t f.within in
    let errno = some-of (fate old t).status f.some in
    record {
      within = slice_get_within (tickets new) t s.0 (ticket-stays old new t s.0 extends s.1);
      some = ap is_some (status-stays old new t errno.0 extends errno.1);
    }

mapped : {X Y : Type 0} (f : X → Y) (o : Option X) → IsSome o → is_some (option_map f o) ≡ true
mapped f None some = absurd (cc)
mapped f (Some x) some = refl

completed-found : (h : HostState) (t : ℕ) → IsSome (completion h.kernel.past t) → is_reaped host_calls t h ≡ true
unfolding transfer_completion
completed-found h t some = mapped completion_of (completion h.kernel.past t) some

-- one that is not found waits for its reap
not_found-waits : (h : HostState) (t : ℕ) → Finished h.kernel.past t → is_reaped host_calls t h ≡ false → (u : ℕ) × (lowest h.kernel.past ≡ Some u)
not_found-waits h t f none =
    elim (cases_Bool (fate h.kernel.past t).reaped) [
      | inl reaped ↦ let found = completed-found h t (completion-some h.kernel.past t f.within reaped f.some) in absurd (cc)
      | inr open_ ↦ some-of (lowest h.kernel.past) (lowest-some h.kernel.past t (finished-reapable h.kernel.past t f.within f.some open_))
    ]

early : (clock start timeout : ℕ) → clock ≡ start → 0 < timeout → nat_le timeout (clock - start) ≡ false
early clock start timeout same some = grind (arith, nat_tests)

-- a turn takes no step, or one
turned-behind : (h : HostState) → length (host_turned h).steps ≤ length h.steps
turned-behind h =
    let line = (went-turned h).line in
    let all : length h.steps ≡ length line.front + length (host_turned h).steps = ap (λ (l : List KernelStep). length l) line.steps ∙ length-append line.front (host_turned h).steps in
    omega (arith, all)

module _ (t timeout start : ℕ) where
  from-found : (n : ℕ) (h : HostState) → is_reaped host_calls t h ≡ true → waited_from host_calls t timeout start n h ≡ h
  from-found zero h found = refl
  from-found (suc n) h found = rw found refl

  from-more : (n : ℕ) (h : HostState) → is_reaped host_calls t h ≡ false → nat_le timeout (h.kernel.clock - start) ≡ false → time_is_up (host_turn h) ≡ false
      → waited_from host_calls t timeout start (suc n) h ≡ waited_from host_calls t timeout start n (host_turned h)
  from-more n h none soon on = rw (none, soon, on) refl

  from-behind : (n : ℕ) (h : HostState) → length (waited_from host_calls t timeout start n h).steps ≤ length h.steps
  from-behind zero h = omega arith
  from-behind (suc n) h =
      let P = λ (g : HostState). length g.steps ≤ length h.steps in
      let next = waited_from host_calls t timeout start n in
      let turned = turned-behind h in
      let IH = from-behind n (host_turned h) in
      of_both P (is_reaped host_calls t h) h (λ s. unless (nat_le timeout (s.kernel.clock - start)) s (λ s. unless (time_is_up (host_turn s)) (host_turned s) next)) (omega arith)
      (of_both P (nat_le timeout (h.kernel.clock - start)) h (λ s. unless (time_is_up (host_turn s)) (host_turned s) next) (omega arith)
      (of_both P (time_is_up (host_turn h)) (host_turned h) next turned (omega (arith, turned, IH))))

  -- with no step left reaps find a finished ticket
  reaps-find : (n : ℕ) (h : HostState) → 0 < timeout → h.steps ≡ [] → h.kernel.clock ≡ start → Finished h.kernel.past t → length (waiting h.kernel.past) < n → is_reaped host_calls t (waited_from host_calls t timeout start n h) ≡ true
  reaps-find zero h long nil now f few = absurd (omega arith)
  reaps-find (suc n) h long nil now f few =
      elim (cases_Bool (is_reaped host_calls t h)) [
        | inl found ↦ subst (λ g. is_reaped host_calls t g ≡ true) (sym (from-found (suc n) h found)) found
        | inr none ↦
            let next = not_found-waits h t f none in
            let u = next.0 in
            let fewer = reaped-fewer h u next.1 in
            let more = from-more n h none (early h.kernel.clock start timeout now long) (turn-nil h (Some u) nil next.1) ∙ ap (waited_from host_calls t timeout start n) (turned-nil h (Some u) nil next.1) in
            subst (λ g. is_reaped host_calls t g ≡ true) (sym more)
            (reaps-find n (host_reaped h u) long ((uses-reaped h u).steps ∙ nil) (reaped-clock h u ∙ now) (finished-stays h.kernel.past (host_reaped h u).kernel.past t (on-reaped h u).past f) (omega arith))
      ]

-- a wait for a finished ticket finds it, or has taken a step of the line
abbrev FindsOrSteps : ℕ → ℕ → HostState → Type 0
FindsOrSteps t n g = (is_reaped host_calls t g ≡ true) ⊎ (length g.steps < n)

steps-find : (t timeout n : ℕ) (ss : List KernelStep) (h : HostState) → 0 < timeout → h.steps ≡ ss → Finished h.kernel.past t → length (waiting h.kernel.past) ≤ n → FindsOrSteps t (length h.steps) (waited_from host_calls t timeout h.kernel.clock (suc n) h)
steps-find t timeout n [] h long nil f few = inl (reaps-find t timeout h.kernel.clock (suc n) h long nil refl f (omega arith))
steps-find t timeout n (s ∷ ss) h long same f few =
    elim (cases_Bool (is_reaped host_calls t h)) [
      | inl found ↦ inl (subst (λ g. is_reaped host_calls t g ≡ true) (sym (from-found t timeout h.kernel.clock (suc n) h found)) found)
      | inr none ↦
          let more = from-more t timeout h.kernel.clock n h none (early h.kernel.clock h.kernel.clock timeout refl long) (turn-step h s ss same) in
          let line : length (host_turned h).steps ≡ length ss = ap (λ (g : HostState). length g.steps) (turned-step h s ss same) ∙ ap (λ l. length l) (uses-stepped (record h { steps = ss }) s).steps in
          let behind = from-behind t timeout h.kernel.clock n (host_turned h) in
          let all : length h.steps ≡ suc (length ss) = ap (λ l. length l) same in
          inr (subst (λ (g : HostState). length g.steps < length h.steps) (sym more) (omega (arith, line, behind, all)))
    ]

waited-finds : (h : HostState) (t timeout : ℕ) → 0 < timeout → Finished h.kernel.past t → FindsOrSteps t (length h.steps) (waited host_calls t timeout h)
unfolding waited
waited-finds h t timeout long f = steps-find t timeout (turns_left h) h.steps h long refl f (omega arith)

-- so waits of a second find it
seconds-find : (n : ℕ) (h : HostState) (t : ℕ) → Finished h.kernel.past t → length h.steps < n → is_reaped host_calls t (seconds_from host_calls t n h) ≡ true
seconds-find zero h t f few = absurd (omega arith)
seconds-find (suc n) h t f few =
    let g = waited host_calls t 1000000000 h in
    elim (cases_Bool (is_reaped host_calls t g)) [
      | inl found ↦ rw found found
      | inr none ↦
          rw none (elim (waited-finds h t 1000000000 (omega arith) f) [
            | inl found ↦ absurd (cc)
            | inr less ↦ seconds-find n g t (finished-stays h.kernel.past g.kernel.past t (on-waited h t 1000000000).past f) (omega arith)
          ])
    ]

by_seconds-find : (h : HostState) (t : ℕ) → Finished h.kernel.past t → is_reaped host_calls t (waited_by_seconds host_calls t h) ≡ true
unfolding waited_by_seconds
by_seconds-find h t f = seconds-find (suc (turns_left h)) h t f (omega arith)

discarded-finished : (g : HostState) (t : ℕ) → t < length (tickets g.kernel.past) → Finished (host_discarded g t).kernel.past t
unfolding host_discarded
discarded-finished g t within =
    let same = ap (λ ts. length ts) (tickets-discard g.kernel.past t) in
    record { within = rw same within; some = discard-finishes g.kernel.past t within }

pub blocked-found : (h : HostState) (t timeout : ℕ) → t < length (tickets h.kernel.past) → is_reaped host_calls t (blocked host_calls t timeout h) ≡ true
blocked-found h t timeout within =
    let g = waited host_calls t timeout h in
    let s = some-at (tickets h.kernel.past) t within in
    let still = slice_get_within (tickets g.kernel.past) t s.0 (ticket-stays h.kernel.past g.kernel.past t s.0 (on-waited h t timeout).past s.1) in
    elim (cases_Bool (is_reaped host_calls t g)) [
      | inl found ↦ rw found found
      | inr none ↦ rw none (by_seconds-find (host_discarded g t) t (discarded-finished g t still))
    ]
