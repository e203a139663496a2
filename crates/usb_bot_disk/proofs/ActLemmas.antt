-- The steps of an action of the disk, one after another.
use Rattle.std.proofs.Common.{◌≡◌, ℕ, zero, suc, ◌+◌, ◌-◌, ◌<◌, ◌≤◌, Bool, cond, List, [], ◌∷◌, ◌++◌, length, replicate, Option, Some, None, refl, sym, ap, ◌∙◌, arith, add-one, lt-ltb}
use Rattle.std.specs.Prelude.{is_some, option_and_then, nat_lt}
use Rattle.std.proofs.lemmas.Bool.{le-leb}
use Rattle.std.proofs.lemmas.List.{length-append, length-replicate}
use Rattle.usb_kernel.specs.Value.{KernelState}
use Rattle.usb_kernel.specs.Journal.{open_tickets}
use Rattle.usb_kernel.specs.Fronts.{front_packet, front_maximum}
use Rattle.usb_kernel_devices.specs.declared.step.KernelStep.TheVariants as step
use Rattle.usb_kernel_devices.specs.declared.step.KernelStep.{KernelStep}
use Rattle.usb_device_host.specs.HostState.{HostState}
use Rattle.usb_device_host.specs.HostTurns.{host_stepped, all_stepped}
use Rattle.usb_device_host.proofs.HostFrames.{uses-stepped}
use Rattle.usb_bot_disk.specs.Machine.{Machine, taken}
use Rattle.usb_bot_disk.specs.DiskState.{DiskState, room_of}
use Rattle.usb_bot_disk.specs.DiskTurns.{Takes, some_if, next_taken, steps_taken, steps_of, with_room}
use Rattle.usb_bot_disk.proofs.MachineLemmas.{not-le}

all-last : (h : HostState) (s : KernelStep) (n : ℕ) → host_stepped (all_stepped h (replicate n s)) s ≡ all_stepped h (replicate (suc n) s)
all-last h s zero = refl
all-last h s (suc n) = all-last (host_stepped h s) s n

-- one step more
pub all-more : (h g next : HostState) (s : KernelStep) (n : ℕ) → g ≡ all_stepped h (replicate n s) → next ≡ host_stepped g s → next ≡ all_stepped h (replicate (n + 1) s)
all-more h g next s n is after =
    after ∙ ap (λ (x : HostState). host_stepped x s) is ∙ all-last h s n ∙ sym (ap (λ k. all_stepped h (replicate k s)) (add-one n))

pub all-append : (h : HostState) (ss more : List KernelStep) → all_stepped h (ss ++ more) ≡ all_stepped (all_stepped h ss) more
all-append h [] more = refl
all-append h (s ∷ ss) more = all-append (host_stepped h s) ss more

-- what a step leaves of the line and of the places
pub steps-after : (h next : HostState) (s : KernelStep) → next ≡ host_stepped h s → next.steps ≡ h.steps
steps-after h next s is = ap (λ (x : HostState). x.steps) is ∙ (uses-stepped h s).steps

pub spare-after : (h next : HostState) (s : KernelStep) → next ≡ host_stepped h s → 0 < h.kernel.spare → next.kernel.spare + 1 ≡ h.kernel.spare
spare-after h next s is some =
    let same : next.kernel.spare ≡ (host_stepped h s).kernel.spare = ap (λ (x : HostState). x.kernel.spare) is in
    omega (arith, same, (uses-stepped h s).spare, some)

-- what a disk that listens finds: the packet that stands, and how many tickets fail with it
pub record IsAt (b : DiskState) (k : KernelState) (p : List ℕ) (m : ℕ) (accepted : Bool) (outs ins : ℕ) : Type 0 where
  pub kernel : k ≡ b.host.kernel
  pub maximum : Some m ≡ front_maximum k.past b.device b.out
  pub packet : Some p ≡ front_packet k.past b.device b.out
  pub some : 0 < m
  pub accepts : accepted ≡ is_some (taken b.machine p m)
  pub outs_is : outs ≡ cond accepted 0 (length (open_tickets k.past b.device b.out))
  pub ins_is : ins ≡ cond accepted 0 (length (open_tickets k.past b.device b.inp))

module _ (b : DiskState) (k : KernelState) (p : List ℕ) (m : ℕ) (accepted : Bool) (outs ins : ℕ) (at : IsAt b k p m accepted outs ins) where
  abbrev failed : ℕ → ℕ → List KernelStep
  failed n o = step.Ack b.device b.out ∷ (replicate n (step.Fail b.device b.out 32) ++ replicate o (step.Fail b.device b.inp 32))

  counted : (e n : ℕ) → n ≡ cond accepted 0 (length (open_tickets k.past b.device e)) → n ≡ cond (is_some (taken b.machine p m)) 0 (length (open_tickets b.host.kernel.past b.device e))
  counted e n is =
      is
      ∙ ap (λ (x : KernelState). cond accepted 0 (length (open_tickets x.past b.device e))) at.kernel
      ∙ ap (λ v. cond v 0 (length (open_tickets b.host.kernel.past b.device e))) at.accepts

  steps-by : (o : Option Machine) → outs ≡ cond (is_some o) 0 (length (open_tickets b.host.kernel.past b.device b.out)) → ins ≡ cond (is_some o) 0 (length (open_tickets b.host.kernel.past b.device b.inp)) → failed outs ins ≡ steps_taken b o
  steps-by (Some next) first second = ap (λ n. failed n ins) first ∙ ap (λ n. failed 0 n) second
  steps-by None first second =
      ap (λ n. failed n ins) first ∙ ap (λ n. failed (length (open_tickets b.host.kernel.past b.device b.out)) n) second

  pub steps-are : failed outs ins ≡ steps_of b (Takes p m)
  steps-are = steps-by (taken b.machine p m) (counted b.out outs at.outs_is) (counted b.inp ins at.ins_is)

  steps-count : length (steps_of b (Takes p m)) ≡ outs + ins + 1
  steps-count =
      let fails = replicate outs (step.Fail b.device b.out 32) in
      let more = replicate ins (step.Fail b.device b.inp 32) in
      let same : length (failed outs ins) ≡ length (steps_of b (Takes p m)) = ap {A = List KernelStep} length steps-are in
      omega (arith, same, length-append fails more, length-replicate outs (step.Fail b.device b.out 32), length-replicate ins (step.Fail b.device b.inp 32))

  next-is : next_taken b ≡ Some (Takes p m)
  next-is =
      ap (option_and_then (λ m. option_and_then (λ p. some_if (nat_lt 0 m) (Takes p m)) (front_packet b.host.kernel.past b.device b.out)))
      (sym (at.maximum ∙ ap (λ (x : KernelState). front_maximum x.past b.device b.out) at.kernel))
      ∙ ap (option_and_then (λ p. some_if (nat_lt 0 m) (Takes p m))) (sym (at.packet ∙ ap (λ (x : KernelState). front_packet x.past b.device b.out) at.kernel))
      ∙ ap (λ v. some_if v (Takes p m)) (lt-ltb 0 m at.some)

  -- there is no room, or there is
  pub takes-none : room_of b.host - outs ≤ ins → option_and_then (with_room b) (next_taken b) ≡ None
  takes-none few =
      ap (option_and_then (with_room b)) next-is
      ∙ ap (λ v. some_if v (Takes p m)) (not-le (length (steps_of b (Takes p m))) (room_of b.host) (omega (arith, few, steps-count)))

  pub takes-some : ins < room_of b.host - outs → option_and_then (with_room b) (next_taken b) ≡ Some (Takes p m)
  takes-some room =
      ap (option_and_then (with_room b)) next-is
      ∙ ap (λ v. some_if v (Takes p m)) (le-leb (length (steps_of b (Takes p m))) (room_of b.host) (omega (arith, room, steps-count)))

  -- the host after the steps, one after another
  pub host-after : (acked outs_failed new : HostState) → acked ≡ host_stepped b.host (step.Ack b.device b.out) → outs_failed ≡ all_stepped acked (replicate outs (step.Fail b.device b.out 32))
      → new ≡ all_stepped outs_failed (replicate ins (step.Fail b.device b.inp 32)) → new ≡ all_stepped b.host (steps_of b (Takes p m))
  host-after acked outs_failed new first second third =
      let fails = replicate outs (step.Fail b.device b.out 32) in
      let more = replicate ins (step.Fail b.device b.inp 32) in
      third
      ∙ ap (λ (h : HostState). all_stepped h more) (second ∙ ap (λ (h : HostState). all_stepped h fails) first)
      ∙ sym (all-append (host_stepped b.host (step.Ack b.device b.out)) fails more)
      ∙ ap (all_stepped b.host) steps-are
