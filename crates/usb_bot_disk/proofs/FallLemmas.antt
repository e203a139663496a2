-- The number of a bus falls with each action of its disk.
use Rattle.std.proofs.Common.{◌≡◌, ℕ, ◌+◌, ◌*◌, ◌<◌, ◌≤◌, ◌^◌, Bool, true, false, cond, List, [], ◌∷◌, ◌++◌, length, replicate, slice_get, drop, Option, Some, None, refl, sym, ap, ◌∙◌, arith, subst, inl, inr, ltb-true}
use Rattle.std.specs.Prelude.{is_some, is_none, nat_lt, nat_le, option_and_then, ◌&&◌}
use Rattle.std.specs.Option.{option_map_or}
use Rattle.std.proofs.lemmas.Bool.{cases_Bool, eq-eqb, false≢true}
use Rattle.std.proofs.lemmas.Option.{none-some}
use Rattle.usb_kernel_devices.specs.declared.step.KernelStep.{KernelStep}
use Rattle.usb_kernel_devices.specs.declared.step.KernelStep.TheVariants as step
use Rattle.usb_kernel.specs.declared.event.Event.{Event}
use Rattle.usb_kernel.specs.declared.event.Event.TheVariants.{Ack, Fail}
use Rattle.usb_kernel.specs.Tickets.{tickets}
use Rattle.usb_kernel.specs.Fates.{finish}
use Rattle.usb_kernel.specs.Journal.{fate, oldest, open_tickets, at_oldest, change}
use Rattle.usb_kernel.specs.Completions.{waiting}
use Rattle.usb_kernel.specs.Fronts.{front_packet, front_maximum}
use Rattle.usb_kernel.specs.Steps.{after_fail}
use Rattle.usb_kernel.proofs.StepLemmas.{after_ack-some, after_fail-some}
use Rattle.usb_kernel.proofs.OpenLists.{open-ack}
use Rattle.usb_kernel.proofs.Waiting.{waiting-few}
use Rattle.usb_device_endpoint.specs.BusState.{BusState}
use Rattle.usb_device_host.specs.HostState.{HostState}
use Rattle.usb_device_host.specs.HostBus.{turns_left}
use Rattle.usb_device_host.specs.HostTurns.{host_stepped, all_stepped}
use Rattle.usb_device_host.proofs.BusLemmas.{bus_of-stepped}
use Rattle.usb_device_host.proofs.HostFrames.{uses-all}
use Rattle.usb_bot_disk.specs.declared.stage.Stage.{Stage}
use Rattle.usb_bot_disk.specs.declared.stage.Stage.TheVariants.{Listening, Taking, Sending, Refusing, Answering}
use Rattle.usb_bot_disk.specs.Machine.{Machine, listens, taken, taken_at, machine_or, next_packet, weight}
use Rattle.usb_bot_disk.specs.MachineFacts.{IsSound, HasCome}
use Rattle.usb_bot_disk.specs.Standing.{packets_open, packets_standing}
use Rattle.usb_bot_disk.specs.DiskState.{DiskState, room_of}
use Rattle.usb_bot_disk.specs.DiskTurns.{Action, Takes, Sends, some_if, next_taken, next_sent, fits_blank, failures, failures_at, steps_taken, steps_of, acted, with_room, possible, action_of}
use Rattle.usb_bot_disk.specs.DiskCalls.{packet_weight, disk_bus_of}
use Rattle.usb_bot_disk.proofs.StandingLemmas.{open-ack-less, open-closes}
use Rattle.usb_bot_disk.proofs.QuietLemmas.{Quiet, quiet-all, quiet-stepped}
use Rattle.usb_bot_disk.proofs.FrontLemmas.{IsFront, front-is, is-there, is-so, sends-bytes}
use Rattle.usb_bot_disk.proofs.WeightLemmas.{weight-light, weight-sent, weight-empty, empty-none}

-- the host's turns after these steps: those of the line, and what waits
turns-after : (h : HostState) (ss : List KernelStep) → turns_left (all_stepped h ss) ≡ length h.steps * 2 ^ 64 + length (waiting (all_stepped h ss).kernel.past)
turns-after h ss = ap (λ (l : List KernelStep). length l * 2 ^ 64 + length (waiting (all_stepped h ss).kernel.past)) (uses-all h ss).steps

-- the number falls where what the disk has before it does
number-falls : (b : DiskState) (a : Action) → length (tickets (acted b a).host.kernel.past) < 2 ^ 64 →
    packet_weight * packets_standing (acted b a).host.kernel.past b.device b.out + weight (acted b a).machine.stage < packet_weight * packets_standing b.host.kernel.past b.device b.out + weight b.machine.stage →
    (disk_bus_of (acted b a)).turns_left < (disk_bus_of b).turns_left
number-falls b a few less = omega (arith, few, less, turns-after b.host (steps_of b a), waiting-few (acted b a).host.kernel.past)

-- a packet that the disk sends
module _ (b : DiskState) (d e : ℕ) where
  pub standing-quiet : (new : List Event) → Quiet d e b.host.kernel.past new → packets_standing new d e ≤ packets_standing b.host.kernel.past d e
  standing-quiet new quiet = by (nat_lt e 128)
    where
      by : (v : Bool) → cond v (packets_open new d e) 0 ≤ cond v (packets_open b.host.kernel.past d e) 0
      by true = quiet.fewer
      by false = omega arith

sends-falls : (b : DiskState) (m : ℕ) → IsSound b.machine.disk b.machine.stage → 0 < m → listens b.machine.stage ≡ false →
    let a = Sends (next_packet b.machine m) in
    packet_weight * packets_standing (acted b a).host.kernel.past b.device b.out + weight (acted b a).machine.stage < packet_weight * packets_standing b.host.kernel.past b.device b.out + weight b.machine.stage
sends-falls b m sound some quiet =
    let a = Sends (next_packet b.machine m) in
    omega (arith, standing-quiet b b.device b.out (acted b a).host.kernel.past (quiet-all b.device b.out b.host (steps_of b a)), weight-sent b.machine.disk b.machine.stage m sound some quiet)

-- the weight of a packet that was the last of those that stand
less-by-packet : (old new before now : ℕ) → new < old → now < 2 ^ 26 → packet_weight * new + now < packet_weight * old + before
less-by-packet old new before now less light = omega (arith, less, light)

-- a packet that it takes
module _ (b : DiskState) (p : List ℕ) (m : ℕ) (front : IsFront b.host.kernel.past b.device b.out p m) (some : 0 < m) where
  abbrev acked : HostState
  acked = host_stepped b.host (step.Ack b.device b.out)

  abbrev after : List Event
  after = Ack b.device b.out ∷ b.host.kernel.past

  acked-past : acked.kernel.past ≡ Ack b.device b.out ∷ b.host.kernel.past
  acked-past =
      ap (λ (s : BusState). s.past) (bus_of-stepped b.host (step.Ack b.device b.out))
      ∙ after_ack-some b.host.kernel.past b.device b.out front.t (ltb-true b.out 128 front.low) front.oldest_is

  -- where fewer are open, fewer stand
  fewer-stand : (new : List Event) → packets_open new b.device b.out < packets_open b.host.kernel.past b.device b.out → packets_standing new b.device b.out < packets_standing b.host.kernel.past b.device b.out
  fewer-stand new less =
      let stands : (past : List Event) → packets_standing past b.device b.out ≡ packets_open past b.device b.out = λ past. ap (λ v. cond v (packets_open past b.device b.out) 0) front.low in
      omega (arith, less, stands new, stands b.host.kernel.past)

  -- a packet with bytes: the acknowledgement leaves fewer
  bytes-fewer : (x : ℕ) (xs : List ℕ) (ss : List KernelStep) → p ≡ x ∷ xs → packets_standing (all_stepped acked ss).kernel.past b.device b.out < packets_standing b.host.kernel.past b.device b.out
  bytes-fewer x xs ss is =
      let bytes = sends-bytes front.s (fate b.host.kernel.past front.t) x xs (front.packet_is ∙ is) in
      let size : 0 < front.s.maximum = omega (arith, front.maximum_is, some) in
      let less = open-ack-less b.host.kernel.past b.device b.out front.t front.s bytes.0 front.oldest_is front.at bytes.1 size in
      let now : packets_open acked.kernel.past b.device b.out ≡ packets_open (Ack b.device b.out ∷ b.host.kernel.past) b.device b.out = ap (λ past. packets_open past b.device b.out) acked-past in
      fewer-stand (all_stepped acked ss).kernel.past (omega (arith, less, now, (quiet-all b.device b.out acked ss).fewer))

  -- the failures: the first of them, or the acknowledgement, ends a ticket
  fail-fewer : (ss : List KernelStep) → packets_standing (all_stepped acked (step.Fail b.device b.out 32 ∷ ss)).kernel.past b.device b.out < packets_standing b.host.kernel.past b.device b.out
  fail-fewer ss = by (fate (Ack b.device b.out ∷ b.host.kernel.past) front.t).status refl
    where
      now : packets_open acked.kernel.past b.device b.out ≡ packets_open after b.device b.out
      now = ap (λ past. packets_open past b.device b.out) acked-past

      by : (o : Option ℕ) → (fate after front.t).status ≡ o → packets_standing (all_stepped acked (step.Fail b.device b.out 32 ∷ ss)).kernel.past b.device b.out < packets_standing b.host.kernel.past b.device b.out
      by (Some errno) finished =
          let less = open-closes b.host.kernel.past (Ack b.device b.out) b.device b.out front.t errno refl front.oldest_is finished in
          fewer-stand (all_stepped acked (step.Fail b.device b.out 32 ∷ ss)).kernel.past
          (omega (arith, less, now, (quiet-all b.device b.out acked (step.Fail b.device b.out 32 ∷ ss)).fewer))
      by None still =
          let kept : open_tickets after b.device b.out ≡ open_tickets b.host.kernel.past b.device b.out =
          open-ack b.host.kernel.past b.device b.out
          ∙ ap (λ o. cond (option_map_or (λ t. is_some (fate after t).status) o false) (drop 1 (open_tickets b.host.kernel.past b.device b.out)) (open_tickets b.host.kernel.past b.device b.out)) front.oldest_is
          ∙ ap (λ (o : Option ℕ). cond (is_some o) (drop 1 (open_tickets b.host.kernel.past b.device b.out)) (open_tickets b.host.kernel.past b.device b.out)) still in
          let first : oldest after b.device b.out ≡ Some front.t = ap (λ (ts : List ℕ). slice_get ts 0) kept ∙ front.oldest_is in
          let failed : HostState = host_stepped acked (step.Fail b.device b.out 32) in
          let fail_past : failed.kernel.past ≡ Fail b.device b.out 32 ∷ after =
          ap (λ (s : BusState). s.past) (bus_of-stepped acked (step.Fail b.device b.out 32))
          ∙ ap (λ past. after_fail past b.device b.out 32) acked-past
          ∙ after_fail-some after b.device b.out 32 front.t first in
          let ended : (fate (Fail b.device b.out 32 ∷ after) front.t).status ≡ Some 32 =
          ap (λ o. (at_oldest o (λ s. finish 32) (tickets after) (fate after) front.t).status) first
          ∙ ap (λ v. (cond v (change (λ s. finish 32) (slice_get (tickets after) front.t) (fate after front.t)) (fate after front.t)).status) (eq-eqb front.t front.t refl)
          ∙ ap (λ o. (change (λ s. finish 32) o (fate after front.t)).status) front.at
          ∙ ap (λ (o : Option ℕ). (cond (is_none o) (record (fate after front.t) { status = Some 32 }) (fate after front.t)).status) still in
          let less = open-closes after (Fail b.device b.out 32) b.device b.out front.t 32 refl first ended in
          let then_is : packets_open failed.kernel.past b.device b.out ≡ packets_open (Fail b.device b.out 32 ∷ after) b.device b.out = ap (λ past. packets_open past b.device b.out) fail_past in
          fewer-stand (all_stepped failed ss).kernel.past
          (omega (arith, less, then_is, now, (quiet-all b.device b.out failed ss).fewer, (quiet-stepped b.device b.out b.host (step.Ack b.device b.out)).fewer))

  -- there is one at least
  failures-first : (more : List KernelStep) → (ss : List KernelStep) × (failures_at b b.out ++ more ≡ step.Fail b.device b.out 32 ∷ ss)
  failures-first more = by (open_tickets b.host.kernel.past b.device b.out) front.oldest_is
    where
      by : (ts : List ℕ) → slice_get ts 0 ≡ Some front.t → (ss : List KernelStep) × (replicate (length ts) (step.Fail b.device b.out 32) ++ more ≡ step.Fail b.device b.out 32 ∷ ss)
      by [] is = absurd (none-some front.t is)
      by (t ∷ ts) is = (replicate (length ts) (step.Fail b.device b.out 32) ++ more, refl)

  none-fewer : taken b.machine p m ≡ None → packets_standing (acted b (Takes p m)).host.kernel.past b.device b.out < packets_standing b.host.kernel.past b.device b.out
  none-fewer none =
      let first = failures-first (failures_at b b.inp) in
      let host_is : (acted b (Takes p m)).host ≡ all_stepped acked (step.Fail b.device b.out 32 ∷ first.0) =
      ap (λ o. all_stepped b.host (steps_taken b o)) none ∙ ap (all_stepped acked) first.1 in
      subst (λ (h : HostState). packets_standing h.kernel.past b.device b.out < packets_standing b.host.kernel.past b.device b.out) (sym host_is) (fail-fewer first.0)

  -- what follows the acknowledgement
  steps-first : (o : Option Machine) → (ss : List KernelStep) × (steps_taken b o ≡ step.Ack b.device b.out ∷ ss)
  steps-first (Some k) = ([], refl)
  steps-first None = (failures b, refl)

  takes-bytes : (x : ℕ) (xs : List ℕ) → p ≡ x ∷ xs → packets_standing (acted b (Takes p m)).host.kernel.past b.device b.out < packets_standing b.host.kernel.past b.device b.out
  takes-bytes x xs is =
      let first = steps-first (taken b.machine p m) in
      subst (λ (ss : List KernelStep). packets_standing (all_stepped b.host ss).kernel.past b.device b.out < packets_standing b.host.kernel.past b.device b.out) (sym first.1) (bytes-fewer x xs first.0 is)

  abbrev Less : Type 0
  Less = packet_weight * packets_standing (acted b (Takes p m)).host.kernel.past b.device b.out + weight (acted b (Takes p m)).machine.stage < packet_weight * packets_standing b.host.kernel.past b.device b.out + weight b.machine.stage

  less-strict : IsSound (acted b (Takes p m)).machine.disk (acted b (Takes p m)).machine.stage → packets_standing (acted b (Takes p m)).host.kernel.past b.device b.out < packets_standing b.host.kernel.past b.device b.out → Less
  less-strict sound less =
      less-by-packet (packets_standing b.host.kernel.past b.device b.out) (packets_standing (acted b (Takes p m)).host.kernel.past b.device b.out) (weight b.machine.stage) (weight (acted b (Takes p m)).machine.stage) less
      (weight-light (acted b (Takes p m)).machine.disk (acted b (Takes p m)).machine.stage sound)

  -- an empty packet
  takes-empty : (stage : Stage) → b.machine.stage ≡ stage → p ≡ [] → listens b.machine.stage ≡ true → HasCome b.machine.disk b.machine.got stage → IsSound (acted b (Takes p m)).machine.disk (acted b (Takes p m)).machine.stage → Less
  takes-empty Listening at empty hears came sound =
      less-strict sound (none-fewer (ap (λ (q : List ℕ). taken b.machine q m) empty ∙ empty-none b.machine m at came some))
  takes-empty (Taking c left) at empty hears came sound =
      let now : weight (acted b (Takes p m)).machine.stage ≡ 14 =
      ap (λ (q : List ℕ). weight (machine_or b.machine (taken b.machine q m)).stage) empty
      ∙ ap (λ st. weight (machine_or b.machine (taken_at b.machine st [] m)).stage) at
      ∙ weight-empty b.machine c left m some in
      let was : weight b.machine.stage ≡ 15 = ap weight at in
      omega (arith, now, was, standing-quiet b b.device b.out (acted b (Takes p m)).host.kernel.past (quiet-all b.device b.out b.host (steps_of b (Takes p m))))
  takes-empty (Sending c left) at empty hears came sound = absurd (false≢true (sym (ap listens at) ∙ hears))
  takes-empty (Refusing c) at empty hears came sound = absurd (false≢true (sym (ap listens at) ∙ hears))
  takes-empty (Answering s gone) at empty hears came sound = absurd (false≢true (sym (ap listens at) ∙ hears))

  takes-falls : listens b.machine.stage ≡ true → HasCome b.machine.disk b.machine.got b.machine.stage → IsSound (acted b (Takes p m)).machine.disk (acted b (Takes p m)).machine.stage → Less
  takes-falls hears came sound = by p refl
    where
      by : (q : List ℕ) → p ≡ q → Less
      by [] empty = takes-empty b.machine.stage refl empty hears came sound
      by (x ∷ xs) is = less-strict sound (takes-bytes x xs is)

-- an action that is possible takes the packet that stands, or sends the next
record IsTake (b : DiskState) (a : Action) : Type 0 where
  p : List ℕ
  m : ℕ
  is : Takes p m ≡ a
  front : IsFront b.host.kernel.past b.device b.out p m
  some : 0 < m

record IsSend (b : DiskState) (a : Action) : Type 0 where
  m : ℕ
  is : Sends (next_packet b.machine m) ≡ a
  some : 0 < m

is-take : (b : DiskState) (a : Action) → next_taken b ≡ Some a → IsTake b a
is-take b a is =
    let there = is-there (λ m. option_and_then (λ p. some_if (nat_lt 0 m) (Takes p m)) (front_packet b.host.kernel.past b.device b.out)) (front_maximum b.host.kernel.past b.device b.out) a is in
    let m = there.0 in
    let packet = is-there (λ p. some_if (nat_lt 0 m) (Takes p m)) (front_packet b.host.kernel.past b.device b.out) a there.1.1 in
    let so = is-so (nat_lt 0 m) (Takes packet.0 m) a packet.1.1 in
    record { p = packet.0; m = m; is = so.1; front = front-is b.host.kernel.past b.device b.out packet.0 m there.1.0 packet.1.0; some = ltb-true 0 m so.0 }

and-left : (v w : Bool) → (v && w) ≡ true → v ≡ true
and-left true w is = refl
and-left false w is = is

is-send : (b : DiskState) (a : Action) → next_sent b ≡ Some a → IsSend b a
is-send b a is =
    let there = is-there (λ m. some_if (nat_lt 0 m && fits_blank (next_packet b.machine m) b.blanks) (Sends (next_packet b.machine m))) (front_maximum b.host.kernel.past b.device b.inp) a is in
    let m = there.0 in
    let so = is-so (nat_lt 0 m && fits_blank (next_packet b.machine m) b.blanks) (Sends (next_packet b.machine m)) a there.1.1 in
    record { m = m; is = so.1; some = ltb-true 0 m (and-left (nat_lt 0 m) (fits_blank (next_packet b.machine m) b.blanks) so.0) }

action-possible : (b : DiskState) (a : Action) → action_of b ≡ Some a → possible b ≡ Some a
action-possible b a is =
    let there = is-there (with_room b) (possible b) a is in
    there.1.0 ∙ ap (λ (x : Action). Some x) (is-so (nat_le (length (steps_of b there.0)) (room_of b.host)) there.0 a there.1.1).1

-- the number of a bus falls with its action
pub acted-falls : (b : DiskState) (a : Action) → action_of b ≡ Some a → IsSound b.machine.disk b.machine.stage → HasCome b.machine.disk b.machine.got b.machine.stage → (listens b.machine.stage ≡ true → IsSound (acted b a).machine.disk (acted b a).machine.stage) →
    length (tickets (acted b a).host.kernel.past) < 2 ^ 64 → (disk_bus_of (acted b a)).turns_left < (disk_bus_of b).turns_left
acted-falls b a is sound came next few =
    number-falls b a few (elim (cases_Bool (listens b.machine.stage)) [
      | inl hears ↦
          let take_ = is-take b a (sym (ap (λ v. cond v (next_taken b) (next_sent b)) hears) ∙ action-possible b a is) in
          subst (λ (x : Action). packet_weight * packets_standing (acted b x).host.kernel.past b.device b.out + weight (acted b x).machine.stage < packet_weight * packets_standing b.host.kernel.past b.device b.out + weight b.machine.stage) take_.is
          (takes-falls b take_.p take_.m take_.front take_.some hears came (subst (λ (x : Action). IsSound (acted b x).machine.disk (acted b x).machine.stage) (sym take_.is) (next hears)))
      | inr quiet ↦
          let send = is-send b a (sym (ap (λ v. cond v (next_taken b) (next_sent b)) quiet) ∙ action-possible b a is) in
          subst (λ (x : Action). packet_weight * packets_standing (acted b x).host.kernel.past b.device b.out + weight (acted b x).machine.stage < packet_weight * packets_standing b.host.kernel.past b.device b.out + weight b.machine.stage) send.is
          (sends-falls b send.m sound send.some quiet)
    ])
