-- A turn of a bus with a disk: an action, or the host's own turn.
use Rattle.std.proofs.Common.{◌≡◌, ◌<◌, ◌^◌, true, false, length, Option, Some, None, refl, sym, ap, ◌∙◌, subst}
use Rattle.std.specs.Prelude.{is_some}
use Rattle.std.proofs.lemmas.Bool.{false≢true}
use Rattle.usb_kernel.specs.Tickets.{tickets}
use Rattle.usb_device_endpoint.specs.declared.route.Turn.{Turn}
use Rattle.usb_device_endpoint.specs.declared.route.Turn.TheVariants.{Stepped}
use Rattle.usb_device_endpoint.specs.Later.{IsLater}
use Rattle.usb_device_endpoint.specs.Turns.{Falls}
use Rattle.usb_device_host.specs.HostState.{HostState}
use Rattle.usb_device_host.specs.HostBus.{bus_of}
use Rattle.usb_device_host.specs.HostTurns.{host_turned, host_turn}
use Rattle.usb_device_host.proofs.HostFrames.{uses-all}
use Rattle.usb_bot_disk.specs.Machine.{listens}
use Rattle.usb_bot_disk.specs.MachineFacts.{IsSound, HasCome}
use Rattle.usb_bot_disk.specs.DiskState.{DiskState}
use Rattle.usb_bot_disk.specs.DiskTurns.{Action, steps_of, action_of, acted, acted_by, turned_by, turn_by, disk_turned, disk_turn}
use Rattle.usb_bot_disk.specs.DiskCalls.{with_load, disk_bus_of, with_host}
use Rattle.usb_bot_disk.proofs.DiskBusLemmas.{later-disk, falls-disk}
use Rattle.usb_bot_disk.proofs.QuietLemmas.{Quiet, quiet-turned}
use Rattle.usb_bot_disk.proofs.FallLemmas.{acted-falls, standing-quiet}

-- an action was taken
pub record HasActed (b new : DiskState) : Type 0 where
  pub is : new ≡ acted_by b (action_of b)
  pub acts : true ≡ is_some (action_of b)

-- or none was possible
pub record HasNotActed (b new : DiskState) : Type 0 where
  pub is : new ≡ acted_by b (action_of b)
  pub none : false ≡ is_some (action_of b)

the-action : (o : Option Action) → true ≡ is_some o → (a : Action) × (o ≡ Some a)
the-action None is = absurd (false≢true (sym is))
the-action (Some a) is = (a, refl)

no-action : (o : Option Action) → false ≡ is_some o → o ≡ None
no-action None is = refl
no-action (Some a) is = absurd (false≢true is)

module _ (b new : DiskState) (has : HasActed b new) where
  made : (a : Action) → action_of b ≡ Some a → new ≡ acted b a
  made a is = has.is ∙ ap (acted_by b) is

  pub acted-turned : new ≡ disk_turned b
  unfolding disk_turned
  acted-turned = let a = the-action (action_of b) has.acts in made a.0 a.1 ∙ sym (ap (turned_by b) a.1)

  pub acted-turn : Stepped ≡ disk_turn b
  unfolding disk_turn
  acted-turn = let a = the-action (action_of b) has.acts in sym (ap (turn_by b) a.1)

  pub acted-later : IsLater (disk_bus_of b) (disk_bus_of new)
  acted-later =
      let a = the-action (action_of b) has.acts in
      subst (λ (x : DiskState). IsLater (disk_bus_of b) (disk_bus_of x)) (sym (made a.0 a.1)) (later-disk b (acted b a.0) (uses-all b.host (steps_of b a.0)).later)

  pub acted-less : IsSound b.machine.disk b.machine.stage → HasCome b.machine.disk b.machine.got b.machine.stage → (listens b.machine.stage ≡ true → IsSound new.machine.disk new.machine.stage) → length (tickets new.host.kernel.past) < 2 ^ 64 →
      (disk_bus_of new).turns_left < (disk_bus_of b).turns_left
  acted-less sound came next few =
      let a = the-action (action_of b) has.acts in
      let is = made a.0 a.1 in
      subst (λ (x : DiskState). (disk_bus_of x).turns_left < (disk_bus_of b).turns_left) (sym is)
      (acted-falls b a.0 a.1 sound came (subst (λ (x : DiskState). listens b.machine.stage ≡ true → IsSound x.machine.disk x.machine.stage) is next)
      (subst (λ (x : DiskState). length (tickets x.host.kernel.past) < 2 ^ 64) is few))

module _ (b mid : DiskState) (has : HasNotActed b mid) where
  pub unacted : mid ≡ b
  unacted = has.is ∙ ap (acted_by b) (no-action (action_of b) has.none)

  pub unacted-turned : (h : HostState) → h ≡ host_turned mid.host → with_host mid h ≡ disk_turned b
  unfolding disk_turned
  unacted-turned h is =
      ap (with_host mid) is ∙ ap (λ (x : DiskState). with_host x (host_turned x.host)) unacted ∙ sym (ap (turned_by b) (no-action (action_of b) has.none))

  pub unacted-turn : (turn : Turn) → turn ≡ host_turn mid.host → turn ≡ disk_turn b
  unfolding disk_turn
  unacted-turn turn is = is ∙ ap (λ (x : DiskState). host_turn x.host) unacted ∙ sym (ap (turn_by b) (no-action (action_of b) has.none))

  pub unacted-later : (h : HostState) → IsLater (bus_of mid.host) (bus_of h) → IsLater (disk_bus_of b) (disk_bus_of (with_host mid h))
  unacted-later h later = subst (λ (x : DiskState). IsLater (disk_bus_of x) (disk_bus_of (with_host mid h))) unacted (later-disk mid (with_host mid h) later)

  pub unacted-falls : (h : HostState) (turn : Turn) → h ≡ host_turned mid.host → Falls turn (bus_of mid.host).turns_left (bus_of h).turns_left → Falls turn (disk_bus_of b).turns_left (disk_bus_of (with_host mid h)).turns_left
  unacted-falls h turn is falls =
      subst (λ (x : DiskState). Falls turn (disk_bus_of x).turns_left (disk_bus_of (with_host mid h)).turns_left) unacted
      (falls-disk mid h turn falls (standing-quiet mid mid.device mid.out h.kernel.past (subst (λ (x : HostState). Quiet mid.device mid.out mid.host.kernel.past x.kernel.past) (sym is) (quiet-turned mid.device mid.out mid.host))))

  -- time is up only where nothing changes
  pub unacted-still : (h : HostState) → bus_of h ≡ bus_of mid.host → disk_bus_of (with_host mid h) ≡ disk_bus_of b
  unacted-still h same = ap (with_load mid) same ∙ ap disk_bus_of unacted
