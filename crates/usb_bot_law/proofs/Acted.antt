-- A bus with a disk after an action of one step.
use Rattle.std.proofs.Common.{◌≡◌, ℕ, ◌-◌, ◌≤◌, ◌<◌, List, [], ◌∷◌, length, Option, Some, false, drop, ap, ◌∙◌, arith}
use Rattle.std.specs.Prelude.{nat_le, option_and_then}
use Rattle.std.proofs.lemmas.Bool.{le-leb}
use Rattle.usb_kernel_devices.specs.declared.step.KernelStep.{KernelStep}
use Rattle.usb_kernel_devices.specs.declared.step.KernelStep.TheVariants as step
use Rattle.usb_kernel.specs.declared.event.Event.{Event}
use Rattle.usb_kernel.specs.declared.event.Event.TheVariants.{Ack, Packet}
use Rattle.usb_kernel.specs.Steps.{after_ack, after_packet}
use Rattle.usb_device_endpoint.specs.Waits.{time_is_up}
use Rattle.usb_device_host.specs.HostState.{HostState}
use Rattle.usb_device_host.specs.TicketEnds.{came}
use Rattle.usb_device_host.specs.HostTurns.{host_stepped, all_stepped}
use Rattle.usb_bot_disk.specs.Machine.{Machine, taken, machine_or, sent}
use Rattle.usb_bot_disk.specs.DiskState.{DiskState, room_of}
use Rattle.usb_bot_disk.specs.DiskTurns.{Takes, Sends, some_if, steps_taken, with_room, possible, action_of, turned_by, disk_turned, turn_by, disk_turn}

-- a host with one more event, for which a place was used
abbrev pub went : HostState → Event → HostState
went h event = record h { kernel = record h.kernel { past = event ∷ h.kernel.past; spare = h.kernel.spare - 1 } }

-- and a bus, whose disk and blanks are these
abbrev pub went_to : DiskState → Event → Machine → List ℕ → DiskState
went_to b event machine blanks = record b { host = went b.host event; machine = machine; blanks = blanks }

acked-is : (h : HostState) (d e : ℕ) → after_ack h.kernel.past d e ≡ Ack d e ∷ h.kernel.past → host_stepped h (step.Ack d e) ≡ went h (Ack d e)
unfolding host_stepped came
acked-is h d e acts = ap (λ (past : List Event). record h { kernel = record h.kernel { past = past; spare = h.kernel.spare - 1 } }) acts

sent-is : (h : HostState) (d e : ℕ) (p : List ℕ) → after_packet h.kernel.past d e p ≡ Packet d e p ∷ h.kernel.past → host_stepped h (step.Packet d e p) ≡ went h (Packet d e p)
unfolding host_stepped came
sent-is h d e p acts = ap (λ (past : List Event). record h { kernel = record h.kernel { past = past; spare = h.kernel.spare - 1 } }) acts

-- where there is room for a step
fits-one : (h : HostState) → h.steps ≡ [] → 0 < h.kernel.spare → 1 ≤ room_of h
fits-one h none some =
    let room : room_of h ≡ h.kernel.spare - 0 = ap (λ (l : List KernelStep). h.kernel.spare - length l) none in
    omega (arith, room, some)

module _ (b : DiskState) (none : b.host.steps ≡ []) (some : 0 < b.host.kernel.spare) where
  -- a packet that the disk takes
  module _ (p : List ℕ) (m : ℕ) (next : Machine) (can : possible b ≡ Some (Takes p m)) (takes : taken b.machine p m ≡ Some next) (acts : after_ack b.host.kernel.past b.device b.out ≡ Ack b.device b.out ∷ b.host.kernel.past) where
    take-action : action_of b ≡ Some (Takes p m)
    take-action =
        ap (option_and_then (with_room b)) can
        ∙ ap (λ o. some_if (nat_le (length (steps_taken b o)) (room_of b.host)) (Takes p m)) takes
        ∙ ap (λ v. some_if v (Takes p m)) (le-leb 1 (room_of b.host) (fits-one b.host none some))

    pub take-turned : disk_turned b ≡ went_to b (Ack b.device b.out) next b.blanks
    unfolding disk_turned
    take-turned =
        ap (turned_by b) take-action
        ∙ ap (λ o. record b { host = host_all o; machine = machine_or b.machine o }) takes
        ∙ ap (λ (h : HostState). record b { host = h; machine = next }) (acked-is b.host b.device b.out acts)
      where
        host_all : Option Machine → HostState
        host_all o = all_stepped b.host (steps_taken b o)

    pub take-turns : time_is_up (disk_turn b) ≡ false
    unfolding disk_turn
    take-turns = ap (λ o. time_is_up (turn_by b o)) take-action

  -- one that it sends
  module _ (p : List ℕ) (can : possible b ≡ Some (Sends p)) (acts : after_packet b.host.kernel.past b.device b.inp p ≡ Packet b.device b.inp p ∷ b.host.kernel.past) where
    send-action : action_of b ≡ Some (Sends p)
    send-action =
        ap (option_and_then (with_room b)) can
        ∙ ap (λ v. some_if v (Sends p)) (le-leb 1 (room_of b.host) (fits-one b.host none some))

    pub send-turned : disk_turned b ≡ went_to b (Packet b.device b.inp p) (sent b.machine (length p)) (drop 1 b.blanks)
    unfolding disk_turned
    send-turned =
        ap (turned_by b) send-action
        ∙ ap (λ (h : HostState). record b { host = h; machine = sent b.machine (length p); blanks = drop 1 b.blanks }) (sent-is b.host b.device b.inp p acts)

    pub send-turns : time_is_up (disk_turn b) ≡ false
    unfolding disk_turn
    send-turns = ap (λ o. time_is_up (turn_by b o)) send-action
