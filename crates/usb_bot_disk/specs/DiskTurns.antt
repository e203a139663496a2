-- How a bus with a simulated disk goes on by itself.
use Rattle.std.specs.Prelude.{ℕ, Bool, false, List, [], ◌∷◌, ◌++◌, length, drop, replicate, Option, Some, None, nat_lt, nat_le, option_and_then, ◌&&◌, if◌then◌else◌}
use Rattle.usb_kernel_devices.specs.declared.step.KernelStep.{KernelStep}
use Rattle.usb_kernel_devices.specs.declared.step.KernelStep.TheVariants as step
use Rattle.usb_kernel.specs.Journal.{open_tickets}
use Rattle.usb_kernel.specs.Fronts.{front_packet, front_maximum}
use Rattle.usb_device_endpoint.specs.declared.route.Turn.{Turn}
use Rattle.usb_device_endpoint.specs.declared.route.Turn.TheVariants.{Stepped}
use Rattle.usb_device_host.specs.HostTurns.{all_stepped, host_turned, host_turn}
use Rattle.usb_bot_disk.specs.Machine.{Machine, listens, taken, machine_or, next_packet, sent}
use Rattle.usb_bot_disk.specs.DiskState.{DiskState, room_of}

-- what the disk does next: it takes a packet, from an endpoint with this maximum packet size, or it
-- sends one
pub data Action : Type 0 where
  Takes : List ℕ → ℕ → Action
  Sends : List ℕ → Action

abbrev pub some_if : {X : Type 0} → Bool → X → Option X
some_if b x = if b then Some x else None

-- the packet that stands at the OUT endpoint
abbrev pub next_taken : DiskState → Option Action
next_taken b =
    option_and_then
    (λ m. option_and_then (λ p. some_if (nat_lt 0 m) (Takes p m)) (front_packet b.host.kernel.past b.device b.out))
    (front_maximum b.host.kernel.past b.device b.out)

-- whether a packet fits the first of the empty ones
abbrev pub fits_blank : List ℕ → List ℕ → Bool
fits_blank packet [] = false
fits_blank packet (size ∷ sizes) = nat_le (length packet) size

-- the packet that the oldest ticket of the IN endpoint can get
abbrev pub next_sent : DiskState → Option Action
next_sent b =
    option_and_then
    (λ m. some_if (nat_lt 0 m && fits_blank (next_packet b.machine m) b.blanks) (Sends (next_packet b.machine m)))
    (front_maximum b.host.kernel.past b.device b.inp)

-- the steps that fail each open ticket of an endpoint, with 32 (EPIPE)
abbrev pub failures_at : DiskState → ℕ → List KernelStep
failures_at b e =
    replicate (length (open_tickets b.host.kernel.past b.device e)) (step.Fail b.device e 32)

-- and of both endpoints
abbrev pub failures : DiskState → List KernelStep
failures b = failures_at b b.out ++ failures_at b b.inp

-- the steps of an action. A packet that ends what is no wrapper fails the open tickets
abbrev pub steps_taken : DiskState → Option Machine → List KernelStep
steps_taken b (Some k) = step.Ack b.device b.out ∷ []
steps_taken b None = step.Ack b.device b.out ∷ failures b

abbrev pub steps_of : DiskState → Action → List KernelStep
steps_of b (Takes p m) = steps_taken b (taken b.machine p m)
steps_of b (Sends p) = step.Packet b.device b.inp p ∷ []

-- the disk after it
abbrev pub machine_after : DiskState → Action → Machine
machine_after b (Takes p m) = machine_or b.machine (taken b.machine p m)
machine_after b (Sends p) = sent b.machine (length p)

abbrev pub blanks_after : List ℕ → Action → List ℕ
blanks_after blanks (Takes p m) = blanks
blanks_after blanks (Sends p) = drop 1 blanks

abbrev pub acted : DiskState → Action → DiskState
acted b a =
    record b {
      host = all_stepped b.host (steps_of b a);
      machine = machine_after b a;
      blanks = blanks_after b.blanks a;
    }

-- an action for whose steps there is room
abbrev pub with_room : DiskState → Action → Option Action
with_room b a = some_if (nat_le (length (steps_of b a)) (room_of b.host)) a

-- the action of a turn: one that is possible, and for whose steps there is room
abbrev pub possible : DiskState → Option Action
possible b = if listens b.machine.stage then next_taken b else next_sent b

abbrev pub action_of : DiskState → Option Action
action_of b = option_and_then (with_room b) (possible b)

-- a bus after its action, if there is one
abbrev pub acted_by : DiskState → Option Action → DiskState
acted_by b None = b
acted_by b (Some a) = acted b a

-- a turn: an action of the disk, or else the host's own
abbrev pub turned_by : DiskState → Option Action → DiskState
turned_by b None = record b { host = host_turned b.host }
turned_by b (Some a) = acted b a

unfoldable pub disk_turned : DiskState → DiskState
disk_turned b = turned_by b (action_of b)

-- what the turn was
abbrev pub turn_by : DiskState → Option Action → Turn
turn_by b None = host_turn b.host
turn_by b (Some a) = Stepped

unfoldable pub disk_turn : DiskState → Turn
disk_turn b = turn_by b (action_of b)
