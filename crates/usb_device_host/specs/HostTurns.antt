-- Steps, reaps and turns of a host.
use Rattle.std.specs.Prelude.{ℕ, List, [], ◌∷◌, Option, Some, None}
use Rattle.usb_kernel.specs.declared.event.Event.{Event}
use Rattle.usb_kernel_devices.specs.declared.step.KernelStep.{KernelStep}
use Rattle.usb_kernel.specs.Completions.{reapable, lowest}
use Rattle.usb_kernel.specs.Steps.{after_step, after_reap, step_done}
use Rattle.usb_device_endpoint.specs.declared.route.Turn.{Turn}
use Rattle.usb_device_endpoint.specs.declared.route.Turn.TheVariants.{Stepped}
use Rattle.usb_device_endpoint.specs.Turns.{reap_turn}
use Rattle.usb_device_host.specs.HostState.{HostState}
use Rattle.usb_device_host.specs.TicketEnds.{came}

-- a host whose kernel has another journal
abbrev pub with_past : HostState → List Event → HostState
with_past h past = record h { kernel = record h.kernel { past = past } }

-- a step of the kernel, and what its completion, if it gives one, makes of the host (`came`: TicketEnds.antt)
unfoldable pub host_stepped : HostState → KernelStep → HostState
host_stepped h s = came (record h { kernel = after_step h.kernel s }) (step_done h.kernel.past s)

-- the reap of a ticket
unfoldable pub host_reaped : HostState → ℕ → HostState
host_reaped h t = came (with_past h (after_reap h.kernel.past t)) (reapable h.kernel.past t)

-- the reap of a ticket, if there is one
abbrev pub reaped_of : HostState → Option ℕ → HostState
reaped_of h None = h
reaped_of h (Some t) = host_reaped h t

-- a turn, where these steps are left
abbrev pub turned_of : HostState → List KernelStep → HostState
turned_of h [] = reaped_of h (lowest h.kernel.past)
turned_of h (s ∷ ss) = host_stepped (record h { steps = ss }) s

-- a turn: the next step of the line; with none left, the reap of the lowest ticket that is finished
-- and not reaped; else no turn is left (`TimeUp`), and nothing happens
unfoldable pub host_turned : HostState → HostState
host_turned h = turned_of h h.steps

-- what the turn was (`Turn`: usb_device_endpoint/src/route.rt)
abbrev pub turn_for : List Event → List KernelStep → Turn
turn_for past [] = reap_turn (lowest past)
turn_for past (s ∷ ss) = Stepped

unfoldable pub host_turn : HostState → Turn
host_turn h = turn_for h.kernel.past h.steps

-- these steps, applied in order
abbrev pub all_stepped : HostState → List KernelStep → HostState
all_stepped h [] = h
all_stepped h (s ∷ ss) = all_stepped (host_stepped h s) ss

-- the steps that are left, applied in order
abbrev pub host_rest : HostState → HostState
host_rest h = all_stepped (record h { steps = [] }) h.steps
