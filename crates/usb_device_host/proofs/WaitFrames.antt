-- What the turns and the waits of a host leave as it was.
use Rattle.std.proofs.Common.{ℕ, arith, ◌≡◌, ◌≤◌, ◌+◌, List, [], ◌∷◌, ◌++◌, length, sym, ◌∙◌, ap, append_assoc, append-nil, length-append}
use Rattle.usb_kernel_devices.specs.declared.step.KernelStep.{KernelStep}
use Rattle.usb_device_endpoint.specs.Waits.{waited}
use Rattle.usb_device_endpoint.specs.Blocking.{blocked}
use Rattle.usb_device_host.specs.HostState.{HostState}
use Rattle.usb_device_host.specs.HostBus.{bus_of}
use Rattle.usb_device_host.specs.HostTurns.{host_stepped, host_reaped, host_turned, host_rest}
use Rattle.usb_device_host.specs.HostCalls.{host_discarded, host_idled, host_calls}
use Rattle.usb_device_host.specs.HostAwaits.{host_turned_until, host_awaited}
use Rattle.usb_device_host.specs.HostFrames.{LineGoesOn, HostGoesOn}
use Rattle.usb_device_host.proofs.HostKeeps.{UsesPlaces, KeepsOpen}
use Rattle.usb_device_host.proofs.TurnKeeps.{IsKept, kept-turned, kept-waited, kept-blocked, kept-until, kept-awaited}
use Rattle.usb_device_host.proofs.ClaimFrames.{goes-trans}
use Rattle.usb_device_host.proofs.HostFrames.{uses-none, uses-stepped, uses-reaped, uses-discarded, uses-idled, uses-all, later-trans}

pub line-trans : (a b c : HostState) → LineGoesOn a b → LineGoesOn b c → LineGoesOn a c
line-trans a b c first second =
    record {
      front = first.front ++ second.front;
      steps = first.steps ∙ (ap (λ (ss : List KernelStep). first.front ++ ss) second.steps ∙ sym (append_assoc first.front second.front c.steps));
      spare = omega (arith, first.spare, second.spare, length-append first.front second.front);
      devices = second.devices ∙ first.devices;
      interfaces = goes-trans a.interfaces b.interfaces c.interfaces first.interfaces second.interfaces;
      endpoints = goes-trans a.endpoints b.endpoints c.endpoints first.endpoints second.endpoints;
    }

-- a call that keeps what is open leaves the line
pub line-keeps : (old new : HostState) → KeepsOpen old new → LineGoesOn old new
line-keeps old new keeps =
    record {
      front = [];
      steps = sym keeps.line.steps;
      spare = omega (arith, keeps.line.spare);
      devices = keeps.line.devices;
      interfaces = keeps.interfaces;
      endpoints = keeps.endpoints;
    }

pub went-uses : (old new : HostState) → UsesPlaces 0 old new → HostGoesOn old new
went-uses old new uses =
    record {
      line = record {
        front = [];
        steps = sym uses.steps;
        spare = uses.spare;
        devices = uses.devices;
        interfaces = uses.interfaces;
        endpoints = uses.endpoints;
      };
      later = uses.later;
    }

pub went-nowhere : (h : HostState) → HostGoesOn h h
went-nowhere h = went-uses h h (uses-none h)

pub went-trans : (a b c : HostState) → HostGoesOn a b → HostGoesOn b c → HostGoesOn a c
went-trans a b c first second =
    record { line = line-trans a b c first.line second.line; later = later-trans (bus_of a) (bus_of b) (bus_of c) first.later second.later }

-- the next step of the line
went-stepped : (h : HostState) (s : KernelStep) (ss : List KernelStep) → h.steps ≡ s ∷ ss → HostGoesOn h (host_stepped (record h { steps = ss }) s)
went-stepped h s ss same =
    let uses = uses-stepped (record h { steps = ss }) s in
    record {
      line = record {
        front = s ∷ [];
        steps = same ∙ ap (λ (more : List KernelStep). s ∷ more) (sym uses.steps);
        spare = uses.spare;
        devices = uses.devices;
        interfaces = uses.interfaces;
        endpoints = uses.endpoints;
      };
      later = record { past = uses.later.past; clock = uses.later.clock; owner = uses.later.owner; keys = uses.later.keys };
    }

-- what a host does by itself goes on
went_kept : IsKept HostGoesOn
went_kept =
    record {
      same = went-nowhere;
      more = went-trans;
      step = went-stepped;
      reap = λ h t. went-uses h (host_reaped h t) (uses-reaped h t);
      discard = λ h t. went-uses h (host_discarded h t) (uses-discarded h t);
      idle = λ h until. went-uses h (host_idled h until) (uses-idled h until);
    }

pub went-turned : (h : HostState) → HostGoesOn h (host_turned h)
went-turned h = kept-turned HostGoesOn went_kept h

pub went-waited : (h : HostState) (t timeout : ℕ) → HostGoesOn h (waited host_calls t timeout h)
went-waited h t timeout = kept-waited HostGoesOn went_kept h t timeout

pub went-blocked : (h : HostState) (t timeout : ℕ) → HostGoesOn h (blocked host_calls t timeout h)
went-blocked h t timeout = kept-blocked HostGoesOn went_kept h t timeout

pub went-until : (h : HostState) (deadline : ℕ) → HostGoesOn h (host_turned_until h deadline)
went-until h deadline = kept-until HostGoesOn went_kept h deadline

pub went-awaited : (h : HostState) (t deadline : ℕ) → HostGoesOn h (host_awaited h t deadline)
went-awaited h t deadline = kept-awaited HostGoesOn went_kept h t deadline

-- the rest of the line
pub went-rest : (h : HostState) → HostGoesOn h (host_rest h)
went-rest h =
    let uses = uses-all (record h { steps = [] }) h.steps in
    record {
      line = record {
        front = h.steps;
        steps = sym (ap (λ (ss : List KernelStep). h.steps ++ ss) uses.steps ∙ append-nil h.steps);
        spare = uses.spare;
        devices = uses.devices;
        interfaces = uses.interfaces;
        endpoints = uses.endpoints;
      };
      later = record { past = uses.later.past; clock = uses.later.clock; owner = uses.later.owner; keys = uses.later.keys };
    }

-- the places for the steps that are left stay
pub line-spare : (old new : HostState) → LineGoesOn old new → length old.steps ≤ old.kernel.spare → new.kernel.spare + length old.steps ≡ old.kernel.spare + length new.steps
line-spare old new goes room =
    let all : length old.steps ≡ length goes.front + length new.steps = ap (λ (ss : List KernelStep). length ss) goes.steps ∙ length-append goes.front new.steps in
    omega (arith, goes.spare, all, room)

-- at the end of the line a place is used for each step
pub rest-steps : (h : HostState) → (host_rest h).steps ≡ []
rest-steps h = (uses-all (record h { steps = [] }) h.steps).steps

pub rest-spare : (old new : HostState) → LineGoesOn old new → length old.steps ≤ old.kernel.spare → (host_rest new).kernel.spare + length old.steps ≡ old.kernel.spare
rest-spare old new goes room =
    let none : length (host_rest new).steps ≡ 0 = ap (λ (ss : List KernelStep). length ss) (rest-steps new) in
    omega (arith, line-spare old (host_rest new) (line-trans old new (host_rest new) goes (went-rest new).line) room, none)
