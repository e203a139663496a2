-- What the calls of a host leave as it was.
use Rattle.std.proofs.Common.{ℕ, zero, suc, arith, ◌≡◌, ◌≢◌, ◌≤◌, List, [], ◌∷◌, length, set, slice_get, Option, Some, None, refl, sym, ◌∙◌, ap}
use Rattle.std.specs.Prelude.{is_some}
use Rattle.std.specs.Option.{option_map}
use Rattle.std.proofs.Math.Path.{fun_ext}
use Rattle.std.proofs.lemmas.Option.{same_Some}
use Rattle.usb_kernel.specs.declared.event.Event.{Event}
use Rattle.usb_kernel.specs.declared.event.Event.TheVariants.{Discard, Reap}
use Rattle.usb_kernel_devices.specs.declared.step.KernelStep.{KernelStep}
use Rattle.usb_kernel_devices.specs.declared.step.KernelStep.TheVariants as step
use Rattle.usb_kernel.specs.declared.submission.Done.{Done}
use Rattle.usb_kernel.specs.Extends as journal
use Rattle.usb_kernel.specs.Completions.{reapable, lowest}
use Rattle.std.specs.Prelude.{max}
use Rattle.usb_kernel.specs.Timers.{timer_turned}
use Rattle.usb_kernel.specs.Steps.{after_step, after_reap, after_discard, is_unfinished, step_done, clock_stepped, stepped}
use Rattle.usb_kernel.proofs.Extends.{extends-turned, extends-same, extends-if, extends-step, extends-trans}
use Rattle.usb_device_endpoint.specs.BusState.{BusState}
use Rattle.usb_device_endpoint.specs.Later.{Extends, IsLater}
use Rattle.usb_device_endpoint.specs.Turns.{reap_turn}
use Rattle.usb_device_ledger.specs.declared.ends.TicketEnd.{TicketEnd}
use Rattle.usb_device_ledger.specs.declared.ends.TicketEnd.TheVariants.{Reclaimed}
use Rattle.usb_device_ledger.specs.Entries.{HostTicket, Hold, HeldBy, Abandoned, Ended}
use Rattle.usb_device_host.specs.HostState.{HostState}
use Rattle.usb_device_host.specs.Releases.{endpoint_left, settled}
use Rattle.usb_device_host.specs.TicketEnds.{ended_as, host_ended, reclaimed_if, came}
use Rattle.usb_device_endpoint.specs.declared.route.Turn.TheVariants.{TimeUp}
use Rattle.usb_device_host.specs.HostTurns.{with_past, host_stepped, host_reaped, all_stepped, turn_for, reaped_of, turned_of, host_turn, host_turned}
use Rattle.usb_device_host.specs.HostCalls.{host_discarded, host_timed, host_idled}
use Rattle.usb_device_host.specs.HostBus.{held_as, owner_at, key_at, bus_of}
use Rattle.usb_device_host.specs.HostFrames.{ClaimsGoOn, EndpointsGoOn}
use Rattle.usb_device_host.specs.HostBusFacts.{key-left}
use Rattle.usb_device_host.proofs.HostKeeps.{UsesPlaces}
use Rattle.usb_device_host.proofs.ClaimFrames.{goes-same, goes-refl, goes-trans, goes-of, goes-left}

-- the end of a ticket changes tickets, claimed interfaces, endpoints, devices of the kernel and what is armed there
pub ended_as-is : (h : HostState) (t : ℕ) (end : TicketEnd) (o : Option HostTicket) → ended_as h t end o ≡ record h { kernel = record h.kernel { devices = (ended_as h t end o).kernel.devices; armed = (ended_as h t end o).kernel.armed }; interfaces = (ended_as h t end o).interfaces; endpoints = (ended_as h t end o).endpoints; tickets = (ended_as h t end o).tickets }
unfolding settled endpoint_left
ended_as-is h t end None = refl
ended_as-is h t end (Some (HeldBy hold)) = refl
ended_as-is h t end (Some (Abandoned key)) = refl
ended_as-is h t end (Some (Ended before)) = refl

reclaimed_if-is : (h : HostState) (t : ℕ) (o : Option HostTicket) → reclaimed_if h t o ≡ record h { kernel = record h.kernel { devices = (reclaimed_if h t o).kernel.devices; armed = (reclaimed_if h t o).kernel.armed }; interfaces = (reclaimed_if h t o).interfaces; endpoints = (reclaimed_if h t o).endpoints; tickets = (reclaimed_if h t o).tickets }
unfolding host_ended
reclaimed_if-is h t None = refl
reclaimed_if-is h t (Some (HeldBy hold)) = refl
reclaimed_if-is h t (Some (Abandoned key)) = ended_as-is h t Reclaimed (slice_get h.tickets t)
reclaimed_if-is h t (Some (Ended end)) = refl

pub came-is : (h : HostState) (o : Option Done) → came h o ≡ record h { kernel = record h.kernel { devices = (came h o).kernel.devices; armed = (came h o).kernel.armed }; interfaces = (came h o).interfaces; endpoints = (came h o).endpoints; tickets = (came h o).tickets }
unfolding came
came-is h None = refl
came-is h (Some done) = reclaimed_if-is h done.ticket (slice_get h.tickets done.ticket)

-- claimed interfaces and endpoints go on, and the same keys are open
pub record OpenGoesOn (old new : HostState) : Type 0 where
  pub interfaces : ClaimsGoOn old.interfaces new.interfaces
  pub endpoints : EndpointsGoOn old.endpoints new.endpoints
  pub keys : (j : ℕ) → key_at new.endpoints j ≡ key_at old.endpoints j

open-stays : (h : HostState) → OpenGoesOn h h
open-stays h = record { interfaces = goes-refl h.interfaces; endpoints = goes-refl h.endpoints; keys = λ j. refl }

open-settled : (h : HostState) (tickets : List HostTicket) (k : ℕ) → OpenGoesOn h (settled (record h { tickets = tickets }) k)
unfolding settled endpoint_left
open-settled h tickets k =
    record {
      interfaces = goes-of h.interfaces tickets h.endpoints k;
      endpoints = goes-left tickets h.endpoints k;
      keys = λ j. key-left tickets h.endpoints k j;
    }

pub ended_as-goes : (h : HostState) (t : ℕ) (end : TicketEnd) (o : Option HostTicket) → OpenGoesOn h (ended_as h t end o)
ended_as-goes h t end None = open-stays h
ended_as-goes h t end (Some (HeldBy hold)) = open-settled h (set h.tickets t (Ended end)) hold.key
ended_as-goes h t end (Some (Abandoned key)) = open-settled h (set h.tickets t (Ended end)) key
ended_as-goes h t end (Some (Ended before)) = open-stays h

reclaimed_if-goes : (h : HostState) (t : ℕ) (o : Option HostTicket) → OpenGoesOn h (reclaimed_if h t o)
unfolding host_ended
reclaimed_if-goes h t None = open-stays h
reclaimed_if-goes h t (Some (HeldBy hold)) = open-stays h
reclaimed_if-goes h t (Some (Abandoned key)) = ended_as-goes h t Reclaimed (slice_get h.tickets t)
reclaimed_if-goes h t (Some (Ended end)) = open-stays h

pub came-goes : (h : HostState) (o : Option Done) → OpenGoesOn h (came h o)
unfolding came
came-goes h None = open-stays h
came-goes h (Some done) = reclaimed_if-goes h done.ticket (slice_get h.tickets done.ticket)

-- owners after a write of a ticket
pub owner-set : (ts : List HostTicket) (t u : ℕ) (old new : HostTicket) → slice_get ts t ≡ Some old → held_as new ≡ held_as old → owner_at (set ts t new) u ≡ owner_at ts u
owner-set [] t u old new at same = refl
owner-set (x ∷ xs) zero zero old new at same = ap (option_map (λ (hold : Hold). hold.key)) (same ∙ ap held_as (sym (same_Some x old at)))
owner-set (x ∷ xs) zero (suc u) old new at same = refl
owner-set (x ∷ xs) (suc t) zero old new at same = refl
owner-set (x ∷ xs) (suc t) (suc u) old new at same = owner-set xs t u old new at same

pub owner-set_other : (ts : List HostTicket) (t u : ℕ) (new : HostTicket) → t ≢ u → owner_at (set ts t new) u ≡ owner_at ts u
owner-set_other [] t u new ne = refl
owner-set_other (x ∷ xs) zero zero new ne = absurd (ne refl)
owner-set_other (x ∷ xs) zero (suc u) new ne = refl
owner-set_other (x ∷ xs) (suc t) zero new ne = refl
owner-set_other (x ∷ xs) (suc t) (suc u) new ne = owner-set_other xs t u new (λ e. ne (ap suc e))

-- a ticket that was given up is nobody's, and stays so when it is reclaimed
reclaimed-owner : (h : HostState) (t : ℕ) (o : Option HostTicket) (u : ℕ) → slice_get h.tickets t ≡ o → owner_at (reclaimed_if h t o).tickets u ≡ owner_at h.tickets u
unfolding host_ended settled endpoint_left
reclaimed-owner h t None u at = refl
reclaimed-owner h t (Some (HeldBy hold)) u at = refl
reclaimed-owner h t (Some (Abandoned key)) u at = ap (λ (o : Option HostTicket). owner_at (ended_as h t Reclaimed o).tickets u) at ∙ owner-set h.tickets t u (Abandoned key) (Ended Reclaimed) at refl
reclaimed-owner h t (Some (Ended end)) u at = refl

came-owner : (h : HostState) (o : Option Done) (u : ℕ) → owner_at (came h o).tickets u ≡ owner_at h.tickets u
unfolding came
came-owner h None u = refl
came-owner h (Some done) u = reclaimed-owner h done.ticket (slice_get h.tickets done.ticket) u refl

-- what came after changes of the kernel
uses-came : (n : ℕ) (old new : HostState) (o : Option Done) → UsesPlaces n old new → UsesPlaces n old (came new o)
uses-came n old new o uses =
    let is = came-is new o in
    let clock : (came new o).kernel.clock ≡ new.kernel.clock = ap (λ (h : HostState). h.kernel.clock) is in
    let before : old.kernel.clock ≤ new.kernel.clock = uses.later.clock in
    record {
      steps = ap (λ (h : HostState). h.steps) is ∙ uses.steps;
      spare = ap (λ (h : HostState). h.kernel.spare) is ∙ uses.spare;
      devices = ap (λ (h : HostState). h.devices) is ∙ uses.devices;
      interfaces = goes-trans old.interfaces new.interfaces (came new o).interfaces uses.interfaces (came-goes new o).interfaces;
      endpoints = goes-trans old.endpoints new.endpoints (came new o).endpoints uses.endpoints (came-goes new o).endpoints;
      later = record {
        past = record { more = uses.later.past.more; is = ap (λ (h : HostState). h.kernel.past) is ∙ uses.later.past.is };
        clock = omega (arith, clock, before);
        owner = fun_ext (came-owner new o) ∙ uses.later.owner;
        keys = fun_ext (came-goes new o).keys ∙ uses.later.keys;
      };
    }

-- a journal that goes on, at this crate's names
goes-on : (old new : List Event) → journal.Extends old new → Extends old new
goes-on old new on = record { more = on.more; is = on.is }

pub uses-none : (h : HostState) → UsesPlaces 0 h h
uses-none h =
    record {
      steps = refl;
      spare = omega arith;
      devices = refl;
      interfaces = goes-same h.interfaces h.interfaces refl;
      endpoints = goes-refl h.endpoints;
      later = record { past = goes-on h.kernel.past h.kernel.past (extends-same h.kernel.past); clock = omega arith; owner = refl; keys = refl };
    }

clock-later : (now : ℕ) (s : KernelStep) → now ≤ clock_stepped now s
clock-later now (step.Packet d e b) = omega arith
clock-later now (step.Ack d e) = omega arith
clock-later now (step.Echo d o i) = omega arith
clock-later now (step.Fail d e errno) = omega arith
clock-later now (step.Unplug d) = omega arith
clock-later now (step.Clock to) = omega arith
clock-later now step.Timer = omega arith
clock-later now (step.Reap ticket) = omega arith
clock-later now (step.Refuse d call errno) = omega arith

-- a step uses one place
pub uses-stepped : (h : HostState) (s : KernelStep) → UsesPlaces 1 h (host_stepped h s)
unfolding host_stepped
uses-stepped h s =
    uses-came 1 h (record h { kernel = after_step h.kernel s }) (step_done h.kernel.past s)
    (record {
      steps = refl;
      spare = refl;
      devices = refl;
      interfaces = goes-same h.interfaces h.interfaces refl;
      endpoints = goes-refl h.endpoints;
      later = record {
        past = goes-on h.kernel.past (stepped h.kernel.devices h.kernel.clock h.kernel.past s) (extends-step h.kernel.devices h.kernel.clock h.kernel.past s);
        clock = clock-later h.kernel.clock s;
        owner = refl;
        keys = refl;
      };
    })

with_past-uses : (h : HostState) (past : List Event) → journal.Extends h.kernel.past past → UsesPlaces 0 h (with_past h past)
with_past-uses h past on =
    record {
      steps = refl;
      spare = omega arith;
      devices = refl;
      interfaces = goes-same h.interfaces h.interfaces refl;
      endpoints = goes-refl h.endpoints;
      later = record { past = goes-on h.kernel.past past on; clock = omega arith; owner = refl; keys = refl };
    }

pub uses-reaped : (h : HostState) (t : ℕ) → UsesPlaces 0 h (host_reaped h t)
unfolding host_reaped
uses-reaped h t =
    uses-came 0 h (with_past h (after_reap h.kernel.past t)) (reapable h.kernel.past t)
    (with_past-uses h (after_reap h.kernel.past t) (extends-if (is_some (reapable h.kernel.past t)) h.kernel.past (Reap t)))

pub uses-discarded : (h : HostState) (t : ℕ) → UsesPlaces 0 h (host_discarded h t)
unfolding host_discarded
uses-discarded h t = with_past-uses h (after_discard h.kernel.past t) (extends-if (is_unfinished h.kernel.past t) h.kernel.past (Discard t))

pub uses-timed : (h : HostState) → UsesPlaces 0 h (host_timed h)
uses-timed h = with_past-uses h (timer_turned h.kernel.clock h.kernel.past) (extends-turned h.kernel.clock h.kernel.past)

pub uses-idled : (h : HostState) (until : ℕ) → UsesPlaces 0 h (host_idled h until)
uses-idled h until =
    record {
      steps = refl;
      spare = omega arith;
      devices = refl;
      interfaces = goes-same h.interfaces h.interfaces refl;
      endpoints = goes-refl h.endpoints;
      later =
          record {
            past = goes-on h.kernel.past (timer_turned (max h.kernel.clock until) h.kernel.past) (extends-turned (max h.kernel.clock until) h.kernel.past);
            clock = omega arith;
            owner = refl;
            keys = refl;
          };
    }

pub later-trans : (a b c : BusState) → IsLater a b → IsLater b c → IsLater a c
later-trans a b c first second =
    let on : journal.Extends a.past c.past = extends-trans a.past b.past c.past (record { more = first.past.more; is = first.past.is }) (record { more = second.past.more; is = second.past.is }) in
    let early : a.clock ≤ b.clock = first.clock in
    let late : b.clock ≤ c.clock = second.clock in
    record { past = goes-on a.past c.past on; clock = omega (arith, early, late); owner = second.owner ∙ first.owner; keys = second.keys ∙ first.keys }

-- these steps, one after another
pub uses-all : (h : HostState) (ss : List KernelStep) → UsesPlaces (length ss) h (all_stepped h ss)
uses-all h [] = uses-none h
uses-all h (s ∷ ss) =
    let one = uses-stepped h s in
    let rest = uses-all (host_stepped h s) ss in
    record {
      steps = rest.steps ∙ one.steps;
      spare = omega (arith, one.spare, rest.spare);
      devices = rest.devices ∙ one.devices;
      interfaces = goes-trans h.interfaces (host_stepped h s).interfaces (all_stepped (host_stepped h s) ss).interfaces one.interfaces rest.interfaces;
      endpoints = goes-trans h.endpoints (host_stepped h s).endpoints (all_stepped (host_stepped h s) ss).endpoints one.endpoints rest.endpoints;
      later = later-trans (bus_of h) (bus_of (host_stepped h s)) (bus_of (all_stepped (host_stepped h s) ss)) one.later rest.later;
    }

-- a turn at which time is up leaves the host as it was
reaps-still : (h : HostState) (o : Option ℕ) → reap_turn o ≡ TimeUp → reaped_of h o ≡ h
reaps-still h None up = refl
reaps-still h (Some t) up = cc

turns-still : (h : HostState) (ss : List KernelStep) → turn_for h.kernel.past ss ≡ TimeUp → turned_of h ss ≡ h
turns-still h [] up = reaps-still h (lowest h.kernel.past) up
turns-still h (s ∷ ss) up = cc

pub turn-still : (h : HostState) → host_turn h ≡ TimeUp → host_turned h ≡ h
unfolding host_turn host_turned
turn-still h up = turns-still h h.steps up
