-- A host as a bus.
use Rattle.std.proofs.Common.{ℕ, zero, suc, arith, ◌≡◌, ◌≤◌, ◌<◌, ◌+◌, ◌*◌, ◌^◌, Bool, true, false, cond, List, [], ◌∷◌, ◌++◌, length, set, slice_get, Option, Some, None, inl, inr, refl, sym, ◌∙◌, ap}
use Rattle.std.specs.Prelude.{is_some, IsSome, IfSome, ◌==◌, option_and_then}
use Rattle.std.specs.Option.{option_map}
use Rattle.std.proofs.Math.Path.{fun_ext}
use Rattle.std.proofs.Math.Dec.{eqb-suc-zero, eqb-zero-suc, eqb-suc-suc}
use Rattle.std.proofs.lemmas.Bool.{cases_Bool}
use Rattle.usb_xfer.specs.BufferState.{BufferState}
use Rattle.usb_xfer.specs.Transfers.{buffer_held, IsFilled}
use Rattle.usb_xfer.specs.declared.transfer.TransferData.{TransferData}
use Rattle.usb_kernel.specs.declared.event.Event.{Event}
use Rattle.usb_kernel.specs.declared.event.Event.TheVariants.{Reap}
use Rattle.usb_kernel_devices.specs.declared.step.KernelStep.{KernelStep}
use Rattle.usb_kernel_devices.specs.declared.step.KernelStep.TheVariants as step
use Rattle.usb_kernel.specs.declared.submission.Done.{Done}
use Rattle.usb_kernel.specs.Tickets.{tickets}
use Rattle.usb_kernel.specs.Completions.{completion, waiting, lowest, reapable}
use Rattle.usb_kernel.specs.Steps.{stepped, clock_stepped, after_step, after_reap, step_done, after_discard}
use Rattle.usb_kernel.specs.Submits.{submit_refusal}
use Rattle.usb_kernel_devices.specs.Errnos.{IsErrno}
use Rattle.usb_device_endpoint.specs.declared.route.Route.{Route}
use Rattle.usb_device_endpoint.specs.declared.route.Turn.{Turn}
use Rattle.usb_device_endpoint.specs.declared.route.Turn.TheVariants.{TimeUp}
use Rattle.usb_device_endpoint.specs.BusState.{BusState, with_owner, without_owner, without_key}
use Rattle.usb_device_endpoint.specs.Later.{IsLater}
use Rattle.usb_kernel.proofs.Extends.{extends-same, extends-if, extends-step}
use Rattle.usb_kernel.proofs.Waiting.{waiting-submit, waiting-refuse, waiting-one_less, waiting-few, lowest-reapable}
use Rattle.usb_kernel.specs.Submits.{submit_or_refuse}
use Rattle.usb_kernel.specs.declared.submission.Submission.{Submission}
use Rattle.usb_device_endpoint.specs.Routes.{submission_of}
use Rattle.usb_device_endpoint.specs.Submitted.{Entered}
use Rattle.usb_device_endpoint.specs.Turns.{Falls}
use Rattle.usb_device_endpoint.specs.Turns.{reap_turn}
use Rattle.usb_device_ledger.specs.declared.ends.TicketEnd.TheVariants.{Dropped, Reclaimed}
use Rattle.usb_device_ledger.specs.Entries.{HostTicket, HostEndpoint, Hold, HeldBy, Abandoned, Ended}
use Rattle.usb_device_host.specs.HostState.{HostState}
use Rattle.usb_device_host.specs.HostBus.{bus_of, owner_at, held_as, key_at, turns_left}
use Rattle.usb_device_host.specs.HostBusFacts.{owner_at-set, bus_of-ended, bus_of-settled, without_owner-none}
use Rattle.usb_device_host.specs.HostCalls.{host_submitted, host_refused, host_left, host_discarded, submitted_with, refused_with}
use Rattle.usb_device_host.specs.Releases.{settled}
use Rattle.usb_device_host.proofs.HostCallLemmas.{open-at}
use Rattle.usb_device_host.specs.HostTurns.{host_turned, host_turn, turned_of, reaped_of, turn_for, host_stepped, host_reaped}
use Rattle.usb_device_host.specs.TicketEnds.{host_abandoned, given_up, reclaimed_if, came}

-- what comes to a host leaves the bus
owner-abandoned : (tickets : List HostTicket) (t key : ℕ) → slice_get tickets t ≡ Some (Abandoned key) → owner_at tickets t ≡ None
owner-abandoned tickets t key at = ap (λ o. option_map (λ (hold : Hold). hold.key) (option_and_then held_as o)) at

bus_of-reclaimed : (h : HostState) (t : ℕ) (o : Option HostTicket) → slice_get h.tickets t ≡ o → bus_of (reclaimed_if h t o) ≡ bus_of h
bus_of-reclaimed h t None at = refl
bus_of-reclaimed h t (Some (HeldBy hold)) at = refl
bus_of-reclaimed h t (Some (Abandoned key)) at = bus_of-ended h t Reclaimed ∙ sym (ap (λ (f : ℕ → Option ℕ). record (bus_of h) { owner = f }) (without_owner-none (owner_at h.tickets) t (owner-abandoned h.tickets t key at)))
bus_of-reclaimed h t (Some (Ended end)) at = refl

pub bus_of-came : (h : HostState) (o : Option Done) → bus_of (came h o) ≡ bus_of h
unfolding came
bus_of-came h None = refl
bus_of-came h (Some done) = bus_of-reclaimed h done.ticket (slice_get h.tickets done.ticket) refl

pub bus_of-stepped : (h : HostState) (s : KernelStep) → bus_of (host_stepped h s) ≡ bus_of (record h { kernel = after_step h.kernel s })
unfolding host_stepped
bus_of-stepped h s = bus_of-came (record h { kernel = after_step h.kernel s }) (step_done h.kernel.past s)

pub bus_of-reaped : (h : HostState) (t : ℕ) → bus_of (host_reaped h t) ≡ bus_of (record h { kernel = record h.kernel { past = after_reap h.kernel.past t } })
unfolding host_reaped
bus_of-reaped h t = bus_of-came (record h { kernel = record h.kernel { past = after_reap h.kernel.past t } }) (reapable h.kernel.past t)

clock-later : (now : ℕ) (s : KernelStep) → now ≤ clock_stepped now s
clock-later now (step.Packet d e b) = omega arith
clock-later now (step.Ack d e) = omega arith
clock-later now (step.Echo d o i) = omega arith
clock-later now (step.Fail d e errno) = omega arith
clock-later now (step.Unplug d) = omega arith
clock-later now (step.Clock to) = omega arith
clock-later now step.Timer = omega arith
clock-later now (step.Reap ticket) = omega arith
clock-later now (step.Refuse d call errno) = omega arith

later-reaped : (h : HostState) (o : Option ℕ) → IsLater (bus_of h) (bus_of (reaped_of h o))
later-reaped h None = record { past = extends-same h.kernel.past; clock = omega arith; owner = refl; keys = refl }
later-reaped h (Some t) = rw (bus_of-reaped h t) (record { past = extends-if (is_some (reapable h.kernel.past t)) h.kernel.past (Reap t); clock = omega arith; owner = refl; keys = refl })

later-stepped : (h : HostState) (s : KernelStep) → IsLater (bus_of h) (bus_of (host_stepped h s))
later-stepped h s = rw (bus_of-stepped h s) (record { past = extends-step h.kernel.devices h.kernel.clock h.kernel.past s; clock = clock-later h.kernel.clock s; owner = refl; keys = refl })

later-turned_of : (h : HostState) (steps : List KernelStep) → IsLater (bus_of h) (bus_of (turned_of h steps))
later-turned_of h [] = later-reaped h (lowest h.kernel.past)
later-turned_of h (s ∷ ss) = let l = later-stepped (record h { steps = ss }) s in record { past = l.past; clock = l.clock; owner = l.owner; keys = l.keys }

pub later-turned : (old new : HostState) → new ≡ host_turned old → IsLater (bus_of old) (bus_of new)
unfolding host_turned
later-turned old new is = rw is (later-turned_of old old.steps)

-- the number of turns falls
falls-reaped : (h : HostState) (o : Option ℕ) → lowest h.kernel.past ≡ o → Falls (reap_turn o) (turns_left h) (turns_left (reaped_of h o))
falls-reaped h None is = omega arith
falls-reaped h (Some t) is =
    let l = waiting-one_less h.kernel.past t (lowest-reapable h.kernel.past t is) in
    let left : turns_left (host_reaped h t) ≡ length h.steps * 2 ^ 64 + length (waiting (after_reap h.kernel.past t)) = ap (λ (b : BusState). b.turns_left) (bus_of-reaped h t) in
    let acts : after_reap h.kernel.past t ≡ Reap t ∷ h.kernel.past = rw (lowest-reapable h.kernel.past t is) refl in
    rw (left, acts) (omega arith)

falls-stepped : (h : HostState) (s : KernelStep) (ss : List KernelStep) → length h.steps ≡ length ss + 1 → length (tickets (host_stepped (record h { steps = ss }) s).kernel.past) < 2 ^ 64 → turns_left (host_stepped (record h { steps = ss }) s) < turns_left h
falls-stepped h s ss len few =
    let w = waiting-few (stepped h.kernel.devices h.kernel.clock h.kernel.past s) in
    let past : (host_stepped (record h { steps = ss }) s).kernel.past ≡ stepped h.kernel.devices h.kernel.clock h.kernel.past s = ap (λ (b : BusState). b.past) (bus_of-stepped (record h { steps = ss }) s) in
    let left : turns_left (host_stepped (record h { steps = ss }) s) ≡ length ss * 2 ^ 64 + length (waiting (stepped h.kernel.devices h.kernel.clock h.kernel.past s)) = ap (λ (b : BusState). b.turns_left) (bus_of-stepped (record h { steps = ss }) s) in
    let few' : length (tickets (stepped h.kernel.devices h.kernel.clock h.kernel.past s)) < 2 ^ 64 = rw past at few in
    rw left (omega arith)

falls-steps : (h : HostState) (steps : List KernelStep) → h.steps ≡ steps → length (tickets (turned_of h steps).kernel.past) < 2 ^ 64 → Falls (turn_for h.kernel.past steps) (turns_left h) (turns_left (turned_of h steps))
falls-steps h [] is few = falls-reaped h (lowest h.kernel.past) refl
falls-steps h (s ∷ ss) is few = falls-stepped h s ss (ap length is ∙ omega arith) few

pub falls-turned : (old new : HostState) (turn : Turn) → new ≡ host_turned old → turn ≡ host_turn old → length (tickets new.kernel.past) < 2 ^ 64 → Falls turn (turns_left old) (turns_left new)
unfolding host_turned host_turn
falls-turned old new turn is gives few =
    let few' = rw is at few in
    rw (is, gives) (falls-steps old old.steps refl few')

-- when time is up no ticket waits
end-none : (o : Option ℕ) → reap_turn o ≡ TimeUp → o ≡ None
end-none None is = refl
end-none (Some t) is = absurd (cc)

up-none : (past : List Event) (steps : List KernelStep) → turn_for past steps ≡ TimeUp → lowest past ≡ None
up-none past [] is = end-none (lowest past) is
up-none past (s ∷ ss) is = absurd (cc)

pub time-up : (h : HostState) → host_turn h ≡ TimeUp → lowest h.kernel.past ≡ None
unfolding host_turn
time-up h is = up-none h.kernel.past h.steps is

-- an endpoint that is left
key-set : (endpoints : List (Option HostEndpoint)) (k j : ℕ) (e : HostEndpoint) → e.is_open ≡ false → key_at (set endpoints k (Some e)) j ≡ without_key (key_at endpoints) k j
key-set [] k j e is = elim (k == j) as (λ v. ◌≡◌ {A = Bool} false (cond v false false)) [ true ↦ refl | false ↦ refl ]
key-set (x ∷ xs) zero zero e is = is
key-set (x ∷ xs) zero (suc j) e is = rw (eqb-zero-suc j) refl
key-set (x ∷ xs) (suc k) zero e is = rw (eqb-suc-zero k) refl
key-set (x ∷ xs) (suc k) (suc j) e is = rw (eqb-suc-suc k j) (key-set xs k j e is)

pub state-left : (old new : HostState) (k : ℕ) → key_at old.endpoints k ≡ true → new ≡ host_left old k → bus_of new ≡ record (bus_of old) { keys = without_key (key_at old.endpoints) k }
unfolding host_left
state-left old new k open_ is =
    let w = open-at old.endpoints k open_ in
    let next : HostEndpoint = record w.e { is_open = false } in
    let made : new ≡ settled (record old { endpoints = set old.endpoints k (Some next) }) k = is ∙ rw w.at refl in
    ap bus_of made ∙ bus_of-settled (record old { endpoints = set old.endpoints k (Some next) }) k
    ∙ ap (λ (f : ℕ → Bool). record (bus_of old) { keys = f }) (fun_ext (λ j. key-set old.endpoints k j next refl))

-- a ticket that is given up
given-up-by : (h : HostState) (t : ℕ) (o : Option HostTicket) → slice_get h.tickets t ≡ o → bus_of (given_up h t o) ≡ record (bus_of h) { owner = without_owner (owner_at h.tickets) t }
given-up-by h t None at = ap (λ (f : ℕ → Option ℕ). record (bus_of h) { owner = f }) (without_owner-none (owner_at h.tickets) t (ap (λ o. option_map (λ (hold : Hold). hold.key) (option_and_then held_as o)) at))
given-up-by h t (Some (HeldBy hold)) at = ap (λ (f : ℕ → Option ℕ). record (bus_of h) { owner = f }) (owner_at-set h.tickets t (Abandoned hold.key) refl)
given-up-by h t (Some (Abandoned key)) at = ap (λ (f : ℕ → Option ℕ). record (bus_of h) { owner = f }) (without_owner-none (owner_at h.tickets) t (owner-abandoned h.tickets t key at))
given-up-by h t (Some (Ended end)) at = ap (λ (f : ℕ → Option ℕ). record (bus_of h) { owner = f }) (without_owner-none (owner_at h.tickets) t (ap (λ o. option_map (λ (hold : Hold). hold.key) (option_and_then held_as o)) at))

pub bus_of-abandoned : (h : HostState) (t : ℕ) → bus_of (host_abandoned h t) ≡ record (bus_of h) { owner = without_owner (owner_at h.tickets) t }
unfolding host_abandoned
bus_of-abandoned h t =
    elim (cases_Bool (is_some (completion h.kernel.past t))) [
      | inl yes_ ↦ rw yes_ (bus_of-ended h t Dropped)
      | inr no_ ↦ rw no_ (given-up-by h t (slice_get h.tickets t) refl)
    ]

pub state-abandoned : (old new : HostState) (t : ℕ) → new ≡ host_abandoned old t → bus_of new ≡ record (bus_of old) { owner = without_owner (owner_at old.tickets) t }
state-abandoned old new t is = ap bus_of is ∙ bus_of-abandoned old t

pub state-discarded : (old new : HostState) (t : ℕ) → new ≡ host_discarded old t → bus_of new ≡ record (bus_of old) { past = after_discard old.kernel.past t; turns_left = turns_left new }
unfolding host_discarded
state-discarded old new t is = rw is refl

-- a ticket that is new
owner-append : (tickets : List HostTicket) (hold : Hold) (u : ℕ) → owner_at (tickets ++ HeldBy hold ∷ []) u ≡ with_owner (owner_at tickets) (length tickets) hold.key u
owner-append [] hold zero = refl
owner-append [] hold (suc u) = rw (eqb-zero-suc u) refl
owner-append (x ∷ xs) hold zero = rw (eqb-suc-zero (length xs)) refl
owner-append (x ∷ xs) hold (suc u) = rw (eqb-suc-suc (length xs) u) (owner-append xs hold u)

submitted-some : (h : HostState) (to : Route) (deadline : Option ℕ) (t : TransferData) (b : BufferState) → buffer_held t.held ≡ Some b → host_submitted h to deadline t ≡ submitted_with h to deadline t (Some b)
unfolding host_submitted
submitted-some h to deadline t b some = rw some refl

refused-some : (h : HostState) (to : Route) (t : TransferData) (errno : ℕ) (b : BufferState) → buffer_held t.held ≡ Some b → host_refused h to t errno ≡ refused_with h to t errno (Some b)
unfolding host_refused
refused-some h to t errno b some = rw some refl

owner-new : (old : HostState) (hold : Hold) → length old.tickets ≡ length (tickets old.kernel.past) → owner_at (old.tickets ++ HeldBy hold ∷ []) ≡ with_owner (owner_at old.tickets) (length (tickets old.kernel.past)) hold.key
owner-new old hold count = rw (← count) (fun_ext (owner-append old.tickets hold))

pub submitted-state : (old new : HostState) (to : Route) (deadline : Option ℕ) (t : TransferData) (b : BufferState) → length old.tickets ≡ length (tickets old.kernel.past) → new ≡ host_submitted old to deadline t → buffer_held t.held ≡ Some b → IfSome (submit_refusal old.kernel.devices old.kernel.armed to.device) IsErrno
    → Entered (bus_of old) (bus_of new) to deadline b (submit_refusal old.kernel.devices old.kernel.armed to.device)
submitted-state old new to deadline t b count is some known =
    rw (is ∙ submitted-some old to deadline t b some) (record { past = refl; clock = refl; owner = owner-new old (record { key = to.key; endpoint = t.endpoint; kind = t.kind }) count; keys = refl; errno = known })

pub refused-state : (old new : HostState) (to : Route) (t : TransferData) (errno : ℕ) (b : BufferState) → length old.tickets ≡ length (tickets old.kernel.past) → new ≡ host_refused old to t errno → buffer_held t.held ≡ Some b → IsErrno errno
    → Entered (bus_of old) (bus_of new) to None b (Some errno)
refused-state old new to t errno b count is some known =
    rw (is ∙ refused-some old to t errno b some) (record { past = refl; clock = refl; owner = owner-new old (record { key = to.key; endpoint = t.endpoint; kind = t.kind }) count; keys = refl; errno = known })

-- and no turn more
waiting-entered : (past : List Event) (s : Submission) (refusal : Option ℕ) → waiting (submit_or_refuse (length (tickets past)) s refusal ∷ past) ≡ waiting past
waiting-entered past s None = waiting-submit past (length (tickets past)) s.device s.endpoint s.maximum _ s.buffer.room s.deadline
waiting-entered past s (Some errno) = waiting-refuse past (length (tickets past)) s.device s.endpoint s.maximum _ s.buffer.room errno

pub submitted-left : (old new : HostState) (to : Route) (deadline : Option ℕ) (t : TransferData) (b : BufferState) → new ≡ host_submitted old to deadline t → buffer_held t.held ≡ Some b → turns_left new ≡ turns_left old
submitted-left old new to deadline t b is some =
    let w = waiting-entered old.kernel.past (submission_of to deadline b) (submit_refusal old.kernel.devices old.kernel.armed to.device) in
    rw (is ∙ submitted-some old to deadline t b some) (ap (λ (ts : List ℕ). length old.steps * 2 ^ 64 + length ts) w)

pub refused-left : (old new : HostState) (to : Route) (t : TransferData) (errno : ℕ) (b : BufferState) → new ≡ host_refused old to t errno → buffer_held t.held ≡ Some b → turns_left new ≡ turns_left old
refused-left old new to t errno b is some =
    let w = waiting-entered old.kernel.past (submission_of to None b) (Some errno) in
    rw (is ∙ refused-some old to t errno b some) (ap (λ (ts : List ℕ). length old.steps * 2 ^ 64 + length ts) w)

pub some-buffer : (t : TransferData) → IsFilled t → (b : BufferState) × (buffer_held t.held ≡ Some b)
some-buffer t filled = some-of (buffer_held t.held) filled
  where
    some-of : (o : Option BufferState) → IsSome o → (b : BufferState) × (o ≡ Some b)
    some-of None is = absurd (cc)
    some-of (Some b) is = (b, refl)
