-- The number of tickets over the calls of a host: as many at the host as in the journal.
use Rattle.std.proofs.Common.{ℕ, arith, ◌≡◌, ◌+◌, Bool, List, [], ◌∷◌, length, length-set, length-append, slice_get, Option, Some, None, Result, Ok, Err, refl, ◌∙◌, ap}
use Rattle.std.specs.Prelude.{is_some, max}
use Rattle.std.proofs.lemmas.Bool.{cond_both}
use Rattle.usb_xfer.specs.BufferState.{BufferState}
use Rattle.usb_kernel.specs.declared.event.Event.{Event}
use Rattle.usb_kernel.specs.Value.{KernelState}
use Rattle.usb_kernel_devices.specs.declared.step.KernelStep.{KernelStep}
use Rattle.usb_kernel.specs.declared.submission.Submission.{Submission}
use Rattle.usb_kernel.specs.declared.submission.Done.{Done}
use Rattle.usb_kernel.specs.Tickets.{Ticket, tickets}
use Rattle.usb_kernel.specs.Completions.{completion, reapable}
use Rattle.usb_kernel.specs.Submits.{submit_refusal, submit_or_refuse}
use Rattle.usb_kernel.specs.Steps.{after_step, after_reap, after_discard, step_done}
use Rattle.usb_kernel.proofs.Completions.{tickets-reap, tickets-discard, tickets-step, tickets-turned}
use Rattle.usb_device_endpoint.specs.declared.route.Route.{Route}
use Rattle.usb_device_endpoint.specs.Routes.{submission_of}
use Rattle.usb_device_endpoint.specs.EndpointState.{EndpointState, route_of}
use Rattle.usb_device_endpoint.specs.Submits.{is_valid, transfer_by, entered}
use Rattle.usb_device_endpoint.specs.Closes.{all_discarded, all_abandoned, after_close}
use Rattle.usb_device_endpoint.specs.Waits.{waited}
use Rattle.usb_device_endpoint.specs.Blocking.{blocked}
use Rattle.usb_device_ledger.specs.declared.ends.TicketEnd.{TicketEnd}
use Rattle.usb_device_ledger.specs.declared.ends.TicketEnd.TheVariants.{Taken, Dropped, Reclaimed}
use Rattle.usb_device_tables.specs.History.{value_at}
use Rattle.usb_device_ledger.specs.declared.opened.OpenDevice.{OpenDevice}
use Rattle.usb_device_ledger.specs.Entries.{HostTicket, HostEndpoint, ClaimedInterface, fresh_interface, HeldBy, Abandoned, Ended}
use Rattle.usb_device_host.specs.HostState.{HostState}
use Rattle.usb_device_host.specs.Releases.{endpoint_left, settled, owner_gone}
use Rattle.usb_device_host.specs.TicketEnds.{ended_as, host_ended, host_taken, given_up, host_abandoned, reclaimed_if, came}
use Rattle.usb_device_host.specs.HostTurns.{with_past, host_stepped, host_reaped, all_stepped, host_rest}
use Rattle.usb_device_host.specs.HostCalls.{host_submitted, host_refused, host_discarded, host_idled, closed_if, host_left, host_calls}
use Rattle.usb_device_host.specs.Handles.{handle_gone, handle_closed}
use Rattle.usb_error.specs.ErrorState.{ErrorState}
use Rattle.usb_kernel.specs.Calls.{called}
use Rattle.usb_device_host.specs.InterfaceClaims.{claim_tried, kernel_claimed, claimed_by, claimed_on, host_claimed}
use Rattle.usb_device_host.specs.EndpointOpens.{asked_on, host_asked}
use Rattle.usb_device_host.proofs.KernelFrames.{kernel_claimed-is}
use Rattle.usb_device_host.proofs.TurnKeeps.{IsKept, kept-waited, kept-blocked}

-- no ticket was added
pub record KeepsCount (old new : HostState) : Type 0 where
  pub count : length new.tickets ≡ length old.tickets
  pub past : length (tickets new.kernel.past) ≡ length (tickets old.kernel.past)

-- one ticket was added
pub record CountsOneMore (old new : HostState) : Type 0 where
  pub count : length new.tickets ≡ length old.tickets + 1
  pub past : length (tickets new.kernel.past) ≡ length (tickets old.kernel.past) + 1

pub count-same : (h : HostState) → KeepsCount h h
count-same h = record { count = refl; past = refl }

pub count-trans : (a b c : HostState) → KeepsCount a b → KeepsCount b c → KeepsCount a c
count-trans a b c first second = record { count = second.count ∙ first.count; past = second.past ∙ first.past }

-- tickets that end
ended_as-count : (h : HostState) (t : ℕ) (end : TicketEnd) (o : Option HostTicket) → KeepsCount h (ended_as h t end o)
unfolding settled endpoint_left
ended_as-count h t end None = count-same h
ended_as-count h t end (Some (HeldBy hold)) = record { count = length-set h.tickets t (Ended end); past = refl }
ended_as-count h t end (Some (Abandoned key)) = record { count = length-set h.tickets t (Ended end); past = refl }
ended_as-count h t end (Some (Ended before)) = count-same h

ended-count : (h : HostState) (t : ℕ) (end : TicketEnd) → KeepsCount h (host_ended h t end)
unfolding host_ended
ended-count h t end = ended_as-count h t end (slice_get h.tickets t)

pub taken-count : (h : HostState) (t : ℕ) → KeepsCount h (host_taken h t)
unfolding host_taken
taken-count h t = ended-count h t Taken

given_up-count : (h : HostState) (t : ℕ) (o : Option HostTicket) → KeepsCount h (given_up h t o)
given_up-count h t None = count-same h
given_up-count h t (Some (HeldBy hold)) = record { count = length-set h.tickets t (Abandoned hold.key); past = refl }
given_up-count h t (Some (Abandoned key)) = count-same h
given_up-count h t (Some (Ended end)) = count-same h

pub abandoned-count : (h : HostState) (t : ℕ) → KeepsCount h (host_abandoned h t)
unfolding host_abandoned
abandoned-count h t =
    cond_both (is_some (completion h.kernel.past t)) (host_ended h t Dropped) (given_up h t (slice_get h.tickets t)) (KeepsCount h)
    (λ yes_. ended-count h t Dropped) (λ no_. given_up-count h t (slice_get h.tickets t))

-- completions that come, steps, reaps and discards
reclaimed-count : (h : HostState) (t : ℕ) (o : Option HostTicket) → KeepsCount h (reclaimed_if h t o)
reclaimed-count h t None = count-same h
reclaimed-count h t (Some (HeldBy hold)) = count-same h
reclaimed-count h t (Some (Abandoned key)) = ended-count h t Reclaimed
reclaimed-count h t (Some (Ended end)) = count-same h

came-count : (h : HostState) (o : Option Done) → KeepsCount h (came h o)
unfolding came
came-count h None = count-same h
came-count h (Some done) = reclaimed-count h done.ticket (slice_get h.tickets done.ticket)

with_past-count : (h : HostState) (past : List Event) → tickets past ≡ tickets h.kernel.past → KeepsCount h (with_past h past)
with_past-count h past same = record { count = refl; past = ap (λ (ts : List Ticket). length ts) same }

pub stepped-count : (h : HostState) (s : KernelStep) → KeepsCount h (host_stepped h s)
unfolding host_stepped
stepped-count h s =
    let mid = record h { kernel = after_step h.kernel s } in
    count-trans h mid (came mid (step_done h.kernel.past s))
    (record { count = refl; past = ap (λ (ts : List Ticket). length ts) (tickets-step h.kernel.devices h.kernel.clock h.kernel.past s) })
    (came-count mid (step_done h.kernel.past s))

pub reaped-count : (h : HostState) (t : ℕ) → KeepsCount h (host_reaped h t)
unfolding host_reaped
reaped-count h t =
    let mid = with_past h (after_reap h.kernel.past t) in
    count-trans h mid (came mid (reapable h.kernel.past t)) (with_past-count h (after_reap h.kernel.past t) (tickets-reap h.kernel.past t)) (came-count mid (reapable h.kernel.past t))

pub discarded-count : (h : HostState) (t : ℕ) → KeepsCount h (host_discarded h t)
unfolding host_discarded
discarded-count h t = with_past-count h (after_discard h.kernel.past t) (tickets-discard h.kernel.past t)

all_stepped-count : (h : HostState) (ss : List KernelStep) → KeepsCount h (all_stepped h ss)
all_stepped-count h [] = count-same h
all_stepped-count h (s ∷ ss) = count-trans h (host_stepped h s) (all_stepped (host_stepped h s) ss) (stepped-count h s) (all_stepped-count (host_stepped h s) ss)

pub rest-count : (h : HostState) → KeepsCount h (host_rest h)
rest-count h = let all = all_stepped-count (record h { steps = [] }) h.steps in record { count = all.count; past = all.past }

-- waits and blocking transfers
idled-count : (h : HostState) (until : ℕ) → KeepsCount h (host_idled h until)
idled-count h until = record { count = refl; past = ap (λ (ts : List Ticket). length ts) (tickets-turned (max h.kernel.clock until) h.kernel.past) }

pub count_kept : IsKept KeepsCount
count_kept =
    record {
      same = count-same;
      more = count-trans;
      step = λ h s ss is. let one = stepped-count (record h { steps = ss }) s in record { count = one.count; past = one.past };
      reap = reaped-count;
      discard = discarded-count;
      idle = idled-count;
    }

pub waited-count : (h : HostState) (t timeout : ℕ) → KeepsCount h (waited host_calls t timeout h)
waited-count h t timeout = kept-waited KeepsCount count_kept h t timeout

pub blocked-count : (h : HostState) (t timeout : ℕ) → KeepsCount h (blocked host_calls t timeout h)
blocked-count h t timeout = kept-blocked KeepsCount count_kept h t timeout

-- the discards of a queue, and the close of an endpoint
pub all_discarded-count : (h : HostState) (ts : List ℕ) → KeepsCount h (all_discarded host_discarded h ts)
all_discarded-count h [] = count-same h
all_discarded-count h (t ∷ ts) =
    let mid = all_discarded host_discarded h ts in count-trans h mid (host_discarded mid t) (all_discarded-count h ts) (discarded-count mid t)

all_abandoned-count : (h : HostState) (ts : List ℕ) → KeepsCount h (all_abandoned host_abandoned h ts)
all_abandoned-count h [] = count-same h
all_abandoned-count h (t ∷ ts) =
    count-trans h (host_abandoned h t) (all_abandoned host_abandoned (host_abandoned h t) ts) (abandoned-count h t) (all_abandoned-count (host_abandoned h t) ts)

closed_if-count : (h : HostState) (k : ℕ) (o : Option HostEndpoint) → KeepsCount h (closed_if h k o)
unfolding settled endpoint_left
closed_if-count h k None = count-same h
closed_if-count h k (Some e) = record { count = refl; past = refl }

pub left-count : (h : HostState) (k : ℕ) → KeepsCount h (host_left h k)
unfolding host_left
left-count h k = closed_if-count h k (value_at h.endpoints k)

pub closed-count : (h : HostState) (e : EndpointState) → KeepsCount h (after_close host_calls h e)
closed-count h e =
    let first = all_discarded host_discarded h e.pending in
    let second = all_abandoned host_abandoned first e.pending in
    count-trans h first (host_left second e.key) (all_discarded-count h e.pending)
    (count-trans first second (host_left second e.key) (all_abandoned-count first e.pending) (left-count second e.key))

-- devices and interfaces
handle_gone-count : (h : HostState) (i : ℕ) (o : Option ClaimedInterface) → KeepsCount h (handle_gone h i o)
unfolding owner_gone
handle_gone-count h i None = count-same h
handle_gone-count h i (Some c) = record { count = refl; past = refl }

pub handle_closed-count : (h : HostState) (i : ℕ) → KeepsCount h (handle_closed h i)
unfolding handle_closed
handle_closed-count h i = handle_gone-count h i (value_at h.interfaces i)

claimed_by-count : (h g : HostState) (c : ClaimedInterface) (r : Result (Unit {0}) ErrorState) → KeepsCount h g → KeepsCount h (claimed_by g c r)
claimed_by-count h g c (Err error) keeps = keeps
claimed_by-count h g c (Ok done) keeps = record { count = keeps.count; past = keeps.past }

claimed_on-count : (h : HostState) (key number : ℕ) (reattach : Bool) (o : Option OpenDevice) → KeepsCount h (claimed_on h key number reattach o)
claimed_on-count h key number reattach None = count-same h
claimed_on-count h key number reattach (Some o) =
    claimed_by-count h (record h { kernel = kernel_claimed h.kernel o number reattach }) (fresh_interface key o.device number reattach) (claim_tried h o number reattach)
    (record { count = refl; past = ap (λ (k : KernelState). length (tickets k.past)) (kernel_claimed-is h.kernel o number reattach) })

pub claimed-count : (h : HostState) (key number : ℕ) (reattach : Bool) → KeepsCount h (host_claimed h key number reattach)
unfolding host_claimed
claimed-count h key number reattach = claimed_on-count h key number reattach (value_at h.devices key)

asked_on-count : (h : HostState) (key : ℕ) (o : Option OpenDevice) → KeepsCount h (asked_on h key o)
unfolding called
asked_on-count h key None = count-same h
asked_on-count h key (Some o) = record { count = refl; past = refl }

pub asked-count : (h : HostState) (key : ℕ) → KeepsCount h (host_asked h key)
unfolding host_asked
asked-count h key = asked_on-count h key (value_at h.devices key)

-- a submission adds a ticket, refused or not
pub submit_event-count : (past : List Event) (t : ℕ) (s : Submission) (o : Option ℕ) → length (tickets (submit_or_refuse t s o ∷ past)) ≡ length (tickets past) + 1
submit_event-count past t s None = omega (arith, length-append {A = Ticket})
submit_event-count past t s (Some errno) = omega (arith, length-append {A = Ticket})

submitted-count : (h : HostState) (to : Route) (deadline : Option ℕ) (b : BufferState) → CountsOneMore h (host_submitted h to deadline (transfer_by to b))
unfolding host_submitted
submitted-count h to deadline b =
    record {
      count = length-append h.tickets _ ∙ refl;
      past = submit_event-count h.kernel.past (length (tickets h.kernel.past)) (submission_of to deadline b) (submit_refusal h.kernel.devices h.kernel.armed to.device);
    }

refused-count : (h : HostState) (to : Route) (b : BufferState) (errno : ℕ) → CountsOneMore h (host_refused h to (transfer_by to b) errno)
unfolding host_refused
refused-count h to b errno =
    record {
      count = length-append h.tickets _ ∙ refl;
      past = submit_event-count h.kernel.past (length (tickets h.kernel.past)) (submission_of to None b) (Some errno);
    }

pub entered-count : (h : HostState) (e : EndpointState) (deadline : Option ℕ) (b : BufferState) → CountsOneMore h (entered host_calls h e deadline b)
entered-count h e deadline b =
    cond_both (is_valid e b) (host_submitted h (route_of e) deadline (transfer_by (route_of e) b)) (host_refused h (route_of e) (transfer_by (route_of e) b) 22) (CountsOneMore h)
    (λ yes_. submitted-count h (route_of e) deadline b) (λ no_. refused-count h (route_of e) b 22)
