-- No call on a host sees how many places its kernel has left: with none left it does the same, and none is left.
use Rattle.std.proofs.Common.{Bool, List, None, Option, Some, [], ap, false, is_some, length, nat_le, refl, set, slice_get, suc, true, zero, ℕ, ◌-◌, ◌∙◌, ◌∷◌, ◌≡◌}
use Rattle.std.specs.Prelude.{if◌then◌else◌}
use Rattle.usb_device_endpoint.specs.Blocking.{blocked, or_next, seconds_from, waited_by_seconds}
use Rattle.usb_device_endpoint.specs.Closes.{after_close, all_abandoned, all_discarded}
use Rattle.usb_device_endpoint.specs.EndpointState.{EndpointState, route_of}
use Rattle.usb_device_endpoint.specs.Submits.{entered, handed_over, is_valid, transfer_by}
use Rattle.usb_device_endpoint.specs.Waits.{is_reaped, time_is_up, unless, waited, waited_from}
use Rattle.usb_device_endpoint.specs.declared.route.Route.{Route}
use Rattle.usb_device_host.specs.Finishes.{discarded_below, finished, reaped_below}
use Rattle.usb_device_host.specs.HostBus.{turns_left}
use Rattle.usb_device_host.specs.HostCalls.{closed_if, host_calls, host_discarded, host_left, host_refused, host_submitted, refused_with, submitted_with}
use Rattle.usb_device_host.specs.HostState.{HostState}
use Rattle.usb_device_host.specs.HostTurns.{all_stepped, host_reaped, host_rest, host_stepped, host_turn, host_turned, reaped_of, turned_of, with_past}
use Rattle.usb_device_host.specs.Releases.{endpoint_left, owner_gone, released, settled, with_ended, without_ended}
use Rattle.usb_device_host.specs.TicketEnds.{came, ended_as, given_up, host_abandoned, host_ended, host_taken, reclaimed_if, with_ticket}
use Rattle.usb_device_ledger.specs.Entries.{Abandoned, Ended, HeldBy, HostEndpoint, HostTicket}
use Rattle.usb_device_ledger.specs.Releases.{claim_ended, claim_of, interface_at, without_claim}
use Rattle.usb_device_ledger.specs.declared.ends.TicketEnd.{TicketEnd}
use Rattle.usb_device_ledger.specs.declared.ends.TicketEnd.TheVariants.{Dropped, Reclaimed, Taken}
use Rattle.usb_device_ledger.specs.declared.owners.EndedClaim.{EndedClaim}
use Rattle.usb_device_tables.specs.History.{value_at}
use Rattle.usb_kernel.specs.Calls.{called}
use Rattle.usb_kernel.specs.Completions.{completion, lowest, reapable}
use Rattle.usb_kernel.specs.Steps.{after_reap, after_step, step_done}
use Rattle.usb_kernel.specs.Tickets.{tickets}
use Rattle.usb_kernel.specs.Value.{KernelState}
use Rattle.usb_kernel.specs.declared.submission.Done.{Done}
use Rattle.usb_kernel_devices.specs.Calls.{attach_rules, with_driver}
use Rattle.usb_kernel_devices.specs.declared.step.KernelStep.{KernelStep}
use Rattle.usb_xfer.specs.BufferState.{BufferState}
use Rattle.usb_xfer.specs.Transfers.{buffer_held}
use Rattle.usb_xfer.specs.declared.transfer.TransferData.{TransferData}
use Rattle.usb_kernel_devices.specs.declared.step.KernelCall.TheVariants as call

-- a kernel and a host with no place left
abbrev pub bare_kernel : KernelState → KernelState
bare_kernel k = record k { spare = 0 }

abbrev pub bare : HostState → HostState
bare h = record h { kernel = bare_kernel h.kernel }

-- what makes of a host with no place left what it makes of the host, with no place left
abbrev pub IsBlind : (HostState → HostState) → Type 0
IsBlind f = (h : HostState) → f (bare h) ≡ bare (f h)

-- an owner goes
reattached-blind : (k : KernelState) (claim : EndedClaim) (again : Bool)
    → (if again then called (bare_kernel k) claim.device call.Attach (attach_rules claim.number) (with_driver claim.number) else bare_kernel k)
    ≡ bare_kernel (if again then called k claim.device call.Attach (attach_rules claim.number) (with_driver claim.number) else k)
unfolding called
reattached-blind k claim true = refl
reattached-blind k claim false = refl

without_ended-blind : (k : KernelState) (o : Option EndedClaim) → without_ended (bare_kernel k) o ≡ bare_kernel (without_ended k o)
without_ended-blind k None = refl
without_ended-blind k (Some claim) = reattached-blind (released k claim) claim claim.reattach

with_ended-blind : (h : HostState) (i : Option ℕ) (o : Option EndedClaim) → with_ended (bare h) i o ≡ bare (with_ended h i o)
with_ended-blind h i o =
    ap (λ (k : KernelState). record h {
      kernel = record h.kernel { devices = k.devices; armed = k.armed; spare = 0 };
      interfaces = without_claim h.interfaces i o;
    })
    (without_ended-blind h.kernel o)

pub owner_gone-blind : (i : ℕ) → IsBlind (λ h. owner_gone h i)
unfolding owner_gone
owner_gone-blind i h = with_ended-blind h (Some i) (claim_ended h.interfaces h.tickets h.endpoints i)

settled-blind : (k : ℕ) → IsBlind (λ h. settled h k)
unfolding settled endpoint_left
settled-blind k h =
    ap (λ g. endpoint_left g k) (with_ended-blind h (interface_at h.endpoints k) (claim_of h.interfaces h.tickets h.endpoints k))

-- tickets end
ended_as-blind : (h : HostState) (t : ℕ) (end : TicketEnd) (o : Option HostTicket) → ended_as (bare h) t end o ≡ bare (ended_as h t end o)
ended_as-blind h t end None = refl
ended_as-blind h t end (Some (HeldBy hold)) = settled-blind hold.key (with_ticket h t (Ended end))
ended_as-blind h t end (Some (Abandoned key)) = settled-blind key (with_ticket h t (Ended end))
ended_as-blind h t end (Some (Ended before)) = refl

host_ended-blind : (t : ℕ) (end : TicketEnd) → IsBlind (λ h. host_ended h t end)
unfolding host_ended
host_ended-blind t end h = ended_as-blind h t end (slice_get h.tickets t)

pub taken-blind : (t : ℕ) → IsBlind (λ h. host_taken h t)
unfolding host_taken
taken-blind t h = host_ended-blind t Taken h

given_up-blind : (h : HostState) (t : ℕ) (o : Option HostTicket) → given_up (bare h) t o ≡ bare (given_up h t o)
given_up-blind h t None = refl
given_up-blind h t (Some (HeldBy hold)) = refl
given_up-blind h t (Some (Abandoned key)) = refl
given_up-blind h t (Some (Ended before)) = refl

abandoned_if-blind : (h : HostState) (t : ℕ) (reaped : Bool)
    → (if reaped then host_ended (bare h) t Dropped else given_up (bare h) t (slice_get h.tickets t))
    ≡ bare (if reaped then host_ended h t Dropped else given_up h t (slice_get h.tickets t))
abandoned_if-blind h t true = host_ended-blind t Dropped h
abandoned_if-blind h t false = given_up-blind h t (slice_get h.tickets t)

pub abandoned-blind : (t : ℕ) → IsBlind (λ h. host_abandoned h t)
unfolding host_abandoned
abandoned-blind t h = abandoned_if-blind h t (is_some (completion h.kernel.past t))

reclaimed_if-blind : (h : HostState) (t : ℕ) (o : Option HostTicket) → reclaimed_if (bare h) t o ≡ bare (reclaimed_if h t o)
reclaimed_if-blind h t None = refl
reclaimed_if-blind h t (Some (HeldBy hold)) = refl
reclaimed_if-blind h t (Some (Abandoned key)) = host_ended-blind t Reclaimed h
reclaimed_if-blind h t (Some (Ended before)) = refl

came-blind : (o : Option Done) → IsBlind (λ h. came h o)
unfolding came
came-blind None h = refl
came-blind (Some done) h = reclaimed_if-blind h done.ticket (slice_get h.tickets done.ticket)

closed_if-blind : (h : HostState) (k : ℕ) (o : Option HostEndpoint) → closed_if (bare h) k o ≡ bare (closed_if h k o)
closed_if-blind h k None = refl
closed_if-blind h k (Some e) = settled-blind k (record h { endpoints = set h.endpoints k (Some (record e { is_open = false })) })

pub left-blind : (k : ℕ) → IsBlind (λ h. host_left h k)
unfolding host_left
left-blind k h = closed_if-blind h k (value_at h.endpoints k)

-- steps, reaps and turns
stepped-blind : (s : KernelStep) → IsBlind (λ h. host_stepped h s)
unfolding host_stepped
stepped-blind s h = came-blind (step_done h.kernel.past s) (record h { kernel = after_step h.kernel s })

reaped-blind : (t : ℕ) → IsBlind (λ h. host_reaped h t)
unfolding host_reaped
reaped-blind t h = came-blind (reapable h.kernel.past t) (with_past h (after_reap h.kernel.past t))

reaped_of-blind : (o : Option ℕ) → IsBlind (λ h. reaped_of h o)
reaped_of-blind None h = refl
reaped_of-blind (Some t) h = reaped-blind t h

turned_of-blind : (ss : List KernelStep) → IsBlind (λ h. turned_of h ss)
turned_of-blind [] h = reaped_of-blind (lowest h.kernel.past) h
turned_of-blind (s ∷ ss) h = stepped-blind s (record h { steps = ss })

pub turned-blind : IsBlind host_turned
unfolding host_turned
turned-blind h = turned_of-blind h.steps h

all_stepped-blind : (ss : List KernelStep) → IsBlind (λ h. all_stepped h ss)
all_stepped-blind [] h = refl
all_stepped-blind (s ∷ ss) h = ap (λ g. all_stepped g ss) (stepped-blind s h) ∙ all_stepped-blind ss (host_stepped h s)

pub rest-blind : IsBlind host_rest
rest-blind h = all_stepped-blind h.steps (record h { steps = [] })

-- submissions
submitted_with-blind : (h : HostState) (to : Route) (deadline : Option ℕ) (t : TransferData) (o : Option BufferState)
    → submitted_with (bare h) to deadline t o ≡ bare (submitted_with h to deadline t o)
submitted_with-blind h to deadline t None = refl
submitted_with-blind h to deadline t (Some b) = refl

submitted-blind : (to : Route) (deadline : Option ℕ) (t : TransferData) → IsBlind (λ h. host_submitted h to deadline t)
unfolding host_submitted
submitted-blind to deadline t h = submitted_with-blind h to deadline t (buffer_held t.held)

refused_with-blind : (h : HostState) (to : Route) (t : TransferData) (errno : ℕ) (o : Option BufferState)
    → refused_with (bare h) to t errno o ≡ bare (refused_with h to t errno o)
refused_with-blind h to t errno None = refl
refused_with-blind h to t errno (Some b) = refl

refused-blind : (to : Route) (t : TransferData) (errno : ℕ) → IsBlind (λ h. host_refused h to t errno)
unfolding host_refused
refused-blind to t errno h = refused_with-blind h to t errno (buffer_held t.held)

handed-blind : (to : Route) (deadline : Option ℕ) (t : TransferData) (valid : Bool) → IsBlind (λ h. handed_over host_calls h to deadline t valid)
handed-blind to deadline t true h = submitted-blind to deadline t h
handed-blind to deadline t false h = refused-blind to t 22 h

pub entered-blind : (e : EndpointState) (deadline : Option ℕ) (b : BufferState) → IsBlind (λ h. entered host_calls h e deadline b)
entered-blind e deadline b h = handed-blind (route_of e) deadline (transfer_by (route_of e) b) (is_valid e b) h

-- what goes on unless all is done
pub unless-blind : (done : Bool) (h : HostState) (next : HostState → HostState) → IsBlind next → unless done (bare h) next ≡ bare (unless done h next)
unless-blind true h next blind = refl
unless-blind false h next blind = blind h

-- waits
discarded-blind : (t : ℕ) → IsBlind (λ h. host_discarded h t)
unfolding host_discarded
discarded-blind t h = refl

waited_from-blind : (t timeout start n : ℕ) → IsBlind (waited_from host_calls t timeout start n)
unfolding host_turn
waited_from-blind t timeout start zero h = refl
waited_from-blind t timeout start (suc n) h =
    unless-blind (is_reaped host_calls t h) h
    (λ s. unless (nat_le timeout (s.kernel.clock - start)) s
    (λ s. unless (time_is_up (host_turn s)) (host_turned s) (waited_from host_calls t timeout start n)))
    (λ h. unless-blind (nat_le timeout (h.kernel.clock - start)) h
    (λ s. unless (time_is_up (host_turn s)) (host_turned s) (waited_from host_calls t timeout start n))
    (λ h. ap (λ g. unless (time_is_up (host_turn h)) g (waited_from host_calls t timeout start n)) (turned-blind h)
    ∙ unless-blind (time_is_up (host_turn h)) (host_turned h) (waited_from host_calls t timeout start n) (waited_from-blind t timeout start n)))

pub waited-blind : (t timeout : ℕ) → IsBlind (waited host_calls t timeout)
unfolding waited
waited-blind t timeout h = waited_from-blind t timeout h.kernel.clock (suc (turns_left h)) h

seconds_from-blind : (t n : ℕ) → IsBlind (seconds_from host_calls t n)
seconds_from-blind t zero h = refl
seconds_from-blind t (suc n) h =
    ap (λ g. or_next host_calls t (seconds_from host_calls t n) g) (waited-blind t 1000000000 h)
    ∙ unless-blind (is_reaped host_calls t (waited host_calls t 1000000000 h)) (waited host_calls t 1000000000 h) (seconds_from host_calls t n)
    (seconds_from-blind t n)

by_seconds-blind : (t : ℕ) → IsBlind (waited_by_seconds host_calls t)
unfolding waited_by_seconds
by_seconds-blind t h = seconds_from-blind t (suc (turns_left h)) h

pub blocked-blind : (t timeout : ℕ) → IsBlind (blocked host_calls t timeout)
blocked-blind t timeout h =
    ap (λ g. or_next host_calls t (λ mid. waited_by_seconds host_calls t (host_discarded mid t)) g) (waited-blind t timeout h)
    ∙ unless-blind (is_reaped host_calls t (waited host_calls t timeout h)) (waited host_calls t timeout h)
    (λ mid. waited_by_seconds host_calls t (host_discarded mid t))
    (λ mid. ap (waited_by_seconds host_calls t) (discarded-blind t mid) ∙ by_seconds-blind t (host_discarded mid t))

-- pending tickets are discarded and given up
pub discards-blind : (ts : List ℕ) → IsBlind (λ h. all_discarded host_discarded h ts)
discards-blind [] h = refl
discards-blind (t ∷ ts) h = ap (λ g. host_discarded g t) (discards-blind ts h) ∙ discarded-blind t (all_discarded host_discarded h ts)

abandons-blind : (ts : List ℕ) → IsBlind (λ h. all_abandoned host_abandoned h ts)
abandons-blind [] h = refl
abandons-blind (t ∷ ts) h = ap (λ g. all_abandoned host_abandoned g ts) (abandoned-blind t h) ∙ abandons-blind ts (host_abandoned h t)

pub close-blind : (e : EndpointState) → IsBlind (λ h. after_close host_calls h e)
close-blind e h =
    let discarded = all_discarded host_discarded h e.pending in
    let abandoned = all_abandoned host_abandoned discarded e.pending in
    ap (λ g. host_left (all_abandoned host_abandoned g e.pending) e.key) (discards-blind e.pending h)
    ∙ (ap (λ g. host_left g e.key) (abandons-blind e.pending discarded) ∙ left-blind e.key abandoned)

-- the end of a session
below-blind : (n : ℕ) → IsBlind (λ h. discarded_below h n)
below-blind zero h = refl
below-blind (suc n) h = ap (λ g. host_discarded g n) (below-blind n h) ∙ discarded-blind n (discarded_below h n)

reaps-blind : (n : ℕ) → IsBlind (λ h. reaped_below h n)
reaps-blind zero h = refl
reaps-blind (suc n) h = ap (λ g. host_reaped g n) (reaps-blind n h) ∙ reaped-blind n (reaped_below h n)

pub finished-blind : IsBlind finished
unfolding finished
finished-blind h =
    let n = length (tickets h.kernel.past) in
    ap (λ g. reaped_below g n) (below-blind n h) ∙ reaps-blind n (discarded_below h n)
