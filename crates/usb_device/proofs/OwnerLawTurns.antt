-- The owners of interfaces over steps, reaps and discards.
use Rattle.std.proofs.Common.{ℕ, zero, suc, ◌≡◌, ◌+◌, Bool, true, false, cond, List, [], ◌∷◌, length, set, slice_get, Option, Some, None, refl, ap, ◌∙◌}
use Rattle.std.specs.Prelude.{is_some, ◌&&◌, ◌||◌}
use Rattle.usb_kernel_devices.specs.declared.step.KernelStep.{KernelStep}
use Rattle.usb_kernel.specs.declared.submission.Done.{Done}
use Rattle.usb_kernel.specs.ClaimLaws.{is_claimed}
use Rattle.usb_kernel.specs.Value.{KernelState}
use Rattle.usb_kernel.specs.Tickets.{tickets}
use Rattle.usb_kernel.specs.Completions.{completion, reapable}
use Rattle.usb_kernel.specs.Steps.{after_step, step_done, after_reap}
use Rattle.usb_device_tables.specs.History.{value_at}
use Rattle.usb_device_ledger.specs.declared.ends.TicketEnd.{TicketEnd}
use Rattle.usb_device_ledger.specs.declared.ends.TicketEnd.TheVariants.{Taken, Dropped, Reclaimed}
use Rattle.usb_device_ledger.specs.Entries.{HostTicket, HostEndpoint, Hold, HeldBy, Abandoned, Ended}
use Rattle.usb_device_host.specs.HostState.{HostState}
use Rattle.usb_device_ledger.specs.Owners.{is_ticket_of, lives, is_of, lives_on}
use Rattle.usb_device.specs.OwnerLaws.{KeepsClaims}
use Rattle.usb_device_host.specs.TicketEnds.{with_ticket, ended_as, host_ended, host_taken, given_up, host_abandoned, reclaimed_if, came}
use Rattle.usb_device_host.specs.HostTurns.{with_past, host_stepped, host_reaped, all_stepped, host_rest}
use Rattle.usb_device_host.specs.HostCalls.{host_discarded}
use Rattle.usb_device_host.specs.Finishes.{discarded_below, reaped_below, finished}
use Rattle.usb_device.proofs.OwnerLawLists.{any-put}
use Rattle.usb_device.proofs.OwnerLawKernel.{stepped-claimed}
use Rattle.usb_device.proofs.OwnerLawKept.{claim_at, claims-kept, stays, follow, claimed-refl}
use Rattle.usb_device.proofs.OwnerLawTickets.{with_lists, claim-living, claims-living, living-alike, endpoint-settled, ticket-left, ended-others}

-- another kernel at which the same interfaces are claimed
pub kernel-owned : (h : HostState) (k : KernelState) → ((d n : ℕ) → is_claimed k.devices d n ≡ is_claimed h.kernel.devices d n) → KeepsClaims h (record h { kernel = k })
kernel-owned h k claims = claims-kept h (record h { kernel = k }) (claimed-refl h.interfaces) claims (λ i. refl) (λ live. live)

pub steps-owned : (h : HostState) (steps : List KernelStep) → KeepsClaims h (record h { steps = steps })
steps-owned h steps = claims-kept h (record h { steps = steps }) (claimed-refl h.interfaces) (λ d n. refl) (λ i. refl) (λ live. live)

-- other tickets with which the same endpoints live
pub claim-tickets : (h : HostState) (tickets : List HostTicket) → ((m : ℕ) (e : HostEndpoint) → value_at h.endpoints m ≡ Some e → lives tickets (0 + m, e) ≡ lives h.tickets (0 + m, e)) → (j : ℕ) → claim_at (with_lists h tickets h.endpoints) j ≡ claim_at h j
claim-tickets h tickets alive j =
    claim-living h tickets h.endpoints j
    (living-alike (lives_on tickets j) (lives_on h.tickets j) h.endpoints (λ m e at. ap (λ b. is_of j e.interface && b) (alive m e at)))

-- tickets that end
ended_as-owned : (h : HostState) (t : ℕ) (end : TicketEnd) (o : Option HostTicket) → slice_get h.tickets t ≡ o → KeepsClaims h (ended_as h t end o)
ended_as-owned h t end None at = stays h
ended_as-owned h t end (Some (HeldBy hold)) at = endpoint-settled h (set h.tickets t (Ended end)) h.endpoints hold.key (ticket-left h t hold.key (HeldBy hold) end at (λ j. refl)) (ended-others h t hold.key (HeldBy hold) end at (λ j. refl))
ended_as-owned h t end (Some (Abandoned key)) at = endpoint-settled h (set h.tickets t (Ended end)) h.endpoints key (ticket-left h t key (Abandoned key) end at (λ j. refl)) (ended-others h t key (Abandoned key) end at (λ j. refl))
ended_as-owned h t end (Some (Ended before)) at = stays h

pub ended-owned : (h : HostState) (t : ℕ) (end : TicketEnd) → KeepsClaims h (host_ended h t end)
unfolding host_ended
ended-owned h t end = ended_as-owned h t end (slice_get h.tickets t) refl

pub taken-owned : (h : HostState) (t : ℕ) → KeepsClaims h (host_taken h t)
unfolding host_taken
taken-owned h t = ended-owned h t Taken

-- an endpoint that gives a ticket up lives on
given-owned : (h : HostState) (t : ℕ) (hold : Hold) → slice_get h.tickets t ≡ Some (HeldBy hold) → KeepsClaims h (with_ticket h t (Abandoned hold.key))
given-owned h t hold at =
    let next = set h.tickets t (Abandoned hold.key) in
    let same : (m : ℕ) (e : HostEndpoint) → lives next (m, e) ≡ lives h.tickets (m, e) = λ m e. ap (λ b. e.is_open || b) (any-put (is_ticket_of m) h.tickets t (HeldBy hold) (Abandoned hold.key) at refl) in
    claims-living h next h.endpoints (claim-tickets h next (λ m e here. same (0 + m) e)) (λ live m e here. same m e ∙ live m e here)

given_up-owned : (h : HostState) (t : ℕ) (o : Option HostTicket) → slice_get h.tickets t ≡ o → KeepsClaims h (given_up h t o)
given_up-owned h t None at = stays h
given_up-owned h t (Some (HeldBy hold)) at = given-owned h t hold at
given_up-owned h t (Some (Abandoned key)) at = stays h
given_up-owned h t (Some (Ended end)) at = stays h

abandoned-by : (h : HostState) (t : ℕ) (b : Bool) → KeepsClaims h (cond b (host_ended h t Dropped) (given_up h t (slice_get h.tickets t)))
abandoned-by h t true = ended-owned h t Dropped
abandoned-by h t false = given_up-owned h t (slice_get h.tickets t) refl

pub abandoned-owned : (h : HostState) (t : ℕ) → KeepsClaims h (host_abandoned h t)
unfolding host_abandoned
abandoned-owned h t = abandoned-by h t (is_some (completion h.kernel.past t))

-- completions that come, and steps
reclaimed-owned : (h : HostState) (t : ℕ) (o : Option HostTicket) → KeepsClaims h (reclaimed_if h t o)
reclaimed-owned h t None = stays h
reclaimed-owned h t (Some (HeldBy hold)) = stays h
reclaimed-owned h t (Some (Abandoned key)) = ended-owned h t Reclaimed
reclaimed-owned h t (Some (Ended end)) = stays h

came-owned : (h : HostState) (o : Option Done) → KeepsClaims h (came h o)
unfolding came
came-owned h None = stays h
came-owned h (Some done) = reclaimed-owned h done.ticket (slice_get h.tickets done.ticket)

pub stepped-owned : (h : HostState) (s : KernelStep) → KeepsClaims h (host_stepped h s)
unfolding host_stepped
stepped-owned h s =
    let next = record h { kernel = after_step h.kernel s } in
    follow h next (host_stepped h s) (kernel-owned h (after_step h.kernel s) (stepped-claimed h.kernel.devices s)) (came-owned next (step_done h.kernel.past s))

pub reaped-owned : (h : HostState) (t : ℕ) → KeepsClaims h (host_reaped h t)
unfolding host_reaped
reaped-owned h t =
    let past = after_reap h.kernel.past t in
    follow h (with_past h past) (host_reaped h t) (kernel-owned h (record h.kernel { past = past }) (λ d n. refl)) (came-owned (with_past h past) (reapable h.kernel.past t))

all_stepped-owned : (h : HostState) (steps : List KernelStep) → KeepsClaims h (all_stepped h steps)
all_stepped-owned h [] = stays h
all_stepped-owned h (s ∷ ss) = follow h (host_stepped h s) (all_stepped (host_stepped h s) ss) (stepped-owned h s) (all_stepped-owned (host_stepped h s) ss)

pub rest-owned : (h : HostState) → KeepsClaims h (host_rest h)
rest-owned h =
    let none = record h { steps = [] } in
    follow h none (host_rest h) (steps-owned h []) (all_stepped-owned none h.steps)

-- the end
pub discarded-owned : (h : HostState) (t : ℕ) → KeepsClaims h (host_discarded h t)
unfolding host_discarded
discarded-owned h t = claims-kept h (host_discarded h t) (claimed-refl h.interfaces) (λ d n. refl) (λ i. refl) (λ live. live)

discarded_below-owned : (h : HostState) (n : ℕ) → KeepsClaims h (discarded_below h n)
discarded_below-owned h zero = stays h
discarded_below-owned h (suc n) =
    let before = discarded_below h n in
    follow h before (host_discarded before n) (discarded_below-owned h n) (discarded-owned before n)

reaped_below-owned : (h : HostState) (n : ℕ) → KeepsClaims h (reaped_below h n)
reaped_below-owned h zero = stays h
reaped_below-owned h (suc n) =
    let before = reaped_below h n in
    follow h before (host_reaped before n) (reaped_below-owned h n) (reaped-owned before n)

pub finished-owned : (h : HostState) → KeepsClaims h (finished h)
unfolding finished
finished-owned h =
    let n = length (tickets h.kernel.past) in
    let discarded = discarded_below h n in
    follow h discarded (reaped_below discarded n) (discarded_below-owned h n) (reaped_below-owned discarded n)
