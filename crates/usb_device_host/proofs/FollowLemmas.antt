-- What becomes of tickets while nothing is taken and no endpoint is closed.
use Rattle.std.proofs.Common.{ℕ, zero, suc, arith, ◌≡◌, ◌≢◌, ◌<◌, ◌⊎◌, Bool, true, false, List, [], ◌∷◌, ◌++◌, length, set, slice_get, Option, Some, None, Result, Ok, Err, inl, inr, refl, ◌∙◌, ap}
use Rattle.std.specs.Prelude.{is_some}
use Rattle.std.proofs.lemmas.Bool.{cases_eq, cases_Bool, cond_both}
use Rattle.std.proofs.lemmas.Option.{none-some}
use Rattle.usb_xfer.specs.BufferState.{BufferState}
use Rattle.usb_kernel.specs.declared.event.Event.{Event}
use Rattle.usb_kernel.specs.Value.{KernelState}
use Rattle.usb_kernel_devices.specs.declared.step.KernelStep.{KernelStep}
use Rattle.usb_kernel.specs.declared.submission.Done.{Done}
use Rattle.usb_kernel.specs.declared.submission.Submission.{Submission}
use Rattle.usb_kernel.specs.Extends.{Extends}
use Rattle.usb_kernel.specs.Tickets.{tickets}
use Rattle.usb_kernel.specs.Completions.{completion, reapable}
use Rattle.usb_kernel.specs.Steps.{after_step, after_reap, step_done}
use Rattle.usb_kernel.specs.Submits.{submit_refusal, submit_or_refuse}
use Rattle.usb_kernel.proofs.Extends.{extends-same, extends-event, extends-trans}
use Rattle.usb_kernel.proofs.Places.{slice_get-append_left, slice_get-append_seam, slice_get-set_same, slice_get-set_other}
use Rattle.usb_device_endpoint.specs.declared.route.Route.{Route}
use Rattle.usb_device_endpoint.specs.Routes.{submission_of}
use Rattle.usb_device_endpoint.specs.EndpointState.{EndpointState, route_of}
use Rattle.usb_device_endpoint.specs.Submits.{is_valid, transfer_by, entered}
use Rattle.usb_device_endpoint.specs.Closes.{all_discarded}
use Rattle.usb_device_endpoint.specs.Waits.{waited}
use Rattle.usb_device_endpoint.specs.Blocking.{blocked}
use Rattle.usb_device_ledger.specs.declared.ends.TicketEnd.TheVariants.{Taken, Dropped, Reclaimed}
use Rattle.usb_device_tables.specs.History.{value_at}
use Rattle.usb_device_ledger.specs.declared.opened.OpenDevice.{OpenDevice}
use Rattle.usb_device_ledger.specs.Entries.{HostTicket, HostEndpoint, ClaimedInterface, fresh_interface, Hold, HeldBy, Abandoned, Ended}
use Rattle.usb_device_host.specs.HostState.{HostState}
use Rattle.usb_device_host.specs.Releases.{endpoint_left, settled, owner_gone}
use Rattle.usb_device_host.specs.TicketEnds.{host_ended, host_taken, host_abandoned, reclaimed_if, came}
use Rattle.usb_device_host.specs.HostTurns.{host_stepped, host_reaped, all_stepped, host_rest}
use Rattle.usb_device_host.specs.HostCalls.{host_submitted, host_refused, host_discarded, host_idled, closed_if, host_left, host_calls}
use Rattle.usb_device_host.specs.Finishes.{discarded_below, reaped_below, finished}
use Rattle.usb_device_host.specs.Handles.{handle_gone, handle_closed}
use Rattle.usb_error.specs.ErrorState.{ErrorState}
use Rattle.usb_kernel.specs.Calls.{called}
use Rattle.usb_device_host.specs.InterfaceClaims.{claim_tried, kernel_claimed, claimed_by, claimed_on, host_claimed}
use Rattle.usb_device_host.specs.EndpointOpens.{asked_on, host_asked}
use Rattle.usb_device_host.proofs.CloseLemmas.{ended-past, ended-others, by_set}
use Rattle.usb_device_host.proofs.HostFrames.{uses-stepped, uses-reaped, uses-discarded, uses-idled}
use Rattle.usb_device_host.proofs.TurnKeeps.{IsKept, kept-waited, kept-blocked}
use Rattle.usb_device_host.proofs.KernelFrames.{kernel_claimed-is}

-- a ticket that is held or has its end stays so; one that was given up may be reclaimed
abbrev pub Follows : Option HostTicket → Option HostTicket → Type 0
Follows None now = Unit {0}
Follows (Some (HeldBy hold)) now = now ≡ Some (HeldBy hold)
Follows (Some (Abandoned key)) now = (now ≡ Some (Abandoned key)) ⊎ (now ≡ Some (Ended Reclaimed))
Follows (Some (Ended end)) now = now ≡ Some (Ended end)

-- so does each ticket of a host, and the journal goes on
pub record KeepsTickets (old new : HostState) : Type 0 where
  pub past : Extends old.kernel.past new.kernel.past
  pub tickets : (t : ℕ) → Follows (slice_get old.tickets t) (slice_get new.tickets t)

follows-same : (o : Option HostTicket) → Follows o o
follows-same None = tt
follows-same (Some (HeldBy hold)) = refl
follows-same (Some (Abandoned key)) = inl refl
follows-same (Some (Ended end)) = refl

follows-is : (o now : Option HostTicket) → now ≡ o → Follows o now
follows-is None now is = tt
follows-is (Some (HeldBy hold)) now is = is
follows-is (Some (Abandoned key)) now is = inl is
follows-is (Some (Ended end)) now is = is

follows-then : (a b c : Option HostTicket) → Follows a b → Follows b c → Follows a c
follows-then None b c first second = tt
follows-then (Some (HeldBy hold)) b c first second = rw first at second
follows-then (Some (Ended end)) b c first second = rw first at second
follows-then (Some (Abandoned key)) b c first second = elim first [ inl still ↦ rw still at second | inr gone ↦ inr (rw gone at second) ]

pub on-same : (h : HostState) → KeepsTickets h h
on-same h = record { past = extends-same h.kernel.past; tickets = λ t. follows-same (slice_get h.tickets t) }

pub on-then : (a b c : HostState) → KeepsTickets a b → KeepsTickets b c → KeepsTickets a c
on-then a b c first second =
    record {
      past = extends-trans a.kernel.past b.kernel.past c.kernel.past first.past second.past;
      tickets = λ t. follows-then (slice_get a.tickets t) (slice_get b.tickets t) (slice_get c.tickets t) (first.tickets t) (second.tickets t);
    }

-- where journal and tickets are as they were
pub on-kept : (old new : HostState) → new.kernel.past ≡ old.kernel.past → new.tickets ≡ old.tickets → KeepsTickets old new
on-kept old new past same =
    record {
      past = record { more = []; is = past };
      tickets = λ t. follows-is (slice_get old.tickets t) (slice_get new.tickets t) (ap (λ (l : List HostTicket). slice_get l t) same);
    }

-- a completion comes
within : {X : Type 0} (xs : List X) (t : ℕ) (x : X) → slice_get xs t ≡ Some x → t < length xs
within [] t x at = absurd (none-some x at)
within (y ∷ ys) zero x at = omega arith
within (y ∷ ys) (suc t) x at = let IH = within ys t x at in omega arith

reclaims : (ts : List HostTicket) (u key t : ℕ) → slice_get ts u ≡ Some (Abandoned key) → Follows (slice_get ts t) (slice_get (set ts u (Ended Reclaimed)) t)
reclaims ts u key t at =
    elim (cases_eq t u) [
      | inl same ↦ rw (same, at) (inr (slice_get-set_same ts u (Ended Reclaimed) (within ts u (Abandoned key) at)))
      | inr apart ↦ follows-is (slice_get ts t) (slice_get (set ts u (Ended Reclaimed)) t) (slice_get-set_other ts u t (Ended Reclaimed) apart)
    ]

reclaimed-follows : (h : HostState) (u t : ℕ) (o : Option HostTicket) → slice_get h.tickets u ≡ o → Follows (slice_get h.tickets t) (slice_get (reclaimed_if h u o).tickets t)
unfolding host_ended settled endpoint_left
reclaimed-follows h u t None at = follows-same (slice_get h.tickets t)
reclaimed-follows h u t (Some (HeldBy hold)) at = follows-same (slice_get h.tickets t)
reclaimed-follows h u t (Some (Abandoned key)) at = rw at (reclaims h.tickets u key t at)
reclaimed-follows h u t (Some (Ended end)) at = follows-same (slice_get h.tickets t)

came-follows : (h : HostState) (o : Option Done) (t : ℕ) → Follows (slice_get h.tickets t) (slice_get (came h o).tickets t)
unfolding came
came-follows h None t = follows-same (slice_get h.tickets t)
came-follows h (Some done) t = reclaimed-follows h done.ticket t (slice_get h.tickets done.ticket) refl

pub on-stepped : (h : HostState) (s : KernelStep) → KeepsTickets h (host_stepped h s)
unfolding host_stepped
on-stepped h s =
    let uses = uses-stepped h s in
    record { past = uses.later.past; tickets = λ t. came-follows (record h { kernel = after_step h.kernel s }) (step_done h.kernel.past s) t }

pub on-reaped : (h : HostState) (u : ℕ) → KeepsTickets h (host_reaped h u)
unfolding host_reaped
on-reaped h u =
    let uses = uses-reaped h u in
    record { past = uses.later.past; tickets = λ t. came-follows (record h { kernel = record h.kernel { past = after_reap h.kernel.past u } }) (reapable h.kernel.past u) t }

pub on-discarded : (h : HostState) (u : ℕ) → KeepsTickets h (host_discarded h u)
unfolding host_discarded
on-discarded h u =
    let uses = uses-discarded h u in
    record { past = uses.later.past; tickets = λ t. follows-same (slice_get h.tickets t) }

on-all_stepped : (h : HostState) (ss : List KernelStep) → KeepsTickets h (all_stepped h ss)
on-all_stepped h [] = on-same h
on-all_stepped h (s ∷ ss) = on-then h (host_stepped h s) (all_stepped (host_stepped h s) ss) (on-stepped h s) (on-all_stepped (host_stepped h s) ss)

pub on-rest : (h : HostState) → KeepsTickets h (host_rest h)
on-rest h = let all = on-all_stepped (record h { steps = [] }) h.steps in record { past = all.past; tickets = all.tickets }

-- waits and blocking transfers
on-idled : (h : HostState) (until : ℕ) → KeepsTickets h (host_idled h until)
on-idled h until = record { past = (uses-idled h until).later.past; tickets = (on-same h).tickets }

pub tickets_kept : IsKept KeepsTickets
tickets_kept =
    record {
      same = on-same;
      more = on-then;
      step = λ h s ss is. let one = on-stepped (record h { steps = ss }) s in record { past = one.past; tickets = one.tickets };
      reap = on-reaped;
      discard = on-discarded;
      idle = on-idled;
    }

pub on-waited : (h : HostState) (t timeout : ℕ) → KeepsTickets h (waited host_calls t timeout h)
on-waited h t timeout = kept-waited KeepsTickets tickets_kept h t timeout

pub on-blocked : (h : HostState) (t timeout : ℕ) → KeepsTickets h (blocked host_calls t timeout h)
on-blocked h t timeout = kept-blocked KeepsTickets tickets_kept h t timeout

pub on-all_discarded : (h : HostState) (ts : List ℕ) → KeepsTickets h (all_discarded host_discarded h ts)
on-all_discarded h [] = on-same h
on-all_discarded h (t ∷ ts) =
    let mid = all_discarded host_discarded h ts in on-then h mid (host_discarded mid t) (on-all_discarded h ts) (on-discarded mid t)

-- the end
on-discarded_below : (h : HostState) (n : ℕ) → KeepsTickets h (discarded_below h n)
on-discarded_below h zero = on-same h
on-discarded_below h (suc n) = on-then h (discarded_below h n) (host_discarded (discarded_below h n) n) (on-discarded_below h n) (on-discarded (discarded_below h n) n)

on-reaped_below : (h : HostState) (n : ℕ) → KeepsTickets h (reaped_below h n)
on-reaped_below h zero = on-same h
on-reaped_below h (suc n) = on-then h (reaped_below h n) (host_reaped (reaped_below h n) n) (on-reaped_below h n) (on-reaped (reaped_below h n) n)

pub on-finished : (h : HostState) → KeepsTickets h (finished h)
unfolding finished
on-finished h =
    let n = length (tickets h.kernel.past) in
    on-then h (discarded_below h n) (reaped_below (discarded_below h n) n) (on-discarded_below h n) (on-reaped_below (discarded_below h n) n)

-- endpoints, devices and interfaces
closed_if-on : (h : HostState) (k : ℕ) (o : Option HostEndpoint) → KeepsTickets h (closed_if h k o)
unfolding settled endpoint_left
closed_if-on h k None = on-same h
closed_if-on h k (Some e) = on-kept h (closed_if h k (Some e)) refl refl

pub on-left : (h : HostState) (k : ℕ) → KeepsTickets h (host_left h k)
unfolding host_left
on-left h k = closed_if-on h k (value_at h.endpoints k)

handle_gone-on : (h : HostState) (i : ℕ) (o : Option ClaimedInterface) → KeepsTickets h (handle_gone h i o)
unfolding owner_gone
handle_gone-on h i None = on-same h
handle_gone-on h i (Some c) = on-kept h (handle_gone h i (Some c)) refl refl

pub on-handle_closed : (h : HostState) (i : ℕ) → KeepsTickets h (handle_closed h i)
unfolding handle_closed
on-handle_closed h i = handle_gone-on h i (value_at h.interfaces i)

claimed_by-on : (h g : HostState) (c : ClaimedInterface) (r : Result (Unit {0}) ErrorState) → g.kernel.past ≡ h.kernel.past → g.tickets ≡ h.tickets → KeepsTickets h (claimed_by g c r)
claimed_by-on h g c (Err error) past tickets = on-kept h g past tickets
claimed_by-on h g c (Ok done) past tickets = on-kept h (claimed_by g c (Ok done)) past tickets

claimed_on-on : (h : HostState) (key number : ℕ) (reattach : Bool) (o : Option OpenDevice) → KeepsTickets h (claimed_on h key number reattach o)
claimed_on-on h key number reattach None = on-same h
claimed_on-on h key number reattach (Some o) =
    claimed_by-on h (record h { kernel = kernel_claimed h.kernel o number reattach }) (fresh_interface key o.device number reattach) (claim_tried h o number reattach)
    (ap (λ (k : KernelState). k.past) (kernel_claimed-is h.kernel o number reattach)) refl

pub on-claimed : (h : HostState) (key number : ℕ) (reattach : Bool) → KeepsTickets h (host_claimed h key number reattach)
unfolding host_claimed
on-claimed h key number reattach = claimed_on-on h key number reattach (value_at h.devices key)

asked_on-on : (h : HostState) (key : ℕ) (o : Option OpenDevice) → KeepsTickets h (asked_on h key o)
unfolding called
asked_on-on h key None = on-same h
asked_on-on h key (Some o) = on-kept h (asked_on h key (Some o)) refl refl

pub on-asked : (h : HostState) (key : ℕ) → KeepsTickets h (host_asked h key)
unfolding host_asked
on-asked h key = asked_on-on h key (value_at h.devices key)

-- a submission adds a ticket, which its endpoint holds
pub follows-push : (ts : List HostTicket) (x : HostTicket) (t : ℕ) (o : Option HostTicket) → slice_get ts t ≡ o → Follows o (slice_get (ts ++ x ∷ []) t)
follows-push ts x t None at = tt
follows-push ts x t (Some y) at = follows-is (Some y) (slice_get (ts ++ x ∷ []) t) (slice_get-append_left ts (x ∷ []) t (within ts t y at) ∙ at)

-- one more ticket, which an endpoint holds
pub record Adds (old new : HostState) : Type 0 where
  pub goes : KeepsTickets old new
  pub hold : Hold
  pub last : slice_get new.tickets (length old.tickets) ≡ Some (HeldBy hold)

pub submit_event-on : (past : List Event) (t : ℕ) (s : Submission) (o : Option ℕ) → Extends past (submit_or_refuse t s o ∷ past)
submit_event-on past t s o = extends-event past (submit_or_refuse t s o)

adds-submitted : (h : HostState) (to : Route) (deadline : Option ℕ) (b : BufferState) → Adds h (host_submitted h to deadline (transfer_by to b))
unfolding host_submitted
adds-submitted h to deadline b =
    record {
      goes = record {
        past = submit_event-on h.kernel.past (length (tickets h.kernel.past)) (submission_of to deadline b) (submit_refusal h.kernel.devices h.kernel.armed to.device);
        tickets = λ t. follows-push h.tickets _ t (slice_get h.tickets t) refl;
      };
      hold = _;
      last = slice_get-append_seam h.tickets _;
    }

adds-refused : (h : HostState) (to : Route) (b : BufferState) (errno : ℕ) → Adds h (host_refused h to (transfer_by to b) errno)
unfolding host_refused
adds-refused h to b errno =
    record {
      goes = record {
        past = submit_event-on h.kernel.past (length (tickets h.kernel.past)) (submission_of to None b) (Some errno);
        tickets = λ t. follows-push h.tickets _ t (slice_get h.tickets t) refl;
      };
      hold = _;
      last = slice_get-append_seam h.tickets _;
    }

pub adds-entered : (h : HostState) (e : EndpointState) (deadline : Option ℕ) (b : BufferState) → Adds h (entered host_calls h e deadline b)
adds-entered h e deadline b =
    cond_both (is_valid e b) (host_submitted h (route_of e) deadline (transfer_by (route_of e) b)) (host_refused h (route_of e) (transfer_by (route_of e) b) 22) (Adds h)
    (λ yes_. adds-submitted h (route_of e) deadline b) (λ no_. adds-refused h (route_of e) b 22)

-- a ticket is taken
pub taken-past : (h : HostState) (t : ℕ) → (host_taken h t).kernel.past ≡ h.kernel.past
unfolding host_taken host_ended
taken-past h t = ended-past h t Taken (slice_get h.tickets t)

pub taken-others : (h : HostState) (t u : ℕ) → u ≢ t → slice_get (host_taken h t).tickets u ≡ slice_get h.tickets u
unfolding host_taken host_ended
taken-others h t u apart = ended-others h t u Taken (slice_get h.tickets t) apart

pub taken-here : (h : HostState) (t : ℕ) (hold : Hold) → slice_get h.tickets t ≡ Some (HeldBy hold) → slice_get (host_taken h t).tickets t ≡ Some (Ended Taken)
unfolding host_taken host_ended settled endpoint_left
taken-here h t hold at = rw at (by_set h.tickets t (HeldBy hold) (Ended Taken) at)

-- a ticket is given up: it is dropped where it is reaped
pub data GivenUp (past : List Event) (t : ℕ) (o : Option HostTicket) : Type 0 where
  dropped : is_some (completion past t) ≡ true → o ≡ Some (Ended Dropped) → GivenUp past t o
  waits : (key : ℕ) → is_some (completion past t) ≡ false → o ≡ Some (Abandoned key) → GivenUp past t o

pub abandoned-here : (h : HostState) (t : ℕ) (hold : Hold) → slice_get h.tickets t ≡ Some (HeldBy hold) → GivenUp h.kernel.past t (slice_get (host_abandoned h t).tickets t)
unfolding host_abandoned host_ended settled endpoint_left
abandoned-here h t hold at =
    elim (cases_Bool (is_some (completion h.kernel.past t))) [
      | inl reaped ↦ rw (reaped, at) (dropped reaped (by_set h.tickets t (HeldBy hold) (Ended Dropped) at))
      | inr open_ ↦ rw (open_, at) (waits hold.key open_ (by_set h.tickets t (HeldBy hold) (Abandoned hold.key) at))
    ]
