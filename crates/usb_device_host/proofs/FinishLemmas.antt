-- At the end each ticket that no endpoint holds has its end.
use Rattle.std.proofs.Common.{ℕ, zero, suc, arith, ◌≡◌, ◌≢◌, ◌<◌, ◌≤◌, true, List, ◌∷◌, length, set, slice_get, Option, Some, None, inl, inr, refl, sym, ◌∙◌, ap, length-set}
use Rattle.std.specs.Prelude.{is_some, IsSome}
use Rattle.std.proofs.lemmas.Bool.{cases_Bool, cases_eq, eq-eqb, ne_eqb}
use Rattle.std.proofs.lemmas.Option.{none-some, same_Some, slice_get_within}
use Rattle.usb_kernel.specs.declared.event.Event.{Event}
use Rattle.usb_kernel.specs.declared.event.Event.TheVariants.{Reap, Discard}
use Rattle.usb_kernel.specs.declared.submission.Done.{Done}
use Rattle.usb_kernel.specs.Extends.{Extends}
use Rattle.usb_kernel.specs.Tickets.{Ticket, tickets}
use Rattle.usb_kernel.specs.Journal.{fate}
use Rattle.usb_kernel.specs.Completions.{completion, completed, reapable}
use Rattle.usb_kernel.specs.Steps.{after_discard, after_reap, is_unfinished}
use Rattle.usb_kernel.proofs.Completions.{completion-discard, tickets-discard, completion-reap, tickets-reap}
use Rattle.usb_kernel.proofs.Extends.{extends-if, extends-same, extends-trans, status-stays, completion-stays}
use Rattle.usb_kernel.proofs.Waiting.{finished-reapable, discard-finishes}
use Rattle.usb_kernel.proofs.Places.{slice_get-set_same, slice_get-set_other}
use Rattle.usb_device_endpoint.specs.BusState.{BusState}
use Rattle.usb_device_ledger.specs.declared.ends.TicketEnd.TheVariants.{Reclaimed}
use Rattle.usb_device_ledger.specs.Entries.{HostTicket, Hold, HeldBy, Abandoned, Ended}
use Rattle.usb_device_host.specs.HostState.{HostState}
use Rattle.usb_device_ledger.specs.EndedTickets.{end_at}
use Rattle.usb_device_host.specs.HostBus.{owner_at}
use Rattle.usb_device_host.specs.HostTurns.{host_reaped}
use Rattle.usb_device_host.specs.HostCalls.{host_discarded}
use Rattle.usb_device_host.specs.Releases.{endpoint_left, settled}
use Rattle.usb_device_host.specs.TicketEnds.{came, reclaimed_if, host_ended}
use Rattle.usb_device_host.specs.Finishes.{discarded_below, reaped_below, finished, HasCompletions}
use Rattle.usb_device_host.proofs.BusLemmas.{bus_of-reaped}
use Rattle.usb_device_ledger.proofs.LedgerLemmas.{ticket-at}
use Rattle.usb_device_host.proofs.Places.{some-at}
use Rattle.std.proofs.Common.{map}
use Rattle.std.proofs.lemmas.List.{length-map}
use Rattle.usb_kernel.specs.Value.{KernelState}
use Rattle.usb_kernel_devices.specs.declared.step.KernelStep.{KernelStep}
use Rattle.usb_device_ledger.specs.declared.opened.OpenDevice.{OpenDevice}
use Rattle.usb_device_ledger.specs.TicketStates.{TicketState}
use Rattle.usb_device_ledger.specs.TicketStates as slot
use Rattle.usb_device_host.specs.HostFacts.{TicketsAgree, Fits, host_made}
use Rattle.usb_device_ledger.specs.LedgerState.{LedgerState, host_ticket}

pub some-of : {X : Type 0} (o : Option X) → IsSome o → (x : X) × (o ≡ Some x)
some-of None is = absurd (cc)
some-of (Some x) is = (x, refl)

reaped-past : (h : HostState) (t : ℕ) → (host_reaped h t).kernel.past ≡ after_reap h.kernel.past t
reaped-past h t = ap (λ (b : BusState). b.past) (bus_of-reaped h t)

-- the discards finish all
discarded-count : (h : HostState) (k : ℕ) → length (tickets (discarded_below h k).kernel.past) ≡ length (tickets h.kernel.past)
unfolding host_discarded
discarded-count h zero = refl
discarded-count h (suc k) = ap (λ (ts : List Ticket). length ts) (tickets-discard (discarded_below h k).kernel.past k) ∙ discarded-count h k

discarded-finished : (h : HostState) (k t : ℕ) → k ≤ length (tickets h.kernel.past) → t < k → IsSome (fate (discarded_below h k).kernel.past t).status
unfolding host_discarded
discarded-finished h zero t within below = absurd (omega arith)
discarded-finished h (suc k) t within below =
    let past = (discarded_below h k).kernel.past in
    elim (cases_eq t k) [
      | inl same ↦ rw same (discard-finishes past k (omega (arith, discarded-count h k)))
      | inr apart ↦
          let was = some-of (fate past t).status (discarded-finished h k t (omega arith) (omega (arith, apart))) in
          ap is_some (status-stays past (after_discard past k) t was.0 (extends-if (is_unfinished past k) past (Discard k)) was.1)
    ]

-- the reaps reap all that is finished
reaped-count : (g : HostState) (k : ℕ) → length (tickets (reaped_below g k).kernel.past) ≡ length (tickets g.kernel.past)
reaped-count g zero = refl
reaped-count g (suc k) = ap (λ past. length (tickets past)) (reaped-past (reaped_below g k) k) ∙ ap (λ (ts : List Ticket). length ts) (tickets-reap (reaped_below g k).kernel.past k) ∙ reaped-count g k

extends-reap : (past : List Event) (k : ℕ) → Extends past (after_reap past k)
extends-reap past k = extends-if (is_some (reapable past k)) past (Reap k)

reaped-extends : (g : HostState) (k : ℕ) → Extends g.kernel.past (reaped_below g k).kernel.past
reaped-extends g zero = extends-same g.kernel.past
reaped-extends g (suc k) = rw (reaped-past (reaped_below g k) k) (extends-trans g.kernel.past (reaped_below g k).kernel.past (after_reap (reaped_below g k).kernel.past k) (reaped-extends g k) (extends-reap (reaped_below g k).kernel.past k))

pub completion-some : (past : List Event) (t : ℕ) → t < length (tickets past) → (fate past t).reaped ≡ true → IsSome (fate past t).status → IsSome (completion past t)
unfolding completion
completion-some past t within reaped some =
    let s = some-at (tickets past) t within in
    let errno = some-of (fate past t).status some in
    rw (s.1, reaped, errno.1) refl

reap-reaps : (past : List Event) (k : ℕ) (s : Ticket) (errno : ℕ) → slice_get (tickets past) k ≡ Some s → (fate past k).status ≡ Some errno → (fate (Reap k ∷ past) k).reaped ≡ true
reap-reaps past k s errno at some = rw (eq-eqb k k refl, at, some) refl

reap-completes : (past : List Event) (k : ℕ) → k < length (tickets past) → IsSome (fate past k).status → IsSome (completion (after_reap past k) k)
reap-completes past k within some =
    let s = some-at (tickets past) k within in
    let errno = some-of (fate past k).status some in
    elim (cases_Bool (fate past k).reaped) [
      | inl yes_ ↦
          let done = some-of (completion past k) (completion-some past k within yes_ some) in
          ap is_some (completion-stays past (after_reap past k) k done.0 (extends-reap past k) done.1)
      | inr no_ ↦
          let acts : after_reap past k ≡ Reap k ∷ past = rw (finished-reapable past k within some no_) refl in
          let status = status-stays past (after_reap past k) k errno.0 (extends-reap past k) errno.1 in
          let reaped : (fate (after_reap past k) k).reaped ≡ true = ap (λ p. (fate p k).reaped) acts ∙ reap-reaps past k s.0 errno.0 s.1 errno.1 in
          completion-some (after_reap past k) k (rw (ap (λ (ts : List Ticket). length ts) (tickets-reap past k)) within) reaped (ap is_some status)
    ]

reaped-completed : (g : HostState) (k t : ℕ) → ((u : ℕ) → u < length (tickets g.kernel.past) → IsSome (fate g.kernel.past u).status) → k ≤ length (tickets g.kernel.past) → t < k → IsSome (completion (reaped_below g k).kernel.past t)
reaped-completed g zero t all within below = absurd (omega arith)
reaped-completed g (suc k) t all within below =
    let past = (reaped_below g k).kernel.past in
    elim (cases_eq t k) [
      | inl same ↦
          let errno = some-of (fate g.kernel.past k).status (all k (omega arith)) in
          let status = status-stays g.kernel.past past k errno.0 (reaped-extends g k) errno.1 in
          rw (reaped-past (reaped_below g k) k, same) (reap-completes past k (omega (arith, reaped-count g k)) (ap is_some status))
      | inr apart ↦
          let done = some-of (completion past t) (reaped-completed g k t all (omega arith) (omega (arith, apart))) in
          rw (reaped-past (reaped_below g k) k) (ap is_some (completion-stays past (after_reap past k) t done.0 (extends-reap past k) done.1))
    ]

-- a ticket that was given up and has no end is not reaped, and no endpoint holds a ticket
pub record Waits (h : HostState) (n : ℕ) : Type 0 where
  pub count : length h.tickets ≡ n
  pub free : (t : ℕ) → owner_at h.tickets t ≡ None
  pub given_up : (t key : ℕ) → slice_get h.tickets t ≡ Some (Abandoned key) → completion h.kernel.past t ≡ None

discarded-waits : (h : HostState) (n k : ℕ) → Waits h n → Waits (host_discarded h k) n
unfolding host_discarded
discarded-waits h n k w = record { count = w.count; free = w.free; given_up = λ t key at. completion-discard h.kernel.past k t ∙ w.given_up t key at }

came-waits : (g : HostState) (n : ℕ) (was : ℕ → Option Done) (o : Option Done) → length g.tickets ≡ n → ((t key : ℕ) → slice_get g.tickets t ≡ Some (Abandoned key) → was t ≡ None) → ((t : ℕ) → completion g.kernel.past t ≡ completed o was t)
    → (length (came g o).tickets ≡ n) × ((t key : ℕ) → slice_get (came g o).tickets t ≡ Some (Abandoned key) → completion (came g o).kernel.past t ≡ None)
unfolding came host_ended settled endpoint_left
came-waits g n was None count given new = (count, λ t key at. new t ∙ given t key at)
came-waits g n was (Some done) count given new = by (slice_get g.tickets done.ticket) refl
  where
    other : (t : ℕ) → t ≢ done.ticket → completed (Some done) was t ≡ was t
    other t apart = rw (ne_eqb done.ticket t (λ z. apart (sym z))) refl

    stays : (x : HostTicket) → slice_get g.tickets done.ticket ≡ Some x → ((key : ℕ) → x ≢ Abandoned key) → (t key : ℕ) → slice_get g.tickets t ≡ Some (Abandoned key) → completion g.kernel.past t ≡ None
    stays x here not t key at =
        elim (cases_eq t done.ticket) [
          | inl same ↦ absurd (not key (same_Some x (Abandoned key) (sym here ∙ (ap (slice_get g.tickets) (sym same) ∙ at))))
          | inr apart ↦ new t ∙ other t apart ∙ given t key at
        ]

    none : slice_get g.tickets done.ticket ≡ None → (t key : ℕ) → slice_get g.tickets t ≡ Some (Abandoned key) → completion g.kernel.past t ≡ None
    none here t key at =
        elim (cases_eq t done.ticket) [
          | inl same ↦ absurd (none-some (Abandoned key) (sym here ∙ (ap (slice_get g.tickets) (sym same) ∙ at)))
          | inr apart ↦ new t ∙ other t apart ∙ given t key at
        ]

    by : (o : Option HostTicket) → slice_get g.tickets done.ticket ≡ o
        → (length (reclaimed_if g done.ticket o).tickets ≡ n) × ((t key : ℕ) → slice_get (reclaimed_if g done.ticket o).tickets t ≡ Some (Abandoned key) → completion (reclaimed_if g done.ticket o).kernel.past t ≡ None)
    by None here = (count, none here)
    by (Some (HeldBy hold)) here = (count, stays (HeldBy hold) here (λ key is. absurd (cc)))
    by (Some (Ended end)) here = (count, stays (Ended end) here (λ key is. absurd (cc)))
    by (Some (Abandoned k)) here =
        rw here (
          length-set g.tickets done.ticket (Ended Reclaimed) ∙ count,
          λ t key at.
              elim (cases_eq t done.ticket) [
                | inl same ↦ absurd (let e : Some (Ended Reclaimed) ≡ Some (Abandoned key) = sym (slice_get-set_same g.tickets done.ticket (Ended Reclaimed) (slice_get_within g.tickets done.ticket (Abandoned k) here)) ∙ (ap (slice_get (set g.tickets done.ticket (Ended Reclaimed))) (sym same) ∙ at) in cc)
                | inr apart ↦ new t ∙ other t apart ∙ given t key (sym (slice_get-set_other g.tickets done.ticket t (Ended Reclaimed) apart) ∙ at)
              ],
        )

reaped-waits : (h : HostState) (n k : ℕ) → Waits h n → Waits (host_reaped h k) n
unfolding host_reaped
reaped-waits h n k w =
    let made = came-waits (record h { kernel = record h.kernel { past = after_reap h.kernel.past k } }) n (completion h.kernel.past) (reapable h.kernel.past k) w.count w.given_up (completion-reap h.kernel.past k) in
    record {
      count = made.0;
      free = λ t. ap (λ (b : BusState). b.owner t) (bus_of-reaped h k) ∙ w.free t;
      given_up = made.1;
    }

discarded-wait : (h : HostState) (n k : ℕ) → Waits h n → Waits (discarded_below h k) n
discarded-wait h n zero w = w
discarded-wait h n (suc k) w = discarded-waits (discarded_below h k) n k (discarded-wait h n k w)

reaped-wait : (h : HostState) (n k : ℕ) → Waits h n → Waits (reaped_below h k) n
reaped-wait h n zero w = w
reaped-wait h n (suc k) w = reaped-waits (reaped_below h k) n k (reaped-wait h n k w)

ended-of : (h : HostState) (n t : ℕ) (x : HostTicket) → Waits h n → IsSome (completion h.kernel.past t) → slice_get h.tickets t ≡ Some x → IsSome (end_at h.tickets t)
ended-of h n t (HeldBy hold) w some at = absurd (none-some hold.key (sym (w.free t) ∙ held-owner h.tickets t hold at))
  where
    held-owner : (tickets : List HostTicket) (t : ℕ) (hold : Hold) → slice_get tickets t ≡ Some (HeldBy hold) → owner_at tickets t ≡ Some hold.key
    held-owner tickets t hold at = rw at refl
ended-of h n t (Abandoned key) w some at = absurd (let e = ap is_some (w.given_up t key at) in cc)
ended-of h n t (Ended end) w some at = rw at refl

-- after the end each ticket has one
pub finished-ended : (h : HostState) → Waits h (length (tickets h.kernel.past)) → (t : ℕ) → t < length (finished h).tickets → IsSome (end_at (finished h).tickets t)
unfolding finished
finished-ended h w t below =
    let n = length (tickets h.kernel.past) in
    let g = discarded_below h n in
    let count : length (tickets g.kernel.past) ≡ n = discarded-count h n in
    let all : (u : ℕ) → u < length (tickets g.kernel.past) → IsSome (fate g.kernel.past u).status = λ u within. discarded-finished h n u (omega arith) (omega (arith, count)) in
    let last : Waits (reaped_below g n) n = reaped-wait g n n (discarded-wait h n n w) in
    let within : t < n = omega (arith, last.count) in
    let x = some-at (reaped_below g n).tickets t below in
    ended-of (reaped_below g n) n t x.0 last (reaped-completed g n t all (omega (arith, count)) within) x.1

-- and each its completion
pub finished-reaped : (h : HostState) → HasCompletions (finished h).kernel.past
unfolding finished
finished-reaped h t below =
    let n = length (tickets h.kernel.past) in
    let g = discarded_below h n in
    let count : length (tickets g.kernel.past) ≡ n = discarded-count h n in
    let all : (u : ℕ) → u < length (tickets g.kernel.past) → IsSome (fate g.kernel.past u).status = λ u within. discarded-finished h n u (omega arith) (omega (arith, count)) in
    reaped-completed g n t all (omega (arith, count)) (omega (arith, count, reaped-count g n))

-- the slots of a host say so
pub matched-waits : (k : KernelState) (devices : List (Option OpenDevice)) (l : LedgerState) (steps : List KernelStep) → TicketsAgree k.past l.slots → ((t : ℕ) → owner_at (host_made k devices l steps).tickets t ≡ None) → Waits (host_made k devices l steps) (length (tickets k.past))
matched-waits k devices l steps agree free =
    record {
      count = length-map l.slots host_ticket ∙ agree.count;
      free = free;
      given_up = λ t key at. abandoned-open k.past l.slots agree t key at;
    }
  where
    fits-open : (past : List Event) (t key : ℕ) (s : TicketState) → host_ticket s ≡ Abandoned key → Fits past t s → completion past t ≡ None
    fits-open past t key (slot.HeldBy j transfer) is fits = absurd (cc)
    fits-open past t key (slot.Abandoned j) is fits = fits
    fits-open past t key (slot.Ended end) is fits = absurd (cc)

    abandoned-open : (past : List Event) (slots : List TicketState) → TicketsAgree past slots → (t key : ℕ) → slice_get (map host_ticket slots) t ≡ Some (Abandoned key) → completion past t ≡ None
    abandoned-open past slots agree t key at =
        let within : t < length slots = omega (arith, slice_get_within (map host_ticket slots) t (Abandoned key) at, length-map slots host_ticket) in
        let s = some-at slots t within in
        fits-open past t key s.0 (same_Some (host_ticket s.0) (Abandoned key) (sym (ticket-at slots t s.0 s.1) ∙ at)) (agree.each t s.0 s.1)
