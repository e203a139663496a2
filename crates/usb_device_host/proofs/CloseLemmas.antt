-- What the discards, the giving up and the close of an endpoint leave of the journal and of tickets.
use Rattle.std.proofs.Common.{ℕ, zero, suc, ◌≡◌, ◌≢◌, true, false, cond, List, [], ◌∷◌, set, slice_get, Option, Some, None, refl, ◌∙◌}
use Rattle.std.specs.Prelude.{is_some}
use Rattle.std.proofs.lemmas.Option.{none-some}
use Rattle.usb_kernel.specs.Completions.{completion}
use Rattle.usb_kernel.proofs.Completions.{completion-discard}
use Rattle.usb_kernel.proofs.Places.{slice_get-set_other}
use Rattle.usb_device_endpoint.specs.Closes.{all_discarded}
use Rattle.usb_device_ledger.specs.declared.ends.TicketEnd.{TicketEnd}
use Rattle.usb_device_ledger.specs.declared.ends.TicketEnd.TheVariants.{Dropped}
use Rattle.usb_device_ledger.specs.Entries.{HostTicket, HostEndpoint, HeldBy, Abandoned, Ended}
use Rattle.usb_device_host.specs.HostState.{HostState}
use Rattle.usb_device_host.specs.HostCalls.{host_discarded, closed_if}
use Rattle.usb_device_host.specs.Releases.{endpoint_left, settled}
use Rattle.usb_device_host.specs.TicketEnds.{ended_as, host_ended, given_up, host_abandoned}

-- discards leave the tickets, and what is reaped
pub discards-tickets : (h : HostState) (ts : List ℕ) → (all_discarded host_discarded h ts).tickets ≡ h.tickets
unfolding host_discarded
discards-tickets h [] = refl
discards-tickets h (t ∷ ts) = discards-tickets h ts

pub discards-completion : (h : HostState) (ts : List ℕ) (u : ℕ) → completion (all_discarded host_discarded h ts).kernel.past u ≡ completion h.kernel.past u
unfolding host_discarded
discards-completion h [] u = refl
discards-completion h (t ∷ ts) u = completion-discard (all_discarded host_discarded h ts).kernel.past t u ∙ discards-completion h ts u

-- the end of one ticket leaves the journal and the others
pub ended-past : (h : HostState) (t : ℕ) (end : TicketEnd) (o : Option HostTicket) → (ended_as h t end o).kernel.past ≡ h.kernel.past
unfolding settled endpoint_left
ended-past h t end None = refl
ended-past h t end (Some (HeldBy hold)) = refl
ended-past h t end (Some (Abandoned key)) = refl
ended-past h t end (Some (Ended before)) = refl

pub ended-others : (h : HostState) (t u : ℕ) (end : TicketEnd) (o : Option HostTicket) → u ≢ t → slice_get (ended_as h t end o).tickets u ≡ slice_get h.tickets u
unfolding settled endpoint_left
ended-others h t u end None apart = refl
ended-others h t u end (Some (HeldBy hold)) apart = slice_get-set_other h.tickets t u (Ended end) apart
ended-others h t u end (Some (Abandoned key)) apart = slice_get-set_other h.tickets t u (Ended end) apart
ended-others h t u end (Some (Ended before)) apart = refl

given_up-past : (h : HostState) (t : ℕ) (o : Option HostTicket) → (given_up h t o).kernel.past ≡ h.kernel.past
given_up-past h t None = refl
given_up-past h t (Some (HeldBy hold)) = refl
given_up-past h t (Some (Abandoned key)) = refl
given_up-past h t (Some (Ended end)) = refl

given_up-others : (h : HostState) (t u : ℕ) (o : Option HostTicket) → u ≢ t → slice_get (given_up h t o).tickets u ≡ slice_get h.tickets u
given_up-others h t u None apart = refl
given_up-others h t u (Some (HeldBy hold)) apart = slice_get-set_other h.tickets t u (Abandoned hold.key) apart
given_up-others h t u (Some (Abandoned key)) apart = refl
given_up-others h t u (Some (Ended end)) apart = refl

-- so does one that is given up
pub abandoned-past : (h : HostState) (t : ℕ) → (host_abandoned h t).kernel.past ≡ h.kernel.past
unfolding host_abandoned host_ended
abandoned-past h t =
    elim (is_some (completion h.kernel.past t)) as (λ b. (cond b (host_ended h t Dropped) (given_up h t (slice_get h.tickets t))).kernel.past ≡ h.kernel.past) [
      | true ↦ ended-past h t Dropped (slice_get h.tickets t)
      | false ↦ given_up-past h t (slice_get h.tickets t)
    ]

pub abandoned-others : (h : HostState) (t u : ℕ) → u ≢ t → slice_get (host_abandoned h t).tickets u ≡ slice_get h.tickets u
unfolding host_abandoned host_ended
abandoned-others h t u apart =
    elim (is_some (completion h.kernel.past t)) as (λ b. slice_get (cond b (host_ended h t Dropped) (given_up h t (slice_get h.tickets t))).tickets u ≡ slice_get h.tickets u) [
      | true ↦ ended-others h t u Dropped (slice_get h.tickets t) apart
      | false ↦ given_up-others h t u (slice_get h.tickets t) apart
    ]

pub by_set : (ts : List HostTicket) (t : ℕ) (was new : HostTicket) → slice_get ts t ≡ Some was → slice_get (set ts t new) t ≡ Some new
by_set [] t was new at = absurd (none-some was at)
by_set (x ∷ xs) zero was new at = refl
by_set (x ∷ xs) (suc t) was new at = by_set xs t was new at

-- the endpoint leaves the tickets
pub left-tickets : (h : HostState) (key : ℕ) (o : Option HostEndpoint) → (closed_if h key o).tickets ≡ h.tickets
unfolding settled endpoint_left
left-tickets h key None = refl
left-tickets h key (Some e) = refl
