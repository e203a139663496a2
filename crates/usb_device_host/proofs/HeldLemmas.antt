-- Which tickets endpoints hold after the calls of a host.
use Rattle.std.proofs.Common.{ℕ, zero, suc, arith, ◌≡◌, ◌≢◌, ◌<◌, List, [], ◌∷◌, ◌++◌, length, get_or, Option, Some, None, inl, inr, ◌⊎◌, refl, sym, ◌∙◌, ap}
use Rattle.std.specs.List.{Contains}
use Rattle.std.proofs.lemmas.Bool.{cases_eq, eq-eqb, cond_both}
use Rattle.std.proofs.lemmas.Option.{none-some, same_Some}
use Rattle.usb_xfer.specs.BufferState.{BufferState}
use Rattle.usb_device_endpoint.specs.declared.route.Route.{Route}
use Rattle.usb_device_endpoint.specs.BusState.{BusState, without_owner}
use Rattle.usb_device_endpoint.specs.EndpointState.{EndpointState, route_of}
use Rattle.usb_device_endpoint.specs.Submits.{is_valid, transfer_by, entered}
use Rattle.usb_device_endpoint.specs.Closes.{all_discarded, all_abandoned, after_close}
use Rattle.usb_device_endpoint.proofs.HandleLemmas.{without_owner-other}
use Rattle.usb_device_ledger.specs.Entries.{HostTicket, Hold, HeldBy}
use Rattle.usb_device_host.specs.HostState.{HostState}
use Rattle.usb_device_host.specs.HostBus.{owner_at, bus_of}
use Rattle.usb_device_host.specs.TicketEnds.{host_taken, host_abandoned}
use Rattle.usb_device_host.specs.HostCalls.{host_submitted, host_refused, host_discarded, host_calls}
use Rattle.usb_device_host.specs.HostFrames.{HostGoesOn}
use Rattle.usb_device_host.proofs.CallFrames.{bus-taken, bus-abandoned, bus-left}
use Rattle.usb_device_host.proofs.EndpointCalls.{went-all_discarded}

-- whoever holds a ticket held it before
abbrev pub HoldsNoMore : HostState → HostState → Type 0
HoldsNoMore old new = (t k : ℕ) → owner_at new.tickets t ≡ Some k → owner_at old.tickets t ≡ Some k

pub holds-bus : (old new : HostState) → bus_of new ≡ bus_of old → HoldsNoMore old new
holds-bus old new same t k own = sym (ap (λ (b : BusState). b.owner t) same) ∙ own

pub holds-went : (old new : HostState) → HostGoesOn old new → HoldsNoMore old new
holds-went old new went t k own = sym (ap (λ (owner : ℕ → Option ℕ). owner t) went.later.owner) ∙ own

-- a ticket that was taken or given up is held no more
without_owner-some : (owner : ℕ → Option ℕ) (t u k : ℕ) → without_owner owner t u ≡ Some k → (u ≢ t) × (owner u ≡ Some k)
without_owner-some owner t u k own =
    elim (cases_eq t u) [
      | inl same ↦ let gone : without_owner owner t u ≡ None = rw (eq-eqb t u same) refl in absurd (none-some k (sym gone ∙ own))
      | inr apart ↦ (λ same. apart (sym same), sym (without_owner-other owner t u apart) ∙ own)
    ]

pub taken-held : (h : HostState) (t u k : ℕ) → owner_at (host_taken h t).tickets u ≡ Some k → (u ≢ t) × (owner_at h.tickets u ≡ Some k)
taken-held h t u k own = without_owner-some (owner_at h.tickets) t u k (sym (ap (λ (b : BusState). b.owner u) (bus-taken h t)) ∙ own)

pub abandoned-held : (h : HostState) (t u k : ℕ) → owner_at (host_abandoned h t).tickets u ≡ Some k → (u ≢ t) × (owner_at h.tickets u ≡ Some k)
abandoned-held h t u k own = without_owner-some (owner_at h.tickets) t u k (sym (ap (λ (b : BusState). b.owner u) (bus-abandoned h t)) ∙ own)

-- an element of a list that is not its first
pub Contains-behind : {X : Type 0} (x : X) (xs : List X) (y : X) → x ≢ y → Contains (x ∷ xs) y → Contains xs y
Contains-behind x xs y apart there = by there.0 there.1 there.2
  where
    by : (k : ℕ) → k < length (x ∷ xs) → get_or (x ∷ xs) k y ≡ y → Contains xs y
    by zero below is = absurd (apart is)
    by (suc k) below is = (k, omega arith, is)

all_abandoned-held : (h : HostState) (ts : List ℕ) (u k : ℕ) → owner_at (all_abandoned host_abandoned h ts).tickets u ≡ Some k → (owner_at h.tickets u ≡ Some k) × (Contains ts u → ⊥)
all_abandoned-held h [] u k own = (own, λ there. let below : there.0 < 0 = there.1 in absurd (omega arith))
all_abandoned-held h (t ∷ ts) u k own =
    let others = all_abandoned-held (host_abandoned h t) ts u k own in
    let here = abandoned-held h t u k others.0 in
    (here.1, λ there. others.1 (Contains-behind t ts u (λ same. here.0 (sym same)) there))

-- so are the pending tickets of an endpoint that is closed
pub closed-held : (h : HostState) (e : EndpointState) (u k : ℕ) → owner_at (after_close host_calls h e).tickets u ≡ Some k → (owner_at h.tickets u ≡ Some k) × (Contains e.pending u → ⊥)
closed-held h e u k own =
    let first = all_discarded host_discarded h e.pending in
    let second = all_abandoned host_abandoned first e.pending in
    let given_up = all_abandoned-held first e.pending u k (sym (ap (λ (b : BusState). b.owner u) (bus-left second e.key)) ∙ own) in
    (holds-went h first (went-all_discarded h e.pending) u k given_up.0, given_up.1)

-- a ticket that is new is held by the endpoint that submitted it
pub owner-last : (ts : List HostTicket) (hold : Hold) (t k : ℕ) → owner_at (ts ++ HeldBy hold ∷ []) t ≡ Some k → ((t ≡ length ts) × (k ≡ hold.key)) ⊎ (owner_at ts t ≡ Some k)
owner-last [] hold zero k own = inl (refl, sym (same_Some hold.key k own))
owner-last [] hold (suc t) k own = absurd (none-some k own)
owner-last (x ∷ xs) hold zero k own = inr own
owner-last (x ∷ xs) hold (suc t) k own = elim (owner-last xs hold t k own) [ inl new ↦ inl (ap suc new.0, new.1) | inr old ↦ inr old ]

abbrev IsNewOr : HostState → ℕ → HostState → Type 0
IsNewOr h key g = (t k : ℕ) → owner_at g.tickets t ≡ Some k → ((t ≡ length h.tickets) × (k ≡ key)) ⊎ (owner_at h.tickets t ≡ Some k)

submitted-held : (h : HostState) (to : Route) (deadline : Option ℕ) (b : BufferState) → IsNewOr h to.key (host_submitted h to deadline (transfer_by to b))
unfolding host_submitted
submitted-held h to deadline b t k own = owner-last h.tickets (record { key = to.key; endpoint = to.endpoint; kind = to.kind }) t k own

refused-held : (h : HostState) (to : Route) (b : BufferState) (errno : ℕ) → IsNewOr h to.key (host_refused h to (transfer_by to b) errno)
unfolding host_refused
refused-held h to b errno t k own = owner-last h.tickets (record { key = to.key; endpoint = to.endpoint; kind = to.kind }) t k own

pub entered-held : (h : HostState) (e : EndpointState) (deadline : Option ℕ) (b : BufferState) (t k : ℕ) → owner_at (entered host_calls h e deadline b).tickets t ≡ Some k → ((t ≡ length h.tickets) × (k ≡ e.key)) ⊎ (owner_at h.tickets t ≡ Some k)
entered-held h e deadline b =
    cond_both (is_valid e b) (host_submitted h (route_of e) deadline (transfer_by (route_of e) b)) (host_refused h (route_of e) (transfer_by (route_of e) b) 22) (IsNewOr h e.key)
    (λ yes_. submitted-held h (route_of e) deadline b) (λ no_. refused-held h (route_of e) b 22)
