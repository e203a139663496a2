-- The owners of interfaces when a ticket ends or an endpoint is closed.
use Rattle.std.proofs.Common.{ℕ, arith, ◌≡◌, ◌≢◌, ◌+◌, Bool, true, false, List, Option, Some, None, set, slice_get, inl, inr, refl, sym, ◌∙◌, ap, subst}
use Rattle.std.specs.Prelude.{◌==◌, ◌&&◌, ◌||◌, nat_lt, option_and_then}
use Rattle.std.specs.Option.{option_map}
use Rattle.std.specs.List.{list_any, enumerate_from}
use Rattle.std.proofs.lemmas.Bool.{cases_Bool, cases_eq, eq-eqb, ne_eqb}
use Rattle.std.proofs.lemmas.Option.{none-some}
use Rattle.usb_device_tables.specs.History.{value_at}
use Rattle.usb_device_tables.proofs.ValueLemmas.{value-set_same, value-set_other, value-taken}
use Rattle.usb_device_ledger.specs.declared.ends.TicketEnd.{TicketEnd}
use Rattle.usb_device_ledger.specs.Entries.{ClaimedInterface, HostTicket, HostEndpoint, Ended}
use Rattle.usb_device_host.specs.HostState.{HostState}
use Rattle.usb_device_ledger.specs.Owners.{is_ticket_of, if_there, lives, is_of, lives_on, has_living, is_owned_among}
use Rattle.usb_device_ledger.specs.Releases.{claim_ended, interface_at, claim_of, without_claim, endpoints_left}
use Rattle.usb_device_host.specs.Releases.{with_ended, endpoint_left, settled}
use Rattle.usb_device.specs.OwnerLaws.{KeepsOwned, KeepsClaimed, KeepsClaims, EndpointsLive}
use Rattle.usb_device.proofs.OwnerLawLists.{any-alike, any-at, any-one, any-put, any-set, any-taken, or_true}
use Rattle.usb_device.proofs.OwnerLawKept.{claim_at, at-none, owned-kept, claims-kept, claimed-refl, claimed-goes, claimed-trans}
use Rattle.usb_device_host.proofs.ClaimFrames.{goes-ended}
use Rattle.usb_device.proofs.OwnerLawLosses.{OwnerLeft, owned-settled}
use Rattle.usb_device_host.proofs.HeldDevices.{entry-at}

-- a host with other tickets and endpoints
abbrev pub with_lists : HostState → List HostTicket → List (Option HostEndpoint) → HostState
with_lists h tickets endpoints = record h { tickets = tickets; endpoints = endpoints }

-- where as many endpoints of an interface live, it is owned as before
pub claim-living : (h : HostState) (tickets : List HostTicket) (endpoints : List (Option HostEndpoint)) (j : ℕ) → has_living tickets endpoints j ≡ has_living h.tickets h.endpoints j → claim_at (with_lists h tickets endpoints) j ≡ claim_at h j
unfolding is_owned_among
claim-living h tickets endpoints j living =
    ap (λ (b : Bool). option_map (λ (c : ClaimedInterface). (c.device, c.number, (nat_lt 0 c.handles || b))) (value_at h.interfaces j)) living

pub claims-living : (h : HostState) (tickets : List HostTicket) (endpoints : List (Option HostEndpoint)) → ((j : ℕ) → claim_at (with_lists h tickets endpoints) j ≡ claim_at h j) → (EndpointsLive h → EndpointsLive (with_lists h tickets endpoints)) → KeepsClaims h (with_lists h tickets endpoints)
claims-living h tickets endpoints same alive = claims-kept h (with_lists h tickets endpoints) (claimed-refl h.interfaces) (λ d n. refl) same alive

-- all but that an endpoint that lives no more goes
record KeptOwned (h g : HostState) : Type 0 where
  kept : KeepsOwned h g
  claimed : KeepsClaimed h.interfaces g.interfaces

owned-living : (h : HostState) (tickets : List HostTicket) (endpoints : List (Option HostEndpoint)) → ((j : ℕ) → claim_at (with_lists h tickets endpoints) j ≡ claim_at h j) → KeptOwned h (with_lists h tickets endpoints)
owned-living h tickets endpoints same =
    record { kept = owned-kept h (with_lists h tickets endpoints) (claimed-refl h.interfaces) (λ d n. refl) same; claimed = claimed-refl h.interfaces }

-- it goes
dead-row : (tickets : List HostTicket) (j k : ℕ) (o : Option HostEndpoint) → if_there (lives tickets) (k, o) ≡ false → if_there (lives_on tickets j) (k, o) ≡ false
dead-row tickets j k None dead = refl
dead-row tickets j k (Some e) dead = rw dead (elim (is_of j e.interface) as (λ b. (b && false) ≡ false) [ true ↦ refl | false ↦ refl ])

living-left : (tickets : List HostTicket) (endpoints : List (Option HostEndpoint)) (k j : ℕ) → has_living tickets (endpoints_left tickets endpoints k) j ≡ has_living tickets endpoints j
unfolding endpoints_left
living-left tickets endpoints k j =
    elim (cases_Bool (if_there (lives tickets) (k, value_at endpoints k))) [
      | inl alive ↦ rw alive refl
      | inr dead ↦
          let z : 0 + k ≡ k = omega arith in
          rw dead (any-taken (if_there (lives_on tickets j)) 0 endpoints k (λ o at.
          let here : value_at endpoints k ≡ o = ap (option_and_then (λ (o : Option HostEndpoint). o)) at in
          let gone : if_there (lives tickets) (k, o) ≡ false = ap (λ o. if_there (lives tickets) (k, o)) (sym here) ∙ dead in
          rw z (dead-row tickets j k o gone)) refl)
    ]

alive-left : (tickets : List HostTicket) (endpoints : List (Option HostEndpoint)) (k : ℕ) → ((t : ℕ) (e : HostEndpoint) → t ≢ k → value_at endpoints t ≡ Some e → lives tickets (t, e) ≡ true) → (t : ℕ) (e : HostEndpoint) → value_at (endpoints_left tickets endpoints k) t ≡ Some e → lives tickets (t, e) ≡ true
unfolding endpoints_left
alive-left tickets endpoints k others t e at =
    elim (cases_Bool (if_there (lives tickets) (k, value_at endpoints k))) [
      | inl alive ↦
          let here : value_at endpoints t ≡ Some e = rw alive at at in
          elim (cases_eq t k) [
            | inl same ↦
                let there : value_at endpoints k ≡ Some e = ap (value_at endpoints) (sym same) ∙ here in
                let lived : lives tickets (k, e) ≡ true = ap (λ o. if_there (lives tickets) (k, o)) (sym there) ∙ alive in
                ap (λ n. lives tickets (n, e)) same ∙ lived
            | inr apart ↦ others t e apart here
          ]
      | inr dead ↦
          let gone = value-taken endpoints k t e (rw dead at at) in
          others t e gone.0 gone.1
    ]

left-keeps : (h : HostState) (k : ℕ) → KeptOwned h (endpoint_left h k)
unfolding endpoint_left
left-keeps h k = owned-living h h.tickets (endpoints_left h.tickets h.endpoints k) (λ j. claim-living h h.tickets (endpoints_left h.tickets h.endpoints k) j (living-left h.tickets h.endpoints k j))

owned-then : (a b c : HostState) → KeptOwned a b → KeptOwned b c → KeptOwned a c
owned-then a b c first second =
    record {
      kept = record { owned = λ own. second.kept.owned (first.kept.owned own); tidy = λ own. second.kept.tidy (first.kept.tidy own); ended = λ i e. second.kept.ended i (first.kept.ended i e) };
      claimed = claimed-trans a.interfaces b.interfaces c.interfaces first.claimed second.claimed;
    }

-- an endpoint that lived may live no more, and all others live as before
pub record EndpointLeft (h : HostState) (tickets : List HostTicket) (endpoints : List (Option HostEndpoint)) (k : ℕ) : Type 0 where
  pub interface : interface_at endpoints k ≡ interface_at h.endpoints k
  pub others : (j : ℕ) → is_of j (interface_at h.endpoints k) ≡ false → has_living tickets endpoints j ≡ has_living h.tickets h.endpoints j
  pub lived : (i : ℕ) → interface_at h.endpoints k ≡ Some i → has_living h.tickets h.endpoints i ≡ true

module _ (h : HostState) (tickets : List HostTicket) (endpoints : List (Option HostEndpoint)) (k : ℕ) (gone : EndpointLeft h tickets endpoints k) where
  abbrev next : HostState
  next = with_lists h tickets endpoints

  settled-at : (o : Option ℕ) → interface_at h.endpoints k ≡ o → settled next k ≡ endpoint_left (with_ended next o (option_and_then (claim_ended h.interfaces tickets endpoints) o)) k
  unfolding settled endpoint_left claim_of
  settled-at o is = ap (λ (o : Option ℕ). endpoint_left (with_ended next o (option_and_then (claim_ended h.interfaces tickets endpoints) o)) k) (gone.interface ∙ is)

  -- that of another interface, or of none
  claim-other : (i j : ℕ) → interface_at h.endpoints k ≡ Some i → j ≢ i → claim_at next j ≡ claim_at h j
  claim-other i j is apart =
      let other : is_of j (interface_at h.endpoints k) ≡ false = ap (is_of j) is ∙ ne_eqb i j (λ z. apart (sym z)) in
      claim-living h tickets endpoints j (gone.others j other)

  left-control : interface_at h.endpoints k ≡ None → KeptOwned h next
  left-control is = owned-living h tickets endpoints (λ j. claim-living h tickets endpoints j (gone.others j (ap (is_of j) is)))

  -- that of an interface which is not there
  ended-nowhere : (i : ℕ) → value_at h.interfaces i ≡ None → claim_ended h.interfaces tickets endpoints i ≡ None
  unfolding claim_ended
  ended-nowhere i none = rw none refl

  left-nowhere : (i : ℕ) → interface_at h.endpoints k ≡ Some i → value_at h.interfaces i ≡ None → KeptOwned h next
  left-nowhere i is none = owned-living h tickets endpoints same
    where
      same : (j : ℕ) → claim_at next j ≡ claim_at h j
      same j =
          elim (cases_eq j i) [
            | inl here ↦ rw here (at-none next i none ∙ sym (at-none h i none))
            | inr apart ↦ claim-other i j is apart
          ]

  -- that of a claimed interface
  owned-lived : (i : ℕ) (c : ClaimedInterface) → interface_at h.endpoints k ≡ Some i → is_owned_among h.tickets h.endpoints i c ≡ true
  unfolding is_owned_among
  owned-lived i c is = rw (gone.lived i is) (or_true (nat_lt 0 c.handles))

  left-claimed : (i : ℕ) (c : ClaimedInterface) → interface_at h.endpoints k ≡ Some i → value_at h.interfaces i ≡ Some c → OwnerLeft h next i
  left-claimed i c is at =
      record {
        claim = c;
        left = c;
        was = at;
        is = at;
        device = refl;
        number = refl;
        owned = owned-lived i c is;
        others = λ j apart. claim-other i j is apart;
        claims = λ d n. refl;
        count = refl;
      }

  left-interface : (i : ℕ) → interface_at h.endpoints k ≡ Some i → (o : Option ClaimedInterface) → value_at h.interfaces i ≡ o → KeptOwned h (with_ended next (Some i) (claim_ended h.interfaces tickets endpoints i))
  left-interface i is None none = rw (ended-nowhere i none) (left-nowhere i is none)
  left-interface i is (Some c) at =
      record {
        kept = owned-settled h next i (left-claimed i c is at);
        claimed = claimed-goes h.interfaces (without_claim h.interfaces (Some i) (claim_ended h.interfaces tickets endpoints i)) (goes-ended h.interfaces tickets endpoints i);
      }

  left-by : (o : Option ℕ) → interface_at h.endpoints k ≡ o → KeptOwned h (with_ended next o (option_and_then (claim_ended h.interfaces tickets endpoints) o))
  left-by None is = left-control is
  left-by (Some i) is = left-interface i is (value_at h.interfaces i) refl

  left-settled : KeptOwned h (settled next k)
  left-settled =
      let o = interface_at h.endpoints k in
      let before = with_ended next o (option_and_then (claim_ended h.interfaces tickets endpoints) o) in
      subst (KeptOwned h) (sym (settled-at o refl)) (owned-then h before (endpoint_left before k) (left-by o refl) (left-keeps before k))

  settled-alive : ((t : ℕ) (e : HostEndpoint) → t ≢ k → value_at endpoints t ≡ Some e → lives tickets (t, e) ≡ true) → EndpointsLive (settled next k)
  unfolding settled endpoint_left
  settled-alive others = alive-left tickets endpoints k others

  pub endpoint-settled : (EndpointsLive h → (t : ℕ) (e : HostEndpoint) → t ≢ k → value_at endpoints t ≡ Some e → lives tickets (t, e) ≡ true) → KeepsClaims h (settled next k)
  endpoint-settled others = record { kept = left-settled.kept; claimed = left-settled.claimed; alive = λ live. settled-alive (others live) }

-- the interface of an endpoint
interface-of : (endpoints : List (Option HostEndpoint)) (k : ℕ) (e : HostEndpoint) → value_at endpoints k ≡ Some e → interface_at endpoints k ≡ e.interface
interface-of endpoints k e at = ap (option_and_then (λ (e : HostEndpoint). e.interface)) at

-- an endpoint that lives, of an interface
living-one : (tickets : List HostTicket) (endpoints : List (Option HostEndpoint)) (k i : ℕ) (e : HostEndpoint) → value_at endpoints k ≡ Some e → e.interface ≡ Some i → lives tickets (0 + k, e) ≡ true → has_living tickets endpoints i ≡ true
living-one tickets endpoints k i e at on alive = any-at (if_there (lives_on tickets i)) 0 endpoints k (Some e) (entry-at endpoints k e at) (rw (on, eq-eqb i i refl, alive) refl)

-- tests that agree on the endpoints that are there
pub living-alike : (p q : ℕ × HostEndpoint → Bool) (endpoints : List (Option HostEndpoint)) → ((m : ℕ) (e : HostEndpoint) → value_at endpoints m ≡ Some e → p (0 + m, e) ≡ q (0 + m, e)) → list_any (if_there p) (enumerate_from 0 endpoints) ≡ list_any (if_there q) (enumerate_from 0 endpoints)
living-alike p q endpoints each = any-alike (if_there p) (if_there q) 0 endpoints by
  where
    by : (m : ℕ) (o : Option HostEndpoint) → slice_get endpoints m ≡ Some o → if_there p (0 + m, o) ≡ if_there q (0 + m, o)
    by m None at = refl
    by m (Some e) at = each m e (ap (option_and_then (λ (o : Option HostEndpoint). o)) at)

-- a ticket of the endpoint of a key ends
module _ (h : HostState) (t k : ℕ) (x : HostTicket) (end : TicketEnd) (at : slice_get h.tickets t ≡ Some x) (whose : (j : ℕ) → is_ticket_of j x ≡ (k == j)) where
  lives-apart : (m : ℕ) (e : HostEndpoint) → m ≢ k → lives (set h.tickets t (Ended end)) (m, e) ≡ lives h.tickets (m, e)
  lives-apart m e apart =
      let theirs : is_ticket_of m x ≡ false = whose m ∙ ne_eqb k m (λ z. apart (sym z)) in
      ap (λ b. e.is_open || b) (any-put (is_ticket_of m) h.tickets t x (Ended end) at (sym theirs))

  pub ended-others : EndpointsLive h → (m : ℕ) (e : HostEndpoint) → m ≢ k → value_at h.endpoints m ≡ Some e → lives (set h.tickets t (Ended end)) (m, e) ≡ true
  ended-others live m e apart here = lives-apart m e apart ∙ live m e here

  lives-other : (j m : ℕ) (e : HostEndpoint) → is_of j (interface_at h.endpoints k) ≡ false → value_at h.endpoints m ≡ Some e → lives_on (set h.tickets t (Ended end)) j (0 + m, e) ≡ lives_on h.tickets j (0 + m, e)
  lives-other j m e other here =
      elim (cases_eq m k) [
        | inl same ↦
            let no_ : is_of j e.interface ≡ false = ap (is_of j) (sym (interface-of h.endpoints m e here) ∙ ap (interface_at h.endpoints) same) ∙ other in
            rw no_ refl
        | inr apart ↦ ap (λ b. is_of j e.interface && b) (lives-apart (0 + m) e (λ z. apart (omega (arith, z))))
      ]

  lived-with : (i : ℕ) (o : Option HostEndpoint) → value_at h.endpoints k ≡ o → option_and_then (λ (e : HostEndpoint). e.interface) o ≡ Some i → has_living h.tickets h.endpoints i ≡ true
  lived-with i None here on = absurd (none-some i on)
  lived-with i (Some e) here on =
      let mine : is_ticket_of (0 + k) x ≡ true = whose (0 + k) ∙ eq-eqb k (0 + k) (omega arith) in
      let alive : lives h.tickets (0 + k, e) ≡ true = rw (any-one (is_ticket_of (0 + k)) h.tickets t x at mine) (or_true e.is_open) in
      living-one h.tickets h.endpoints k i e here on alive

  pub ticket-left : EndpointLeft h (set h.tickets t (Ended end)) h.endpoints k
  ticket-left =
      record {
        interface = refl;
        others = λ j other. living-alike (lives_on (set h.tickets t (Ended end)) j) (lives_on h.tickets j) h.endpoints (λ m e here. lives-other j m e other here);
        lived = λ i on. lived-with i (value_at h.endpoints k) refl on;
      }

-- the handle of an endpoint is closed
module _ (h : HostState) (k : ℕ) (e : HostEndpoint) (at : value_at h.endpoints k ≡ Some e) (is_open : e.is_open ≡ true) where
  abbrev closed : HostEndpoint
  closed = record e { is_open = false }

  closed-interface : interface_at (set h.endpoints k (Some closed)) k ≡ interface_at h.endpoints k
  closed-interface =
      interface-of (set h.endpoints k (Some closed)) k closed (value-set_same h.endpoints k e (Some closed) at)
      ∙ sym (interface-of h.endpoints k e at)

  closed-others : (j : ℕ) → is_of j (interface_at h.endpoints k) ≡ false → has_living h.tickets (set h.endpoints k (Some closed)) j ≡ has_living h.tickets h.endpoints j
  closed-others j other =
      let no_ : is_of j e.interface ≡ false = ap (is_of j) (sym (interface-of h.endpoints k e at)) ∙ other in
      any-set (if_there (lives_on h.tickets j)) 0 h.endpoints k (Some e) (Some closed) (entry-at h.endpoints k e at) (rw no_ refl)

  pub closed-left : EndpointLeft h h.tickets (set h.endpoints k (Some closed)) k
  closed-left =
      record {
        interface = closed-interface;
        others = closed-others;
        lived = λ i on. living-one h.tickets h.endpoints k i e at (sym (interface-of h.endpoints k e at) ∙ on) (rw is_open refl);
      }

  pub closed-live : EndpointsLive h → (m : ℕ) (f : HostEndpoint) → m ≢ k → value_at (set h.endpoints k (Some closed)) m ≡ Some f → lives h.tickets (m, f) ≡ true
  closed-live live m f apart there = live m f (sym (value-set_other h.endpoints k m (Some closed) (λ z. apart (sym z))) ∙ there)
