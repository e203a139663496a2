-- The owners of tickets when one of them ends.
use Rattle.std.specs.Prelude.{ℕ, zero, suc, ◌≡◌, ◌==◌, ◌||◌, Bool, true, false, List, [], ◌∷◌, set, Option, Some, None, slice_get, option_and_then, refl}
use Rattle.std.specs.Option.{option_map, option_map_or}
use Rattle.std.specs.List.{list_any}
use Rattle.usb_device_tables.specs.History.{value_at}
use Rattle.std.proofs.Common.{cond, ap, sym, ◌∙◌, inl, inr}
use Rattle.std.proofs.Math.Path.{fun_ext}
use Rattle.std.proofs.Math.Dec.{eqb-suc-zero, eqb-zero-suc, eqb-suc-suc}
use Rattle.std.proofs.lemmas.Bool.{cases_Bool, cases_eq, eq-eqb, ne_eqb}
use Rattle.usb_device_endpoint.specs.BusState.{without_owner}
use Rattle.usb_device_ledger.specs.declared.ends.TicketEnd.{TicketEnd}
use Rattle.usb_device_ledger.specs.declared.ends.TicketEnd.TheVariants.{Taken}
use Rattle.usb_device_ledger.specs.Entries.{HostTicket, HostEndpoint, Hold, HeldBy, Abandoned, Ended}
use Rattle.usb_device_host.specs.HostState.{HostState}
use Rattle.usb_device_host.specs.HostBus.{bus_of, owner_at, held_as, key_at}
use Rattle.usb_device_ledger.specs.Owners.{if_there, lives, is_ticket_of}
use Rattle.usb_device_ledger.specs.Releases.{endpoints_left}
use Rattle.usb_device_host.specs.Releases.{endpoint_left, settled}
use Rattle.usb_device_host.specs.TicketEnds.{host_ended, ended_as, host_taken, with_ticket}

-- the owners when a ticket that nobody holds is written into the list
owner-set : (tickets : List HostTicket) (t u : ℕ) (x : HostTicket) → held_as x ≡ None →
    owner_at (set tickets t x) u ≡ without_owner (owner_at tickets) t u
owner-set [] t u x is =
    elim (t == u) as (λ v. ◌≡◌ {A = Option ℕ} None (cond v None None))
    [ true ↦ refl | false ↦ refl ]
owner-set (y ∷ ys) zero zero x is = rw is refl
owner-set (y ∷ ys) zero (suc u) x is = rw (eqb-zero-suc u) refl
owner-set (y ∷ ys) (suc t) zero x is = rw (eqb-suc-zero t) refl
owner-set (y ∷ ys) (suc t) (suc u) x is = rw (eqb-suc-suc t u) (owner-set ys t u x is)

pub owner_at-set : (tickets : List HostTicket) (t : ℕ) (x : HostTicket) → held_as x ≡ None →
    owner_at (set tickets t x) ≡ without_owner (owner_at tickets) t
owner_at-set tickets t x is = fun_ext (λ u. owner-set tickets t u x is)

same-without_owner : (owner : ℕ → Option ℕ) (t u : ℕ) → owner t ≡ None → owner u ≡ without_owner owner t u
same-without_owner owner t u none =
    elim (cases_eq t u) [
      | inl same ↦ rw (eq-eqb t u same) (ap owner (sym same) ∙ none)
      | inr apart ↦ rw (ne_eqb t u apart) refl
    ]

-- where nobody holds it nothing changes
pub without_owner-none : (owner : ℕ → Option ℕ) (t : ℕ) → owner t ≡ None → owner ≡ without_owner owner t
without_owner-none owner t none = fun_ext (λ u. same-without_owner owner t u none)

owner-none : (tickets : List HostTicket) (t : ℕ) (o : Option HostTicket) → slice_get tickets t ≡ o →
    option_and_then held_as o ≡ None → owner_at tickets t ≡ None
owner-none tickets t o at none =
    ap (option_map (λ (hold : Hold). hold.key)) (ap (option_and_then held_as) at ∙ none)

-- an endpoint that is not open may go
key-taken : (endpoints : List (Option HostEndpoint)) (k j : ℕ) → key_at endpoints k ≡ false →
    key_at (set endpoints k None) j ≡ key_at endpoints j
key-taken [] k j closed = refl
key-taken (e ∷ es) zero zero closed = sym closed
key-taken (e ∷ es) zero (suc j) closed = refl
key-taken (e ∷ es) (suc k) zero closed = refl
key-taken (e ∷ es) (suc k) (suc j) closed = key-taken es k j closed

or-false : (a b : Bool) → (a || b) ≡ false → a ≡ false
or-false true b is = absurd (cc)
or-false false b is = refl

-- one that lives no more is not open
key-dead : (tickets : List HostTicket) (endpoints : List (Option HostEndpoint)) (k : ℕ)
    (o : Option HostEndpoint) → value_at endpoints k ≡ o →
    if_there (lives tickets) (k, o) ≡ false → key_at endpoints k ≡ false
key-dead tickets endpoints k None at dead =
    ap (λ (o : Option HostEndpoint). option_map_or (λ (e : HostEndpoint). e.is_open) o false) at
key-dead tickets endpoints k (Some e) at dead =
    ap (λ (o : Option HostEndpoint). option_map_or (λ (e : HostEndpoint). e.is_open) o false) at
    ∙ or-false e.is_open (list_any (is_ticket_of k) tickets) dead

pub key-left : (tickets : List HostTicket) (endpoints : List (Option HostEndpoint)) (k j : ℕ) →
    key_at (endpoints_left tickets endpoints k) j ≡ key_at endpoints j
unfolding endpoints_left
key-left tickets endpoints k j =
    elim (cases_Bool (if_there (lives tickets) (k, value_at endpoints k))) [
      | inl alive ↦ rw alive refl
      | inr dead ↦
          rw dead
          (key-taken endpoints k j
          (key-dead tickets endpoints k (value_at endpoints k) refl dead))
    ]

pub bus_of-settled : (h : HostState) (k : ℕ) → bus_of (settled h k) ≡ bus_of h
unfolding settled endpoint_left
bus_of-settled h k =
    ap (λ (f : ℕ → Bool). record (bus_of h) { keys = f })
    (fun_ext (λ j. key-left h.tickets h.endpoints k j))

bus_of-ticket : (h : HostState) (t : ℕ) (x : HostTicket) → held_as x ≡ None →
    bus_of (with_ticket h t x) ≡ record (bus_of h) { owner = without_owner (owner_at h.tickets) t }
bus_of-ticket h t x is =
    ap (λ (f : ℕ → Option ℕ). record (bus_of h) { owner = f }) (owner_at-set h.tickets t x is)

bus_of-same : (h : HostState) (t : ℕ) → owner_at h.tickets t ≡ None →
    bus_of h ≡ record (bus_of h) { owner = without_owner (owner_at h.tickets) t }
bus_of-same h t none =
    ap (λ (f : ℕ → Option ℕ). record (bus_of h) { owner = f })
    (without_owner-none (owner_at h.tickets) t none)

bus_of-ended_as : (h : HostState) (t : ℕ) (end : TicketEnd) (o : Option HostTicket) →
    slice_get h.tickets t ≡ o →
    bus_of (ended_as h t end o) ≡ record (bus_of h) { owner = without_owner (owner_at h.tickets) t }
bus_of-ended_as h t end None at = bus_of-same h t (owner-none h.tickets t None at refl)
bus_of-ended_as h t end (Some (HeldBy hold)) at =
    bus_of-settled (with_ticket h t (Ended end)) hold.key ∙ bus_of-ticket h t (Ended end) refl
bus_of-ended_as h t end (Some (Abandoned key)) at =
    bus_of-settled (with_ticket h t (Ended end)) key ∙ bus_of-ticket h t (Ended end) refl
bus_of-ended_as h t end (Some (Ended before)) at =
    bus_of-same h t (owner-none h.tickets t (Some (Ended before)) at refl)

-- the bus of a host at which a ticket has its end
pub bus_of-ended : (h : HostState) (t : ℕ) (end : TicketEnd) →
    bus_of (host_ended h t end) ≡ record (bus_of h) { owner = without_owner (owner_at h.tickets) t }
unfolding host_ended
bus_of-ended h t end = bus_of-ended_as h t end (slice_get h.tickets t) refl

pub bus_of-taken : (h : HostState) (t : ℕ) →
    bus_of (host_taken h t) ≡ record (bus_of h) { owner = without_owner (owner_at h.tickets) t }
unfolding host_taken
bus_of-taken h t = bus_of-ended h t Taken
