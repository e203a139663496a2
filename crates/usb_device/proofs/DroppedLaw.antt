-- A pending ticket of an endpoint that is closed is dropped where it was reaped.
use Rattle.std.proofs.Common.{ℕ, zero, suc, ◌≡◌, Bool, true, false, cond, List, [], ◌∷◌, slice_get, Option, Some, None, refl, sym, ◌∙◌, ap, subst}
use Rattle.std.specs.Option.{option_map}
use Rattle.std.specs.Prelude.{is_some, option_and_then}
use Rattle.std.proofs.lemmas.Option.{none-some, same_Some}
use Rattle.usb_kernel.specs.declared.event.Event.{Event}
use Rattle.usb_kernel.specs.declared.submission.Done.{Done}
use Rattle.usb_kernel.specs.Completions.{completion}
use Rattle.usb_device_endpoint.specs.Closes.{all_discarded, all_abandoned}
use Rattle.usb_device_endpoint.specs.Handles.{AreHeld, IsApart}
use Rattle.usb_device_tables.specs.History.{value_at}
use Rattle.usb_device_ledger.specs.declared.ends.TicketEnd.{TicketEnd}
use Rattle.usb_device_ledger.specs.declared.ends.TicketEnd.TheVariants.{Dropped}
use Rattle.usb_device.specs.EndLaws.{DroppedWhereReaped, FutureDroppedWhereReaped}
use Rattle.usb_device.specs.Futures.{closed_by}
use Rattle.usb_device_ledger.specs.Entries.{HostTicket, Hold, HeldBy, Abandoned, Ended}
use Rattle.usb_device_host.specs.HostState.{HostState}
use Rattle.usb_device_ledger.specs.EndedTickets.{end_at, ended_at}
use Rattle.usb_device_host.specs.HostBus.{owner_at, held_as}
use Rattle.usb_device_host.specs.HostCalls.{host_discarded, host_left}
use Rattle.usb_device_host.specs.Releases.{endpoint_left, settled}
use Rattle.usb_device_host.specs.TicketEnds.{ended_as, host_ended, given_up, host_abandoned}
use Rattle.usb_device_host.proofs.CloseLemmas.{discards-tickets, discards-completion, abandoned-past, abandoned-others, by_set, left-tickets}

-- a ticket that is given up has its end where it was reaped
abbrev dropped_if : Bool → Option TicketEnd
dropped_if reaped = cond reaped (Some Dropped) None

abandoned-end : (h : HostState) (t : ℕ) (hold : Hold) → slice_get h.tickets t ≡ Some (HeldBy hold) → end_at (host_abandoned h t).tickets t ≡ dropped_if (is_some (completion h.kernel.past t))
unfolding host_abandoned host_ended settled endpoint_left
abandoned-end h t hold at =
    rw at (elim (is_some (completion h.kernel.past t)) as (λ b. end_at (cond b (ended_as h t Dropped (Some (HeldBy hold))) (given_up h t (Some (HeldBy hold)))).tickets t ≡ dropped_if b) [
      | true ↦ ap (option_and_then ended_at) (by_set h.tickets t (HeldBy hold) (Ended Dropped) at)
      | false ↦ ap (option_and_then ended_at) (by_set h.tickets t (HeldBy hold) (Abandoned hold.key) at)
    ])

-- the giving up of other tickets leaves one
abandons-others : (g : HostState) (ts : List ℕ) (u : ℕ) → IsApart u ts → slice_get (all_abandoned host_abandoned g ts).tickets u ≡ slice_get g.tickets u
abandons-others g [] u apart = refl
abandons-others g (t ∷ ts) u apart = abandons-others (host_abandoned g t) ts u apart.1 ∙ abandoned-others g t u apart.0

-- who holds a ticket
abbrev owner_of : Option HostTicket → Option ℕ
owner_of o = option_map (λ (hold : Hold). hold.key) (option_and_then held_as o)

held-others : (g : HostState) (u key : ℕ) (ts : List ℕ) → IsApart u ts → AreHeld (owner_at g.tickets) key ts → AreHeld (owner_at (host_abandoned g u).tickets) key ts
held-others g u key [] apart held = tt
held-others g u key (t ∷ ts) apart held =
    (ap (λ (o : Option HostTicket). owner_of o) (abandoned-others g u t (λ same. apart.0 (sym same))) ∙ held.0, held.1, held-others g u key ts apart.1 held.2)

held-at : (o : Option HostTicket) (key : ℕ) → owner_of o ≡ Some key → (hold : Hold) × (o ≡ Some (HeldBy hold))
held-at None key is = absurd (none-some key is)
held-at (Some (HeldBy hold)) key is = (hold, refl)
held-at (Some (Abandoned gone)) key is = absurd (none-some key is)
held-at (Some (Ended end)) key is = absurd (none-some key is)

abandons-end : (g : HostState) (ts : List ℕ) (key i t : ℕ) → AreHeld (owner_at g.tickets) key ts → slice_get ts i ≡ Some t → end_at (all_abandoned host_abandoned g ts).tickets t ≡ dropped_if (is_some (completion g.kernel.past t))
abandons-end g [] key i t held at = absurd (none-some t at)
abandons-end g (u ∷ us) key zero t held at =
    let here = held-at (slice_get g.tickets u) key held.0 in
    subst (λ (v : ℕ). end_at (all_abandoned host_abandoned (host_abandoned g u) us).tickets v ≡ dropped_if (is_some (completion g.kernel.past v))) (same_Some u t at)
    (ap (option_and_then ended_at) (abandons-others (host_abandoned g u) us u held.1) ∙ abandoned-end g u here.0 here.1)
abandons-end g (u ∷ us) key (suc i) t held at =
    abandons-end (host_abandoned g u) us key i t (held-others g u key us held.1 held.2) at
    ∙ ap (λ (past : List Event). dropped_if (is_some (completion past t))) (abandoned-past g u)

pub dropped_where_reaped : DroppedWhereReaped
unfolding host_left
dropped_where_reaped h e i t stands at =
    let before = all_discarded host_discarded h e.pending in
    let after = all_abandoned host_abandoned before e.pending in
    ap (λ (ts : List HostTicket). end_at ts t) (left-tickets after e.key (value_at after.endpoints e.key))
    ∙ abandons-end before e.pending e.key i t (subst (λ (ts : List HostTicket). AreHeld (owner_at ts) e.key e.pending) (sym (discards-tickets h e.pending)) stands.held) at
    ∙ ap (λ (o : Option Done). dropped_if (is_some o)) (discards-completion h e.pending t)

-- a future that is closed
pub future_dropped : FutureDroppedWhereReaped
unfolding host_left
future_dropped h f t stands is =
    let after = host_abandoned h t in
    let here = held-at (slice_get h.tickets t) f.key (stands.on_its_way t is).held in
    ap (λ (o : Option ℕ). end_at (closed_by h f.key o).tickets t) is
    ∙ (ap (λ (ts : List HostTicket). end_at ts t) (left-tickets after f.key (value_at after.endpoints f.key)) ∙ abandoned-end h t here.0 here.1)
