-- The packets, the acknowledgements and the status of a ticket, where an event leaves them.
use Rattle.std.proofs.Common.{◌∙◌, ◌≡◌, ℕ, ◌+◌, ◌≤◌, arith, List, [], ◌∷◌, ◌++◌, length, Some, true, false, refl, ap, sym, slice_get, cond}
use Rattle.std.specs.Prelude.{nat_lt}
use Rattle.std.proofs.lemmas.Option.{same_Some}
use Rattle.std.proofs.lemmas.Bool.{le-ltb}
use Rattle.std.proofs.lemmas.Grind.{common_steps}
use Rattle.usb_kernel.specs.declared.event.Event.{Event}
use Rattle.usb_kernel.specs.declared.event.Event.TheVariants.{Packet}
use Rattle.usb_kernel.specs.Tickets.{Ticket, tickets}
use Rattle.usb_kernel.specs.Fates.{Fate, with_packet, with_ack, accept, finish, reap}
use Rattle.usb_kernel.specs.Journal.{fate, at_oldest, oldest}
use Rattle.usb_kernel.proofs.Rules.{at_oldest-keeps}
use Rattle.usb_kernel.proofs.Order.{is_oldest}
use Rattle.usb_io.proofs.Delivered.{accept-packets}

-- packets, acknowledgements and status are the same
pub record IsSame (f g : Fate) : Type 0 where
  pub packets : g.packets ≡ f.packets
  pub acks : g.acks ≡ f.acks
  pub status : g.status ≡ f.status

finish-acks : (n : ℕ) (f : Fate) → (finish n f).acks ≡ f.acks
finish-acks n f = grind (arith, common_steps)

pub reap-acks : (s : Ticket) (f : Fate) → (reap s f).acks ≡ f.acks
reap-acks s f = grind (arith, common_steps)

pub reap-status : (s : Ticket) (f : Fate) → (reap s f).status ≡ f.status
reap-status s f = grind (arith, common_steps)

accept-acks : (s : Ticket) (b : List ℕ) (f : Fate) → (accept s b f).acks ≡ f.acks
accept-acks s b f = grind (arith, common_steps)

pub with_packet-acks : (s : Ticket) (b : List ℕ) (f : Fate) → (with_packet s b f).acks ≡ f.acks
with_packet-acks s b f =
    elim (nat_lt s.maximum (length b)) as (λ v. (cond v (finish 75 f) (accept s b f)).acks ≡ f.acks) [ true ↦ finish-acks 75 f | false ↦ accept-acks s b f ]

-- a packet that fits is appended
pub with_packet-packets : (s : Ticket) (b : List ℕ) (f : Fate) → length b ≤ s.maximum → (with_packet s b f).packets ≡ f.packets ++ b ∷ []
with_packet-packets s b f fits = rw (le-ltb s.maximum (length b) fits) (accept-packets s b f)

pub with_ack-acks : (s : Ticket) (f : Fate) → (with_ack s f).acks ≡ f.acks + 1
with_ack-acks s f = grind (arith, common_steps)

-- a ticket of another endpoint is not its oldest
pub not-oldest : (past : List Event) (d e t : ℕ) (s : Ticket) → slice_get (tickets past) t ≡ Some s → (s.device ≡ d → s.endpoint ≡ e → ⊥) → oldest past d e ≡ Some t → ⊥
not-oldest past d e t s at far is =
    let o = is_oldest past d e t is in
    let same : s ≡ o.s = same_Some s o.s (sym at ∙ o.at) in
    far (ap (λ (x : Ticket). x.device) same ∙ o.device) (ap (λ (x : Ticket). x.endpoint) same ∙ o.endpoint)

pub at-other : (past : List Event) (d e : ℕ) (step : Ticket → Fate → Fate) (t : ℕ) → (oldest past d e ≡ Some t → ⊥) → IsSame (fate past t) (at_oldest (oldest past d e) step (tickets past) (fate past) t)
at-other past d e step t not = at_oldest-keeps (IsSame (fate past t)) (oldest past d e) step (tickets past) (fate past) t (record { packets = refl; acks = refl; status = refl }) (λ is r here. absurd (not is))

pub packet-acks : (past : List Event) (d e : ℕ) (b : List ℕ) (t : ℕ) → (fate (Packet d e b ∷ past) t).acks ≡ (fate past t).acks
packet-acks past d e b t = at_oldest-keeps (λ g. g.acks ≡ (fate past t).acks) (oldest past d e) (λ s. with_packet s b) (tickets past) (fate past) t refl (λ is r here. with_packet-acks r b (fate past t))

pub IsSame-trans : (f g h : Fate) → IsSame f g → IsSame g h → IsSame f h
IsSame-trans f g h a b = record { packets = b.packets ∙ a.packets; acks = b.acks ∙ a.acks; status = b.status ∙ a.status }
