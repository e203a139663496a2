-- Only the oldest open ticket of an endpoint is served, so the later ones have received nothing yet.
use Rattle.std.proofs.Common.{◌∙◌, ◌≡◌, ◌≢◌, ℕ, ◌+◌, ◌<◌, ◌≤◌, arith, List, [], ◌∷◌, ◌++◌, length, Option, Some, None, true, false, refl, ap, sym, slice_get, cond, ◌⊎◌, inl, inr, zero, suc}
use Rattle.std.specs.Prelude.{is_none, ◌==◌, ◌&&◌, map, filter}
use Rattle.std.specs.List.{enumerate_from}
use Rattle.std.proofs.lemmas.Option.{none-some, same_Some, slice_get_within}
use Rattle.std.proofs.lemmas.Bool.{cases_Bool, ne_eqb, eq-eqb, eqb-true, and_parts, and_from}
use Rattle.std.proofs.lemmas.Grind.{common_steps}
use Rattle.usb_kernel.specs.declared.event.Event.{Event}
use Rattle.usb_kernel.specs.declared.event.Event.TheVariants.{Submit, Refuse, Packet, Ack, Echo, Fail, Discard, Reap, Unplug}
use Rattle.usb_kernel.specs.Tickets.{Ticket, tickets}
use Rattle.usb_kernel.specs.Fates.{Fate, with_packet, with_ack, finish, reap, unplug}
use Rattle.usb_kernel.specs.Journal.{fate, is_open, oldest, echo_comes, taken_of}
use Rattle.usb_kernel.specs.Ahead.{IsAhead, IsUntouched}
use Rattle.usb_kernel.proofs.Fresh.{fate-fresh}
use Rattle.usb_kernel.proofs.Rules.{KeepsAlways, at_ticket-keeps, at_oldest-keeps, change-keeps, oldest-none, event-keeps-always}
-- what a list of tickets keeps
pub use Rattle.usb_kernel.proofs.Rules.{tickets-stay, slice_get-push}

-- the oldest open ticket is a ticket of its endpoint
pub record IsOldest (past : List Event) (d e t : ℕ) : Type 0 where
  pub s : Ticket
  pub at : slice_get (tickets past) t ≡ Some s
  pub device : s.device ≡ d
  pub endpoint : s.endpoint ≡ e
  pub none : (fate past t).status ≡ None

oldest-at : (ts : List Ticket) (k : ℕ) (f : ℕ → Fate) (d e t : ℕ) → slice_get (map {A = ℕ × Ticket} (λ p. p.0) (filter (is_open f d e) (enumerate_from k ts))) 0 ≡ Some t → (i : ℕ) × (s : Ticket) × (t ≡ k + i) × (slice_get ts i ≡ Some s) × (s.device ≡ d) × (s.endpoint ≡ e)
oldest-at [] k f d e t at = absurd (none-some t at)
oldest-at (x ∷ ts) k f d e t at =
    elim (cases_Bool (is_open f d e (k, x))) [
      | inl passes ↦
          let here : k ≡ t = same_Some k t (rw passes at at) in
          let parts = and_parts (x.device == d) (x.endpoint == e && is_none (f k).status) passes in
          let more = and_parts (x.endpoint == e) (is_none (f k).status) parts.1 in
          (0, x, omega arith, refl, eqb-true x.device d parts.0, eqb-true x.endpoint e more.0)
      | inr closed ↦
          let h = oldest-at ts (k + 1) f d e t (rw closed at at) in
          (suc h.0, h.1, omega (arith, h.2), h.3, h.4, h.5)
    ]

pub is_oldest : (past : List Event) (d e t : ℕ) → oldest past d e ≡ Some t → IsOldest past d e t
is_oldest past d e t is =
    let h = oldest-at (tickets past) 0 (fate past) d e t is in
    let i : h.0 ≡ t = omega (arith, h.2) in
    record { s = h.1; at = rw i at h.3; device = h.4; endpoint = h.5; none = oldest-none past d e t is }

-- no open ticket of the endpoint comes before it
oldest-first : (ts : List Ticket) (k : ℕ) (f : ℕ → Fate) (d e t i : ℕ) (s : Ticket) → slice_get (map {A = ℕ × Ticket} (λ p. p.0) (filter (is_open f d e) (enumerate_from k ts))) 0 ≡ Some t → slice_get ts i ≡ Some s → s.device ≡ d → s.endpoint ≡ e → (f (k + i)).status ≡ None → t ≤ k + i
oldest-first [] k f d e t i s is at device endpoint none = absurd (none-some s at)
oldest-first (x ∷ ts) k f d e t zero s is at device endpoint none =
    let same : x ≡ s = same_Some x s at in
    let z : k + 0 ≡ k = omega arith in
    let o : is_none (f k).status ≡ true = rw (rw z at none) refl in
    let passes : is_open f d e (k, x) ≡ true = and_from (x.device == d) (x.endpoint == e && is_none (f k).status) (eq-eqb x.device d (rw same device)) (and_from (x.endpoint == e) (is_none (f k).status) (eq-eqb x.endpoint e (rw same endpoint)) o) in
    let here : k ≡ t = same_Some k t (rw passes at is) in
    omega arith
oldest-first (x ∷ ts) k f d e t (suc i) s is at device endpoint none =
    elim (cases_Bool (is_open f d e (k, x))) [
      | inl passes ↦ let here : k ≡ t = same_Some k t (rw passes at is) in omega arith
      | inr closed ↦
          let z : (k + 1) + i ≡ k + suc i = omega arith in
          let h = oldest-first ts (k + 1) f d e t i s (rw closed at is) at device endpoint (rw z none) in
          omega arith
    ]

pub oldest-least : (past : List Event) (d e t u : ℕ) (s : Ticket) → oldest past d e ≡ Some t → slice_get (tickets past) u ≡ Some s → s.device ≡ d → s.endpoint ≡ e → (fate past u).status ≡ None → t ≤ u
oldest-least past d e t u s is at device endpoint none =
    let z : 0 + u ≡ u = omega arith in
    let h = oldest-first (tickets past) 0 (fate past) d e t u s is at device endpoint (rw z none) in
    omega arith

-- what is open after a step was open before it
abbrev WasOpen : Fate → Fate → Type 0
WasOpen f g = g.status ≡ None → f.status ≡ None

WasOpen-keeps : (f : Fate) (s : Ticket) → KeepsAlways (WasOpen f) s
WasOpen-keeps f s = record {
  packet = λ g b none was after. was none;
  ack = λ g none was after. was none;
  ends = λ g n some was after. was (finish-none n g after);
  reaps = λ g was after. was (reap-none s g after);
}
  where
    finish-none : (n : ℕ) (g : Fate) → (finish n g).status ≡ None → g.status ≡ None
    finish-none n g after = grind (arith, common_steps)

    reap-none : (s : Ticket) (g : Fate) → (reap s g).status ≡ None → g.status ≡ None
    reap-none s g after = grind (arith, common_steps)

pub open-before : (past : List Event) (event : Event) (u : ℕ) (s : Ticket) → slice_get (tickets past) u ≡ Some s → (fate (event ∷ past) u).status ≡ None → (fate past u).status ≡ None
open-before past event u s at after = event-keeps-always (WasOpen (fate past u)) past event u s at (WasOpen-keeps (fate past u) s) (λ none. none) after

-- while a ticket is open, the later ones of its endpoint are untouched
abbrev pub IsOrdered : List Event → Type 0
IsOrdered past = (t u : ℕ) → IsAhead past t u → IsUntouched (fate past u)

-- the ticket ahead keeps the oldest from being the later one
ahead-oldest : (past : List Event) (d e t u : ℕ) → IsAhead past t u → oldest past d e ≡ Some u → ⊥
ahead-oldest past d e t u a is =
    let o = is_oldest past d e u is in
    let same : a.r ≡ o.s = same_Some a.r o.s (sym a.second ∙ o.at) in
    let least = oldest-least past d e u t a.s is a.first (a.device ∙ (ap (λ (x : Ticket). x.device) same ∙ o.device)) (a.endpoint ∙ (ap (λ (x : Ticket). x.endpoint) same ∙ o.endpoint)) a.none in
    let b = a.before in
    omega arith

untouched-finish : (n : ℕ) (f : Fate) → IsUntouched f → IsUntouched (finish n f)
untouched-finish n f h = record { packets = finish-packets n f h.packets; acks = finish-acks n f h.acks }
  where
    finish-packets : (n : ℕ) (f : Fate) → f.packets ≡ [] → (finish n f).packets ≡ []
    finish-packets n f e = grind (arith, common_steps)

    finish-acks : (n : ℕ) (f : Fate) → f.acks ≡ 0 → (finish n f).acks ≡ 0
    finish-acks n f e = grind (arith, common_steps)

untouched-reap : (s : Ticket) (f : Fate) → IsUntouched f → IsUntouched (reap s f)
untouched-reap s f h = record { packets = reap-packets s f h.packets; acks = reap-acks s f h.acks }
  where
    reap-packets : (s : Ticket) (f : Fate) → f.packets ≡ [] → (reap s f).packets ≡ []
    reap-packets s f e = grind (arith, common_steps)

    reap-acks : (s : Ticket) (f : Fate) → f.acks ≡ 0 → (reap s f).acks ≡ 0
    reap-acks s f e = grind (arith, common_steps)

-- the same tickets, at an earlier moment with the same list of tickets
ahead-before : (past : List Event) (event : Event) (t u : ℕ) → tickets (event ∷ past) ≡ tickets past → IsAhead (event ∷ past) t u → IsAhead past t u
ahead-before past event t u same a =
    let first = rw same at a.first in
    record {
      s = a.s;
      r = a.r;
      first = first;
      second = rw same at a.second;
      before = a.before;
      device = a.device;
      endpoint = a.endpoint;
      none = open-before past event t a.s first a.none;
    }

packet-ordered : (past : List Event) (d e : ℕ) (b : List ℕ) (t u : ℕ) → IsAhead (Packet d e b ∷ past) t u → IsUntouched (fate past u) → IsUntouched (fate (Packet d e b ∷ past) u)
packet-ordered past d e b t u a h =
    at_oldest-keeps IsUntouched (oldest past d e) (λ s. with_packet s b) (tickets past) (fate past) u h
    (λ is r here. absurd (ahead-oldest past d e t u (ahead-before past (Packet d e b) t u refl a) is))

ack-ordered : (past : List Event) (d e t u : ℕ) → IsAhead (Ack d e ∷ past) t u → IsUntouched (fate past u) → IsUntouched (fate (Ack d e ∷ past) u)
ack-ordered past d e t u a h =
    at_oldest-keeps IsUntouched (oldest past d e) with_ack (tickets past) (fate past) u h
    (λ is r here. absurd (ahead-oldest past d e t u (ahead-before past (Ack d e) t u refl a) is))

-- two tickets of one endpoint, in order
pub record IsPair (past : List Event) (t u : ℕ) : Type 0 where
  pub s : Ticket
  pub r : Ticket
  pub first : slice_get (tickets past) t ≡ Some s
  pub second : slice_get (tickets past) u ≡ Some r
  pub before : t < u
  pub device : s.device ≡ r.device
  pub endpoint : s.endpoint ≡ r.endpoint

ahead-of : (past : List Event) (t u : ℕ) → IsPair past t u → (fate past t).status ≡ None → IsAhead past t u
ahead-of past t u p none = record { s = p.s; r = p.r; first = p.first; second = p.second; before = p.before; device = p.device; endpoint = p.endpoint; none = none }

echo-ordered : (past : List Event) (d o i t u : ℕ) (x y : Option ℕ) → IsPair past t u → (echo_comes x y d o i (tickets past) (fate past) t).status ≡ None → ((fate past t).status ≡ None → IsUntouched (fate past u)) → IsUntouched (echo_comes x y d o i (tickets past) (fate past) u)
echo-ordered past d o i t u None y p none h = h none
echo-ordered past d o i t u (Some z) None p none h = h none
echo-ordered past d o i t u (Some z) (Some j) p none h =
    let b = taken_of (slice_get (tickets past) z) (fate past z) in
    let both : IsAhead (Packet d i b ∷ (Ack d o ∷ past)) t u = ahead-of (Packet d i b ∷ (Ack d o ∷ past)) t u (record { s = p.s; r = p.r; first = p.first; second = p.second; before = p.before; device = p.device; endpoint = p.endpoint }) none in
    let mid : IsAhead (Ack d o ∷ past) t u = ahead-before (Ack d o ∷ past) (Packet d i b) t u refl both in
    let old : IsAhead past t u = ahead-before past (Ack d o) t u refl mid in
    packet-ordered (Ack d o ∷ past) d i b t u both (ack-ordered past d o t u mid (h old.none))

-- at a new ticket
submit-ordered : (past : List Event) (x : Ticket) (t u : ℕ) (s r : Ticket) → slice_get (tickets past ++ x ∷ []) t ≡ Some s → slice_get (tickets past ++ x ∷ []) u ≡ Some r → t < u → (slice_get (tickets past) t ≡ Some s) × ((slice_get (tickets past) u ≡ Some r) ⊎ (u ≡ length (tickets past)))
submit-ordered past x t u s r first second before =
    elim (slice_get-push (tickets past) x u r second) [
      | inl old ↦ let within = slice_get_within (tickets past) u r old in (earlier (omega arith), inl old)
      | inr new ↦ (earlier (omega (arith, new.0)), inr new.0)
    ]
  where
    earlier : t < length (tickets past) → slice_get (tickets past) t ≡ Some s
    earlier small = elim (slice_get-push (tickets past) x t s first) [ inl old ↦ old | inr new ↦ absurd (omega (arith, new.0)) ]

pub ordered : (past : List Event) → IsOrdered past
ordered [] t u a = absurd (none-some a.s a.first)
ordered (Submit n d e m body room deadline ∷ past) t u a =
    let h = submit-ordered past _ t u a.s a.r a.first a.second a.before in
    elim h.1 [
      | inl old ↦ ordered past t u (record { s = a.s; r = a.r; first = h.0; second = old; before = a.before; device = a.device; endpoint = a.endpoint; none = a.none })
      | inr new ↦ let is = fate-fresh past u (omega (arith, new)) in record { packets = rw is refl; acks = rw is refl }
    ]
ordered (Refuse n d e m body room errno ∷ past) t u a =
    let h = submit-ordered past _ t u a.s a.r a.first a.second a.before in
    elim h.1 [
      | inl old ↦
          let within = slice_get_within (tickets past) u a.r old in
          let apart : length (tickets past) ≢ u = λ same. omega arith in
          let h : IsUntouched (fate past u) = ordered past t u (record { s = a.s; r = a.r; first = h.0; second = old; before = a.before; device = a.device; endpoint = a.endpoint; none = open-before past (Refuse n d e m body room errno) t a.s h.0 a.none }) in
          rw (ne_eqb (length (tickets past)) u apart) h
      | inr new ↦ rw (eq-eqb (length (tickets past)) u (sym new)) (record { packets = refl; acks = refl })
    ]
ordered (Packet d e b ∷ past) t u a = packet-ordered past d e b t u a (ordered past t u (ahead-before past (Packet d e b) t u refl a))
ordered (Ack d e ∷ past) t u a = ack-ordered past d e t u a (ordered past t u (ahead-before past (Ack d e) t u refl a))
ordered (Echo d o i ∷ past) t u a =
    echo-ordered past d o i t u (oldest past d o) (oldest past d i)
    (record { s = a.s; r = a.r; first = a.first; second = a.second; before = a.before; device = a.device; endpoint = a.endpoint })
    a.none (λ none. ordered past t u (ahead-before past (Echo d o i) t u refl a))
ordered (Fail d e errno ∷ past) t u a =
    at_oldest-keeps IsUntouched (oldest past d e) (λ s. finish errno) (tickets past) (fate past) u (ordered past t u (ahead-before past (Fail d e errno) t u refl a)) (λ is r here. untouched-finish errno (fate past u) (ordered past t u (ahead-before past (Fail d e errno) t u refl a)))
ordered (Discard n ∷ past) t u a =
    let h = ordered past t u (ahead-before past (Discard n) t u refl a) in
    at_ticket-keeps IsUntouched n (λ s. finish 2) (tickets past) (fate past) u h (λ r here. untouched-finish 2 (fate past u) h)
ordered (Reap n ∷ past) t u a =
    let h = ordered past t u (ahead-before past (Reap n) t u refl a) in
    at_ticket-keeps IsUntouched n reap (tickets past) (fate past) u h (λ r here. untouched-reap r (fate past u) h)
ordered (Unplug d ∷ past) t u a =
    let h = ordered past t u (ahead-before past (Unplug d) t u refl a) in
    change-keeps IsUntouched (unplug d) (slice_get (tickets past) u) (fate past u) h
    (λ r here. elim (r.device == d) as (λ v. IsUntouched (cond v (finish 108 (fate past u)) (fate past u))) [ true ↦ untouched-finish 108 (fate past u) h | false ↦ h ])
