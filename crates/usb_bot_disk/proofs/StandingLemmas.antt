-- The packets that stand at an OUT endpoint fall.
use Rattle.std.proofs.Common.{◌≡◌, ℕ, zero, suc, ◌+◌, ◌-◌, ◌*◌, ◌<◌, ◌≤◌, Bool, List, [], ◌∷◌, ◌++◌, length, slice_get, Option, Some, None, true, false, refl, sym, ap, ◌∙◌, arith, inl, inr, subst}
use Rattle.std.specs.Prelude.{is_none, cond, ◌==◌, ◌&&◌}
use Rattle.std.specs.List.{sum_by, enumerate_from}
use Rattle.std.proofs.Math.Nat.{mul-le-mul_left}
use Rattle.std.proofs.lemmas.Bool.{cases_lt, cases_eq, eq-eqb, ne_eqb}
use Rattle.std.proofs.lemmas.Grind.{common_steps}
use Rattle.std.proofs.lemmas.List.Sums.{sum_by-cons, sum_by-le-sum_by}
use Rattle.std.proofs.lemmas.Option.{same_Some, none-some}
use Rattle.usb_kernel.specs.declared.event.Event.{Event}
use Rattle.usb_kernel.specs.declared.event.Event.TheVariants.{Submit, Refuse, Ack}
use Rattle.usb_kernel.specs.declared.event.Body.{Body}
use Rattle.usb_kernel.specs.declared.event.Body.TheVariants.{Wanted, Sent}
use Rattle.usb_kernel.specs.Tickets.{Ticket, tickets}
use Rattle.usb_kernel.specs.Fates.{Fate, refused_fate, with_ack, with_packet, finish, reap}
use Rattle.usb_kernel.specs.Journal.{fate, is_open, oldest, at_oldest, change}
use Rattle.usb_kernel.proofs.Rules.{KeepsAlways, event-keeps-always, oldest-none}
use Rattle.usb_kernel.proofs.Order.{open-before, is_oldest}
use Rattle.usb_kernel.proofs.Fresh.{fate-fresh}
use Rattle.usb_bot_disk.proofs.TicketLemmas.{ack-last}
use Rattle.usb_bot_disk.specs.Standing.{packets_left, ticket_packets, packets_open}

-- acknowledgements only come
acks-keep : (n : ℕ) (s : Ticket) → KeepsAlways (λ f. n ≤ f.acks) s
acks-keep n s = record {
  packet = λ f b none few. omega (arith, few, packet-acks b f);
  ack = λ f none few. omega (arith, few, ack-acks f);
  ends = λ f errno some few. omega (arith, few, finish-acks errno f);
  reaps = λ f few. omega (arith, few, reap-acks f);
}
  where
    finish-acks : (errno : ℕ) (f : Fate) → (finish errno f).acks ≡ f.acks
    finish-acks errno f = grind (arith, common_steps)

    packet-acks : (b : List ℕ) (f : Fate) → (with_packet s b f).acks ≡ f.acks
    packet-acks b f = grind (arith, common_steps)

    ack-acks : (f : Fate) → (with_ack s f).acks ≡ f.acks + 1
    ack-acks f = grind (arith, common_steps)

    reap-acks : (f : Fate) → (reap s f).acks ≡ f.acks
    reap-acks f = grind (arith, common_steps)

-- what is open was open, with no more acknowledgements
pub record WentOn (f g : Fate) : Type 0 where
  pub open_before : g.status ≡ None → f.status ≡ None
  pub acks : f.acks ≤ g.acks

beyond : {X : Type 0} (xs : List X) (u : ℕ) → slice_get xs u ≡ None → length xs ≤ u
beyond [] u none = omega arith
beyond (x ∷ xs) zero none = absurd (none-some x (sym none))
beyond (x ∷ xs) (suc u) none = let more = beyond xs u none in omega arith

went-on : (past : List Event) (event : Event) (u : ℕ) → tickets (event ∷ past) ≡ tickets past → WentOn (fate past u) (fate (event ∷ past) u)
went-on past event u same = by (slice_get (tickets past) u) refl
  where
    by : (o : Option Ticket) → slice_get (tickets past) u ≡ o → WentOn (fate past u) (fate (event ∷ past) u)
    by None at =
        let out : length (tickets past) ≤ u = beyond (tickets past) u at in
        let fresh_both : fate past u ≡ fate (event ∷ past) u = fate-fresh past u out ∙ sym (fate-fresh (event ∷ past) u (subst (λ (ts : List Ticket). length ts ≤ u) (sym same) out)) in
        subst (λ (g : Fate). WentOn (fate past u) g) fresh_both (record { open_before = λ none. none; acks = omega arith })
    by (Some s) at = record { open_before = open-before past event u s at; acks = event-keeps-always (λ f. (fate past u).acks ≤ f.acks) past event u s at (acks-keep (fate past u).acks s) (omega arith) }

-- fewer are left after more acknowledgements
left-fall : (body : Body) (maximum before after : ℕ) → before ≤ after → packets_left body maximum after ≤ packets_left body maximum before
left-fall (Wanted n) maximum before after more = omega arith
left-fall (Sent bytes) maximum before after more = let product : maximum * before ≤ maximum * after = mul-le-mul_left maximum more in omega (arith, product)

never : (a b : Bool) → (a && (b && false)) ≡ false
never true true = refl
never true false = refl
never false b = refl

ticket-falls : (old new : ℕ → Fate) (d e u : ℕ) (s : Ticket) → WentOn (old u) (new u) → ticket_packets new d e (u, s) ≤ ticket_packets old d e (u, s)
ticket-falls old new d e u s went = by (new u).status refl
  where
    cond-le : {m n : ℕ} (v : Bool) → m ≤ n → cond v m 0 ≤ cond v n 0
    cond-le true le = le
    cond-le false le = omega arith

    by : (o : Option ℕ) → (new u).status ≡ o → ticket_packets new d e (u, s) ≤ ticket_packets old d e (u, s)
    by (Some errno) finished =
        let closed : is_open new d e (u, s) ≡ false = ap (λ (o : Option ℕ). s.device == d && (s.endpoint == e && is_none o)) finished ∙ never (s.device == d) (s.endpoint == e) in
        rw closed (omega arith)
    by None unfinished =
        let before = went.open_before unfinished in
        let now : is_open new d e (u, s) ≡ (s.device == d && (s.endpoint == e && true)) = ap (λ (o : Option ℕ). s.device == d && (s.endpoint == e && is_none o)) unfinished in
        let was : is_open old d e (u, s) ≡ (s.device == d && (s.endpoint == e && true)) = ap (λ (o : Option ℕ). s.device == d && (s.endpoint == e && is_none o)) before in
        rw (now, was) (cond-le (s.device == d && (s.endpoint == e && true)) (left-fall s.body s.maximum (old u).acks (new u).acks went.acks))

-- no event but a submission raises the number of those that stand
pub open-falls : (past : List Event) (event : Event) (d e : ℕ) → tickets (event ∷ past) ≡ tickets past → packets_open (event ∷ past) d e ≤ packets_open past d e
open-falls past event d e same =
    subst (λ (ts : List Ticket). sum_by (ticket_packets (fate (event ∷ past)) d e) (enumerate_from 0 ts) ≤ packets_open past d e) (sym same)
    (sum_by-le-sum_by (ticket_packets (fate (event ∷ past)) d e) (ticket_packets (fate past) d e) (enumerate_from 0 (tickets past))
    (λ p. ticket-falls (fate past) (fate (event ∷ past)) d e p.0 p.1 (went-on past event p.0 same)))

-- a sum of terms that are no larger, of which one is less
sum-less : (f g : (ℕ × Ticket) → ℕ) (ts : List Ticket) (k i : ℕ) (s : Ticket) → ((p : ℕ × Ticket) → f p ≤ g p) → slice_get ts i ≡ Some s → f (k + i, s) < g (k + i, s) → sum_by f (enumerate_from k ts) < sum_by g (enumerate_from k ts)
sum-less f g [] k i s all at less = absurd (none-some s at)
sum-less f g (t ∷ ts) k zero s all at less =
    let z : k + 0 ≡ k = omega arith in
    let here : t ≡ s = same_Some t s at in
    let first : f (k, t) < g (k, t) = subst (λ (n : ℕ). f (n, t) < g (n, t)) z (subst (λ (x : Ticket). f (k + 0, x) < g (k + 0, x)) (sym here) less) in
    omega (arith, first, sum_by-le-sum_by f g (enumerate_from (k + 1) ts) all, sum_by-cons f (k, t) (enumerate_from (k + 1) ts), sum_by-cons g (k, t) (enumerate_from (k + 1) ts))
sum-less f g (t ∷ ts) k (suc i) s all at less =
    let z : k + suc i ≡ (k + 1) + i = omega arith in
    let more = sum-less f g ts (k + 1) i s all at (subst (λ (n : ℕ). f (n, s) < g (n, s)) z less) in
    omega (arith, more, all (k, t), sum_by-cons f (k, t) (enumerate_from (k + 1) ts), sum_by-cons g (k, t) (enumerate_from (k + 1) ts))

ack-acks : (s : Ticket) (f : Fate) → (with_ack s f).acks ≡ f.acks + 1
ack-acks s f = grind (arith, common_steps)

-- an acknowledgement that leaves its ticket open leaves fewer bytes
ack-short : (s : Ticket) (bytes : List ℕ) (f : Fate) → s.body ≡ Sent bytes → f.status ≡ None → (with_ack s f).status ≡ None → s.maximum * f.acks + s.maximum < length bytes
ack-short s bytes f body unfinished still =
    elim (cases_lt (s.maximum * f.acks + s.maximum) (length bytes)) [
      | inl short ↦ short
      | inr all ↦ absurd (none-some 0 (sym still ∙ ap (λ (g : Fate). g.status) (ack-last s bytes s.maximum (s.maximum * f.acks) f (record { body = body; maximum_is = refl; count = refl }) all unfinished)))
    ]

one-more : (m a : ℕ) → m * (a + 1) ≡ m * a + m
one-more m a = omega arith

ack-less : (old new : ℕ → Fate) (d e t : ℕ) (s : Ticket) (bytes : List ℕ) → s.device ≡ d → s.endpoint ≡ e → (old t).status ≡ None → new t ≡ with_ack s (old t) → s.body ≡ Sent bytes → 0 < s.maximum →
    ticket_packets new d e (t, s) < ticket_packets old d e (t, s)
ack-less old new d e t s bytes device endpoint unfinished next body some = by (new t).status refl
  where
    was : ticket_packets old d e (t, s) ≡ length bytes - s.maximum * (old t).acks + 1
    was = rw (eq-eqb s.device d device, eq-eqb s.endpoint e endpoint, unfinished, body) refl

    by : (o : Option ℕ) → (new t).status ≡ o → ticket_packets new d e (t, s) < ticket_packets old d e (t, s)
    by (Some n) finished =
        let closed : ticket_packets new d e (t, s) ≡ 0 = rw (eq-eqb s.device d device, eq-eqb s.endpoint e endpoint, finished) refl in
        omega (arith, was, closed)
    by None open_still =
        let acks : (new t).acks ≡ (old t).acks + 1 = ap (λ (g : Fate). g.acks) next ∙ ack-acks s (old t) in
        let short = ack-short s bytes (old t) body unfinished (sym (ap (λ (g : Fate). g.status) next) ∙ open_still) in
        let product : s.maximum * (new t).acks ≡ s.maximum * (old t).acks + s.maximum = ap (λ n. s.maximum * n) acks ∙ one-more s.maximum (old t).acks in
        let now : ticket_packets new d e (t, s) ≡ length bytes - s.maximum * (new t).acks + 1 = rw (eq-eqb s.device d device, eq-eqb s.endpoint e endpoint, open_still, body) refl in
        omega (arith, was, now, product, short, some)

-- an acknowledgement lowers it, where packets have a size
pub open-ack-less : (past : List Event) (d e t : ℕ) (s : Ticket) (bytes : List ℕ) → oldest past d e ≡ Some t → slice_get (tickets past) t ≡ Some s → s.body ≡ Sent bytes → 0 < s.maximum →
    packets_open (Ack d e ∷ past) d e < packets_open past d e
open-ack-less past d e t s bytes is at body some =
    let o = is_oldest past d e t is in
    let same : s ≡ o.s = same_Some s o.s (sym at ∙ o.at) in
    let next : fate (Ack d e ∷ past) t ≡ with_ack s (fate past t) =
    ap (λ o. at_oldest o with_ack (tickets past) (fate past) t) is
    ∙ ap (λ b. cond b (change with_ack (slice_get (tickets past) t) (fate past t)) (fate past t)) (eq-eqb t t refl)
    ∙ ap (λ o. change with_ack o (fate past t)) at in
    let z : 0 + t ≡ t = omega arith in
    let less = ack-less (fate past) (fate (Ack d e ∷ past)) d e t s bytes (ap (λ (x : Ticket). x.device) same ∙ o.device) (ap (λ (x : Ticket). x.endpoint) same ∙ o.endpoint) (oldest-none past d e t is) next body some in
    sum-less (ticket_packets (fate (Ack d e ∷ past)) d e) (ticket_packets (fate past) d e) (tickets past) 0 t s
    (λ p. ticket-falls (fate past) (fate (Ack d e ∷ past)) d e p.0 p.1 (went-on past (Ack d e) p.0 refl)) at
    (subst (λ (n : ℕ). ticket_packets (fate (Ack d e ∷ past)) d e (n, s) < ticket_packets (fate past) d e (n, s)) (sym z) less)

sum-push : (f : (ℕ × Ticket) → ℕ) (ts : List Ticket) (k : ℕ) (s : Ticket) → sum_by f (enumerate_from k (ts ++ s ∷ [])) ≡ sum_by f (enumerate_from k ts) + f (k + length ts, s)
sum-push f [] k s = let z : k + 0 ≡ k = omega arith in ap (λ n. 0 + f (n, s)) (sym z)
sum-push f (t ∷ ts) k s =
    let z : (k + 1) + length ts ≡ k + length (t ∷ ts) = omega arith in
    let more = sum-push f ts (k + 1) s in
    let same : f ((k + 1) + length ts, s) ≡ f (k + length (t ∷ ts), s) = ap (λ n. f (n, s)) z in
    omega (arith, more, same, sum_by-cons f (k, t) (enumerate_from (k + 1) ts), sum_by-cons f (k, t) (enumerate_from (k + 1) (ts ++ s ∷ [])))

-- an event that ends the oldest open ticket of an endpoint leaves fewer
left-some : (body : Body) (maximum acks : ℕ) → 0 < packets_left body maximum acks
left-some (Wanted n) maximum acks = omega arith
left-some (Sent bytes) maximum acks = omega arith

closed-none : (fates : ℕ → Fate) (d e u : ℕ) (s : Ticket) (errno : ℕ) → (fates u).status ≡ Some errno → ticket_packets fates d e (u, s) ≡ 0
closed-none fates d e u s errno finished =
    let closed : is_open fates d e (u, s) ≡ false = ap (λ (o : Option ℕ). s.device == d && (s.endpoint == e && is_none o)) finished ∙ never (s.device == d) (s.endpoint == e) in
    ap (λ v. cond v (packets_left s.body s.maximum (fates u).acks) 0) closed

pub open-closes : (past : List Event) (event : Event) (d e t errno : ℕ) → tickets (event ∷ past) ≡ tickets past → oldest past d e ≡ Some t → (fate (event ∷ past) t).status ≡ Some errno → packets_open (event ∷ past) d e < packets_open past d e
open-closes past event d e t errno same is finished =
    let o = is_oldest past d e t is in
    let z : 0 + t ≡ t = omega arith in
    let was : ticket_packets (fate past) d e (t, o.s) ≡ packets_left o.s.body o.s.maximum (fate past t).acks = rw (eq-eqb o.s.device d o.device, eq-eqb o.s.endpoint e o.endpoint, oldest-none past d e t is) refl in
    let now : ticket_packets (fate (event ∷ past)) d e (t, o.s) ≡ 0 = closed-none (fate (event ∷ past)) d e t o.s errno finished in
    let less : ticket_packets (fate (event ∷ past)) d e (t, o.s) < ticket_packets (fate past) d e (t, o.s) = omega (arith, was, now, left-some o.s.body o.s.maximum (fate past t).acks) in
    subst (λ (ts : List Ticket). sum_by (ticket_packets (fate (event ∷ past)) d e) (enumerate_from 0 ts) < packets_open past d e) (sym same)
    (sum-less (ticket_packets (fate (event ∷ past)) d e) (ticket_packets (fate past) d e) (tickets past) 0 t o.s
    (λ p. ticket-falls (fate past) (fate (event ∷ past)) d e p.0 p.1 (went-on past event p.0 same)) o.at
    (subst (λ (n : ℕ). ticket_packets (fate (event ∷ past)) d e (n, o.s) < ticket_packets (fate past) d e (n, o.s)) (sym z) less))

-- a submission to an IN endpoint leaves those of an OUT endpoint as they are
ends-other : (a b : Bool) → (a && (false && b)) ≡ false
ends-other true b = refl
ends-other false b = refl

pub open-submit_in : (past : List Event) (t d' e' m : ℕ) (body : Body) (room d e : ℕ) (deadline : Option ℕ) → e < 128 → 128 ≤ e' → packets_open (Submit t d' e' m body room deadline ∷ past) d e ≡ packets_open past d e
open-submit_in past t d' e' m body room d e deadline low high =
    let s : Ticket = record { device = d'; endpoint = e'; maximum = m; body = body; capacity = room; refused = false; deadline = deadline } in
    let apart : (e' == e) ≡ false = ne_eqb e' e (λ same. absurd (omega (arith, same, low, high))) in
    let closed : is_open (fate past) d e (0 + length (tickets past), s) ≡ false =
    ap (λ v. (d' == d) && (v && is_none (fate past (0 + length (tickets past))).status)) apart ∙ ends-other (d' == d) (is_none (fate past (0 + length (tickets past))).status) in
    let none : ticket_packets (fate past) d e (0 + length (tickets past), s) ≡ 0 = ap (λ v. cond v (packets_left body m (fate past (0 + length (tickets past))).acks) 0) closed in
    omega (arith, sum-push (ticket_packets (fate past) d e) (tickets past) 0 s, none)

-- and a refusal adds none
refused-falls : (past : List Event) (t d' e' m : ℕ) (body : Body) (room errno d e : ℕ) (p : ℕ × Ticket) →
    ticket_packets (fate (Refuse t d' e' m body room errno ∷ past)) d e p ≤ ticket_packets (fate past) d e p
refused-falls past t d' e' m body room errno d e p =
    let event = Refuse t d' e' m body room errno in
    elim (cases_eq (length (tickets past)) p.0) [
      | inl here ↦
          let fate_is : fate (event ∷ past) p.0 ≡ refused_fate errno = ap (λ v. cond v (refused_fate errno) (fate past p.0)) (eq-eqb (length (tickets past)) p.0 here) in
          omega (arith, closed-none (fate (event ∷ past)) d e p.0 p.1 errno (ap (λ (f : Fate). f.status) fate_is))
      | inr apart ↦
          let fate_is : fate (event ∷ past) p.0 ≡ fate past p.0 = ap (λ v. cond v (refused_fate errno) (fate past p.0)) (ne_eqb (length (tickets past)) p.0 apart) in
          let same : ticket_packets (fate (event ∷ past)) d e p ≡ ticket_packets (fate past) d e p =
          ap (λ (f : Fate). cond (p.1.device == d && (p.1.endpoint == e && is_none f.status)) (packets_left p.1.body p.1.maximum f.acks) 0) fate_is in
          omega (arith, same)
    ]

pub open-refuse_adds : (past : List Event) (t d' e' m : ℕ) (body : Body) (room errno d e : ℕ) → packets_open (Refuse t d' e' m body room errno ∷ past) d e ≤ packets_open past d e
open-refuse_adds past t d' e' m body room errno d e =
    let event = Refuse t d' e' m body room errno in
    let s : Ticket = record { device = d'; endpoint = e'; maximum = m; body = body; capacity = room; refused = true; deadline = None } in
    let z : 0 + length (tickets past) ≡ length (tickets past) = omega arith in
    let own : fate (event ∷ past) (length (tickets past)) ≡ refused_fate errno = ap (λ v. cond v (refused_fate errno) (fate past (length (tickets past)))) (eq-eqb (length (tickets past)) (length (tickets past)) refl) in
    let none : ticket_packets (fate (event ∷ past)) d e (0 + length (tickets past), s) ≡ 0 =
    closed-none (fate (event ∷ past)) d e (0 + length (tickets past)) s errno (ap (λ n. (fate (event ∷ past) n).status) z ∙ ap (λ (f : Fate). f.status) own) in
    let others : sum_by (ticket_packets (fate (event ∷ past)) d e) (enumerate_from 0 (tickets past)) ≤ packets_open past d e =
    sum_by-le-sum_by (ticket_packets (fate (event ∷ past)) d e) (ticket_packets (fate past) d e) (enumerate_from 0 (tickets past)) (λ p. refused-falls past t d' e' m body room errno d e p) in
    omega (arith, sum-push (ticket_packets (fate (event ∷ past)) d e) (tickets past) 0 s, none, others)
