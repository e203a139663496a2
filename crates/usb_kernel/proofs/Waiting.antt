-- The tickets that are finished and not reaped.
use Rattle.std.proofs.Common.{◌≡◌, ◌≢◌, ◌∙◌, ℕ, ◌+◌, ◌<◌, ◌≤◌, arith, true, false, cond, List, ◌∷◌, length, Option, Some, None, refl, ap, sym, slice_get, inl, inr}
use Rattle.std.specs.Prelude.{is_some, is_none, IsSome, ◌==◌, not}
use Rattle.std.proofs.lemmas.Option.{slice_get_within}
use Rattle.std.proofs.lemmas.Bool.{cases_Bool, cases_eq, eq-eqb, ne_eqb, lt-ltb, and_parts, and_from}
use Rattle.std.proofs.lemmas.Grind.{common_steps}
use Rattle.usb_kernel.specs.declared.event.Event.{Event}
use Rattle.usb_kernel.specs.declared.event.Event.TheVariants.{Submit, Refuse, Packet, Ack, Echo, Fail, Discard, Reap, Unplug}
use Rattle.usb_kernel.specs.declared.event.Body.{Body}
use Rattle.usb_kernel.specs.Tickets.{Ticket, tickets}
use Rattle.usb_kernel.specs.Fates.{Fate, waits, with_packet, with_ack, finish, reap, unplug}
use Rattle.usb_kernel.specs.Journal.{fate, oldest}
use Rattle.usb_kernel.specs.Completions.{is_reapable, waiting, lowest, reapable, done_if}
use Rattle.usb_kernel.specs.Steps.{after_discard}
use Rattle.usb_kernel.specs.Waits.{reaps}
use Rattle.usb_kernel.proofs.Fresh.{fate-fresh}
use Rattle.usb_kernel.proofs.Rules.{KeepsAlways, event-keeps-always, at_oldest-keeps, at_ticket-keeps, change-keeps, echo-cases, slice_get-here}
use Rattle.usb_kernel.proofs.Selections.{without_number, numbers-same, numbers-without, numbers-push_fails, numbers-some, numbers-more, numbers-is_first, numbers-least, length-numbers, length-without}

pub waiting-submit : (past : List Event) (t d e m : ℕ) (body : Body) (room : ℕ) (deadline : Option ℕ) → waiting (Submit t d e m body room deadline ∷ past) ≡ waiting past
waiting-submit past t d e m body room deadline =
    let new : Ticket = record { device = d; endpoint = e; maximum = m; body = body; capacity = room; refused = false; deadline = deadline } in
    let fresh = fate-fresh past (length (tickets past)) (omega arith) in
    numbers-push_fails (is_reapable (fate past)) (tickets past) new (rw fresh refl)

pub waiting-refuse : (past : List Event) (t d e m : ℕ) (body : Body) (room errno : ℕ) → waiting (Refuse t d e m body room errno ∷ past) ≡ waiting past
waiting-refuse past t d e m body room errno =
    let later : ℕ → Fate = fate (Refuse t d e m body room errno ∷ past) in
    let new : Ticket = record { device = d; endpoint = e; maximum = m; body = body; capacity = room; refused = true; deadline = None } in
    let n = length (tickets past) in
    numbers-push_fails (is_reapable later) (tickets past) new (rw (eq-eqb n n refl) refl)
    ∙ numbers-same (is_reapable (fate past)) (is_reapable later) 0 (tickets past)
    (λ u s at. let z : 0 + u ≡ u = omega arith in rw (z, ne_eqb n u (beyond u s at)) refl)
  where
    beyond : (u : ℕ) (s : Ticket) → slice_get (tickets past) u ≡ Some s → length (tickets past) ≢ u
    beyond u s at = λ same. let within = slice_get_within (tickets past) u s at in omega arith

reap-over : (s : Ticket) (f : Fate) → waits (reap s f) ≡ false
reap-over s f = grind (arith, common_steps)

-- a reap takes its ticket out
pub waiting-reap : (past : List Event) (t : ℕ) → waiting (Reap t ∷ past) ≡ without_number t (waiting past)
waiting-reap past t =
    numbers-without (is_reapable (fate past)) (is_reapable (fate (Reap t ∷ past))) t 0 (tickets past)
    (λ u s at. let z : 0 + u ≡ u = omega arith in
    rw z (elim (cases_eq u t) [
      | inl same ↦ rw (eq-eqb u t same) (rw (eq-eqb t u (sym same), at) (reap-over s (fate past u)))
      | inr apart ↦ rw (ne_eqb u t apart, ne_eqb t u (λ same. apart (sym same))) refl
    ]))

-- what is reapable is a ticket that waits
pub reapable-parts : (t : ℕ) (past : List Event) (o : Option Ticket) → slice_get (tickets past) t ≡ o → IsSome (reapable past t) → (s : Ticket) × (slice_get (tickets past) t ≡ Some s) × (waits (fate past t) ≡ true)
reapable-parts t past None at some = let no_ : is_some (reapable past t) ≡ false = rw at refl in cc
reapable-parts t past (Some s) at some = (s, at, done-waits s (fate past t) (rw at at some))
  where
    done-waits : (s : Ticket) (f : Fate) → IsSome (done_if t f s) → waits f ≡ true
    done-waits s f some = grind (arith, common_steps)

waits-reapable : (t : ℕ) (s : Ticket) (f : Fate) → waits f ≡ true → IsSome (done_if t f s)
waits-reapable t s f w = grind (arith, common_steps)

pub finished-reapable : (past : List Event) (t : ℕ) → t < length (tickets past) → IsSome (fate past t).status → (fate past t).reaped ≡ false → IsSome (reapable past t)
finished-reapable past t within some unreaped =
    let s = slice_get-here (tickets past) t within in
    rw s.1 (waits-reapable t s.0 (fate past t) (and_from (is_some (fate past t).status) (not (fate past t).reaped) some (ap not unreaped)))

pub waiting-one_less : (past : List Event) (t : ℕ) → IsSome (reapable past t) → length (waiting (Reap t ∷ past)) + 1 ≡ length (waiting past)
waiting-one_less past t some =
    let p = reapable-parts t past (slice_get (tickets past) t) refl some in
    let z : 0 + t ≡ t = omega arith in
    let less : length (without_number (0 + t) (waiting past)) + 1 ≡ length (waiting past) = length-without (is_reapable (fate past)) 0 t (tickets past) p.0 p.1 (rw z p.2) in
    rw (waiting-reap past t) (rw z at less)

pub lowest-some : (past : List Event) (t : ℕ) → IsSome (reapable past t) → IsSome (lowest past)
lowest-some past t some =
    let p = reapable-parts t past (slice_get (tickets past) t) refl some in
    let z : 0 + t ≡ t = omega arith in
    numbers-some (is_reapable (fate past)) 0 t (tickets past) p.0 p.1 (rw z p.2)

pub lowest-reapable : (past : List Event) (t : ℕ) → lowest past ≡ Some t → IsSome (reapable past t)
lowest-reapable past t is =
    let h = numbers-is_first (is_reapable (fate past)) t 0 (tickets past) is in
    let z : h.i ≡ t = omega (arith, h.number) in
    let at : slice_get (tickets past) t ≡ Some h.x = rw z at h.at in
    rw at (waits-reapable t h.x (fate past t) h.passes)

pub lowest-least : (past : List Event) (t u : ℕ) → lowest past ≡ Some t → IsSome (reapable past u) → t ≤ u
lowest-least past t u is some =
    let p = reapable-parts u past (slice_get (tickets past) u) refl some in
    let z : 0 + u ≡ u = omega arith in
    let least = numbers-least (is_reapable (fate past)) t 0 u (tickets past) p.0 is p.1 (rw z p.2) in
    omega arith

pub waiting-few : (past : List Event) → length (waiting past) ≤ length (tickets past)
waiting-few past = length-numbers (is_reapable (fate past)) 0 (tickets past)

-- what is finished stays so
IsFinished-keeps : (s : Ticket) → KeepsAlways (λ f. is_some f.status ≡ true) s
IsFinished-keeps s = record {
  packet = λ f b none some. absurd (never f none some);
  ack = λ f none some. absurd (never f none some);
  ends = λ f n any some. finish-some n f some;
  reaps = λ f some. reap-some s f some;
}
  where
    never : (f : Fate) → f.status ≡ None → is_some f.status ≡ true → ⊥
    never f none some = grind (arith, common_steps)

    finish-some : (n : ℕ) (f : Fate) → is_some f.status ≡ true → (is_some (finish n f).status) ≡ true
    finish-some n f some = grind (arith, common_steps)

    reap-some : (s : Ticket) (f : Fate) → is_some f.status ≡ true → (is_some (reap s f).status) ≡ true
    reap-some s f some = grind (arith, common_steps)

finish-reaped : (n : ℕ) (f : Fate) → (finish n f).reaped ≡ f.reaped
finish-reaped n f = grind (arith, common_steps)

packet-reaped : (s : Ticket) (b : List ℕ) (f : Fate) → (with_packet s b f).reaped ≡ f.reaped
packet-reaped s b f = grind (arith, common_steps)

ack-reaped : (s : Ticket) (f : Fate) → (with_ack s f).reaped ≡ f.reaped
ack-reaped s f = grind (arith, common_steps)

-- an event that submits nothing and reaps nothing
waiting-spared : (past : List Event) (event : Event) → tickets (event ∷ past) ≡ tickets past → ((u : ℕ) → (fate (event ∷ past) u).reaped ≡ (fate past u).reaped) → length (waiting past) ≤ length (waiting (event ∷ past))
waiting-spared past event same spared =
    rw same
    (numbers-more (is_reapable (fate past)) (is_reapable (fate (event ∷ past))) 0 (tickets past)
    (λ u s at w. let z : 0 + u ≡ u = omega arith in
    let both = and_parts (is_some (fate past u).status) (not (fate past u).reaped) (rw z at w) in
    rw z (and_from (is_some (fate (event ∷ past) u).status) (not (fate (event ∷ past) u).reaped)
    (event-keeps-always (λ f. is_some f.status ≡ true) past event u s at (IsFinished-keeps s) both.0)
    (ap not (spared u) ∙ both.1))))

packet-spares : (past : List Event) (d e : ℕ) (b : List ℕ) (u : ℕ) → (fate (Packet d e b ∷ past) u).reaped ≡ (fate past u).reaped
packet-spares past d e b u =
    at_oldest-keeps (λ g. g.reaped ≡ (fate past u).reaped) (oldest past d e) (λ s. with_packet s b) (tickets past) (fate past) u refl (λ is r here. packet-reaped r b (fate past u))

ack-spares : (past : List Event) (d e : ℕ) (u : ℕ) → (fate (Ack d e ∷ past) u).reaped ≡ (fate past u).reaped
ack-spares past d e u =
    at_oldest-keeps (λ g. g.reaped ≡ (fate past u).reaped) (oldest past d e) with_ack (tickets past) (fate past) u refl (λ is r here. ack-reaped r (fate past u))

echo-spares : (past : List Event) (d o i u : ℕ) → (fate (Echo d o i ∷ past) u).reaped ≡ (fate past u).reaped
echo-spares past d o i u =
    echo-cases (λ g. g.reaped ≡ (fate past u).reaped) past d o i u (oldest past d o) (oldest past d i) refl
    (λ b. packet-spares (Ack d o ∷ past) d i b u ∙ ack-spares past d o u)

fail-spares : (past : List Event) (d e errno u : ℕ) → (fate (Fail d e errno ∷ past) u).reaped ≡ (fate past u).reaped
fail-spares past d e errno u =
    at_oldest-keeps (λ g. g.reaped ≡ (fate past u).reaped) (oldest past d e) (λ s. finish errno) (tickets past) (fate past) u refl (λ is r here. finish-reaped errno (fate past u))

pub discard-spares : (past : List Event) (t u : ℕ) → (fate (Discard t ∷ past) u).reaped ≡ (fate past u).reaped
discard-spares past t u =
    at_ticket-keeps (λ g. g.reaped ≡ (fate past u).reaped) t (λ s. finish 2) (tickets past) (fate past) u refl (λ r here. finish-reaped 2 (fate past u))

unplug-spares : (past : List Event) (d u : ℕ) → (fate (Unplug d ∷ past) u).reaped ≡ (fate past u).reaped
unplug-spares past d u =
    change-keeps (λ g. g.reaped ≡ (fate past u).reaped) (unplug d) (slice_get (tickets past) u) (fate past u) refl
    (λ r here. elim (r.device == d) as (λ v. (cond v (finish 108 (fate past u)) (fate past u)).reaped ≡ (fate past u).reaped) [ true ↦ finish-reaped 108 (fate past u) | false ↦ refl ])

-- a reap is of its own ticket
pub reap-spares : (past : List Event) (t u : ℕ) → u ≢ t → (fate (Reap t ∷ past) u).reaped ≡ (fate past u).reaped
reap-spares past t u apart = rw (ne_eqb t u (λ same. apart (sym same))) refl

-- and no other event reaps a ticket that was there
pub event-spares : (past : List Event) (event : Event) (u : ℕ) → u < length (tickets past) → reaps event ≡ false → (fate (event ∷ past) u).reaped ≡ (fate past u).reaped
event-spares past (Submit t d e m body room deadline) u within other = refl
event-spares past (Refuse t d e m body room errno) u within other =
    let apart : length (tickets past) ≢ u = λ same. omega arith in
    rw (ne_eqb (length (tickets past)) u apart) refl
event-spares past (Packet d e b) u within other = packet-spares past d e b u
event-spares past (Ack d e) u within other = ack-spares past d e u
event-spares past (Echo d o i) u within other = echo-spares past d o i u
event-spares past (Fail d e errno) u within other = fail-spares past d e errno u
event-spares past (Discard t) u within other = discard-spares past t u
event-spares past (Reap t) u within other = cc
event-spares past (Unplug d) u within other = unplug-spares past d u

-- every event but a reap adds to them, or leaves them
pub waiting-more : (past : List Event) (event : Event) → reaps event ≡ false → length (waiting past) ≤ length (waiting (event ∷ past))
waiting-more past (Submit t d e m body room deadline) other = rw (waiting-submit past t d e m body room deadline) (omega arith)
waiting-more past (Refuse t d e m body room errno) other = rw (waiting-refuse past t d e m body room errno) (omega arith)
waiting-more past (Packet d e b) other = waiting-spared past (Packet d e b) refl (packet-spares past d e b)
waiting-more past (Ack d e) other = waiting-spared past (Ack d e) refl (ack-spares past d e)
waiting-more past (Echo d o i) other = waiting-spared past (Echo d o i) refl (echo-spares past d o i)
waiting-more past (Fail d e errno) other = waiting-spared past (Fail d e errno) refl (fail-spares past d e errno)
waiting-more past (Discard t) other = waiting-spared past (Discard t) refl (discard-spares past t)
waiting-more past (Reap t) other = cc
waiting-more past (Unplug d) other = waiting-spared past (Unplug d) refl (unplug-spares past d)

-- a discard finishes
pub discard-finishes : (past : List Event) (t : ℕ) → t < length (tickets past) → IsSome (fate (after_discard past t) t).status
discard-finishes past t within =
    let s = slice_get-here (tickets past) t within in
    rw (lt-ltb t (length (tickets past)) within)
    (elim (cases_Bool (is_none (fate past t).status)) [
      | inl none ↦ rw none (rw (eq-eqb t t refl, s.1) (finish-some 2 (fate past t)))
      | inr some ↦ rw some (some-when (fate past t) some)
    ])
  where
    finish-some : (n : ℕ) (f : Fate) → is_some (finish n f).status ≡ true
    finish-some n f = grind (arith, common_steps)

    some-when : (f : Fate) → is_none f.status ≡ false → is_some f.status ≡ true
    some-when f some = grind (arith, common_steps)
