-- What an event can do to the fate of a ticket, once for all events.
use Rattle.std.proofs.Common.{◌∙◌, ◌≡◌, ◌≢◌, ℕ, ◌<◌, ◌≤◌, arith, List, [], ◌∷◌, ◌++◌, length, Option, Some, None, true, false, refl, ap, sym, slice_get, cond, lit≤, ◌⊎◌, inl, inr, zero, suc}
use Rattle.std.specs.Prelude.{is_none, ◌==◌}
use Rattle.std.proofs.lemmas.Option.{none-some, same_Some, slice_get_within}
use Rattle.std.proofs.lemmas.Bool.{cases_eq, ne_eqb, eq-eqb, false≢true}
use Rattle.usb_kernel.specs.declared.event.Event.{Event}
use Rattle.usb_kernel.specs.declared.event.Event.TheVariants.{Submit, Refuse, Packet, Ack, Echo, Fail, Discard, Reap, Unplug}
use Rattle.usb_kernel.specs.declared.event.Body.{Body}
use Rattle.usb_kernel.specs.Tickets.{Ticket, tickets}
use Rattle.usb_kernel.specs.Fates.{Fate, fresh, refused_fate, with_packet, with_ack, finish, reap, unplug}
use Rattle.usb_kernel.specs.Journal.{fate, at_ticket, at_oldest, change, oldest, echo_comes, taken_of}
use Rattle.usb_kernel.specs.Legal.{IsLegal, IsLawful}
use Rattle.usb_kernel.proofs.Final.{oldest-unfinished}
use Rattle.usb_kernel.proofs.Fresh.{fate-fresh}

pub is_none_none : {X : Type 0} (o : Option X) → is_none o ≡ true → o ≡ None
is_none_none None e = refl
is_none_none (Some x) e = absurd (false≢true e)

-- what is kept by each thing that can come to a ticket, where the numbers E are those that can finish it
pub record KeepsWith (E : ℕ → Type 0) (Q : Fate → Type 0) (s : Ticket) : Type 0 where
  pub packet : (f : Fate) (b : List ℕ) → f.status ≡ None → Q f → Q (with_packet s b f)
  pub ack : (f : Fate) → f.status ≡ None → Q f → Q (with_ack s f)
  pub ends : (f : Fate) (n : ℕ) → E n → Q f → Q (finish n f)
  pub reaps : (f : Fate) → Q f → Q (reap s f)

-- where events are legal, no failure has the number 0
abbrev pub Keeps : (Fate → Type 0) → Ticket → Type 0
Keeps Q s = KeepsWith (λ n. 1 ≤ n) Q s

-- and else a failure has any number
abbrev pub KeepsAlways : (Fate → Type 0) → Ticket → Type 0
KeepsAlways Q s = KeepsWith (λ n. Unit {0}) Q s

-- the number of a failure is one of E
abbrev pub FailsWith : (ℕ → Type 0) → Event → Type 0
FailsWith E (Fail d e errno) = E errno
FailsWith E _ = Unit {0}

fails-legal : (event : Event) → IsLegal event → FailsWith (λ n. 1 ≤ n) event
fails-legal (Fail d e errno) legal = legal.0
fails-legal (Submit t d e m body room deadline) legal = tt
fails-legal (Refuse t d e m body room errno) legal = tt
fails-legal (Packet d e b) legal = tt
fails-legal (Ack d e) legal = tt
fails-legal (Echo d o i) legal = tt
fails-legal (Discard t) legal = tt
fails-legal (Reap t) legal = tt
fails-legal (Unplug d) legal = tt

fails-always : (event : Event) → FailsWith (λ n. Unit {0}) event
fails-always (Fail d e errno) = tt
fails-always (Submit t d e m body room deadline) = tt
fails-always (Refuse t d e m body room errno) = tt
fails-always (Packet d e b) = tt
fails-always (Ack d e) = tt
fails-always (Echo d o i) = tt
fails-always (Discard t) = tt
fails-always (Reap t) = tt
fails-always (Unplug d) = tt

pub change-keeps : (Q : Fate → Type 0) (step : Ticket → Fate → Fate) (o : Option Ticket) (f : Fate) → Q f → ((s : Ticket) → o ≡ Some s → Q (step s f)) → Q (change step o f)
change-keeps Q step None f q keeps = q
change-keeps Q step (Some s) f q keeps = keeps s refl

pub at_ticket-keeps : (Q : Fate → Type 0) (t : ℕ) (step : Ticket → Fate → Fate) (ts : List Ticket) (f : ℕ → Fate) (u : ℕ) → Q (f u) → ((s : Ticket) → slice_get ts u ≡ Some s → Q (step s (f u))) → Q (at_ticket t step ts f u)
at_ticket-keeps Q t step ts f u q keeps =
    elim (t == u) as (λ v. Q (cond v (change step (slice_get ts u) (f u)) (f u))) [ true ↦ change-keeps Q step (slice_get ts u) (f u) q keeps | false ↦ q ]

pub at_oldest-keeps : (Q : Fate → Type 0) (o : Option ℕ) (step : Ticket → Fate → Fate) (ts : List Ticket) (f : ℕ → Fate) (u : ℕ) → Q (f u) → (o ≡ Some u → (s : Ticket) → slice_get ts u ≡ Some s → Q (step s (f u))) → Q (at_oldest o step ts f u)
at_oldest-keeps Q None step ts f u q keeps = q
at_oldest-keeps Q (Some t) step ts f u q keeps =
    elim (cases_eq t u) [
      | inl same ↦ at_ticket-keeps Q t step ts f u q (keeps (ap Some same))
      | inr apart ↦ rw (ne_eqb t u apart) q
    ]

-- the oldest of an endpoint is not finished
pub oldest-none : (past : List Event) (d e u : ℕ) → oldest past d e ≡ Some u → (fate past u).status ≡ None
oldest-none past d e u at = is_none_none (fate past u).status (oldest-unfinished (tickets past) 0 (fate past) d e u at)

pub packet-keeps : (E : ℕ → Type 0) (Q : Fate → Type 0) (past : List Event) (d e : ℕ) (b : List ℕ) (u : ℕ) (s : Ticket) → slice_get (tickets past) u ≡ Some s → KeepsWith E Q s → Q (fate past u) → Q (fate (Packet d e b ∷ past) u)
packet-keeps E Q past d e b u s at keeps q =
    at_oldest-keeps Q (oldest past d e) (λ s. with_packet s b) (tickets past) (fate past) u q
    (λ is r here. rw (same_Some r s (sym here ∙ at)) (keeps.packet (fate past u) b (oldest-none past d e u is) q))

pub ack-keeps : (E : ℕ → Type 0) (Q : Fate → Type 0) (past : List Event) (d e : ℕ) (u : ℕ) (s : Ticket) → slice_get (tickets past) u ≡ Some s → KeepsWith E Q s → Q (fate past u) → Q (fate (Ack d e ∷ past) u)
ack-keeps E Q past d e u s at keeps q =
    at_oldest-keeps Q (oldest past d e) with_ack (tickets past) (fate past) u q
    (λ is r here. rw (same_Some r s (sym here ∙ at)) (keeps.ack (fate past u) (oldest-none past d e u is) q))

-- an echo that acts is an acknowledgement and then a packet
pub echo-cases : (Q : Fate → Type 0) (past : List Event) (d o i u : ℕ) (x y : Option ℕ) → Q (fate past u) → ((b : List ℕ) → Q (fate (Packet d i b ∷ (Ack d o ∷ past)) u)) → Q (echo_comes x y d o i (tickets past) (fate past) u)
echo-cases Q past d o i u None y q both = q
echo-cases Q past d o i u (Some t) None q both = q
echo-cases Q past d o i u (Some t) (Some j) q both = both (taken_of (slice_get (tickets past) t) (fate past t))

pub event-keeps-with : (E : ℕ → Type 0) → E 2 → E 108 → (Q : Fate → Type 0) (past : List Event) (event : Event) (u : ℕ) (s : Ticket) → FailsWith E event → slice_get (tickets past) u ≡ Some s → KeepsWith E Q s → Q (fate past u) → Q (fate (event ∷ past) u)
event-keeps-with E two unplugged Q past (Submit t d e m body room deadline) u s fails at keeps q = q
event-keeps-with E two unplugged Q past (Refuse t d e m body room errno) u s fails at keeps q =
    let within = slice_get_within (tickets past) u s at in
    let apart : length (tickets past) ≢ u = λ same. omega arith in
    rw (ne_eqb (length (tickets past)) u apart) q
event-keeps-with E two unplugged Q past (Packet d e b) u s fails at keeps q = packet-keeps E Q past d e b u s at keeps q
event-keeps-with E two unplugged Q past (Ack d e) u s fails at keeps q = ack-keeps E Q past d e u s at keeps q
event-keeps-with E two unplugged Q past (Echo d o i) u s fails at keeps q =
    echo-cases Q past d o i u (oldest past d o) (oldest past d i) q
    (λ b. packet-keeps E Q (Ack d o ∷ past) d i b u s at keeps (ack-keeps E Q past d o u s at keeps q))
event-keeps-with E two unplugged Q past (Fail d e errno) u s fails at keeps q =
    at_oldest-keeps Q (oldest past d e) (λ s. finish errno) (tickets past) (fate past) u q (λ is r here. keeps.ends (fate past u) errno fails q)
event-keeps-with E two unplugged Q past (Discard t) u s fails at keeps q =
    at_ticket-keeps Q t (λ s. finish 2) (tickets past) (fate past) u q (λ r here. keeps.ends (fate past u) 2 two q)
event-keeps-with E two unplugged Q past (Reap t) u s fails at keeps q =
    at_ticket-keeps Q t reap (tickets past) (fate past) u q (λ r here. keeps.reaps (fate past u) q)
event-keeps-with E two unplugged Q past (Unplug d) u s fails at keeps q =
    change-keeps Q (unplug d) (slice_get (tickets past) u) (fate past u) q
    (λ r here. elim (r.device == d) as (λ v. Q (cond v (finish 108 (fate past u)) (fate past u))) [ true ↦ keeps.ends (fate past u) 108 unplugged q | false ↦ q ])

-- a legal event keeps what each thing that can come keeps
pub event-keeps : (Q : Fate → Type 0) (past : List Event) (event : Event) (u : ℕ) (s : Ticket) → IsLegal event → slice_get (tickets past) u ≡ Some s → Keeps Q s → Q (fate past u) → Q (fate (event ∷ past) u)
event-keeps Q past event u s legal at keeps q =
    event-keeps-with (λ n. 1 ≤ n) (lit≤ tt) (lit≤ tt) Q past event u s (fails-legal event legal) at keeps q

-- and so does any event, where any number may finish a ticket
pub event-keeps-always : (Q : Fate → Type 0) (past : List Event) (event : Event) (u : ℕ) (s : Ticket) → slice_get (tickets past) u ≡ Some s → KeepsAlways Q s → Q (fate past u) → Q (fate (event ∷ past) u)
event-keeps-always Q past event u s at keeps q =
    event-keeps-with (λ n. Unit {0}) tt tt Q past event u s (fails-always event) at keeps q

-- the last ticket, or one before
pub slice_get-push : {X : Type 0} (xs : List X) (x : X) (u : ℕ) (s : X) → slice_get (xs ++ x ∷ []) u ≡ Some s → (slice_get xs u ≡ Some s) ⊎ ((u ≡ length xs) × (x ≡ s))
slice_get-push [] x zero s at = inr (refl, same_Some x s at)
slice_get-push [] x (suc u) s at = absurd (none-some s at)
slice_get-push (y ∷ xs) x zero s at = inl at
slice_get-push (y ∷ xs) x (suc u) s at =
    elim (slice_get-push xs x u s at) [ inl before ↦ inl before | inr last ↦ inr (ap suc last.0, last.1) ]

-- a place below the length has an element
pub slice_get-here : {X : Type 0} (xs : List X) (u : ℕ) → u < length xs → (x : X) × (slice_get xs u ≡ Some x)
slice_get-here [] u within = absurd (omega arith)
slice_get-here (x ∷ xs) zero within = (x, refl)
slice_get-here (x ∷ xs) (suc u) within = slice_get-here xs u (omega arith)

pub slice_get-push_left : {X : Type 0} (xs : List X) (x : X) (u : ℕ) (s : X) → slice_get xs u ≡ Some s → slice_get (xs ++ x ∷ []) u ≡ Some s
slice_get-push_left [] x u s at = absurd (none-some s at)
slice_get-push_left (y ∷ xs) x zero s at = at
slice_get-push_left (y ∷ xs) x (suc u) s at = slice_get-push_left xs x u s at

-- a ticket stays what it was
pub tickets-stay : (past : List Event) (event : Event) (u : ℕ) (s : Ticket) → slice_get (tickets past) u ≡ Some s → slice_get (tickets (event ∷ past)) u ≡ Some s
tickets-stay past (Submit t d e m body room deadline) u s at = slice_get-push_left (tickets past) _ u s at
tickets-stay past (Refuse t d e m body room errno) u s at = slice_get-push_left (tickets past) _ u s at
tickets-stay past (Packet d e b) u s at = at
tickets-stay past (Ack d e) u s at = at
tickets-stay past (Echo d o i) u s at = at
tickets-stay past (Fail d e errno) u s at = at
tickets-stay past (Discard t) u s at = at
tickets-stay past (Reap t) u s at = at
tickets-stay past (Unplug d) u s at = at

-- a property of each ticket with its fate: it holds at first, and each thing that can come keeps it
pub record Rule (P : Ticket → Fate → Type 0) : Type 0 where
  pub submitted : (t d e m : ℕ) (body : Body) (room : ℕ) (deadline : Option ℕ) → IsLegal (Submit t d e m body room deadline) → P (record { device = d; endpoint = e; maximum = m; body = body; capacity = room; refused = false; deadline = deadline }) fresh
  pub refused : (t d e m : ℕ) (body : Body) (room errno : ℕ) → 1 ≤ errno → P (record { device = d; endpoint = e; maximum = m; body = body; capacity = room; refused = true; deadline = None }) (refused_fate errno)
  pub kept : (s : Ticket) → Keeps (P s) s

pub fate-rule : (P : Ticket → Fate → Type 0) → Rule P → (past : List Event) → IsLawful past → (u : ℕ) (s : Ticket) → slice_get (tickets past) u ≡ Some s → P s (fate past u)
fate-rule P rule [] lawful u s at = absurd (none-some s at)
fate-rule P rule (Submit t d e m body room deadline ∷ past) lawful u s at =
    elim (slice_get-push (tickets past) _ u s at) [
      | inl before ↦ fate-rule P rule past lawful.1 u s before
      | inr last ↦
          let new = fate-fresh past u (omega (arith, last.0)) in
          rw (new, ← last.1) (rule.submitted t d e m body room deadline lawful.0)
    ]
fate-rule P rule (Refuse t d e m body room errno ∷ past) lawful u s at =
    elim (slice_get-push (tickets past) _ u s at) [
      | inl before ↦ event-keeps (P s) past (Refuse t d e m body room errno) u s lawful.0 before (rule.kept s) (fate-rule P rule past lawful.1 u s before)
      | inr last ↦ refused-here last.0 last.1
    ]
  where
    refused-here : (u ≡ length (tickets past)) → (record { device = d; endpoint = e; maximum = m; body = body; capacity = room; refused = true; deadline = None }) ≡ s → P s (fate (Refuse t d e m body room errno ∷ past) u)
    refused-here number is = rw (← is, number, eq-eqb (length (tickets past)) (length (tickets past)) refl) (rule.refused t d e m body room errno lawful.0.0)
fate-rule P rule (Packet d e b ∷ past) lawful u s at = event-keeps (P s) past (Packet d e b) u s lawful.0 at (rule.kept s) (fate-rule P rule past lawful.1 u s at)
fate-rule P rule (Ack d e ∷ past) lawful u s at = event-keeps (P s) past (Ack d e) u s lawful.0 at (rule.kept s) (fate-rule P rule past lawful.1 u s at)
fate-rule P rule (Echo d o i ∷ past) lawful u s at = event-keeps (P s) past (Echo d o i) u s lawful.0 at (rule.kept s) (fate-rule P rule past lawful.1 u s at)
fate-rule P rule (Fail d e errno ∷ past) lawful u s at = event-keeps (P s) past (Fail d e errno) u s lawful.0 at (rule.kept s) (fate-rule P rule past lawful.1 u s at)
fate-rule P rule (Discard t ∷ past) lawful u s at = event-keeps (P s) past (Discard t) u s lawful.0 at (rule.kept s) (fate-rule P rule past lawful.1 u s at)
fate-rule P rule (Reap t ∷ past) lawful u s at = event-keeps (P s) past (Reap t) u s lawful.0 at (rule.kept s) (fate-rule P rule past lawful.1 u s at)
fate-rule P rule (Unplug d ∷ past) lawful u s at = event-keeps (P s) past (Unplug d) u s lawful.0 at (rule.kept s) (fate-rule P rule past lawful.1 u s at)
