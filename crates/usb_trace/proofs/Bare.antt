-- Capacities make no difference to which events act, nor to what becomes of tickets.
use Rattle.std.proofs.Common.{◌≡◌, ℕ, ◌+◌, eqb, Bool, true, false, not, ◌||◌, List, [], ◌∷◌, length, map, filter, Option, Some, None, is_some, slice_get, cond, if◌then◌else◌, refl, sym, ap, ◌∙◌}
use Rattle.std.specs.List.{enumerate_from}
use Rattle.std.specs.Option.{option_map, option_and_then}
use Rattle.std.proofs.Math.Path.{fun_ext}
use Rattle.std.proofs.lemmas.List.{map-append, length-map}
use Rattle.std.proofs.lemmas.Option.{slice_get-map}
use Rattle.usb_kernel.specs.declared.event.Event.{Event}
use Rattle.usb_kernel.specs.declared.event.Event.TheVariants.{Submit, Refuse, Packet, Ack, Echo, Fail, Discard, Reap, Unplug}
use Rattle.usb_kernel.specs.Tickets.{Ticket, tickets}
use Rattle.usb_kernel.specs.Fates.{Fate, waits, finish, with_packet, with_ack, reap, unplug}
use Rattle.usb_kernel.specs.Journal.{is_open, oldest_among, change, at_ticket, at_oldest, packet_comes, ack_comes, taken_of, echo_comes, after, fate, oldest}
use Rattle.usb_kernel.specs.Discards.{is_unfinished}
use Rattle.usb_kernel.specs.Completions.{done_if, done_of, reapable}
use Rattle.usb_kernel.specs.Info.{info_if, info_of}
use Rattle.usb_kernel.specs.Acts.{acts, is_gone}
use Rattle.usb_trace_lines.specs.Capacities.{without_capacity}

-- a ticket with no capacity
abbrev pub bare_ticket : Ticket → Ticket
bare_ticket s = record s { capacity = 0 }

pub tickets-bare : (past : List Event) → tickets (map without_capacity past) ≡ map bare_ticket (tickets past)
tickets-bare [] = refl
tickets-bare (Submit t d e m body room deadline ∷ before) =
    let rest = tickets-bare before in rw rest (sym (map-append bare_ticket (tickets before) _))
tickets-bare (Refuse t d e m body room errno ∷ before) =
    let rest = tickets-bare before in rw rest (sym (map-append bare_ticket (tickets before) _))
tickets-bare (Packet d e b ∷ before) = tickets-bare before
tickets-bare (Ack d e ∷ before) = tickets-bare before
tickets-bare (Echo d o i ∷ before) = tickets-bare before
tickets-bare (Fail d e errno ∷ before) = tickets-bare before
tickets-bare (Discard t ∷ before) = tickets-bare before
tickets-bare (Reap t ∷ before) = tickets-bare before
tickets-bare (Unplug d ∷ before) = tickets-bare before

-- ---- what an event does, over tickets with no capacity

numbers-by : (b : Bool) (k : ℕ) (xs ys : List ℕ) → xs ≡ ys → (if b then k ∷ xs else xs) ≡ (if b then k ∷ ys else ys)
numbers-by b k xs ys same = ap (λ (l : List ℕ). if b then k ∷ l else l) same

open-bare : (k : ℕ) (ts : List Ticket) (f : ℕ → Fate) (d e : ℕ) → map (λ (p : ℕ × Ticket). p.0) (filter (is_open f d e) (enumerate_from k (map bare_ticket ts))) ≡ map (λ (p : ℕ × Ticket). p.0) (filter (is_open f d e) (enumerate_from k ts))
open-bare k [] f d e = refl
open-bare k (s ∷ ts) f d e =
    let rest = open-bare (k + 1) ts f d e in
    elim (is_open f d e (k, s)) as (λ b. map (λ (p : ℕ × Ticket). p.0) (cond b ((k, bare_ticket s) ∷ filter (is_open f d e) (enumerate_from (k + 1) (map bare_ticket ts))) (filter (is_open f d e) (enumerate_from (k + 1) (map bare_ticket ts)))) ≡ map (λ (p : ℕ × Ticket). p.0) (cond b ((k, s) ∷ filter (is_open f d e) (enumerate_from (k + 1) ts)) (filter (is_open f d e) (enumerate_from (k + 1) ts)))) [
      | true ↦ ap (λ (l : List ℕ). k ∷ l) rest
      | false ↦ rest
    ]

oldest-among : (ts : List Ticket) (f : ℕ → Fate) (d e : ℕ) → oldest_among (map bare_ticket ts) f d e ≡ oldest_among ts f d e
oldest-among ts f d e = ap (λ (l : List ℕ). slice_get l 0) (open-bare 0 ts f d e)

-- a change that doesn't look at capacities
abbrev Blind : (Ticket → Fate → Fate) → Type 0
Blind act = (s : Ticket) (f : Fate) → act (bare_ticket s) f ≡ act s f

change-bare : (act : Ticket → Fate → Fate) (o : Option Ticket) (f : Fate) → Blind act → change act (option_map bare_ticket o) f ≡ change act o f
change-bare act None f blind = refl
change-bare act (Some s) f blind = blind s f

change-at : (act : Ticket → Fate → Fate) (ts : List Ticket) (u : ℕ) (f : Fate) → Blind act → change act (slice_get (map bare_ticket ts) u) f ≡ change act (slice_get ts u) f
change-at act ts u f blind = rw (slice_get-map bare_ticket ts u) (change-bare act (slice_get ts u) f blind)

ticket-bare : (t : ℕ) (act : Ticket → Fate → Fate) (ts : List Ticket) (f : ℕ → Fate) (u : ℕ) → Blind act → at_ticket t act (map bare_ticket ts) f u ≡ at_ticket t act ts f u
ticket-bare t act ts f u blind = ap (λ (x : Fate). if eqb t u then x else f u) (change-at act ts u (f u) blind)

oldest-bare : (o : Option ℕ) (act : Ticket → Fate → Fate) (ts : List Ticket) (f : ℕ → Fate) (u : ℕ) → Blind act → at_oldest o act (map bare_ticket ts) f u ≡ at_oldest o act ts f u
oldest-bare None act ts f u blind = refl
oldest-bare (Some t) act ts f u blind = ticket-bare t act ts f u blind

packet-bare : (d e : ℕ) (b : List ℕ) (ts : List Ticket) (f : ℕ → Fate) (u : ℕ) → packet_comes d e b (map bare_ticket ts) f u ≡ packet_comes d e b ts f u
packet-bare d e b ts f u =
    ap (λ (o : Option ℕ). at_oldest o (λ s. with_packet s b) (map bare_ticket ts) f u) (oldest-among ts f d e)
    ∙ oldest-bare (oldest_among ts f d e) (λ s. with_packet s b) ts f u (λ s g. refl)

ack-bare : (d e : ℕ) (ts : List Ticket) (f : ℕ → Fate) (u : ℕ) → ack_comes d e (map bare_ticket ts) f u ≡ ack_comes d e ts f u
ack-bare d e ts f u =
    ap (λ (o : Option ℕ). at_oldest o with_ack (map bare_ticket ts) f u) (oldest-among ts f d e)
    ∙ oldest-bare (oldest_among ts f d e) with_ack ts f u (λ s g. refl)

taken-by : (o : Option Ticket) (f : Fate) → taken_of (option_map bare_ticket o) f ≡ taken_of o f
taken-by None f = refl
taken-by (Some s) f = refl

taken-bare : (ts : List Ticket) (t : ℕ) (f : Fate) → taken_of (slice_get (map bare_ticket ts) t) f ≡ taken_of (slice_get ts t) f
taken-bare ts t f = rw (slice_get-map bare_ticket ts t) (taken-by (slice_get ts t) f)

echo-bare : (out inp : Option ℕ) (d o i : ℕ) (ts : List Ticket) (f : ℕ → Fate) (u : ℕ) → echo_comes out inp d o i (map bare_ticket ts) f u ≡ echo_comes out inp d o i ts f u
echo-bare None inp d o i ts f u = refl
echo-bare (Some t) None d o i ts f u = refl
echo-bare (Some t) (Some j) d o i ts f u =
    packet-bare d i (taken_of (slice_get (map bare_ticket ts) t) (f t)) ts (ack_comes d o (map bare_ticket ts) f) u
    ∙ ap (λ (b : List ℕ). packet_comes d i b ts (ack_comes d o (map bare_ticket ts) f) u) (taken-bare ts t (f t))
    ∙ ap (λ (g : ℕ → Fate). packet_comes d i (taken_of (slice_get ts t) (f t)) ts g u) (fun_ext (ack-bare d o ts f))

after-bare : (event : Event) (ts : List Ticket) (f : ℕ → Fate) (u : ℕ) → after (without_capacity event) (map bare_ticket ts) f u ≡ after event ts f u
after-bare (Submit t d e m body room deadline) ts f u = refl
after-bare (Refuse t d e m body room errno) ts f u = rw (length-map ts bare_ticket) refl
after-bare (Packet d e b) ts f u = packet-bare d e b ts f u
after-bare (Ack d e) ts f u = ack-bare d e ts f u
after-bare (Echo d o i) ts f u =
    ap (λ (x : Option ℕ). echo_comes x (oldest_among (map bare_ticket ts) f d i) d o i (map bare_ticket ts) f u) (oldest-among ts f d o)
    ∙ ap (λ (x : Option ℕ). echo_comes (oldest_among ts f d o) x d o i (map bare_ticket ts) f u) (oldest-among ts f d i)
    ∙ echo-bare (oldest_among ts f d o) (oldest_among ts f d i) d o i ts f u
after-bare (Fail d e errno) ts f u =
    ap (λ (o : Option ℕ). at_oldest o (λ s. finish errno) (map bare_ticket ts) f u) (oldest-among ts f d e)
    ∙ oldest-bare (oldest_among ts f d e) (λ s. finish errno) ts f u (λ s g. refl)
after-bare (Discard t) ts f u = ticket-bare t (λ s. finish 2) ts f u (λ s g. refl)
after-bare (Reap t) ts f u = ticket-bare t reap ts f u (λ s g. refl)
after-bare (Unplug d) ts f u = change-at (unplug d) ts u (f u) (λ s g. refl)

-- the fates are the same
pub fate-bare : (past : List Event) (u : ℕ) → fate (map without_capacity past) u ≡ fate past u
fate-bare [] u = refl
fate-bare (event ∷ before) u =
    ap (λ (ts : List Ticket). after (without_capacity event) ts (fate (map without_capacity before)) u) (tickets-bare before)
    ∙ ap (λ (f : ℕ → Fate). after (without_capacity event) (map bare_ticket (tickets before)) f u) (fun_ext (fate-bare before))
    ∙ after-bare event (tickets before) (fate before) u

pub fates-bare : (past : List Event) → fate (map without_capacity past) ≡ fate past
fates-bare past = fun_ext (fate-bare past)

-- ---- which events act

oldest-same : (past : List Event) (d e : ℕ) → oldest (map without_capacity past) d e ≡ oldest past d e
oldest-same past d e =
    ap (λ (ts : List Ticket). oldest_among ts (fate (map without_capacity past)) d e) (tickets-bare past)
    ∙ ap (λ (f : ℕ → Fate). oldest_among (map bare_ticket (tickets past)) f d e) (fates-bare past)
    ∙ oldest-among (tickets past) (fate past) d e

count-same : (past : List Event) → length (tickets (map without_capacity past)) ≡ length (tickets past)
count-same past = ap length (tickets-bare past) ∙ length-map (tickets past) bare_ticket

unfinished-same : (past : List Event) (t : ℕ) → is_unfinished (map without_capacity past) t ≡ is_unfinished past t
unfinished-same past t = rw (count-same past, fate-bare past t) refl

some-by : {A : Type 0} (b : Bool) (o : Option ℕ) (g h : ℕ → A) → is_some (if b then option_map g o else None) ≡ is_some (if b then option_map h o else None)
some-by true (Some n) g h = refl
some-by true None g h = refl
some-by false o g h = refl

done-by : (t : ℕ) (f : Fate) (o : Option Ticket) → is_some (option_and_then (done_if t f) (option_map bare_ticket o)) ≡ is_some (option_and_then (done_if t f) o)
done-by t f None = refl
done-by t f (Some s) = some-by (waits f) f.status (λ errno. done_of t (bare_ticket s) f errno) (λ errno. done_of t s f errno)

reapable-same : (past : List Event) (t : ℕ) → is_some (reapable (map without_capacity past) t) ≡ is_some (reapable past t)
reapable-same past t =
    rw (tickets-bare past, fate-bare past t, slice_get-map bare_ticket (tickets past) t) (done-by t (fate past t) (slice_get (tickets past) t))

gone-same : (past : List Event) (d : ℕ) → is_gone (map without_capacity past) d ≡ is_gone past d
gone-same [] d = refl
gone-same (Submit t k e m body room deadline ∷ before) d = gone-same before d
gone-same (Refuse t k e m body room errno ∷ before) d = gone-same before d
gone-same (Packet k e b ∷ before) d = gone-same before d
gone-same (Ack k e ∷ before) d = gone-same before d
gone-same (Echo k o i ∷ before) d = gone-same before d
gone-same (Fail k e errno ∷ before) d = gone-same before d
gone-same (Discard t ∷ before) d = gone-same before d
gone-same (Reap t ∷ before) d = gone-same before d
gone-same (Unplug k ∷ before) d = ap (λ (b : Bool). eqb k d || b) (gone-same before d)

-- an event acts whatever the capacities are
pub acts-bare : (past : List Event) (event : Event) → acts (map without_capacity past) (without_capacity event) ≡ acts past event
acts-bare past (Submit t d e m body room deadline) = rw (count-same past, gone-same past d) refl
acts-bare past (Refuse t d e m body room errno) = rw (count-same past) refl
acts-bare past (Packet d e b) = rw (oldest-same past d e) refl
acts-bare past (Ack d e) = rw (oldest-same past d e) refl
acts-bare past (Echo d o i) = rw (oldest-same past d o, oldest-same past d i) refl
acts-bare past (Fail d e errno) = rw (oldest-same past d e) refl
acts-bare past (Discard t) = unfinished-same past t
acts-bare past (Reap t) = reapable-same past t
acts-bare past (Unplug d) = ap not (gone-same past d)

-- what is known of a ticket doesn't depend on them
info-by : (o : Option Ticket) (f : Fate) → info_if (option_map bare_ticket o) f ≡ info_if o f
info-by None f = refl
info-by (Some s) f = refl

pub info-bare : (past : List Event) (t : ℕ) → info_of (map without_capacity past) t ≡ info_of past t
info-bare past t =
    rw (tickets-bare past, fate-bare past t, slice_get-map bare_ticket (tickets past) t) (info-by (slice_get (tickets past) t) (fate past t))
