-- What each event does to the open tickets of an endpoint.
use Rattle.std.proofs.Common.{◌≡◌, ◌≢◌, ◌∙◌, ℕ, ◌+◌, arith, Bool, true, false, cond, List, [], ◌∷◌, ◌++◌, length, drop, Option, Some, None, refl, ap, sym, slice_get, inl, inr, ◌⊎◌}
use Rattle.std.specs.Prelude.{is_none, is_some, ◌==◌, ◌&&◌, not}
use Rattle.std.specs.Option.{option_map_or}
use Rattle.std.proofs.lemmas.List.{append-nil}
use Rattle.std.proofs.lemmas.Option.{none-some, same_Some, slice_get_within}
use Rattle.std.proofs.lemmas.Bool.{cases_Bool, cases_eq, eq-eqb, ne_eqb}
use Rattle.std.proofs.lemmas.Grind.{common_steps}
use Rattle.usb_kernel.specs.declared.event.Event.{Event}
use Rattle.usb_kernel.specs.declared.event.Event.TheVariants.{Submit, Refuse, Packet, Ack, Echo, Fail, Discard, Reap, Unplug}
use Rattle.usb_kernel.specs.declared.event.Body.{Body}
use Rattle.usb_kernel.specs.Tickets.{Ticket, tickets}
use Rattle.usb_kernel.specs.Fates.{Fate, with_packet, with_ack, finish, reap, unplug}
use Rattle.usb_kernel.specs.Journal.{fate, is_open, open_among, open_tickets, oldest, at_oldest, at_ticket, taken_of, echo_comes}
use Rattle.usb_kernel.specs.Openings.{IsOtherEndpoint, open_after_service}
use Rattle.usb_kernel.proofs.Rules.{at_oldest-keeps, at_ticket-keeps}
use Rattle.usb_kernel.proofs.Order.{is_oldest}
use Rattle.usb_kernel.proofs.Opens.{open_tickets-submit}
use Rattle.usb_kernel.proofs.Echoes.{fate-echo}
use Rattle.usb_kernel.proofs.Selections.{without_number, numbers-same, numbers-none, numbers-without, numbers-first, numbers-push_fails}

-- a ticket of one endpoint is not open on another
other-endpoint : (x y d e d' e' : ℕ) (b : Bool) → x ≡ d → y ≡ e → IsOtherEndpoint d e d' e' → (x == d' && (y == e' && b)) ≡ false
other-endpoint x y d e d' e' b device endpoint other =
    elim (cases_eq x d') [
      | inl same ↦
          let apart : y ≢ e' = λ is. other (sym device ∙ same) (sym endpoint ∙ is) in
          rw (eq-eqb x d' same, ne_eqb y e' apart) refl
      | inr apart ↦ rw (ne_eqb x d' apart) refl
    ]

-- whether a ticket with this fate is open on an endpoint
abbrev open_if : ℕ → ℕ → Ticket → Fate → Bool
open_if d e s f = s.device == d && (s.endpoint == e && is_none f.status)

-- the fates of the tickets there are
open-same : (ts : List Ticket) (f g : ℕ → Fate) (d e : ℕ) → ((u : ℕ) (s : Ticket) → slice_get ts u ≡ Some s → open_if d e s (g u) ≡ open_if d e s (f u)) → open_among ts g d e ≡ open_among ts f d e
open-same ts f g d e same =
    numbers-same (is_open f d e) (is_open g d e) 0 ts (λ u s at. let z : 0 + u ≡ u = omega arith in rw z (same u s at))

open-without : (ts : List Ticket) (f g : ℕ → Fate) (d e t : ℕ) → ((u : ℕ) (s : Ticket) → slice_get ts u ≡ Some s → open_if d e s (g u) ≡ (not (u == t) && open_if d e s (f u))) → open_among ts g d e ≡ without_number t (open_among ts f d e)
open-without ts f g d e t same =
    numbers-without (is_open f d e) (is_open g d e) t 0 ts (λ u s at. let z : 0 + u ≡ u = omega arith in rw z (same u s at))

-- a step of the oldest of one endpoint leaves the others
service-others : (past : List Event) (d e d' e' : ℕ) (step : Ticket → Fate → Fate) → IsOtherEndpoint d e d' e' → open_among (tickets past) (at_oldest (oldest past d e) step (tickets past) (fate past)) d' e' ≡ open_tickets past d' e'
service-others past d e d' e' step other =
    open-same (tickets past) (fate past) (at_oldest (oldest past d e) step (tickets past) (fate past)) d' e'
    (λ u s at. at_oldest-keeps (λ g. open_if d' e' s g ≡ open_if d' e' s (fate past u)) (oldest past d e) step (tickets past) (fate past) u refl
    (λ is r here.
    let o = is_oldest past d e u is in
    let same : o.s ≡ s = same_Some o.s s (sym o.at ∙ at) in
    let device : s.device ≡ d = ap (λ (x : Ticket). x.device) (sym same) ∙ o.device in
    let endpoint : s.endpoint ≡ e = ap (λ (x : Ticket). x.endpoint) (sym same) ∙ o.endpoint in
    other-endpoint s.device s.endpoint d e d' e' (is_none (step r (fate past u)).status) device endpoint other ∙ sym (other-endpoint s.device s.endpoint d e d' e' (is_none (fate past u).status) device endpoint other)))

closed : (d e : ℕ) (s : Ticket) (f : Fate) → is_some f.status ≡ true → open_if d e s f ≡ false
closed d e s f some = grind (arith, common_steps)

unfinished : (f : Fate) → is_some f.status ≡ false → f.status ≡ None
unfinished f none = grind (arith, common_steps)

open-status : (d e : ℕ) (s : Ticket) (f g : Fate) → g.status ≡ f.status → open_if d e s g ≡ open_if d e s f
open-status d e s f g same = ap (λ (o : Option ℕ). s.device == d && (s.endpoint == e && is_none o)) same

-- where a ticket is finished then, it is open no more
finishes-one : (ts : List Ticket) (f g : ℕ → Fate) (d e t : ℕ) → ((u : ℕ) → u ≢ t → g u ≡ f u) → is_some (g t).status ≡ true → open_among ts g d e ≡ without_number t (open_among ts f d e)
finishes-one ts f g d e t others some =
    open-without ts f g d e t
    (λ u s at. elim (cases_eq u t) [
      | inl same ↦ rw (eq-eqb u t same) (closed d e s (g u) (rw same some))
      | inr apart ↦ rw (ne_eqb u t apart) (open-status d e s (f u) (g u) (ap (λ (x : Fate). x.status) (others u apart)))
    ])

at_ticket-other : (t : ℕ) (step : Ticket → Fate → Fate) (ts : List Ticket) (f : ℕ → Fate) (u : ℕ) → u ≢ t → at_ticket t step ts f u ≡ f u
at_ticket-other t step ts f u apart = rw (ne_eqb t u (λ same. apart (sym same))) refl

-- a step of the oldest leaves the list, or takes its first away
service-own : (past : List Event) (d e : ℕ) (step : Ticket → Fate → Fate) (o : Option ℕ) → oldest past d e ≡ o → open_among (tickets past) (at_oldest o step (tickets past) (fate past)) d e ≡ cond (option_map_or (λ t. is_some (at_oldest o step (tickets past) (fate past) t).status) o false) (drop 1 (open_tickets past d e)) (open_tickets past d e)
service-own past d e step None is = refl
service-own past d e step (Some t) is =
    elim (cases_Bool (is_some (at_ticket t step (tickets past) (fate past) t).status)) [
      | inl some ↦
          rw some
          (finishes-one (tickets past) (fate past) (at_ticket t step (tickets past) (fate past)) d e t (λ u apart. at_ticket-other t step (tickets past) (fate past) u apart) some
          ∙ numbers-first (is_open (fate past) d e) t 0 (tickets past) is)
      | inr none ↦
          rw none
          (open-same (tickets past) (fate past) (at_ticket t step (tickets past) (fate past)) d e
          (λ u s at. elim (cases_eq u t) [
            | inl same ↦
                let after : (at_ticket t step (tickets past) (fate past) u).status ≡ None = rw same (unfinished (at_ticket t step (tickets past) (fate past) t) none) in
                let before : (fate past u).status ≡ None = rw same (is_oldest past d e t is).none in
                open-status d e s (fate past u) (at_ticket t step (tickets past) (fate past) u) (after ∙ sym before)
            | inr apart ↦ open-status d e s (fate past u) (at_ticket t step (tickets past) (fate past) u) (ap (λ (x : Fate). x.status) (at_ticket-other t step (tickets past) (fate past) u apart))
          ]))
    ]

pub open-packet : (past : List Event) (d e : ℕ) (b : List ℕ) → open_tickets (Packet d e b ∷ past) d e ≡ open_after_service past (Packet d e b) d e
open-packet past d e b = service-own past d e (λ s. with_packet s b) (oldest past d e) refl

pub open-packet_other : (past : List Event) (d e : ℕ) (b : List ℕ) (d' e' : ℕ) → IsOtherEndpoint d e d' e' → open_tickets (Packet d e b ∷ past) d' e' ≡ open_tickets past d' e'
open-packet_other past d e b d' e' other = service-others past d e d' e' (λ s. with_packet s b) other

pub open-ack : (past : List Event) (d e : ℕ) → open_tickets (Ack d e ∷ past) d e ≡ open_after_service past (Ack d e) d e
open-ack past d e = service-own past d e with_ack (oldest past d e) refl

pub open-ack_other : (past : List Event) (d e d' e' : ℕ) → IsOtherEndpoint d e d' e' → open_tickets (Ack d e ∷ past) d' e' ≡ open_tickets past d' e'
open-ack_other past d e d' e' other = service-others past d e d' e' with_ack other

finish-some : (n : ℕ) (f : Fate) → is_some (finish n f).status ≡ true
finish-some n f = grind (arith, common_steps)

drop-none : (xs : List ℕ) → slice_get xs 0 ≡ None → drop 1 xs ≡ xs
drop-none [] none = refl
drop-none (x ∷ xs) none = absurd (none-some x (sym none))

-- the fate of a ticket there after a step of its own
at_ticket-own : (t : ℕ) (step : Ticket → Fate → Fate) (ts : List Ticket) (f : ℕ → Fate) (s : Ticket) → slice_get ts t ≡ Some s → at_ticket t step ts f t ≡ step s (f t)
at_ticket-own t step ts f s at = rw (eq-eqb t t refl, at) refl

-- a failure always takes the first away
fail-own : (past : List Event) (d e errno : ℕ) (o : Option ℕ) → oldest past d e ≡ o → open_among (tickets past) (at_oldest o (λ s. finish errno) (tickets past) (fate past)) d e ≡ drop 1 (open_tickets past d e)
fail-own past d e errno None is = sym (drop-none (open_tickets past d e) is)
fail-own past d e errno (Some t) is =
    let o = is_oldest past d e t is in
    let some : is_some (at_ticket t (λ s. finish errno) (tickets past) (fate past) t).status ≡ true = rw (at_ticket-own t (λ s. finish errno) (tickets past) (fate past) o.s o.at) (finish-some errno (fate past t)) in
    service-own past d e (λ s. finish errno) (Some t) is ∙ rw some refl

pub open-fail : (past : List Event) (d e errno : ℕ) → open_tickets (Fail d e errno ∷ past) d e ≡ drop 1 (open_tickets past d e)
open-fail past d e errno = fail-own past d e errno (oldest past d e) refl

pub open-fail_other : (past : List Event) (d e errno d' e' : ℕ) → IsOtherEndpoint d e d' e' → open_tickets (Fail d e errno ∷ past) d' e' ≡ open_tickets past d' e'
open-fail_other past d e errno d' e' other = service-others past d e d' e' (λ s. finish errno) other

pub open-discard : (past : List Event) (t d e : ℕ) → open_tickets (Discard t ∷ past) d e ≡ without_number t (open_tickets past d e)
open-discard past t d e =
    open-without (tickets past) (fate past) (at_ticket t (λ s. finish 2) (tickets past) (fate past)) d e t
    (λ u s at. elim (cases_eq u t) [
      | inl same ↦
          rw (eq-eqb u t same)
          (closed d e s (at_ticket t (λ s. finish 2) (tickets past) (fate past) u) (rw (eq-eqb t u (sym same), at) (finish-some 2 (fate past u))))
      | inr apart ↦ rw (ne_eqb u t apart) (open-status d e s (fate past u) (at_ticket t (λ s. finish 2) (tickets past) (fate past) u) (ap (λ (x : Fate). x.status) (at_ticket-other t (λ s. finish 2) (tickets past) (fate past) u apart)))
    ])

reap-status : (s : Ticket) (f : Fate) → (reap s f).status ≡ f.status
reap-status s f = grind (arith, common_steps)

pub open-reap : (past : List Event) (t d e : ℕ) → open_tickets (Reap t ∷ past) d e ≡ open_tickets past d e
open-reap past t d e =
    open-same (tickets past) (fate past) (at_ticket t reap (tickets past) (fate past)) d e
    (λ u s at. open-status d e s (fate past u) (at_ticket t reap (tickets past) (fate past) u)
    (at_ticket-keeps (λ g. g.status ≡ (fate past u).status) t reap (tickets past) (fate past) u refl (λ r here. reap-status r (fate past u))))

unplug-own : (d e : ℕ) (s : Ticket) (f : Fate) → open_if d e s (unplug d s f) ≡ false
unplug-own d e s f =
    elim (cases_eq s.device d) [
      | inl same ↦ rw (eq-eqb s.device d same) (elim (cases_Bool (s.endpoint == e)) [ inl here ↦ rw here (none-finish 108 f) | inr other ↦ rw other refl ])
      | inr apart ↦ rw (ne_eqb s.device d apart) refl
    ]
  where
    none-finish : (n : ℕ) (f : Fate) → is_none (finish n f).status ≡ false
    none-finish n f = grind (arith, common_steps)

pub open-unplug : (past : List Event) (d e : ℕ) → open_tickets (Unplug d ∷ past) d e ≡ []
open-unplug past d e =
    numbers-none (is_open (fate (Unplug d ∷ past)) d e) 0 (tickets past)
    (λ u s at. let z : 0 + u ≡ u = omega arith in rw (z, at) (unplug-own d e s (fate past u)))

unplug-other : (d d' e : ℕ) (s : Ticket) (f : Fate) → d ≢ d' → open_if d' e s (unplug d s f) ≡ open_if d' e s f
unplug-other d d' e s f other =
    elim (cases_eq s.device d) [
      | inl same ↦ let apart : s.device ≢ d' = (λ is. other (sym same ∙ is)) in rw (ne_eqb s.device d' apart) refl
      | inr apart ↦ rw (ne_eqb s.device d apart) refl
    ]

pub open-unplug_other : (past : List Event) (d d' e : ℕ) → d ≢ d' → open_tickets (Unplug d ∷ past) d' e ≡ open_tickets past d' e
open-unplug_other past d d' e other =
    open-same (tickets past) (fate past) (fate (Unplug d ∷ past)) d' e
    (λ u s at. rw at (unplug-other d d' e s (fate past u) other))

pub open-submit : (past : List Event) (t d e m : ℕ) (body : Body) (room : ℕ) (deadline : Option ℕ) → open_tickets (Submit t d e m body room deadline ∷ past) d e ≡ open_tickets past d e ++ length (tickets past) ∷ []
open-submit past t d e m body room deadline =
    open_tickets-submit past t d e m body room deadline d e ∙ rw (eq-eqb d d refl, eq-eqb e e refl) refl

pub open-submit_other : (past : List Event) (t d e m : ℕ) (body : Body) (room : ℕ) (deadline : Option ℕ) (d' e' : ℕ) → IsOtherEndpoint d e d' e' → open_tickets (Submit t d e m body room deadline ∷ past) d' e' ≡ open_tickets past d' e'
open-submit_other past t d e m body room deadline d' e' other =
    open_tickets-submit past t d e m body room deadline d' e' ∙ rw (other-endpoint d e d e d' e' true refl refl other) (append-nil (open_tickets past d' e'))

pub open-refuse : (past : List Event) (t d e m : ℕ) (body : Body) (room errno d' e' : ℕ) → open_tickets (Refuse t d e m body room errno ∷ past) d' e' ≡ open_tickets past d' e'
open-refuse past t d e m body room errno d' e' =
    let later : ℕ → Fate = fate (Refuse t d e m body room errno ∷ past) in
    let new : Ticket = record { device = d; endpoint = e; maximum = m; body = body; capacity = room; refused = true; deadline = None } in
    let n = length (tickets past) in
    let fails : open_if d' e' new (later n) ≡ false = closed d' e' new (later n) (rw (eq-eqb n n refl) refl) in
    numbers-push_fails (is_open later d' e') (tickets past) new fails
    ∙ open-same (tickets past) (fate past) later d' e' (λ u s at. rw (ne_eqb n u (beyond u s at)) refl)
  where
    beyond : (u : ℕ) (s : Ticket) → slice_get (tickets past) u ≡ Some s → length (tickets past) ≢ u
    beyond u s at = λ same. let within = slice_get_within (tickets past) u s at in omega arith

-- an echo is an acknowledgement, and then the packet that it takes
pub open-echo : (past : List Event) (d o i t j d' e' : ℕ) → oldest past d o ≡ Some t → oldest past d i ≡ Some j → open_tickets (Echo d o i ∷ past) d' e' ≡ open_tickets (Packet d i (taken_of (slice_get (tickets past) t) (fate past t)) ∷ (Ack d o ∷ past)) d' e'
open-echo past d o i t j d' e' sends takes =
    open-same (tickets past) (fate (Packet d i (taken_of (slice_get (tickets past) t) (fate past t)) ∷ (Ack d o ∷ past))) (fate (Echo d o i ∷ past)) d' e'
    (λ u s at. ap (open_if d' e' s) (fate-echo past d o i t j u sends takes))

echo-none : (past : List Event) (d o i u : ℕ) (x y : Option ℕ) → (x ≡ None) ⊎ (y ≡ None) → echo_comes x y d o i (tickets past) (fate past) u ≡ fate past u
echo-none past d o i u None y none = refl
echo-none past d o i u (Some t) None none = refl
echo-none past d o i u (Some t) (Some j) none = elim none [ inl first ↦ absurd (none-some t (sym first)) | inr second ↦ absurd (none-some j (sym second)) ]

-- without an open ticket at both ends it is nothing
pub fate-echo_none : (past : List Event) (d o i u : ℕ) → (oldest past d o ≡ None) ⊎ (oldest past d i ≡ None) → fate (Echo d o i ∷ past) u ≡ fate past u
fate-echo_none past d o i u none = echo-none past d o i u (oldest past d o) (oldest past d i) none

pub open-echo_none : (past : List Event) (d o i d' e' : ℕ) → (oldest past d o ≡ None) ⊎ (oldest past d i ≡ None) → open_tickets (Echo d o i ∷ past) d' e' ≡ open_tickets past d' e'
open-echo_none past d o i d' e' none =
    open-same (tickets past) (fate past) (fate (Echo d o i ∷ past)) d' e' (λ u s at. ap (open_if d' e' s) (fate-echo_none past d o i u none))
