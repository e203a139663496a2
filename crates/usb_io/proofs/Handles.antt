-- The tickets of the two handles of an exchange, and what an event leaves of them.
use Rattle.std.proofs.Common.{◌∙◌, ◌≡◌, ◌≢◌, ℕ, ◌≤◌, arith, List, [], ◌∷◌, length, drop, Some, true, false, refl, ap, sym, slice_get, ◌⊎◌, inl, inr}
use Rattle.std.specs.Prelude.{◌==◌, ◌||◌}
use Rattle.std.specs.List.{flat_map}
use Rattle.std.proofs.Math.Seq.{drop-length}
use Rattle.std.proofs.lemmas.Option.{none-some, same_Some, slice_get_within, slice_get_cases}
use Rattle.std.proofs.lemmas.Bool.{cases_Bool, cases_eq, ne_eqb, eq-eqb, false≢true}
use Rattle.usb_kernel.specs.declared.event.Event.{Event}
use Rattle.usb_kernel.specs.declared.event.Event.TheVariants.{Submit, Refuse, Packet, Ack, Echo, Fail, Discard, Reap, Unplug}
use Rattle.usb_kernel.specs.declared.event.Body.TheVariants.{Sent}
use Rattle.usb_kernel.specs.Tickets.{Ticket, tickets}
use Rattle.usb_kernel.specs.Fates.{Fate, fresh, with_packet, with_ack, finish, reap, unplug}
use Rattle.usb_kernel.specs.Journal.{fate, oldest}
use Rattle.usb_kernel.specs.Ahead.{IsUntouched}
use Rattle.usb_kernel.proofs.Fresh.{fate-fresh}
use Rattle.usb_kernel.proofs.Rules.{at_ticket-keeps, change-keeps, echo-cases, slice_get-push}
use Rattle.usb_io.specs.Streams.{holds, among, packets_at, added, Each}
use Rattle.usb_io.proofs.Delivered.{reap-packets, added-few}
use Rattle.usb_io.specs.Exchange.{Exchange, IsElsewhere, IsEchoing, OnlyEchoes}
use Rattle.usb_io.proofs.Sames.{IsSame, IsSame-trans, not-oldest, at-other, reap-acks, reap-status}

-- what is true of each of these is true of one of them
pub each-at : (P : ℕ → Type 0) (ts : List ℕ) (t : ℕ) → Each P ts → holds ts t ≡ true → P t
each-at P [] t each is = absurd (false≢true is)
each-at P (x ∷ ts) t each is =
    elim (cases_eq x t) [
      | inl same ↦ rw (← same) each.0
      | inr apart ↦ each-at P ts t each.1 (rw (ne_eqb x t apart) at is)
    ]

-- each of these is one of them
pub holds-each : (ts : List ℕ) → Each (λ t. holds ts t ≡ true) ts
holds-each ts = go ts (λ t h. h)
  where
    go : (us : List ℕ) → ((t : ℕ) → holds us t ≡ true → holds ts t ≡ true) → Each (λ t. holds ts t ≡ true) us
    go [] h = tt
    go (u ∷ us) h = (h u (rw (eq-eqb u u refl) refl), go us (λ t is. h t (or-right u t us is)))
      where
        or-right : (u t : ℕ) (us : List ℕ) → holds us t ≡ true → (u == t || holds us t) ≡ true
        or-right u t us is = rw is (elim (u == t) as (λ v. (v || true) ≡ true) [ true ↦ refl | false ↦ refl ])

-- the tickets of an OUT handle and of an IN handle
pub record IsOutLike (k : Exchange) (m : ℕ) (s : Ticket) : Type 0 where
  pub device : s.device ≡ k.device
  pub endpoint : s.endpoint ≡ k.output
  pub maximum : s.maximum ≡ m
  pub bytes : List ℕ
  pub body : s.body ≡ Sent bytes

pub record IsInLike (k : Exchange) (m : ℕ) (s : Ticket) : Type 0 where
  pub device : s.device ≡ k.device
  pub endpoint : s.endpoint ≡ k.input
  pub maximum : s.maximum ≡ m

-- a ticket of either endpoint
pub record IsNear (k : Exchange) (s : Ticket) : Type 0 where
  pub device : s.device ≡ k.device
  pub endpoint : (s.endpoint ≡ k.output) ⊎ (s.endpoint ≡ k.input)

abbrev pub IfOut : Exchange → ℕ → List Ticket → ℕ → Type 0
IfOut k m ts t = (s : Ticket) → slice_get ts t ≡ Some s → IsOutLike k m s

abbrev pub IfIn : Exchange → ℕ → List Ticket → ℕ → Type 0
IfIn k m ts t = (s : Ticket) → slice_get ts t ≡ Some s → IsInLike k m s

-- each ticket of one of the endpoints is of its handle
pub all-held : (k : Exchange) (past : List Event) → OnlyEchoes k past → (t : ℕ) (s : Ticket) → slice_get (tickets past) t ≡ Some s → s.device ≡ k.device → (s.endpoint ≡ k.output → holds k.outs t ≡ true) × (s.endpoint ≡ k.input → holds k.ins t ≡ true)
all-held k [] only t s at dev = absurd (none-some s at)
all-held k (Submit n d e q body room deadline ∷ past) only t s at dev =
    elim (slice_get-push (tickets past) _ t s at) [
      | inl old ↦ all-held k past only.1 t s old dev
      | inr new ↦ rw (new.0, ← new.1) ((λ is. only.0.0 (ap (λ (x : Ticket). x.device) new.1 ∙ dev) is, λ is. only.0.1 (ap (λ (x : Ticket). x.device) new.1 ∙ dev) is))
    ]
all-held k (Refuse n d e q body room errno ∷ past) only t s at dev =
    elim (slice_get-push (tickets past) _ t s at) [
      | inl old ↦ all-held k past only.1 t s old dev
      | inr new ↦
          let away = only.0 (ap (λ (x : Ticket). x.device) new.1 ∙ dev) in
          (λ is. absurd (away.0 (ap (λ (x : Ticket). x.endpoint) new.1 ∙ is)), λ is. absurd (away.1 (ap (λ (x : Ticket). x.endpoint) new.1 ∙ is)))
    ]
all-held k (Packet d e b ∷ past) only t s at dev = all-held k past only.1 t s at dev
all-held k (Ack d e ∷ past) only t s at dev = all-held k past only.1 t s at dev
all-held k (Echo d o i ∷ past) only t s at dev = all-held k past only.1 t s at dev
all-held k (Fail d e errno ∷ past) only t s at dev = all-held k past only.1 t s at dev
all-held k (Discard n ∷ past) only t s at dev = all-held k past only.1 t s at dev
all-held k (Reap n ∷ past) only t s at dev = all-held k past only.1 t s at dev
all-held k (Unplug d ∷ past) only t s at dev = all-held k past only.1 t s at dev

-- it is no echo between the two endpoints
abbrev pub IsOther : Exchange → Event → Type 0
IsOther k (Echo d o i) = IsElsewhere k d o × IsElsewhere k d i
IsOther k _ = Unit {0}

-- a fresh fate is untouched
fresh-untouched : (f : Fate) → f ≡ fresh → IsUntouched f
fresh-untouched f is = rw is (record { packets = refl; acks = refl })

-- nothing has come to a ticket that was not there before the event
pub new-untouched : (past : List Event) (event : Event) (t : ℕ) → length (tickets past) ≤ t → IsUntouched (fate (event ∷ past) t)
new-untouched past (Submit n d e q body room deadline) t beyond = fresh-untouched (fate past t) (fate-fresh past t beyond)
new-untouched past (Refuse n d e q body room errno) t beyond =
    elim (cases_eq (length (tickets past)) t) [
      | inl same ↦ rw (eq-eqb (length (tickets past)) t same) (record { packets = refl; acks = refl })
      | inr apart ↦ rw (ne_eqb (length (tickets past)) t apart) (fresh-untouched (fate past t) (fate-fresh past t beyond))
    ]
new-untouched past (Packet d e b) t beyond = fresh-untouched (fate (Packet d e b ∷ past) t) (fate-fresh (Packet d e b ∷ past) t beyond)
new-untouched past (Ack d e) t beyond = fresh-untouched (fate (Ack d e ∷ past) t) (fate-fresh (Ack d e ∷ past) t beyond)
new-untouched past (Echo d o i) t beyond = fresh-untouched (fate (Echo d o i ∷ past) t) (fate-fresh (Echo d o i ∷ past) t beyond)
new-untouched past (Fail d e errno) t beyond = fresh-untouched (fate (Fail d e errno ∷ past) t) (fate-fresh (Fail d e errno ∷ past) t beyond)
new-untouched past (Discard n) t beyond = fresh-untouched (fate (Discard n ∷ past) t) (fate-fresh (Discard n ∷ past) t beyond)
new-untouched past (Reap n) t beyond = fresh-untouched (fate (Reap n ∷ past) t) (fate-fresh (Reap n ∷ past) t beyond)
new-untouched past (Unplug d) t beyond = fresh-untouched (fate (Unplug d ∷ past) t) (fate-fresh (Unplug d ∷ past) t beyond)

-- an event leaves each ticket of the two handles
abbrev pub Leaves : Exchange → List Event → Event → Type 0
Leaves k past event =
    (t : ℕ) (s : Ticket) → slice_get (tickets past) t ≡ Some s → IsNear k s → (holds k.outs t ≡ true) ⊎ (holds k.ins t ≡ true) → IsSame (fate past t) (fate (event ∷ past) t)

module _ (k : Exchange) where
  -- a ticket of the two endpoints is not one of an endpoint elsewhere
  pub far : (d e : ℕ) (s : Ticket) → IsElsewhere k d e → IsNear k s → s.device ≡ d → s.endpoint ≡ e → ⊥
  far d e s away is dd ee =
      let no = away (sym dd ∙ is.device) in
      elim is.endpoint [ inl out ↦ no.0 (sym ee ∙ out) | inr in_ ↦ no.1 (sym ee ∙ in_) ]

  -- an event that is no echo between the two endpoints does
  pub others-leave : (past : List Event) (event : Event) → IsEchoing k past event → IsOther k event → Leaves k past event
  others-leave past (Submit n d e q body room deadline) only other t s at near held = record { packets = refl; acks = refl; status = refl }
  others-leave past (Refuse n d e q body room errno) only other t s at near held =
      let within = slice_get_within (tickets past) t s at in
      let new : length (tickets past) ≢ t = λ same. omega arith in
      rw (ne_eqb (length (tickets past)) t new) (record { packets = refl; acks = refl; status = refl })
  others-leave past (Packet d e b) only other t s at near held = at-other past d e (λ s. with_packet s b) t (not-oldest past d e t s at (far d e s only near))
  others-leave past (Ack d e) only other t s at near held = at-other past d e with_ack t (not-oldest past d e t s at (far d e s only near))
  others-leave past (Echo d o i) only other t s at near held =
      echo-cases (IsSame (fate past t)) past d o i t (oldest past d o) (oldest past d i) (record { packets = refl; acks = refl; status = refl })
      (λ b. IsSame-trans (fate past t) (fate (Ack d o ∷ past) t) (fate (Packet d i b ∷ (Ack d o ∷ past)) t)
      (at-other past d o with_ack t (not-oldest past d o t s at (far d o s other.0 near)))
      (at-other (Ack d o ∷ past) d i (λ s. with_packet s b) t (not-oldest (Ack d o ∷ past) d i t s at (far d i s other.1 near))))
  others-leave past (Fail d e errno) only other t s at near held = at-other past d e (λ s. finish errno) t (not-oldest past d e t s at (far d e s only near))
  others-leave past (Discard n) only other t s at near held =
      elim (cases_eq n t) [
        | inl same ↦ elim held [ inl out ↦ absurd (false≢true (sym only.0 ∙ rw same out)) | inr in_ ↦ absurd (false≢true (sym only.1 ∙ rw same in_)) ]
        | inr new ↦ rw (ne_eqb n t new) (record { packets = refl; acks = refl; status = refl })
      ]
  others-leave past (Reap n) only other t s at near held =
      at_ticket-keeps (IsSame (fate past t)) n reap (tickets past) (fate past) t (record { packets = refl; acks = refl; status = refl }) (λ r here. record { packets = reap-packets r (fate past t); acks = reap-acks r (fate past t); status = reap-status r (fate past t) })
  others-leave past (Unplug d) only other t s at near held =
      change-keeps (IsSame (fate past t)) (unplug d) (slice_get (tickets past) t) (fate past t) (record { packets = refl; acks = refl; status = refl })
      (λ r here. let same : s ≡ r = same_Some s r (sym at ∙ here) in
      let no : r.device ≢ d = (λ is. only (sym is ∙ (sym (ap (λ (x : Ticket). x.device) same) ∙ near.device))) in
      rw (ne_eqb r.device d no) (record { packets = refl; acks = refl; status = refl }))

  -- and an event that does adds no packet to the tickets of the IN handle
  pub none-added : (m : ℕ) (past : List Event) (event : Event) → Each (IfIn k m (tickets past)) k.ins → Leaves k past event → flat_map (added past event) (among k.ins (event ∷ past)) ≡ []
  none-added m past event ins leaves = added-few past event k.ins [] tt (λ t. elim (cases_Bool (holds k.ins t)) [ inl is ↦ inr (one t is) | inr other ↦ inl other ])
    where
      kept : (t : ℕ) → holds k.ins t ≡ true → packets_at (event ∷ past) t ≡ packets_at past t
      kept t held =
          elim (slice_get_cases (tickets past) t).1 [
            | inl here ↦
                let is = each-at (IfIn k m (tickets past)) k.ins t ins held here.0 here.2 in
                (leaves t here.0 here.2 (record { device = is.device; endpoint = inr is.endpoint }) (inr held)).packets
            | inr gone ↦ let new = new-untouched past event t gone.0 in new.packets ∙ sym (ap (λ (f : Fate). f.packets) (fate-fresh past t gone.0))
          ]

      one : (t : ℕ) → holds k.ins t ≡ true → added past event t ≡ []
      one t held = ap (drop (length (packets_at past t))) (kept t held) ∙ drop-length (packets_at past t)
