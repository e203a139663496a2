-- Over an exchange that only echoes, what the IN handle received is what the acknowledgements took.
use Rattle.std.proofs.Common.{◌∙◌, ◌≡◌, ◌≢◌, ℕ, ◌<◌, ◌≤◌, arith, List, [], ◌∷◌, ◌++◌, length, drop, append-nil, append_assoc, Option, Some, None, true, refl, ap, sym, subst, slice_get, ◌⊎◌, inl, inr}
use Rattle.std.specs.List.{flat_map}
use Rattle.std.proofs.Math.Seq.{drop-length, drop-append_seam}
use Rattle.std.proofs.lemmas.Option.{none-some, same_Some, slice_get_cases}
use Rattle.std.proofs.lemmas.Bool.{cases_eq, ne_eqb, eq-eqb, false≢true}
use Rattle.usb_kernel.specs.declared.event.Event.{Event}
use Rattle.usb_kernel.specs.declared.event.Event.TheVariants.{Submit, Refuse, Packet, Ack, Echo, Fail, Discard, Reap, Unplug}
use Rattle.usb_kernel.specs.Tickets.{Ticket, tickets}
use Rattle.usb_kernel.specs.Fates.{Fate, with_packet, with_ack}
use Rattle.usb_kernel.specs.Journal.{fate, oldest, taken_of}
use Rattle.usb_kernel.specs.Ahead.{IsAhead}
use Rattle.usb_kernel.proofs.Fresh.{fate-fresh}
use Rattle.usb_kernel.proofs.Rules.{at_oldest-keeps, tickets-stay, slice_get-push}
use Rattle.usb_kernel.proofs.Order.{IsOldest, is_oldest, ordered}
use Rattle.usb_kernel.proofs.Echoes.{fate-echo}
use Rattle.usb_io.specs.Streams.{holds, among, packets_at, added, delivered, IsAbove, IsAscending, Each}
use Rattle.usb_io.proofs.Delivered.{each-map, flat_map-none, with_ack-packets, added-few}
use Rattle.usb_io.specs.Exchange.{Exchange, IsEchoing, OnlyEchoes}
use Rattle.usb_io.proofs.Parts.{HasMore, piece, parts-next, piece-fits}
use Rattle.usb_io.proofs.Oldest.{oldest-some}
use Rattle.usb_io.proofs.Sames.{IsSame, not-oldest, at-other, packet-acks, with_packet-packets}
use Rattle.usb_io.proofs.Paces.{bytes_of, parts_by, parts_at, parts-none, IsPaced, paced-same, taken-ticket, paced-ticket, served-fate, acked-acks}
use Rattle.usb_io.proofs.Handles.{IsOutLike, IfOut, IfIn, each-at, holds-each, all-held, far, IsOther, new-untouched, Leaves, others-leave, none-added}

-- what is the same for each ticket is the same for all
flat_map-each : {X : Type 0} (P : ℕ → Type 0) (f g : ℕ → List X) (ts : List ℕ) → Each P ts → ((t : ℕ) → P t → g t ≡ f t) → flat_map g ts ≡ flat_map f ts
flat_map-each P f g [] each same = refl
flat_map-each P f g (t ∷ ts) each same = rw (same t each.0, flat_map-each P f g ts each.1 same) refl

-- one ticket has more, and those after it have nothing yet
grows : {X : Type 0} (f g : ℕ → List X) (t : ℕ) (more : List X) (ts : List ℕ) → IsAscending ts → holds ts t ≡ true → ((u : ℕ) → u ≢ t → g u ≡ f u) → g t ≡ f t ++ more → Each (λ u. t < u → f u ≡ []) ts → flat_map g ts ≡ flat_map f ts ++ more
grows f g t more [] up is same here each = absurd (false≢true is)
grows f g t more (x ∷ ts) up is same here each =
    elim (cases_eq x t) [
      | inl at ↦
          let above : IsAbove t ts = rw (← at) up.0 in
          let after = each-map (λ u. t < u → f u ≡ []) (λ u. t < u → g u ≡ []) ts (λ u none below. same u (λ eq. omega arith) ∙ none below) each.1 in
          rw (flat_map-none f t ts above each.1, flat_map-none g t ts above after, at, here, append-nil (f t ++ more), append-nil (f t)) refl
      | inr apart ↦ rw (same x apart, grows f g t more ts up.1 (rw (ne_eqb x t apart) at is) same here each.1) (sym (append_assoc (f x) (flat_map f ts) more))
    ]

-- what holds over an exchange that only echoes, at each moment
pub record IsEchoed (k : Exchange) (m : ℕ) (past : List Event) : Type 0 where
  pub paced : (t : ℕ) (s : Ticket) → holds k.outs t ≡ true → slice_get (tickets past) t ≡ Some s → IsPaced m (bytes_of s.body) (fate past t)
  pub same : delivered k.ins past ≡ flat_map (parts_at past) k.outs

-- the tickets behind an open one of the OUT handle have sent nothing
pub later-parts : (k : Exchange) (m : ℕ) (past : List Event) (x u : ℕ) (s : Ticket) → slice_get (tickets past) x ≡ Some s → IsOutLike k m s → (fate past x).status ≡ None → IfOut k m (tickets past) u → x < u → parts_at past u ≡ []
later-parts k m past x u s at is none of below =
    elim (slice_get_cases (tickets past) u).1 [
      | inl here ↦
          let out = of here.0 here.2 in
          let ahead : IsAhead past x u = record { s = s; r = here.0; first = at; second = here.2; before = below; device = is.device ∙ sym out.device; endpoint = is.endpoint ∙ sym out.endpoint; none = none } in
          let untouched = ordered past x u ahead in
          ap (parts_by (slice_get (tickets past) u)) untouched.acks ∙ parts-none (slice_get (tickets past) u)
      | inr gone ↦ ap (λ (o : Option Ticket). parts_by o (fate past u).acks) gone.1
    ]

module _ (k : Exchange) (m : ℕ) where
  -- a new ticket of the OUT handle was submitted, and has all to send
  new-paced : (past : List Event) (event : Event) (t : ℕ) (s : Ticket) → slice_get (tickets past) t ≡ None → slice_get (tickets (event ∷ past)) t ≡ Some s → IsOutLike k m s → IsEchoing k past event → IsPaced m (bytes_of s.body) (fate (event ∷ past) t)
  new-paced past (Submit n d e q body room deadline) t s none at out only =
      elim (slice_get-push (tickets past) _ t s at) [
        | inl old ↦ absurd (none-some s (sym none ∙ old))
        | inr new ↦ rw (fate-fresh past t (omega (arith, new.0))) (record { open_more = λ none. inl refl; all = λ yet. absurd (false≢true yet) })
      ]
  new-paced past (Refuse n d e q body room errno) t s none at out only =
      elim (slice_get-push (tickets past) _ t s at) [
        | inl old ↦ absurd (none-some s (sym none ∙ old))
        | inr new ↦ absurd (far k d e s only (record { device = out.device; endpoint = inl out.endpoint }) (sym (ap (λ (x : Ticket). x.device) new.1)) (sym (ap (λ (x : Ticket). x.endpoint) new.1)))
      ]
  new-paced past (Packet d e b) t s none at out only = absurd (none-some s (sym none ∙ at))
  new-paced past (Ack d e) t s none at out only = absurd (none-some s (sym none ∙ at))
  new-paced past (Echo d o i) t s none at out only = absurd (none-some s (sym none ∙ at))
  new-paced past (Fail d e errno) t s none at out only = absurd (none-some s (sym none ∙ at))
  new-paced past (Discard n) t s none at out only = absurd (none-some s (sym none ∙ at))
  new-paced past (Reap n) t s none at out only = absurd (none-some s (sym none ∙ at))
  new-paced past (Unplug d) t s none at out only = absurd (none-some s (sym none ∙ at))

  -- all this holds on over an event that leaves the tickets of both handles
  left-echoed : (past : List Event) (event : Event) → Leaves k past event → IsEchoing k past event → Each (IfOut k m (tickets (event ∷ past))) k.outs → Each (IfIn k m (tickets past)) k.ins → IsEchoed k m past → IsEchoed k m (event ∷ past)
  left-echoed past event leaves only outs ins h = record {
    paced = paced;
    same = ap (λ (xs : List (List ℕ)). delivered k.ins past ++ xs) (none-added k m past event ins leaves)
        ∙ (append-nil (delivered k.ins past) ∙ (h.same ∙ sym (flat_map-each (λ t. holds k.outs t ≡ true) (parts_at past) (parts_at (event ∷ past)) k.outs (holds-each k.outs) parts-same)));
  }
    where
      out-at : (t : ℕ) (s : Ticket) → holds k.outs t ≡ true → slice_get (tickets past) t ≡ Some s → IsSame (fate past t) (fate (event ∷ past) t)
      out-at t s held at =
          let out = each-at (IfOut k m (tickets (event ∷ past))) k.outs t outs held s (tickets-stay past event t s at) in
          leaves t s at (record { device = out.device; endpoint = inl out.endpoint }) (inl held)

      paced : (t : ℕ) (s : Ticket) → holds k.outs t ≡ true → slice_get (tickets (event ∷ past)) t ≡ Some s → IsPaced m (bytes_of s.body) (fate (event ∷ past) t)
      paced t s held at =
          elim (slice_get_cases (tickets past) t).1 [
            | inl here ↦
                let is : here.0 ≡ s = same_Some here.0 s (sym (tickets-stay past event t here.0 here.2) ∙ at) in
                rw (← is) (paced-same m (bytes_of here.0.body) (fate past t) (fate (event ∷ past) t) (out-at t here.0 held here.2) (h.paced t here.0 held here.2))
            | inr gone ↦ new-paced past event t s gone.1 at (each-at (IfOut k m (tickets (event ∷ past))) k.outs t outs held s at) only
          ]

      parts-same : (t : ℕ) → holds k.outs t ≡ true → parts_at (event ∷ past) t ≡ parts_at past t
      parts-same t held =
          elim (slice_get_cases (tickets past) t).1 [
            | inl here ↦
                let same = out-at t here.0 held here.2 in
                rw (tickets-stay past event t here.0 here.2, here.2, same.acks) refl
            | inr gone ↦
                let new = new-untouched past event t gone.0 in
                rw (gone.1, new.acks) (parts-none (slice_get (tickets (event ∷ past)) t))
          ]

-- an echo between the two endpoints
module _ (k : Exchange) (m : ℕ) (some : 0 < m) (apart : k.output ≢ k.input) (up : IsAscending k.outs) (past : List Event) (only : OnlyEchoes k past) (outs : Each (IfOut k m (tickets past)) k.outs) (ins : Each (IfIn k m (tickets past)) k.ins) where
  abbrev echo : Event
  echo = Echo k.device k.output k.input

  abbrev acked : List Event
  acked = Ack k.device k.output ∷ past

  -- it holds on where one ticket sends and one takes
  acts : (x j : ℕ) → oldest past k.device k.output ≡ Some x → oldest past k.device k.input ≡ Some j → IsEchoed k m past → IsEchoed k m (echo ∷ past)
  acts x j ex ey h = record {
    paced = paced;
    same = rw (adds, h.same)
        (sym (grows (parts_at past) (parts_at (echo ∷ past)) x (b ∷ []) k.outs up held others here
        (each-map (IfOut k m (tickets past)) (λ u. x < u → parts_at past u ≡ []) k.outs (λ u of below. later-parts k m past x u o.s o.at out o.none of below) outs)));
  }
    where
      b : List ℕ
      b = taken_of (slice_get (tickets past) x) (fate past x)

      -- it is an acknowledgement and then a packet
      both : (u : ℕ) → fate (echo ∷ past) u ≡ fate (Packet k.device k.input b ∷ acked) u
      both u = fate-echo past k.device k.output k.input x j u ex ey

      o : IsOldest past k.device k.output x
      o = is_oldest past k.device k.output x ex

      held : holds k.outs x ≡ true
      held = let all = all-held k past only x o.s o.at o.device in all.0 o.endpoint

      out : IsOutLike k m o.s
      out = each-at (IfOut k m (tickets past)) k.outs x outs held o.s o.at

      taken : b ≡ piece m out.bytes (fate past x).acks
      taken = ap (λ (t : Option Ticket). taken_of t (fate past x)) o.at ∙ taken-ticket o.s m out.bytes (fate past x) out.body out.maximum

      acks-of : (u : ℕ) → (fate (echo ∷ past) u).acks ≡ (fate acked u).acks
      acks-of u = ap (λ (f : Fate). f.acks) (both u) ∙ packet-acks acked k.device k.input b u

      others : (u : ℕ) → u ≢ x → parts_at (echo ∷ past) u ≡ parts_at past u
      others u new =
          let same = at-other past k.device k.output with_ack u (λ is. new (same_Some u x (sym is ∙ ex))) in
          ap (parts_by (slice_get (tickets past) u)) (acks-of u ∙ same.acks)

      here : parts_at (echo ∷ past) x ≡ parts_at past x ++ b ∷ []
      here =
          let at = o.at in
          ap (parts_by (slice_get (tickets past) x)) (acks-of x ∙ acked-acks past k.device k.output x o.s ex o.at)
          ∙ rw (taken, at, out.maximum, out.body) (parts-next m out.bytes (fate past x).acks)

      paced : (t : ℕ) (s : Ticket) → holds k.outs t ≡ true → slice_get (tickets past) t ≡ Some s → IsPaced m (bytes_of s.body) (fate (echo ∷ past) t)
      paced t s is at = rw (both t) (paced-same m (bytes_of s.body) (fate acked t) (fate (Packet k.device k.input b ∷ acked) t) second first)
        where
          like : IsOutLike k m s
          like = each-at (IfOut k m (tickets past)) k.outs t outs is s at

          second : IsSame (fate acked t) (fate (Packet k.device k.input b ∷ acked) t)
          second = at-other acked k.device k.input (λ s. with_packet s b) t (not-oldest acked k.device k.input t s at (λ dd ee. apart (sym like.endpoint ∙ ee)))

          first : IsPaced m (bytes_of s.body) (fate acked t)
          first =
              elim (cases_eq x t) [
                | inl same ↦
                    let first : oldest past k.device k.output ≡ Some t = ex ∙ ap Some same in
                    let p = is_oldest past k.device k.output t first in
                    let body : bytes_of s.body ≡ like.bytes = ap bytes_of like.body in
                    let more : HasMore m like.bytes (fate past t).acks = rw body at ((h.paced t s is at).open_more p.none) in
                    rw (served-fate with_ack past k.device k.output t s first at, body) (paced-ticket s m like.bytes (fate past t) like.body like.maximum some p.none more)
                | inr new ↦ paced-same m (bytes_of s.body) (fate past t) (fate acked t) (at-other past k.device k.output with_ack t (λ is. new (same_Some x t (sym ex ∙ is)))) (h.paced t s is at)
              ]

      -- the ticket that takes the packet
      later : (i : ℕ) × (oldest acked k.device k.input ≡ Some i)
      later =
          let i = is_oldest past k.device k.input j ey in
          let far : i.s.device ≡ k.device → i.s.endpoint ≡ k.output → ⊥ = (λ dd ee. apart (sym ee ∙ i.endpoint)) in
          let same = at-other past k.device k.output with_ack j (not-oldest past k.device k.output j i.s i.at far) in
          oldest-some acked k.device k.input j i.s i.at i.device i.endpoint (same.status ∙ i.none)

      i : IsOldest acked k.device k.input later.0
      i = is_oldest acked k.device k.input later.0 later.1

      in_held : holds k.ins later.0 ≡ true
      in_held = let all = all-held k past only later.0 i.s i.at i.device in all.1 i.endpoint

      before : (u : ℕ) → packets_at acked u ≡ packets_at past u
      before u = at_oldest-keeps (λ g. g.packets ≡ packets_at past u) (oldest past k.device k.output) with_ack (tickets past) (fate past) u refl (λ is r here. with_ack-packets r (fate past u))

      comes : packets_at (echo ∷ past) later.0 ≡ packets_at past later.0 ++ b ∷ []
      comes =
          let like = each-at (IfIn k m (tickets past)) k.ins later.0 ins in_held i.s i.at in
          let few : length (piece m out.bytes (fate past x).acks) ≤ m = piece-fits m out.bytes (fate past x).acks in
          let fits : length b ≤ i.s.maximum = rw (taken, like.maximum) few in
          ap (λ (f : Fate). f.packets) (both later.0 ∙ served-fate (λ s. with_packet s b) acked k.device k.input later.0 i.s later.1 i.at)
          ∙ (with_packet-packets i.s b (fate acked later.0) fits ∙ ap (λ (xs : List (List ℕ)). xs ++ b ∷ []) (before later.0))

      adds : flat_map (added past echo) (among k.ins (echo ∷ past)) ≡ b ∷ []
      adds =
          added-few past echo k.ins (later.0 ∷ []) (tt, tt)
          (λ u. elim (cases_eq later.0 u) [
            | inl here ↦ inl (rw (← here, in_held, eq-eqb later.0 later.0 refl) refl)
            | inr new ↦
                let same = at-other acked k.device k.input (λ s. with_packet s b) u (λ is. new (same_Some later.0 u (sym later.1 ∙ is))) in
                inr (ap (drop (length (packets_at past u))) (ap (λ (f : Fate). f.packets) (both u) ∙ (same.packets ∙ before u)) ∙ drop-length (packets_at past u))
          ])
          ∙ (append-nil (added past echo later.0) ∙ (ap (drop (length (packets_at past later.0))) comes ∙ drop-append_seam (packets_at past later.0) (b ∷ [])))

  -- and where there is nothing to send, or nobody to take it
  echo-echoed : (x y : Option ℕ) → oldest past k.device k.output ≡ x → oldest past k.device k.input ≡ y → IsEchoing k past echo → IsEchoed k m past → IsEchoed k m (echo ∷ past)
  echo-echoed None y ex ey is h = left-echoed k m past echo (λ t s at near held. rw ex (record { packets = refl; acks = refl; status = refl })) is outs ins h
  echo-echoed (Some x) None ex ey is h = left-echoed k m past echo (λ t s at near held. rw (ex, ey) (record { packets = refl; acks = refl; status = refl })) is outs ins h
  echo-echoed (Some x) (Some j) ex ey is h = acts x j ex ey h

-- each event is an echo between the two endpoints, or another one
echo-or-other : (k : Exchange) (past : List Event) (event : Event) → IsEchoing k past event → (event ≡ Echo k.device k.output k.input) ⊎ IsOther k event
echo-or-other k past (Echo d o i) only = elim only [ inl is ↦ inl (rw (is.0, is.1, is.2) refl) | inr away ↦ inr away ]
echo-or-other k past (Submit n d e q body room deadline) only = inr tt
echo-or-other k past (Refuse n d e q body room errno) only = inr tt
echo-or-other k past (Packet d e b) only = inr tt
echo-or-other k past (Ack d e) only = inr tt
echo-or-other k past (Fail d e errno) only = inr tt
echo-or-other k past (Discard n) only = inr tt
echo-or-other k past (Reap n) only = inr tt
echo-or-other k past (Unplug d) only = inr tt

-- so it holds over each exchange that only echoes
pub echoed : (k : Exchange) (m : ℕ) → 0 < m → k.output ≢ k.input → IsAscending k.outs → (past : List Event) → OnlyEchoes k past → Each (IfOut k m (tickets past)) k.outs → Each (IfIn k m (tickets past)) k.ins → IsEchoed k m past
echoed k m some apart up [] only outs ins = record { paced = λ t s held at. absurd (none-some s at); same = sym (none k.outs) }
  where
    none : (ts : List ℕ) → flat_map (parts_at []) ts ≡ []
    none [] = refl
    none (t ∷ ts) = none ts
echoed k m some apart up (event ∷ past) only outs ins =
    let old_outs = each-map (IfOut k m (tickets (event ∷ past))) (IfOut k m (tickets past)) k.outs (λ t is s at. is s (tickets-stay past event t s at)) outs in
    let old_ins = each-map (IfIn k m (tickets (event ∷ past))) (IfIn k m (tickets past)) k.ins (λ t is s at. is s (tickets-stay past event t s at)) ins in
    let h = echoed k m some apart up past only.1 old_outs old_ins in
    elim (echo-or-other k past event only.0) [
      | inl is ↦
          let here : IsEchoing k past (Echo k.device k.output k.input) = subst (IsEchoing k past) is only.0 in
          rw is (echo-echoed k m some apart up past only.1 old_outs old_ins (oldest past k.device k.output) (oldest past k.device k.input) refl refl here h)
      | inr other ↦ left-echoed k m past event (others-leave k past event only.0 other) only.0 outs old_ins h
    ]
