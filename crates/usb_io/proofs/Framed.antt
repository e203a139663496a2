-- Over an exchange that only echoes, the packets that came are the first of those that were sent.
use Rattle.std.proofs.Common.{◌∙◌, ◌≡◌, ℕ, ◌*◌, ◌<◌, List, [], ◌∷◌, ◌++◌, append-nil, append_assoc, Option, Some, None, true, false, refl, ap, sym, ◌⊎◌, inl, inr, drop}
use Rattle.std.specs.Prelude.{is_some, is_none}
use Rattle.std.specs.List.{flat_map}
use Rattle.std.proofs.lemmas.Option.{same_Some}
use Rattle.std.proofs.lemmas.Bool.{cases_Bool, cases_eq}
use Rattle.usb_kernel.specs.declared.event.Event.{Event}
use Rattle.usb_kernel.specs.declared.event.Body.TheVariants.{Wanted, Sent}
use Rattle.usb_kernel.specs.Tickets.{Ticket, tickets}
use Rattle.usb_kernel.specs.Journal.{fate}
use Rattle.usb_kernel.proofs.Rules.{is_none_none}
use Rattle.usb_io.specs.Streams.{holds, IsAscending, Each}
use Rattle.usb_io.specs.Following.{IsMine}
use Rattle.usb_io.specs.Writes.{pieces, packets_of}
use Rattle.usb_io.specs.Carried.{Carries, AllCarry}
use Rattle.usb_io.proofs.Delivered.{each-map, flat_map-none, delivered_by_tickets}
use Rattle.usb_io.specs.Messages.{AreFirstOf}
use Rattle.usb_io.specs.Exchange.{Exchange, OnlyEchoes}
use Rattle.usb_io.specs.MessageLaws.{EchoesComeInOrder}
use Rattle.usb_io.proofs.Parts.{parts, parts-rest}
use Rattle.usb_io.proofs.Paces.{bytes_of, parts_by, parts_at, IsPaced}
use Rattle.usb_io.proofs.Handles.{IsOutLike, IfOut, IfIn, each-at, holds-each, all-held}
use Rattle.usb_io.proofs.Echoes.{IsEchoed, later-parts, echoed}

some-none : (o : Option ℕ) → is_none o ≡ false → is_some o ≡ true
some-none None e = sym e
some-none (Some x) e = refl

parts-is : (s : Ticket) (m : ℕ) (bytes : List ℕ) (a : ℕ) → s.maximum ≡ m → s.body ≡ Sent bytes → parts s.maximum (bytes_of s.body) a ≡ parts m bytes a
parts-is s m bytes a maximum body = rw (maximum, body) refl

-- what the acknowledgements took are the first of the packets of the transfers
module _ (k : Exchange) (m : ℕ) (some : 0 < m) (past : List Event) (outs : Each (IfOut k m (tickets past)) k.outs) (h : IsEchoed k m past) where
  parts-first : (ts : List ℕ) (transfers : List (List ℕ)) → IsAscending ts → Each (λ t. holds k.outs t ≡ true) ts → AllCarry past k.device k.output m ts transfers → AreFirstOf (flat_map (parts_at past) ts) (packets_of m transfers)
  parts-first [] [] rising held there = ([], refl)
  parts-first [] (b ∷ transfers) rising held there = absurd there
  parts-first (t ∷ ts) [] rising held there = absurd there
  parts-first (t ∷ ts) (b ∷ transfers) rising held there = go (parts-first ts transfers rising.1 held.1 there.1) (cases_Bool (is_none (fate past t).status))
    where
      is : Carries past k.device k.output m t b
      is = there.0

      like : IsOutLike k m is.s
      like = each-at (IfOut k m (tickets past)) k.outs t outs held.0 is.s is.at

      taken : parts_at past t ≡ parts m b (fate past t).acks
      taken = ap (λ (o : Option Ticket). parts_by o (fate past t).acks) is.at ∙ parts-is is.s m b (fate past t).acks is.maximum is.body

      pace : IsPaced m b (fate past t)
      pace = rw (ap bytes_of is.body) at (h.paced t is.s held.0 is.at)

      go : AreFirstOf (flat_map (parts_at past) ts) (packets_of m transfers) → ((is_none (fate past t).status ≡ true) ⊎ (is_none (fate past t).status ≡ false)) → AreFirstOf (parts_at past t ++ flat_map (parts_at past) ts) (pieces m b ++ packets_of m transfers)
      go others (inl none) =
          let unfinished : (fate past t).status ≡ None = is_none_none (fate past t).status none in
          let later = each-map (λ u. holds k.outs u ≡ true) (λ u. t < u → parts_at past u ≡ []) ts (λ u here below. later-parts k m past t u is.s is.at like unfinished (each-at (IfOut k m (tickets past)) k.outs u outs here) below) held.1 in
          let nothing = flat_map-none (parts_at past) t ts rising.0 later in
          let left = pieces m (drop (m * (fate past t).acks) b) in
          let all = parts-rest m b (fate past t).acks some (pace.open_more unfinished) in
          (left ++ packets_of m transfers, rw (nothing, taken, append-nil (parts m b (fate past t).acks), ← append_assoc (parts m b (fate past t).acks) left (packets_of m transfers), all) refl)
      go others (inr closed) =
          let all = pace.all (some-none (fate past t).status closed) in
          (others.0, rw (taken, all) (append_assoc (pieces m b) (flat_map (parts_at past) ts) others.0 ∙ ap (λ (xs : List (List ℕ)). pieces m b ++ xs) others.1))

-- the tickets that carry transfers, and those of the IN handle
outs-like : (k : Exchange) (past : List Event) (m : ℕ) (ts : List ℕ) (transfers : List (List ℕ)) → AllCarry past k.device k.output m ts transfers → Each (IfOut k m (tickets past)) ts
outs-like k past m [] transfers there = tt
outs-like k past m (t ∷ ts) [] there = absurd there
outs-like k past m (t ∷ ts) (b ∷ transfers) there = (one there.0, outs-like k past m ts transfers there.1)
  where
    one : Carries past k.device k.output m t b → IfOut k m (tickets past) t
    one is s at =
        let same : s ≡ is.s = same_Some s is.s (sym at ∙ is.at) in
        rw same (record { device = is.device; endpoint = is.endpoint; maximum = is.maximum; bytes = b; body = is.body })

in-like : (k : Exchange) (past : List Event) (m t : ℕ) → IsMine past k.device k.input m t → IfIn k m (tickets past) t
in-like k past m t is s at =
    let same : s ≡ is.s = same_Some s is.s (sym at ∙ is.at) in
    rw same (record { device = is.device; endpoint = is.endpoint; maximum = is.maximum })

pub ins-like : (k : Exchange) (past : List Event) (m : ℕ) → Each (IsMine past k.device k.input m) k.ins → Each (IfIn k m (tickets past)) k.ins
ins-like k past m mine = each-map (IsMine past k.device k.input m) (IfIn k m (tickets past)) k.ins (in-like k past m) mine

-- no ticket both sends and wants, so on one endpoint there are none
nothing-came : (k : Exchange) (past : List Event) (m : ℕ) (ts : List ℕ) → k.output ≡ k.input → OnlyEchoes k past → Each (IfOut k m (tickets past)) k.outs → Each (IsMine past k.device k.input m) ts → ts ≡ []
nothing-came k past m [] one only outs mine = refl
nothing-came k past m (t ∷ ts) one only outs mine = absurd (both mine.0)
  where
    both : IsMine past k.device k.input m t → ⊥
    both is =
        let all = all-held k past only t is.s is.at is.device in
        let out = each-at (IfOut k m (tickets past)) k.outs t outs (all.0 (is.endpoint ∙ sym one)) is.s is.at in
        let same : Sent out.bytes ≡ Wanted is.wanted = sym out.body ∙ is.body in
        cc

pub echoes_come_in_order : EchoesComeInOrder
echoes_come_in_order k past m transfers some only there up mine =
    elim (cases_eq k.output k.input) [
      | inl one ↦
          let none = nothing-came k past m k.ins one only outs mine in
          (packets_of m transfers, rw (none, delivered_by_tickets past k.device k.input [] tt tt) refl)
      | inr apart ↦
          let ins = ins-like k past m mine in
          let h = echoed k m some apart up past only outs ins in
          let first = parts-first k m some past outs h k.outs transfers up (holds-each k.outs) there in
          (first.0, rw h.same first.1)
    ]
  where
    outs : Each (IfOut k m (tickets past)) k.outs
    outs = outs-like k past m k.outs transfers there
