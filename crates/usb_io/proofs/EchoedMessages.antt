-- Over an exchange that only echoes, the messages that were read are the first of those that were written.
use Rattle.std.proofs.Common.{◌∙◌, ◌≡◌, ℕ, ◌+◌, ◌*◌, ◌≤◌, arith, List, [], ◌∷◌, ◌++◌, length, append_assoc, refl, ap, sym, inl, inr}
use Rattle.std.specs.List.{flat_map}
use Rattle.std.proofs.lemmas.List.Concat.{flat_map-append}
use Rattle.std.proofs.lemmas.Option.{slice_get_cases}
use Rattle.std.proofs.lemmas.Bool.{cases_lt, lt-ltb}
use Rattle.usb_kernel.specs.declared.event.Event.{Event}
use Rattle.usb_kernel.specs.Tickets.{Ticket, tickets}
use Rattle.usb_kernel.specs.Fates.{Fate}
use Rattle.usb_kernel.specs.Journal.{fate}
use Rattle.usb_kernel.proofs.Rules.{KeepsAlways, event-keeps-always, tickets-stay}
use Rattle.usb_io.specs.Streams.{Mark, Byte, End, marks, stream_of, among, packets_at, added, delivered, Each}
use Rattle.usb_io.specs.Writes.{written, packets_of, marks_of}
use Rattle.usb_io.proofs.Delivered.{each-map, each-among, finish-packets, with_ack-packets, reap-packets, added-more}
use Rattle.usb_io.proofs.Pieces.{packets_say_marks}
use Rattle.usb_io.specs.Messages.{messages_from, messages, AreFirstOf}
use Rattle.usb_io.specs.Exchange.{Exchange}
use Rattle.usb_io.specs.MessageLaws.{MessagesAreFirst}
use Rattle.usb_io.proofs.Sames.{with_packet-packets}
use Rattle.usb_io.proofs.Handles.{IfIn, each-at, new-untouched}
use Rattle.usb_io.proofs.Framed.{ins-like, echoes_come_in_order}

-- the first of the items have the first of the messages
messages-first : (bytes : List ℕ) (xs ys : List Mark) → AreFirstOf (messages_from bytes xs) (messages_from bytes (xs ++ ys))
messages-first bytes [] ys = (messages_from bytes ys, refl)
messages-first bytes (Byte b ∷ xs) ys = messages-first (bytes ++ b ∷ []) xs ys
messages-first bytes (End ∷ xs) ys = let h = messages-first [] xs ys in (h.0, ap (λ (ms : List (List ℕ)). bytes ∷ ms) h.1)

-- the packets that came to a ticket make no item at a maximum of 0
abbrev MakesNone : Fate → Type 0
MakesNone f = stream_of 0 f.packets ≡ []

-- since each packet that a ticket of this maximum accepts is empty
none-keeps : (s : Ticket) → s.maximum ≡ 0 → KeepsAlways MakesNone s
none-keeps s zero = record {
  packet = λ g b unfinished none. elim (cases_lt s.maximum (length b)) [
    | inl long ↦ rw (lt-ltb s.maximum (length b) long, finish-packets 75 g) none
    | inr fits ↦ rw (with_packet-packets s b g fits, flat_map-append (marks 0) g.packets (b ∷ []), none) (empty b (omega (arith, zero)))
  ];
  ack = λ g unfinished none. rw (with_ack-packets s g) none;
  ends = λ g n is none. rw (finish-packets n g) none;
  reaps = λ g none. rw (reap-packets s g) none;
}
  where
    empty : (b : List ℕ) → length b ≤ 0 → stream_of 0 (b ∷ []) ≡ []
    empty [] fits = refl
    empty (x ∷ b) fits = absurd (omega arith)

-- so it is of each ticket of the IN handle
makes-none : (k : Exchange) (past : List Event) (t : ℕ) → IfIn k 0 (tickets past) t → MakesNone (fate past t)
makes-none k [] t of = refl
makes-none k (event ∷ past) t of =
    let before = makes-none k past t (λ s at. of s (tickets-stay past event t s at)) in
    elim (slice_get_cases (tickets past) t).1 [
      | inl here ↦
          let is = of here.0 (tickets-stay past event t here.0 here.2) in
          event-keeps-always MakesNone past event t here.0 here.2 (none-keeps here.0 is.maximum) before
      | inr gone ↦ let new = new-untouched past event t gone.0 in rw new.packets refl
    ]

-- where nothing stands in both together, nothing stands in front, and nothing behind
left-empty : (xs ys : List Mark) → xs ++ ys ≡ [] → xs ≡ []
left-empty [] ys none = refl
left-empty (x ∷ xs) ys none = cc

right-empty : (xs ys : List Mark) → xs ++ ys ≡ [] → ys ≡ []
right-empty [] ys none = none
right-empty (x ∷ xs) ys none = cc

-- what an event adds to tickets of the IN handle makes no item either
added-empty : (k : Exchange) (past : List Event) (event : Event) (ts : List ℕ) → Each (IfIn k 0 (tickets (event ∷ past))) ts → stream_of 0 (flat_map (added past event) ts) ≡ []
added-empty k past event [] of = refl
added-empty k past event (t ∷ ts) of =
    let all : stream_of 0 (packets_at past t ++ added past event t) ≡ [] = rw (← added-more past event t) (makes-none k (event ∷ past) t of.0) in
    let parts = sym (flat_map-append (marks 0) (packets_at past t) (added past event t)) ∙ all in
    rw (flat_map-append (marks 0) (added past event t) (flat_map (added past event) ts), right-empty (stream_of 0 (packets_at past t)) (stream_of 0 (added past event t)) parts) (added-empty k past event ts of.1)

-- so nothing that the IN handle receives does
stream-empty : (k : Exchange) (past : List Event) → Each (IfIn k 0 (tickets past)) k.ins → stream_of 0 (delivered k.ins past) ≡ []
stream-empty k [] of = refl
stream-empty k (event ∷ past) of =
    let before = each-map (IfIn k 0 (tickets (event ∷ past))) (IfIn k 0 (tickets past)) k.ins (λ t is s at. is s (tickets-stay past event t s at)) of in
    let each = each-among (IfIn k 0 (tickets (event ∷ past))) k.ins (event ∷ past) (λ t held. each-at (IfIn k 0 (tickets (event ∷ past))) k.ins t of held) in
    rw (flat_map-append (marks 0) (delivered k.ins past) (flat_map (added past event) (among k.ins (event ∷ past))), stream-empty k past before) (added-empty k past event (among k.ins (event ∷ past)) each)

-- the first of what came, of what was sent, and of what was written
chain : (m : ℕ) (consumed more : List Mark) (came rest sent : List (List ℕ)) (standing items : List Mark) → consumed ++ more ≡ stream_of m came → came ++ rest ≡ sent → stream_of m sent ++ standing ≡ items → consumed ++ (more ++ (stream_of m rest ++ standing)) ≡ items
chain m consumed more came rest sent standing items first second third =
    rw (← third, ← second, flat_map-append (marks m) came rest, ← first) (simp append_assoc)

pub messages_are_first : MessagesAreFirst
messages_are_first k past m more calls consumed only plain there up mine prefix =
    elim (cases_lt 0 m) [
      | inl some ↦
          let first = echoes_come_in_order k past m (written m ((more + 1) * m) calls).transfers some only there up mine in
          let says = packets_say_marks m more calls some plain in
          let all = chain m consumed prefix.0 (delivered k.ins past) first.0 (packets_of m (written m ((more + 1) * m) calls).transfers) _ (marks_of calls) prefix.1 first.1 says in
          let result = messages-first [] consumed _ in
          (result.0, result.1 ∙ ap messages all)
      | inr least ↦
          let zero : m ≡ 0 = omega arith in
          let ins : Each (IfIn k 0 (tickets past)) k.ins = rw zero at (ins-like k past m mine) in
          let nothing : stream_of m (delivered k.ins past) ≡ [] = rw zero (stream-empty k past ins) in
          let none : consumed ≡ [] = left-empty consumed prefix.0 (prefix.1 ∙ nothing) in
          (messages (marks_of calls), rw none refl)
    ]
