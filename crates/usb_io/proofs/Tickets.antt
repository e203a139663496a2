-- The stream of one ticket: its bytes, and an end where it is Ok with fewer bytes than wanted.
use Rattle.std.proofs.Common.{◌∙◌, ◌≡◌, ◌≢◌, ℕ, ◌+◌, ◌*◌, ◌<◌, ◌≤◌, arith, List, [], ◌∷◌, ◌++◌, length, length-append, append-nil, append_assoc, Option, Some, None, Bool, true, false, refl, ap, sym, slice_get, inl, inr, zero, suc, map}
use Rattle.std.specs.Prelude.{nat_lt}
use Rattle.std.specs.List.{concat}
use Rattle.std.proofs.lemmas.List.{map-append}
use Rattle.std.proofs.lemmas.List.Concat.{flat_map-append}
use Rattle.std.proofs.lemmas.Option.{none-some}
use Rattle.std.proofs.lemmas.Bool.{cases_lt, ne_eqb, lt-ltb, le-ltb, le-leb, lt-leb}
use Rattle.usb_kernel.specs.declared.event.Event.{Event}
use Rattle.usb_kernel.specs.declared.event.Body.{Body}
use Rattle.usb_kernel.specs.declared.event.Body.TheVariants.{Wanted, Sent}
use Rattle.usb_kernel.specs.Tickets.{Ticket, tickets}
use Rattle.usb_kernel.specs.Fates.{refused_fate, Fate, fresh, with_packet, with_ack, finish, reap}
use Rattle.usb_kernel.specs.Journal.{fate}
use Rattle.usb_kernel.specs.Legal.{IsLawful}
use Rattle.usb_kernel.specs.Submissions.{WantsWhole}
use Rattle.usb_kernel.proofs.Rules.{Keeps, Rule, fate-rule}
use Rattle.usb_io.specs.Streams.{stands, Byte, end_mark, marks, stream_of}

pub record IsSteady (m wanted : ℕ) (packets : List (List ℕ)) (status : Option ℕ) : Type 0 where
  pub law : stream_of m packets ≡ map Byte (concat packets) ++ end_mark (stands wanted status (length (concat packets)))
  pub room : status ≡ None → (more : ℕ) × (length (concat packets) + (more + 1) * m ≡ wanted)

abbrev pub IsSteadyFor : ℕ → Body → Fate → Type 0
IsSteadyFor m (Wanted n) f = IsSteady m n f.packets f.status
IsSteadyFor m (Sent bytes) f = Unit {0}

pub concat-push : (ps : List (List ℕ)) (b : List ℕ) → concat (ps ++ b ∷ []) ≡ concat ps ++ b
concat-push [] b = append-nil b
concat-push (p ∷ ps) b = rw (concat-push ps b) (sym (append_assoc p (concat ps) b))

pub stream-push : (m : ℕ) (ps : List (List ℕ)) (b : List ℕ) → stream_of m (ps ++ b ∷ []) ≡ stream_of m ps ++ marks m b
stream-push m ps b = flat_map-append (marks m) ps (b ∷ []) ∙ ap (λ xs. stream_of m ps ++ xs) (append-nil (marks m b))

-- one more packet, of which it is known whether it is short, and whether an end stands after it
push-law : (m : ℕ) (ps : List (List ℕ)) (b : List ℕ) (short : Bool) → stream_of m ps ≡ map Byte (concat ps) ++ [] → nat_lt (length b) m ≡ short → stream_of m (ps ++ b ∷ []) ≡ map Byte (concat (ps ++ b ∷ [])) ++ end_mark short
push-law m ps b short law is =
    rw (stream-push m ps b, concat-push ps b, law, is, append-nil (map Byte (concat ps)), map-append Byte (concat ps) b)
    (sym (append_assoc (map Byte (concat ps)) (map Byte b) (end_mark short)))

finish-steady : (m n errno : ℕ) (ps : List (List ℕ)) (a : ℕ) (st : Option ℕ) (r : Bool) → 1 ≤ errno → IsSteady m n ps st → IsSteadyFor m (Wanted n) (finish errno (record { packets = ps; acks = a; status = st; reaped = r }))
finish-steady m n errno ps a None r some h =
    let apart : errno ≢ 0 = λ same. omega arith in
    record { law = rw (ne_eqb errno 0 apart) h.law; room = λ none. absurd (none-some errno (sym none)) }
finish-steady m n errno ps a (Some x) r some h = h

-- an acknowledgement ends a ticket that wants bytes only where it has them
ack-steady : (d e m n room : ℕ) (refused : Bool) (deadline : Option ℕ) (ps : List (List ℕ)) (a : ℕ) (r : Bool) → IsSteady m n ps None → IsSteadyFor m (Wanted n) (with_ack (record { device = d; endpoint = e; maximum = m; body = Wanted n; capacity = room; refused = refused; deadline = deadline }) (record { packets = ps; acks = a; status = None; reaped = r }))
ack-steady d e m n room refused deadline ps a r h =
    elim (cases_lt (length (concat ps)) n) [
      | inl less ↦ rw (lt-leb n (length (concat ps)) less) h
      | inr enough ↦ rw (le-leb n (length (concat ps)) enough) (record { law = rw (le-ltb (length (concat ps)) n enough) h.law; room = λ none. absurd (none-some 0 (sym none)) })
    ]

length-push : (ps : List (List ℕ)) (b : List ℕ) → length (concat (ps ++ b ∷ [])) ≡ length (concat ps) + length b
length-push ps b = rw (concat-push ps b) (length-append (concat ps) b)

-- a full packet and what is wanted after it
room-full : (m n c k l more : ℕ) → c + (more + 1) * m ≡ n → k ≡ c + l → l ≡ m → k < n → (x : ℕ) × (k + (x + 1) * m ≡ n)
room-full m n c k l zero e is full less = absurd (omega arith)
room-full m n c k l (suc more) e is full less = (more, omega arith)

short-count : (m n c k l more : ℕ) → c + (more + 1) * m ≡ n → k ≡ c + l → l < m → k < n
short-count m n c k l more e is short = omega arith

packet-steady : (d e m n room : ℕ) (refused : Bool) (deadline : Option ℕ) (b : List ℕ) (ps : List (List ℕ)) (a : ℕ) (r : Bool) → IsSteady m n ps None → IsSteadyFor m (Wanted n) (with_packet (record { device = d; endpoint = e; maximum = m; body = Wanted n; capacity = room; refused = refused; deadline = deadline }) b (record { packets = ps; acks = a; status = None; reaped = r }))
packet-steady d e m n room refused deadline b ps a r h =
    let more = h.room refl in
    let count = length-push ps b in
    elim (cases_lt m (length b)) [
      | inl long ↦ rw (lt-ltb m (length b) long) (record { law = h.law; room = λ none. absurd (none-some 75 (sym none)) })
      | inr fits ↦
          rw (le-ltb m (length b) fits)
          (elim (cases_lt (length b) m) [
            | inl short ↦
                let less : length (concat (ps ++ b ∷ [])) < n = short-count m n (length (concat ps)) _ (length b) more.0 more.1 count short in
                rw (lt-ltb (length b) m short)
                (record { law = rw (lt-ltb (length (concat (ps ++ b ∷ []))) n less) (push-law m ps b true h.law (lt-ltb (length b) m short)); room = λ none. absurd (none-some 0 (sym none)) })
            | inr full ↦
                rw (le-ltb (length b) m full)
                (elim (cases_lt (length (concat (ps ++ b ∷ []))) n) [
                  | inl less ↦
                      rw (lt-leb n (length (concat (ps ++ b ∷ []))) less)
                      (record { law = push-law m ps b false h.law (le-ltb (length b) m full); room = λ none. room-full m n (length (concat ps)) _ (length b) more.0 more.1 count (omega arith) less })
                  | inr enough ↦
                      rw (le-leb n (length (concat (ps ++ b ∷ []))) enough)
                      (record { law = rw (le-ltb (length (concat (ps ++ b ∷ []))) n enough) (push-law m ps b false h.law (le-ltb (length b) m full)); room = λ none. absurd (none-some 0 (sym none)) })
                ])
          ])
    ]

reap-steady : (m n : ℕ) (s : Ticket) (ps : List (List ℕ)) (a : ℕ) (st : Option ℕ) (r : Bool) → IsSteady m n ps st → IsSteadyFor m (Wanted n) (reap s (record { packets = ps; acks = a; status = st; reaped = r }))
reap-steady m n s ps a None r h = h
reap-steady m n s ps a (Some x) r h = h

steady-kept : (d e m room : ℕ) (body : Body) (refused : Bool) (deadline : Option ℕ) → Keeps (IsSteadyFor m body) (record { device = d; endpoint = e; maximum = m; body = body; capacity = room; refused = refused; deadline = deadline })
steady-kept d e m room (Wanted n) refused deadline = record {
  packet = λ f b none h. packet-at f b none h;
  ack = λ f none h. ack-at f none h;
  ends = λ f errno some h. finish-steady m n errno f.packets f.acks f.status f.reaped some h;
  reaps = λ f h. reap-steady m n (record { device = d; endpoint = e; maximum = m; body = Wanted n; capacity = room; refused = refused; deadline = deadline }) f.packets f.acks f.status f.reaped h;
}
  where
    s : Ticket
    s = record { device = d; endpoint = e; maximum = m; body = Wanted n; capacity = room; refused = refused; deadline = deadline }

    packet-at : (f : Fate) (b : List ℕ) → f.status ≡ None → IsSteady m n f.packets f.status → IsSteadyFor m (Wanted n) (with_packet (record { device = d; endpoint = e; maximum = m; body = Wanted n; capacity = room; refused = refused; deadline = deadline }) b f)
    packet-at f b none h = at-none f.status f.packets f.acks f.reaped none h
      where
        at-none : (st : Option ℕ) (ps : List (List ℕ)) (a : ℕ) (r : Bool) → st ≡ None → IsSteady m n ps st → IsSteadyFor m (Wanted n) (with_packet (record { device = d; endpoint = e; maximum = m; body = Wanted n; capacity = room; refused = refused; deadline = deadline }) b (record { packets = ps; acks = a; status = st; reaped = r }))
        at-none None ps a r none h = packet-steady d e m n room refused deadline b ps a r h
        at-none (Some x) ps a r none h = absurd (none-some x (sym none))

    ack-at : (f : Fate) → f.status ≡ None → IsSteady m n f.packets f.status → IsSteadyFor m (Wanted n) (with_ack (record { device = d; endpoint = e; maximum = m; body = Wanted n; capacity = room; refused = refused; deadline = deadline }) f)
    ack-at f none h = at-none f.status f.packets f.acks f.reaped none h
      where
        at-none : (st : Option ℕ) (ps : List (List ℕ)) (a : ℕ) (r : Bool) → st ≡ None → IsSteady m n ps st → IsSteadyFor m (Wanted n) (with_ack (record { device = d; endpoint = e; maximum = m; body = Wanted n; capacity = room; refused = refused; deadline = deadline }) (record { packets = ps; acks = a; status = st; reaped = r }))
        at-none None ps a r none h = ack-steady d e m n room refused deadline ps a r h
        at-none (Some x) ps a r none h = absurd (none-some x (sym none))
steady-kept d e m room (Sent bytes) refused deadline = record { packet = λ f b none h. tt; ack = λ f none h. tt; ends = λ f errno some h. tt; reaps = λ f h. tt }

steady-first : (m : ℕ) (body : Body) → WantsWhole m body → IsSteadyFor m body fresh
steady-first m (Wanted n) whole = record { law = refl; room = λ none. (whole.0, omega (arith, whole.1)) }
steady-first m (Sent bytes) whole = tt

steady-refused : (m : ℕ) (body : Body) (errno : ℕ) → 1 ≤ errno → IsSteadyFor m body (refused_fate errno)
steady-refused m (Wanted n) errno some =
    let apart : errno ≢ 0 = λ same. omega arith in
    record { law = rw (ne_eqb errno 0 apart) refl; room = λ none. absurd (none-some errno (sym none)) }
steady-refused m (Sent bytes) errno some = tt

steady-rule : Rule (λ s f. IsSteadyFor s.maximum s.body f)
steady-rule = record {
  submitted = λ t d e m body room deadline legal. steady-first m body legal;
  refused = λ t d e m body room errno some. steady-refused m body errno some;
  kept = λ s. steady-kept s.device s.endpoint s.maximum s.capacity s.body s.refused s.deadline;
}

-- in a lawful journal each ticket is steady
pub steady : (past : List Event) → IsLawful past → (t : ℕ) (s : Ticket) → slice_get (tickets past) t ≡ Some s → IsSteadyFor s.maximum s.body (fate past t)
steady past lawful t s at = fate-rule (λ s f. IsSteadyFor s.maximum s.body f) steady-rule past lawful t s at
