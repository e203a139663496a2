-- No ticket has more bytes than were wanted or sent, and none ends with an errno above 4095.
use Rattle.std.proofs.Common.{◌≡◌, ℕ, ◌+◌, ◌*◌, ◌<◌, ◌≤◌, zero, suc, Bool, true, false, List, [], ◌∷◌, ◌++◌, length, length-append, append-nil, append_assoc, Option, Some, None, IfSome, if◌then◌else◌, slice_get, lit≤, inl, inr, refl, sym, arith}
use Rattle.std.specs.List.{concat}
use Rattle.std.proofs.lemmas.Option.{none-some}
use Rattle.std.proofs.lemmas.Bool.{cases_lt, lt-ltb, le-ltb, le-leb, lt-leb, eq-eqb}
use Rattle.usb_kernel.specs.declared.event.Event.{Event}
use Rattle.usb_kernel.specs.declared.event.Event.TheVariants.{Submit, Refuse, Packet, Ack, Echo, Fail, Discard, Reap, Unplug}
use Rattle.usb_kernel.specs.declared.event.Body.{Body}
use Rattle.usb_kernel.specs.declared.event.Body.TheVariants.{Wanted, Sent}
use Rattle.usb_kernel.specs.Tickets.{Ticket, tickets}
use Rattle.usb_kernel.specs.Fates.{Fate, fresh, refused_fate, with_packet, accept, with_ack, finish, reap}
use Rattle.usb_kernel.specs.Journal.{fate}
use Rattle.usb_kernel.specs.Submissions.{WantsWhole}
use Rattle.usb_kernel_devices.specs.Errnos.{IsErrno}
use Rattle.usb_kernel.proofs.Fresh.{fate-fresh}
use Rattle.usb_kernel.proofs.Rules.{KeepsWith, FailsWith, event-keeps-with, slice_get-push}
use Rattle.usb_trace_lines.specs.Forms.{IsBodySized}

-- ---- errnos

-- a ticket that is finished has an errno of at most 4095
abbrev pub EndsInRange : Fate → Type 0
EndsInRange f = IfSome f.status (λ errno. errno ≤ 4095)

ends-if : (b : Bool) (f g : Fate) → EndsInRange f → EndsInRange g → EndsInRange (if b then f else g)
ends-if true f g yes_is no_is = yes_is
ends-if false f g yes_is no_is = no_is

ends-by : (errno : ℕ) (ps : List (List ℕ)) (a : ℕ) (st : Option ℕ) (r : Bool) → errno ≤ 4095 → IfSome st (λ e. e ≤ 4095) → EndsInRange (finish errno (record { packets = ps; acks = a; status = st; reaped = r }))
ends-by errno ps a None r small is = small
ends-by errno ps a (Some x) r small is = is

ends-finish : (errno : ℕ) (f : Fate) → errno ≤ 4095 → EndsInRange f → EndsInRange (finish errno f)
ends-finish errno f small is = ends-by errno f.packets f.acks f.status f.reaped small is

ends-reap : (s : Ticket) (ps : List (List ℕ)) (a : ℕ) (st : Option ℕ) (r : Bool) → IfSome st (λ e. e ≤ 4095) → EndsInRange (reap s (record { packets = ps; acks = a; status = st; reaped = r }))
ends-reap s ps a None r is = is
ends-reap s ps a (Some x) r is = is

ends-accept : (s : Ticket) (b : List ℕ) (f : Fate) → EndsInRange f → EndsInRange (accept s b f)
ends-accept s b f is =
    let g : Fate = record f { packets = f.packets ++ b ∷ [] } in
    ends-if _ (finish 0 g) g (ends-finish 0 g (omega arith) is) is

ends-packet : (s : Ticket) (b : List ℕ) (f : Fate) → EndsInRange f → EndsInRange (with_packet s b f)
ends-packet s b f is = ends-if _ (finish 75 f) (accept s b f) (ends-finish 75 f (omega arith) is) (ends-accept s b f is)

ends-ack : (s : Ticket) (f : Fate) → EndsInRange f → EndsInRange (with_ack s f)
ends-ack s f is =
    let g : Fate = record f { acks = f.acks + 1 } in
    ends-if _ (finish 0 g) g (ends-finish 0 g (omega arith) is) is

-- ---- counts

-- of what is wanted no more has come, and until the ticket is finished whole packets are left
pub record Counted (m wanted : ℕ) (packets : List (List ℕ)) (status : Option ℕ) : Type 0 where
  pub count : length (concat packets) ≤ wanted
  pub room : status ≡ None → (more : ℕ) × (length (concat packets) + (more + 1) * m ≡ wanted)

abbrev pub CountedFor : ℕ → Body → Fate → Type 0
CountedFor m (Wanted n) f = Counted m n f.packets f.status
CountedFor m (Sent bytes) f = Unit {0}

concat-push : (ps : List (List ℕ)) (b : List ℕ) → concat (ps ++ b ∷ []) ≡ concat ps ++ b
concat-push [] b = append-nil b
concat-push (p ∷ ps) b = rw (concat-push ps b) (sym (append_assoc p (concat ps) b))

length-push : (ps : List (List ℕ)) (b : List ℕ) → length (concat (ps ++ b ∷ [])) ≡ length (concat ps) + length b
length-push ps b = rw (concat-push ps b) (length-append (concat ps) b)

counted-end : (m n errno : ℕ) (ps : List (List ℕ)) → length (concat ps) ≤ n → Counted m n ps (Some errno)
counted-end m n errno ps few = record { count = few; room = λ none. absurd (none-some errno (sym none)) }

counted-finish : (m n errno : ℕ) (ps : List (List ℕ)) (a : ℕ) (st : Option ℕ) (r : Bool) → Counted m n ps st → CountedFor m (Wanted n) (finish errno (record { packets = ps; acks = a; status = st; reaped = r }))
counted-finish m n errno ps a None r h = counted-end m n errno ps h.count
counted-finish m n errno ps a (Some x) r h = h

counted-reap : (m n : ℕ) (s : Ticket) (ps : List (List ℕ)) (a : ℕ) (st : Option ℕ) (r : Bool) → Counted m n ps st → CountedFor m (Wanted n) (reap s (record { packets = ps; acks = a; status = st; reaped = r }))
counted-reap m n s ps a None r h = h
counted-reap m n s ps a (Some x) r h = h

-- a full packet and what is left behind it
room-full : (m n c k l more : ℕ) → c + (more + 1) * m ≡ n → k ≡ c + l → l ≡ m → k < n → (x : ℕ) × (k + (x + 1) * m ≡ n)
room-full m n c k l zero e is full less = absurd (omega arith)
room-full m n c k l (suc more) e is full less = (more, omega arith)

count-fits : (m n c k l more : ℕ) → c + (more + 1) * m ≡ n → k ≡ c + l → l ≤ m → k ≤ n
count-fits m n c k l more e is short = omega arith

abbrev ticket_for : (d e m n room : ℕ) → Bool → Option ℕ → Ticket
ticket_for d e m n room refused deadline = record { device = d; endpoint = e; maximum = m; body = Wanted n; capacity = room; refused = refused; deadline = deadline }

counted-ack : (d e m n room : ℕ) (refused : Bool) (deadline : Option ℕ) (ps : List (List ℕ)) (a : ℕ) (r : Bool) → Counted m n ps None → CountedFor m (Wanted n) (with_ack (ticket_for d e m n room refused deadline) (record { packets = ps; acks = a; status = None; reaped = r }))
counted-ack d e m n room refused deadline ps a r h =
    elim (cases_lt (length (concat ps)) n) [
      | inl less ↦ rw (lt-leb n (length (concat ps)) less) h
      | inr enough ↦ rw (le-leb n (length (concat ps)) enough) (counted-end m n 0 ps h.count)
    ]

counted-packet : (d e m n room : ℕ) (refused : Bool) (deadline : Option ℕ) (b : List ℕ) (ps : List (List ℕ)) (a : ℕ) (r : Bool) → Counted m n ps None → CountedFor m (Wanted n) (with_packet (ticket_for d e m n room refused deadline) b (record { packets = ps; acks = a; status = None; reaped = r }))
counted-packet d e m n room refused deadline b ps a r h =
    let more = h.room refl in
    let longer = length-push ps b in
    elim (cases_lt m (length b)) [
      | inl long ↦ rw (lt-ltb m (length b) long) (counted-end m n 75 ps h.count)
      | inr fits ↦
          let count : length (concat (ps ++ b ∷ [])) ≤ n = count-fits m n (length (concat ps)) _ (length b) more.0 more.1 longer fits in
          rw (le-ltb m (length b) fits)
          (elim (cases_lt (length b) m) [
            | inl short ↦ rw (lt-ltb (length b) m short) (counted-end m n 0 (ps ++ b ∷ []) count)
            | inr full ↦
                rw (le-ltb (length b) m full)
                (elim (cases_lt (length (concat (ps ++ b ∷ []))) n) [
                  | inl less ↦
                      rw (lt-leb n (length (concat (ps ++ b ∷ []))) less)
                      (record { count = count; room = λ none. room-full m n (length (concat ps)) _ (length b) more.0 more.1 longer (omega arith) less })
                  | inr enough ↦ rw (le-leb n (length (concat (ps ++ b ∷ []))) enough) (counted-end m n 0 (ps ++ b ∷ []) count)
                ])
          ])
    ]

packet-at : (d e m n room : ℕ) (refused : Bool) (deadline : Option ℕ) (b : List ℕ) (ps : List (List ℕ)) (a : ℕ) (st : Option ℕ) (r : Bool) → st ≡ None → Counted m n ps st → CountedFor m (Wanted n) (with_packet (ticket_for d e m n room refused deadline) b (record { packets = ps; acks = a; status = st; reaped = r }))
packet-at d e m n room refused deadline b ps a None r none h = counted-packet d e m n room refused deadline b ps a r h
packet-at d e m n room refused deadline b ps a (Some x) r none h = absurd (none-some x (sym none))

ack-at : (d e m n room : ℕ) (refused : Bool) (deadline : Option ℕ) (ps : List (List ℕ)) (a : ℕ) (st : Option ℕ) (r : Bool) → st ≡ None → Counted m n ps st → CountedFor m (Wanted n) (with_ack (ticket_for d e m n room refused deadline) (record { packets = ps; acks = a; status = st; reaped = r }))
ack-at d e m n room refused deadline ps a None r none h = counted-ack d e m n room refused deadline ps a r h
ack-at d e m n room refused deadline ps a (Some x) r none h = absurd (none-some x (sym none))

-- ---- each ticket of a journal

-- a ticket with its fate
pub record InRange (s : Ticket) (f : Fate) : Type 0 where
  pub ends : EndsInRange f
  pub sized : IsBodySized s.body
  pub counted : CountedFor s.maximum s.body f

range-kept : (d e m room : ℕ) (body : Body) (refused : Bool) (deadline : Option ℕ) → KeepsWith (λ n. n ≤ 4095) (InRange (record { device = d; endpoint = e; maximum = m; body = body; capacity = room; refused = refused; deadline = deadline })) (record { device = d; endpoint = e; maximum = m; body = body; capacity = room; refused = refused; deadline = deadline })
range-kept d e m room (Wanted n) refused deadline = record {
  packet = λ f b none h. record { ends = ends-packet (ticket_for d e m n room refused deadline) b f h.ends; sized = h.sized; counted = packet-at d e m n room refused deadline b f.packets f.acks f.status f.reaped none h.counted };
  ack = λ f none h. record { ends = ends-ack (ticket_for d e m n room refused deadline) f h.ends; sized = h.sized; counted = ack-at d e m n room refused deadline f.packets f.acks f.status f.reaped none h.counted };
  ends = λ f errno small h. record { ends = ends-finish errno f small h.ends; sized = h.sized; counted = counted-finish m n errno f.packets f.acks f.status f.reaped h.counted };
  reaps = λ f h. record { ends = ends-reap (ticket_for d e m n room refused deadline) f.packets f.acks f.status f.reaped h.ends; sized = h.sized; counted = counted-reap m n (ticket_for d e m n room refused deadline) f.packets f.acks f.status f.reaped h.counted };
}
range-kept d e m room (Sent bytes) refused deadline =
    let s : Ticket = record { device = d; endpoint = e; maximum = m; body = Sent bytes; capacity = room; refused = refused; deadline = deadline } in
    record {
      packet = λ f b none h. record { ends = ends-packet s b f h.ends; sized = h.sized; counted = tt };
      ack = λ f none h. record { ends = ends-ack s f h.ends; sized = h.sized; counted = tt };
      ends = λ f errno small h. record { ends = ends-finish errno f small h.ends; sized = h.sized; counted = tt };
      reaps = λ f h. record { ends = ends-reap s f.packets f.acks f.status f.reaped h.ends; sized = h.sized; counted = tt };
    }

first-counted : (m : ℕ) (body : Body) → WantsWhole m body → CountedFor m body fresh
first-counted m (Wanted n) whole = let e = whole.1 in record { count = omega arith; room = λ none. (whole.0, omega (arith, e)) }
first-counted m (Sent bytes) whole = tt

refused-counted : (m : ℕ) (body : Body) (errno : ℕ) → CountedFor m body (refused_fate errno)
refused-counted m (Wanted n) errno = counted-end m n errno [] (omega arith)
refused-counted m (Sent bytes) errno = tt

-- what the events of a journal have to be
abbrev pub Ranged : Event → Type 0
Ranged (Submit t d e m body room deadline) = WantsWhole m body × IsBodySized body
Ranged (Refuse t d e m body room errno) = IsBodySized body × IsErrno errno
Ranged (Fail d e errno) = IsErrno errno
Ranged _ = Unit {0}

abbrev pub AllRanged : List Event → Type 0
AllRanged [] = Unit {0}
AllRanged (event ∷ before) = Ranged event × AllRanged before

fails-ranged : (event : Event) → Ranged event → FailsWith (λ n. n ≤ 4095) event
fails-ranged (Fail d e errno) is = is.1
fails-ranged (Submit t d e m body room deadline) is = tt
fails-ranged (Refuse t d e m body room errno) is = tt
fails-ranged (Packet d e b) is = tt
fails-ranged (Ack d e) is = tt
fails-ranged (Echo d o i) is = tt
fails-ranged (Discard t) is = tt
fails-ranged (Reap t) is = tt
fails-ranged (Unplug d) is = tt

range-more : (past : List Event) (event : Event) (u : ℕ) (s : Ticket) → Ranged event → slice_get (tickets past) u ≡ Some s → InRange s (fate past u) → InRange s (fate (event ∷ past) u)
range-more past event u s is at h =
    event-keeps-with (λ n. n ≤ 4095) (lit≤ tt) (lit≤ tt) (InRange s) past event u s (fails-ranged event is) at (range-kept s.device s.endpoint s.maximum s.capacity s.body s.refused s.deadline) h

pub in-range : (past : List Event) → AllRanged past → (u : ℕ) (s : Ticket) → slice_get (tickets past) u ≡ Some s → InRange s (fate past u)
in-range [] all u s at = absurd (none-some s at)
in-range (Submit t d e m body room deadline ∷ past) all u s at =
    elim (slice_get-push (tickets past) _ u s at) [
      | inl before ↦ in-range past all.1 u s before
      | inr last ↦
          let new = fate-fresh past u (omega (arith, last.0)) in
          rw (new, ← last.1) (record { ends = tt; sized = all.0.1; counted = first-counted m body all.0.0 })
    ]
in-range (Refuse t d e m body room errno ∷ past) all u s at =
    elim (slice_get-push (tickets past) _ u s at) [
      | inl before ↦ range-more past (Refuse t d e m body room errno) u s all.0 before (in-range past all.1 u s before)
      | inr last ↦
          rw (← last.1, last.0, eq-eqb (length (tickets past)) (length (tickets past)) refl)
          (record { ends = all.0.1.1; sized = all.0.0; counted = refused-counted m body errno })
    ]
in-range (Packet d e b ∷ past) all u s at = range-more past (Packet d e b) u s all.0 at (in-range past all.1 u s at)
in-range (Ack d e ∷ past) all u s at = range-more past (Ack d e) u s all.0 at (in-range past all.1 u s at)
in-range (Echo d o i ∷ past) all u s at = range-more past (Echo d o i) u s all.0 at (in-range past all.1 u s at)
in-range (Fail d e errno ∷ past) all u s at = range-more past (Fail d e errno) u s all.0 at (in-range past all.1 u s at)
in-range (Discard t ∷ past) all u s at = range-more past (Discard t) u s all.0 at (in-range past all.1 u s at)
in-range (Reap t ∷ past) all u s at = range-more past (Reap t) u s all.0 at (in-range past all.1 u s at)
in-range (Unplug d ∷ past) all u s at = range-more past (Unplug d) u s all.0 at (in-range past all.1 u s at)
