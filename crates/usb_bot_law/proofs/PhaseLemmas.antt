-- A transfer of a client at the kernel, from one packet to the next.
use Rattle.std.proofs.Common.{◌≡◌, ◌≢◌, ℕ, ◌+◌, ◌*◌, ◌<◌, ◌≤◌, List, [], ◌∷◌, ◌++◌, length, take, min, Option, Some, None, true, false, refl, sym, ap, ◌∙◌, arith, subst, inl, inr, append-nil, slice_get}
use Rattle.std.specs.Prelude.{cond, is_some, ◌&&◌, not}
use Rattle.std.specs.List.{concat}
use Rattle.std.specs.Option.{option_map}
use Rattle.std.proofs.Math.Seq.{take-add}
use Rattle.std.proofs.lemmas.List.{length-take, take_all}
use Rattle.std.proofs.lemmas.List.Folds.{concat-append}
use Rattle.std.proofs.lemmas.Bool.{cases_lt, ne_eqb}
use Rattle.usb_kernel.specs.declared.event.Event.{Event}
use Rattle.usb_kernel.specs.declared.event.Event.TheVariants.{Ack, Packet}
use Rattle.usb_kernel.specs.Tickets.{Ticket, tickets}
use Rattle.usb_kernel.specs.Fates.{Fate, received, waits, with_ack, with_packet, count_of, count_for}
use Rattle.usb_kernel.specs.Journal.{fate, open_tickets, at_oldest, change}
use Rattle.usb_kernel.specs.Steps.{after_ack, after_packet}
use Rattle.usb_kernel.specs.Completions.{completion, completion_if, finished, done_of, buffer_for, waiting}
use Rattle.usb_kernel.specs.Fronts.{front_packet, front_maximum}
use Rattle.usb_kernel.proofs.OpenLists.{open-ack_other, open-packet_other}
use Rattle.usb_kernel.proofs.StepLemmas.{after_ack-some, after_packet-some}
use Rattle.usb_bot_disk.proofs.MachineLemmas.{packet_at, packet-length}
use Rattle.usb_bot_disk.proofs.TicketLemmas.{IsOut, ack-more, ack-last, ack-takes, IsIn, packet-more, packet-last, packet-short}
use Rattle.usb_bot_law.proofs.ServedLemmas.{IsServed, served-oldest, served-front, served-maximum, served-ack, served-packet}
use Rattle.usb_bot_law.proofs.WaitingLemmas.{one-more}

-- a ticket that is not finished does not wait for its reap
unfinished-waits : (past : List Event) (d e t : ℕ) (s : Ticket) (f : Fate) → IsServed past d e t s f → f.status ≡ None → waits (fate past t) ≡ false
unfinished-waits past d e t s f served unfinished =
    ap waits served.fate_is ∙ ap (λ (o : Option ℕ). is_some o && not f.reaped) unfinished

-- an acknowledgement makes one ticket more wait, at most
pub ack-waits : (past : List Event) (d e t : ℕ) (s : Ticket) (f : Fate) → IsServed past d e t s f → f.status ≡ None → length (waiting (Ack d e ∷ past)) ≤ length (waiting past) + 1
ack-waits past d e t s f served unfinished =
    one-more past (Ack d e) t s refl served.ticket
    (λ u apart. ap (λ o. at_oldest o with_ack (tickets past) (fate past) u) (served-oldest past d e t s f served unfinished)
    ∙ ap (λ v. cond v (change with_ack (slice_get (tickets past) u) (fate past u)) (fate past u)) (ne_eqb t u (λ is. apart (sym is))))
    (unfinished-waits past d e t s f served unfinished)

-- and so does a packet
pub packet-waits : (past : List Event) (d e t : ℕ) (s : Ticket) (f : Fate) (b : List ℕ) → IsServed past d e t s f → f.status ≡ None → length (waiting (Packet d e b ∷ past)) ≤ length (waiting past) + 1
packet-waits past d e t s f b served unfinished =
    one-more past (Packet d e b) t s refl served.ticket
    (λ u apart. ap (λ o. at_oldest o (λ x. with_packet x b) (tickets past) (fate past) u) (served-oldest past d e t s f served unfinished)
    ∙ ap (λ v. cond v (change (λ x. with_packet x b) (slice_get (tickets past) u) (fate past u)) (fate past u)) (ne_eqb t u (λ is. apart (sym is))))
    (unfinished-waits past d e t s f served unfinished)

-- all bytes of a ticket went over
pub record HasMoved (s : Ticket) (f : Fate) (bytes : List ℕ) : Type 0 where
  pub count : count_of s f ≡ length bytes
  pub buffer : (buffer_for s.body s.capacity (received f)).bytes ≡ bytes

-- bytes go out by a ticket, and n of them are acknowledged
pub record GoesOut (past : List Event) (d out t : ℕ) (s : Ticket) (bytes : List ℕ) (maximum n : ℕ) (f : Fate) : Type 0 where
  pub served : IsServed past d out t s f
  pub ticket : IsOut s bytes maximum n f
  pub unfinished : f.status ≡ None
  pub unreaped : f.reaped ≡ false

-- a ticket of these bytes is finished
pub record IsDone (past : List Event) (d e t : ℕ) (s : Ticket) (bytes : List ℕ) (f : Fate) : Type 0 where
  pub served : IsServed past d e t s f
  pub status : f.status ≡ Some 0
  pub moved : HasMoved s f bytes

module _ (past : List Event) (d out t : ℕ) (s : Ticket) (bytes : List ℕ) (maximum n : ℕ) (f : Fate) (goes : GoesOut past d out t s bytes maximum n f) where
  -- what stands at the endpoint
  pub out-packet : out < 128 → n ≤ length bytes → front_packet past d out ≡ Some (packet_at bytes maximum n)
  out-packet low inside =
      served-front past d out t s f goes.served low goes.unfinished
      ∙ ap (λ (b : List ℕ). Some b) (ack-takes s bytes maximum n f goes.ticket inside goes.unfinished)

  pub out-maximum : front_maximum past d out ≡ Some maximum
  out-maximum = served-maximum past d out t s f goes.served goes.unfinished ∙ ap (λ (m : ℕ). Some m) goes.ticket.maximum_is

  pub out-acked : out < 128 → after_ack past d out ≡ Ack d out ∷ past
  out-acked low = after_ack-some past d out t low (served-oldest past d out t s f goes.served goes.unfinished)

  pub other-acked : (inp : ℕ) → out ≢ inp → open_tickets past d inp ≡ [] → open_tickets (Ack d out ∷ past) d inp ≡ []
  other-acked inp apart others = open-ack_other past d out d inp (λ same. apart) ∙ others

  -- an acknowledgement that is not the last
  pub out-more : n + maximum < length bytes → GoesOut (Ack d out ∷ past) d out t s bytes maximum (n + maximum) (record f { acks = f.acks + 1 })
  out-more more =
      record {
        served = subst (λ (g : Fate). IsServed (Ack d out ∷ past) d out t s g) (ack-more s bytes maximum n f goes.ticket more) (served-ack past d out t s f goes.served goes.unfinished);
        ticket = record { body = goes.ticket.body; maximum_is = goes.ticket.maximum_is; count = omega (arith, goes.ticket.count) };
        unfinished = goes.unfinished;
        unreaped = goes.unreaped;
      }

  -- and the last
  all-counted : length bytes ≤ n + maximum → count_of s (record f { acks = f.acks + 1; status = Some 0 }) ≡ length bytes
  all-counted last =
      let all : min (length bytes) (maximum * (f.acks + 1)) ≡ length bytes = omega (arith, goes.ticket.count, last) in
      ap (λ b. count_for b s.maximum (received f) (f.acks + 1)) goes.ticket.body
      ∙ ap (λ m. min (length bytes) (m * (f.acks + 1))) goes.ticket.maximum_is
      ∙ all

  pub out-last : length bytes ≤ n + maximum → IsDone (Ack d out ∷ past) d out t s bytes (record f { acks = f.acks + 1; status = Some 0 })
  out-last last = record {
    served = subst (λ (g : Fate). IsServed (Ack d out ∷ past) d out t s g) (ack-last s bytes maximum n f goes.ticket last goes.unfinished) (served-ack past d out t s f goes.served goes.unfinished);
    status = refl;
    moved = record { count = all-counted last; buffer = ap (λ b. (buffer_for b s.capacity (received f)).bytes) goes.ticket.body };
  }

-- bytes come in by a ticket that wants as many or more, and the first n of them have come
pub record ComesIn (past : List Event) (d inp t : ℕ) (s : Ticket) (bytes : List ℕ) (wanted maximum n : ℕ) (f : Fate) : Type 0 where
  pub served : IsServed past d inp t s f
  pub ticket : IsIn s wanted maximum (take n bytes) f
  pub unfinished : f.status ≡ None
  pub unreaped : f.reaped ≡ false

module _ (past : List Event) (d inp t : ℕ) (s : Ticket) (bytes : List ℕ) (wanted maximum n : ℕ) (f : Fate) (comes : ComesIn past d inp t s bytes wanted maximum n f) where
  abbrev next : List ℕ
  next = packet_at bytes maximum n

  pub in-maximum : front_maximum past d inp ≡ Some maximum
  in-maximum = served-maximum past d inp t s f comes.served comes.unfinished ∙ ap (λ (m : ℕ). Some m) comes.ticket.maximum_is

  pub in-packet : (p : List ℕ) → 128 ≤ inp → after_packet past d inp p ≡ Packet d inp p ∷ past
  in-packet p high = after_packet-some past d inp t p high (served-oldest past d inp t s f comes.served comes.unfinished)

  pub other-sent : (p : List ℕ) (out : ℕ) → inp ≢ out → open_tickets past d out ≡ [] → open_tickets (Packet d inp p ∷ past) d out ≡ []
  other-sent p out apart others = open-packet_other past d inp p d out (λ same. apart) ∙ others

  -- a packet that is not the last
  pub in-more : length bytes ≤ wanted → n + maximum < length bytes → ComesIn (Packet d inp (packet_at bytes maximum n) ∷ past) d inp t s bytes wanted maximum (n + maximum) (record f { packets = f.packets ++ packet_at bytes maximum n ∷ [] })
  in-more enough more =
      let p = packet_at bytes maximum n in
      let full : length p ≡ maximum = omega (arith, packet-length bytes maximum n, more) in
      let came : length (take n bytes) + maximum < wanted = omega (arith, length-take n bytes, more, enough) in
      let after = packet-more s wanted maximum (take n bytes) f comes.ticket p full came in
      record {
        served = subst (λ (g : Fate). IsServed (Packet d inp p ∷ past) d inp t s g) after.0 (served-packet past d inp t s f comes.served p comes.unfinished);
        ticket = subst (λ (xs : List ℕ). IsIn s wanted maximum xs (record f { packets = f.packets ++ p ∷ [] })) (sym (take-add n maximum bytes)) after.1;
        unfinished = comes.unfinished;
        unreaped = comes.unreaped;
      }

  -- the last ends the ticket, as it is short, or all that is wanted has come
  ends-it : n ≤ length bytes → length bytes ≤ n + maximum → (length bytes ≡ n + maximum → wanted ≤ length bytes) →
      with_packet s (packet_at bytes maximum n) f ≡ record f { packets = f.packets ++ packet_at bytes maximum n ∷ []; status = Some 0 }
  ends-it inside last whole =
      let p = packet_at bytes maximum n in
      let long = packet-length bytes maximum n in
      elim (cases_lt (length p) maximum) [
        | inl short ↦ packet-short s wanted maximum (take n bytes) f comes.ticket p short comes.unfinished
        | inr full ↦
            let all : length bytes ≡ n + maximum = omega (arith, long, full, inside, last) in
            let got : wanted ≤ length (take n bytes) + length p = omega (arith, length-take n bytes, long, full, inside, last, whole all) in
            (packet-last s wanted maximum (take n bytes) f comes.ticket p (omega (arith, long)) got comes.unfinished).0
      ]

  all-got : length bytes ≤ n + maximum → concat (f.packets ++ packet_at bytes maximum n ∷ []) ≡ bytes
  all-got last =
      let p = packet_at bytes maximum n in
      concat-append f.packets (p ∷ []) ∙ ap (λ ys. concat f.packets ++ ys) (append-nil p) ∙ ap (λ xs. xs ++ p) comes.ticket.got_is
      ∙ sym (take-add n maximum bytes) ∙ take_all (n + maximum) bytes last

  pub in-last : n ≤ length bytes → length bytes ≤ n + maximum → (length bytes ≡ n + maximum → wanted ≤ length bytes) →
      IsDone (Packet d inp (packet_at bytes maximum n) ∷ past) d inp t s bytes (record f { packets = f.packets ++ packet_at bytes maximum n ∷ []; status = Some 0 })
  in-last inside last whole =
      let p = packet_at bytes maximum n in
      let got = all-got last in
      record {
        served = subst (λ (g : Fate). IsServed (Packet d inp p ∷ past) d inp t s g) (ends-it inside last whole) (served-packet past d inp t s f comes.served p comes.unfinished);
        status = refl;
        moved = record {
          count = ap (λ b. count_for b s.maximum (concat (f.packets ++ p ∷ [])) f.acks) comes.ticket.body ∙ ap (λ (xs : List ℕ). length xs) got;
          buffer = ap (λ b. (buffer_for b s.capacity (concat (f.packets ++ p ∷ []))).bytes) comes.ticket.body ∙ got;
        };
      }

-- the completion of a ticket: none before its reap, and then that of its fate
module _ (past : List Event) (d e t : ℕ) (s : Ticket) (f : Fate) (served : IsServed past d e t s f) where
  completion-served : completion past t ≡ completion_if t (Some s) f
  unfolding completion
  completion-served = ap (λ o. completion_if t o (fate past t)) served.ticket ∙ ap (completion_if t (Some s)) served.fate_is

  pub not-come : f.reaped ≡ false → completion past t ≡ None
  not-come unreaped = completion-served ∙ ap (λ b. cond b (finished t s f) None) unreaped

  pub has-come : (errno : ℕ) → f.reaped ≡ true → f.status ≡ Some errno → completion past t ≡ Some (done_of t s f errno)
  has-come errno reaped status =
      completion-served
      ∙ ap (λ b. cond b (finished t s f) None) reaped
      ∙ ap (option_map (λ (n : ℕ). done_of t s f n)) status
