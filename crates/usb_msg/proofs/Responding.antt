-- What the reads of a message keep, and what comes of them, the response has.
use Rattle.std.proofs.Common.{◌≡◌, ℕ, zero, suc, ◌-◌, ◌≤◌, arith, Bool, true, false, List, [], ◌∷◌, length, None, Result, Ok, Err, refl, ap}
use Rattle.std.specs.Prelude.{nat_lt}
use Rattle.std.proofs.lemmas.Bool.{ltb-false}
use Rattle.usb_device_endpoint.specs.BusCalls.{BusCalls}
use Rattle.usb_io.specs.Answered.{Answered, answered}
use Rattle.usb_io.specs.Answers.{read_came}
use Rattle.usb_io.specs.Readers.{is_end}
use Rattle.usb_io.specs.Reads.{Reading}
use Rattle.usb_io.specs.StreamFaults.{read_fault}
use Rattle.usb_io.specs.declared.fault.ReadFault.{ReadFault}
use Rattle.usb_msg.specs.Clients.{ClientState}
use Rattle.usb_msg.specs.Errors.{ended_by_read}
use Rattle.usb_msg.specs.Requests.{Messaging, Message, ended_by}
use Rattle.usb_msg.specs.Responses.{reading_of, piece_by, piece_came, after_piece, unless_long, gathered_from, gathered, message_taken, on_bus, ended_with, after_gathered, responded_by}
use Rattle.usb_msg.specs.declared.error.Ending.TheVariants as ending
use Rattle.usb_msg.specs.declared.error.MsgError.TheVariants as error
use Rattle.usb_msg.specs.declared.gathering.Gathered.{Gathered}
use Rattle.usb_msg.specs.declared.gathering.Gathered.TheVariants.{Ended, TooLong}
use Rattle.usb_msg.proofs.ReadEnds.{read-ends}

module _ {S : Type 0} (k : BusCalls S) where
  -- a read with room that gave no byte is at an end
  by-end : (c : ClientState) (a : Result (List ℕ) ReadFault) (r : Reading S) → (a ≡ Ok [] → is_end r.reader ≡ true) → (piece_by c a r).answer ≡ Ok [] → is_end (piece_by c a r).left.client.reader ≡ true
  by-end c (Ok bytes) r end is = end is
  by-end c (Err f) r end is = absurd (let x : Err f ≡ Ok [] = is in cc)

  piece-end : (w : Messaging S) → length w.client.frame ≤ 4100 → (piece_came k w).answer ≡ Ok [] → is_end (piece_came k w).left.client.reader ≡ true
  piece-end w few is =
      let timeout = w.client.reader.timeout in
      let most = 4101 - length w.client.frame in
      let a = read_came k true timeout most (reading_of w) in
      by-end w.client a.answer a.left (λ none. read-ends k timeout most (reading_of w) a.left (omega (arith, few)) (ap (λ (x : Result (List ℕ) ReadFault). answered {W = Reading S} x a.left) none)) is

-- what is kept by each read (P)
module _ {S : Type 0} (k : BusCalls S) (P : Messaging S → Type 0) (piece : (w : Messaging S) → length w.client.frame ≤ 4100 → P w → P (piece_came k w).left) where
  -- is kept by all of them, and where they found the message's end, that is next
  record Gathers (a : Answered Gathered ReadFault (Messaging S)) : Type 0 where
    pub keeps : P a.left
    pub ends : a.answer ≡ Ok Ended → is_end a.left.client.reader ≡ true

  after-gathers : (a : Result (List ℕ) ReadFault) (v : Messaging S) (further : Messaging S → Answered Gathered ReadFault (Messaging S)) → P v → (a ≡ Ok [] → is_end v.client.reader ≡ true) → ((u : Messaging S) → P u → Gathers (further u))
      → Gathers (after_piece a v further)
  after-gathers (Ok []) v further at_v end next = record { keeps = at_v; ends = λ is. end refl }
  after-gathers (Ok (b ∷ bytes)) v further at_v end next = next v at_v
  after-gathers (Err f) v further at_v end next = record { keeps = at_v; ends = λ is. absurd (let x : Err f ≡ Ok Ended = is in cc) }

  unless-gathers : (b : Bool) (n : ℕ) (w : Messaging S) → nat_lt 4100 (length w.client.frame) ≡ b → P w → ((u : Messaging S) → P u → Gathers (gathered_from k n u))
      → Gathers (unless_long b (λ w. after_piece (piece_came k w).answer (piece_came k w).left (gathered_from k n)) w)
  unless-gathers true n w is at_w next = record { keeps = at_w; ends = λ ended. absurd (let x : Ok TooLong ≡ Ok Ended = ended in cc) }
  unless-gathers false n w is at_w next =
      let few = ltb-false 4100 (length w.client.frame) is in
      after-gathers (piece_came k w).answer (piece_came k w).left (gathered_from k n) (piece w few at_w) (piece-end k w few) next

  from-gathers : (n : ℕ) (w : Messaging S) → P w → Gathers (gathered_from k n w)
  from-gathers zero w at_w = record { keeps = at_w; ends = λ ended. absurd (let x : Ok TooLong ≡ Ok Ended = ended in cc) }
  from-gathers (suc n) w at_w = unless-gathers (nat_lt 4100 (length w.client.frame)) n w refl at_w (λ u at_u. from-gathers n u at_u)

  gathers : (w : Messaging S) → P w → Gathers (gathered k w)
  unfolding gathered
  gathers w at_w = from-gathers 4102 w at_w

  pub gathered-keeps : (w : Messaging S) → P w → P (gathered k w).left
  gathered-keeps w at_w = (gathers w at_w).keeps

  -- what is so (Q) of each answer that comes of them, is so of the response
  module _ (Q : Message (List ℕ) S → Type 0) (ended : (v : Messaging S) → is_end v.client.reader ≡ true → P v → Q (on_bus v.bus (message_taken v.client))) (long : (v : Messaging S) → P v → Q (on_bus v.bus (ended_with ending.TooLong v.client)))
      (failed : (v : Messaging S) (f : ReadFault) → P v → Q (answered (Err (error.Io (read_fault f))) (ended_by (ended_by_read f) v))) where
    after-responds : (a : Result Gathered ReadFault) (v : Messaging S) → P v → (a ≡ Ok Ended → is_end v.client.reader ≡ true) → Q (after_gathered a v)
    after-responds (Ok Ended) v at_v end = ended v (end refl) at_v
    after-responds (Ok TooLong) v at_v end = long v at_v
    after-responds (Err f) v at_v end = failed v f at_v

    pub responds : (w : Messaging S) → P w → Q (responded_by k None w)
    responds w at_w = let all = gathers w at_w in after-responds (gathered k w).answer (gathered k w).left all.keeps all.ends
