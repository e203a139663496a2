-- What a call that lends the bytes leaves, where it answers any.
use Rattle.std.proofs.Common.{◌≡◌, ◌∙◌, ℕ, zero, suc, Bool, true, false, List, [], ◌∷◌, Option, Some, None, Ok, Err, refl, sym}
use Rattle.std.specs.Prelude.{is_none, not, ◌&&◌}
use Rattle.std.proofs.lemmas.Bool.{false≢true}
use Rattle.usb_xfer.specs.declared.transfer.Completion.{Completion}
use Rattle.usb_xfer.specs.declared.error.TransferError.{TransferError}
use Rattle.usb_device_endpoint.specs.BusCalls.{BusCalls}
use Rattle.usb_device_endpoint.specs.EndpointState.{EndpointState}
use Rattle.usb_device_endpoint.specs.Waits.{wait_next}
use Rattle.usb_io.specs.Readers.{ReaderState, no_bytes, turns, is_end}
use Rattle.usb_io.specs.Reads.{Reading, pending_of, begin_turn, front_read, turn_from, turn_once, turned_on, turned_if, turned_from, turned, most_turns}
use Rattle.usb_io.specs.Answers.{without_bytes, standing, answer, fill_came}
use Rattle.usb_io.specs.declared.turned.Once.{Once}
use Rattle.usb_io.specs.declared.turned.Once.TheVariants.{Took, NonePending, NotCome}
use Rattle.usb_io.specs.declared.turned.Turned.{Turned}
use Rattle.usb_io.specs.declared.turned.Turned.TheVariants.{Stands, Stopped, InVain}
use Rattle.usb_io.specs.declared.fault.ReadFault.TheVariants.{Transfer, TimedOut, UnexpectedEof}
use Rattle.usb_io.proofs.ReadKeeps.{turns-empty, begin-turns}

-- how a turn ends, and a call: a reader that stands is not to turn, and one with nothing pending has no byte
abbrev OnceEnds : {S : Type 0} → Once → Reading S → Type 0
OnceEnds Took w = Unit {0}
OnceEnds NonePending w = no_bytes w.reader.unread ≡ true
OnceEnds NotCome w = Unit {0}

abbrev Ends : {S : Type 0} → Bool → Turned → Reading S → Type 0
Ends us Stands w = turns us w.reader ≡ false
Ends us Stopped w = no_bytes w.reader.unread ≡ true
Ends us InVain w = Unit {0}

module _ {S : Type 0} (k : BusCalls S) (us : Bool) (timeout : ℕ) where
  front-ends : (r : ReaderState) (bus : S) (e : EndpointState) (o : Option Completion) → OnceEnds (front_read r bus e o).0 (front_read r bus e o).1
  front-ends r bus e None = tt
  front-ends r bus e (Some c) = tt

  turn-ends : (ts : List ℕ) (w : Reading S) → no_bytes w.reader.unread ≡ true → OnceEnds (turn_from k timeout ts w).0 (turn_from k timeout ts w).1
  turn-ends [] w empty = empty
  turn-ends (front ∷ others) w empty =
      let p = wait_next k timeout w.bus w.reader.endpoint in front-ends w.reader p.bus p.endpoint p.completion

  once-ends : (w : Reading S) → turns us w.reader ≡ true → OnceEnds (turn_once k timeout w).0 (turn_once k timeout w).1
  once-ends w goes = turn-ends (pending_of (begin_turn k w)) (begin_turn k w) (turns-empty us (begin_turn k w).reader (begin-turns k us w goes))

  on-ends : (o : Once) (w : Reading S) (next : Reading S → Turned × Reading S) → OnceEnds o w → ((v : Reading S) → Ends us (next v).0 (next v).1) → Ends us (turned_on o w next).0 (turned_on o w next).1
  on-ends Took w next ends further = further w
  on-ends NonePending w next ends further = ends
  on-ends NotCome w next ends further = tt

  if-ends : (b : Bool) (w : Reading S) (next : Reading S → Turned × Reading S) → turns us w.reader ≡ b → ((v : Reading S) → Ends us (next v).0 (next v).1)
      → Ends us (turned_if b (λ w. turned_on (turn_once k timeout w).0 (turn_once k timeout w).1 next) w).0 (turned_if b (λ w. turned_on (turn_once k timeout w).0 (turn_once k timeout w).1 next) w).1
  if-ends false w next is further = is
  if-ends true w next is further = on-ends (turn_once k timeout w).0 (turn_once k timeout w).1 next (once-ends w is) further

  from-ends : (n : ℕ) (w : Reading S) → Ends us (turned_from k us timeout n w).0 (turned_from k us timeout n w).1
  from-ends zero w = tt
  from-ends (suc n) w = if-ends (turns us w.reader) w (turned_from k us timeout n) refl (λ v. from-ends n v)

  turned-ends : (w : Reading S) → Ends us (turned k us timeout w).0 (turned k us timeout w).1
  unfolding turned
  turned-ends w = from-ends (suc (most_turns (k.state w.bus) w.reader)) w

no_bytes-none : (bytes : List ℕ) → no_bytes bytes ≡ true → bytes ≡ []
no_bytes-none [] is = refl
no_bytes-none (b ∷ bytes) is = absurd (false≢true is)

-- the bytes that stand are answered
standing-bytes : (unread : List ℕ) (error : Option TransferError) (bytes : List ℕ) → standing unread error ≡ Ok bytes → bytes ≡ unread
standing-bytes [] None bytes is = let e : Ok [] ≡ Ok bytes = is in cc
standing-bytes [] (Some e) bytes is = absurd (let x : without_bytes (Some e) ≡ Ok bytes = is in cc)
standing-bytes (b ∷ unread) error bytes is = let e : Ok (b ∷ unread) ≡ Ok bytes = is in cc

answer-lends : {S : Type 0} (us : Bool) (to : Turned) (w : Reading S) (bytes : List ℕ) → Ends us to w → answer us to w.reader ≡ Ok bytes → bytes ≡ w.reader.unread
answer-lends us Stands w bytes ends is = standing-bytes w.reader.unread w.reader.error bytes is
answer-lends false Stopped w bytes ends is = (let e : Ok [] ≡ Ok bytes = is in let none : bytes ≡ [] = cc in none) ∙ sym (no_bytes-none w.reader.unread ends)
answer-lends true Stopped w bytes ends is = absurd (let x : Err UnexpectedEof ≡ Ok bytes = is in cc)
answer-lends us InVain w bytes ends is = absurd (let x : Err TimedOut ≡ Ok bytes = is in cc)

pub fill-lends : {S : Type 0} (k : BusCalls S) (us : Bool) (timeout : ℕ) (w : Reading S) (bytes : List ℕ) → (fill_came k us timeout w).answer ≡ Ok bytes → bytes ≡ (fill_came k us timeout w).left.reader.unread
fill-lends k us timeout w bytes is = answer-lends us (turned k us timeout w).0 (turned k us timeout w).1 bytes (turned-ends k us timeout w) is

-- and no byte is only where an end stands, of a call until a short packet
standing-end : (unread : List ℕ) (error : Option TransferError) (ended : Bool) → (no_bytes unread && (is_none error && not (true && ended))) ≡ false → standing unread error ≡ Ok [] → (no_bytes unread && ended) ≡ true
standing-end [] None true stands is = refl
standing-end [] None false stands is = absurd (cc)
standing-end [] (Some e) ended stands is = absurd (let x : Err (Transfer e) ≡ Ok [] = is in cc)
standing-end (b ∷ unread) error ended stands is = absurd (let x : Ok (b ∷ unread) ≡ Ok [] = is in cc)

answer-ends : {S : Type 0} (to : Turned) (w : Reading S) → Ends true to w → answer true to w.reader ≡ Ok [] → is_end w.reader ≡ true
answer-ends Stands w ends is = standing-end w.reader.unread w.reader.error w.reader.ended ends is
answer-ends Stopped w ends is = absurd (let x : Err UnexpectedEof ≡ Ok [] = is in cc)
answer-ends InVain w ends is = absurd (let x : Err TimedOut ≡ Ok [] = is in cc)

pub fill-ends : {S : Type 0} (k : BusCalls S) (timeout : ℕ) (w : Reading S) → (fill_came k true timeout w).answer ≡ Ok [] → is_end (fill_came k true timeout w).left.reader ≡ true
fill-ends k timeout w is = answer-ends (turned k true timeout w).0 (turned k true timeout w).1 (turned-ends k true timeout w) is
