-- How a read until a short packet ends.
use Rattle.std.proofs.Common.{zero, suc, ◌∙◌, ◌≡◌, ◌≢◌, ℕ, ◌+◌, ◌-◌, ◌<◌, ◌≤◌, arith, cond, List, [], ◌∷◌, ◌++◌, length, length-append, Option, Some, None, Result, Ok, Err, Bool, true, false, refl, ap, sym, subst, take, drop, min}
use Rattle.std.specs.Prelude.{nat_lt, ◌&&◌}
use Rattle.std.proofs.lemmas.Bool.{false≢true, ltb-false}
use Rattle.usb_xfer.specs.declared.transfer.Completion.{Completion}
use Rattle.usb_xfer.specs.declared.error.TransferError.{TransferError}
use Rattle.usb_device_endpoint.specs.BusCalls.{BusCalls}
use Rattle.usb_device_endpoint.specs.EndpointState.{EndpointState}
use Rattle.usb_device_endpoint.specs.Waits.{wait_next}
use Rattle.usb_io.specs.Answered.{answered}
use Rattle.usb_io.specs.Answers.{Read, answered_by, standing, fill_came, handed_over, read_came, ReadFails}
use Rattle.usb_io.specs.Readers.{ReaderState, no_bytes, is_end, turns, with_read}
use Rattle.usb_io.specs.Reads.{Reading, reading, pending_of, ended_off, submit_more, begin_turn, front_read, turn_from, turn_once, turned_on, turned_if, turned_from, turned, most_turns}
use Rattle.usb_io.specs.declared.fault.ReadFault.{ReadFault}
use Rattle.usb_io.specs.declared.fault.ReadFault.TheVariants.{Transfer, TimedOut, UnexpectedEof}
use Rattle.usb_desc.specs.declared.error.Fail.{Fail}
use Rattle.usb_desc.specs.declared.error.Fail.TheVariants.{Cause, Memory}
use Rattle.usb_msg.specs.Responses.{IsKnown}
use Rattle.usb_io.proofs.FillEnds.{fill-ends}

no-more : (m : ℕ) (unread : List ℕ) (ended : Bool) → (no_bytes unread && ended) ≡ true → (no_bytes (drop m unread) && ended) ≡ true
no-more zero unread ended is = is
no-more (suc m) [] ended is = is
no-more (suc m) (b ∷ unread) ended is = absurd (false≢true is)

first-taken : (most : ℕ) (b : ℕ) (bytes : List ℕ) → 0 < most → take (min most (length (b ∷ bytes))) (b ∷ bytes) ≢ []
first-taken zero b bytes some none = absurd (omega (arith, some))
first-taken (suc most) b bytes some none =
    let more : min (suc most) (length (b ∷ bytes)) ≡ suc (min most (length bytes)) = omega arith in
    let here : b ∷ take (min most (length bytes)) bytes ≡ [] = ap (λ (m : ℕ). take m (b ∷ bytes)) (sym more) ∙ none in
    cc

module _ {S : Type 0} (k : BusCalls S) (timeout most : ℕ) where
  handed-ends : (a : Result (List ℕ) ReadFault) (w new : Reading S) → 0 < most → (a ≡ Ok [] → is_end w.reader ≡ true) → handed_over most a w ≡ answered (Ok []) new → is_end new.reader ≡ true
  handed-ends (Ok []) w new some ends is =
      let after : reading w.bus (with_read (min most 0) w.reader) ≡ new = ap (λ (a : Read S). a.left) is in
      subst (λ (v : Reading S). is_end v.reader ≡ true) after (no-more (min most 0) w.reader.unread w.reader.ended (ends refl))
  handed-ends (Ok (b ∷ bytes)) w new some ends is =
      absurd (first-taken most b bytes some (let same : Ok (take (min most (length (b ∷ bytes))) (b ∷ bytes)) ≡ Ok [] = ap (λ (a : Read S). a.answer) is in let e : take (min most (length (b ∷ bytes))) (b ∷ bytes) ≡ [] = cc in e))
  handed-ends (Err f) w new some ends is = absurd (let same : Err f ≡ Ok [] = ap (λ (a : Read S). a.answer) is in cc)

  -- a read that had room and gave no byte is at an end
  pub read-ends : (old new : Reading S) → 0 < most → read_came k true timeout most old ≡ answered (Ok []) new → is_end new.reader ≡ true
  read-ends old new some is = handed-ends (fill_came k true timeout old).answer (fill_came k true timeout old).left new some (fill-ends k timeout old) is

pushed-count : (ts : List ℕ) (t : ℕ) → length (ts ++ t ∷ []) ≡ length ts + 1
pushed-count ts t = length-append ts (t ∷ [])

module _ {S : Type 0} (k : BusCalls S) (timeout : ℕ) where
  more-count : (i : ℕ) (w : Reading S) → length (pending_of (submit_more k i w)) ≡ length (pending_of w) + i
  more-count zero w = omega arith
  more-count (suc i) w =
      let one : length (pending_of (submit_more k (suc i) w)) ≡ length (pending_of (submit_more k i w)) + 1 = pushed-count (pending_of (submit_more k i w)) _ in
      let all = more-count i w in
      omega (arith, one, all)

  more-n : (i : ℕ) (w : Reading S) → (submit_more k i w).reader.n ≡ w.reader.n
  more-n zero w = refl
  more-n (suc i) w = more-n i w

  -- as many are pending in a turn as are to be
  record Begun (v w : Reading S) : Type 0 where
    pub n : v.reader.n ≡ w.reader.n
    pub enough : w.reader.n ≤ length (pending_of v)

  begun-if : (b : Bool) (w : Reading S) → nat_lt (length (pending_of w)) w.reader.n ≡ b → Begun (cond b (ended_off (submit_more k (w.reader.n - length (pending_of w)) w)) w) w
  begun-if true w is = let all = more-count (w.reader.n - length (pending_of w)) w in record { n = more-n (w.reader.n - length (pending_of w)) w; enough = omega (arith, all) }
  begun-if false w is = record { n = refl; enough = ltb-false (length (pending_of w)) w.reader.n is }

  begun : (w : Reading S) → Begun (begin_turn k w) w
  begun w = begun-if (nat_lt (length (pending_of w)) w.reader.n) w refl

  -- a call is known to end otherwise than with nothing pending
  abbrev Known : Read S → Type 0
  Known a = a.answer ≢ Err UnexpectedEof

  standing-known : (unread : List ℕ) (error : Option TransferError) → standing unread error ≢ Err UnexpectedEof
  standing-known [] None is = cc
  standing-known [] (Some e) is = let x : Err (Transfer e) ≡ Err UnexpectedEof = is in cc
  standing-known (b ∷ unread) error is = let x : Ok (b ∷ unread) ≡ Err UnexpectedEof = is in cc

  front-known : (r : ReaderState) (bus : S) (e : EndpointState) (o : Option Completion) (n : ℕ) → 1 ≤ r.n
      → ((v : Reading S) → 1 ≤ v.reader.n → Known (answered_by true (turned_from k true timeout n v)))
      → Known (answered_by true (turned_on (front_read r bus e o).0 (front_read r bus e o).1 (turned_from k true timeout n)))
  front-known r bus e None n some further is = let x : Err TimedOut ≡ Err UnexpectedEof = is in cc
  front-known r bus e (Some c) n some further is = further _ some is

  turn-known : (ts : List ℕ) (w : Reading S) (n : ℕ) → 0 < length ts → 1 ≤ w.reader.n
      → ((v : Reading S) → 1 ≤ v.reader.n → Known (answered_by true (turned_from k true timeout n v)))
      → Known (answered_by true (turned_on (turn_from k timeout ts w).0 (turn_from k timeout ts w).1 (turned_from k true timeout n)))
  turn-known [] w n some to further = absurd (omega (arith, some))
  turn-known (front ∷ others) w n some to further =
      let p = wait_next k timeout w.bus w.reader.endpoint in front-known w.reader p.bus p.endpoint p.completion n to further

  if-known : (b : Bool) (w : Reading S) (n : ℕ) → 1 ≤ w.reader.n
      → ((v : Reading S) → 1 ≤ v.reader.n → Known (answered_by true (turned_from k true timeout n v)))
      → Known (answered_by true (turned_if b (λ w. turned_on (turn_once k timeout w).0 (turn_once k timeout w).1 (turned_from k true timeout n)) w))
  if-known false w n to further = standing-known w.reader.unread w.reader.error
  if-known true w n to further =
      let b = begun w in
      let same = b.n in
      let enough = b.enough in
      turn-known (pending_of (begin_turn k w)) (begin_turn k w) n (omega (arith, to, enough)) (omega (arith, to, same)) further

  from-known : (n : ℕ) (w : Reading S) → 1 ≤ w.reader.n → Known (answered_by true (turned_from k true timeout n w))
  from-known zero w to = λ is. let x : Err TimedOut ≡ Err UnexpectedEof = is in cc
  from-known (suc n) w to = if-known (turns true w.reader) w n to (λ v some. from-known n v some)

  fill-known : (w : Reading S) → 1 ≤ w.reader.n → Known (fill_came k true timeout w)
  unfolding turned
  fill-known w to = from-known (suc (most_turns (k.state w.bus) w.reader)) w to

  handed-known : (most : ℕ) (a : Result (List ℕ) ReadFault) (w : Reading S) → a ≢ Err UnexpectedEof → Known (handed_over most a w)
  handed-known most (Ok bytes) w known is = let x : Ok (take (min most (length bytes)) bytes) ≡ Err UnexpectedEof = is in cc
  handed-known most (Err f) w known is = known is

  -- a read until a short packet does not find that nothing is pending, where transfers are to be
  pub read-known : (most : ℕ) (old new : Reading S) (f : ReadFault) → 1 ≤ old.reader.n → read_came k true timeout most old ≡ answered (Err f) new → f ≢ UnexpectedEof
  read-known most old new f to failed is =
      handed-known most (fill_came k true timeout old).answer (fill_came k true timeout old).left (fill-known old to)
      (ap (λ (a : Read S). a.answer) failed ∙ ap (λ (f : ReadFault). Err f) is)

  pub fails-known : (most : ℕ) (old new : Reading S) (e : Fail ReadFault) → 1 ≤ old.reader.n → ReadFails k true timeout most old new e → IsKnown e
  fails-known most old new (Cause f) to failed = read-known most old new f to failed
  fails-known most old new Memory to short = tt
