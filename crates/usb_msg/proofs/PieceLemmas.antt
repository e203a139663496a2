-- Reads of the bytes of a message, one after another.
use Rattle.std.proofs.Common.{zero, suc, ◌∙◌, ◌≡◌, ◌≢◌, ℕ, ◌+◌, ◌-◌, ◌<◌, ◌≤◌, arith, List, [], ◌∷◌, ◌++◌, length, length-append, Result, Ok, Err, Bool, true, refl, ap, sym, subst, take, drop}
use Rattle.std.proofs.lemmas.List.{length-drop, length-take-le, take-append-le}
use Rattle.std.proofs.lemmas.Bool.{lt-ltb, le-ltb}
use borrow.Rule.Slice.PartMut.{post_of}
use Rattle.usb_device_endpoint.specs.BusCalls.{BusCalls}
use Rattle.usb_io.specs.Answered.{Answered, answered, FailedAs}
use Rattle.usb_io.specs.Answers.{read_came}
use Rattle.usb_io.specs.Readers.{ReaderState, is_end}
use Rattle.usb_io.specs.Reads.{Reading, reading}
use Rattle.usb_io.specs.declared.fault.ReadFault.{ReadFault}
use Rattle.usb_desc.specs.declared.error.Fail.{Fail}
use Rattle.usb_desc.specs.declared.error.Fail.TheVariants.{Cause, Memory}
use Rattle.usb_msg.specs.Clients.{ClientState}
use Rattle.usb_msg.proofs.ReadEnds.{read-ends}
use Rattle.usb_msg.specs.Requests.{Messaging, messaging}
use Rattle.usb_msg.specs.Responses.{piece_of, piece_came, after_piece, unless_long, gathered_from, gathered, PieceCame, PiecesRead, PieceShort, GatheredShort, GatherFails}
use Rattle.usb_msg.specs.declared.gathering.Gathered.{Gathered}
use Rattle.usb_msg.specs.declared.gathering.Gathered.TheVariants.{Ended, TooLong}

behind-front : (xs ys : List ℕ) (n : ℕ) → take (length xs + n) (xs ++ ys) ≡ xs ++ take n ys
behind-front [] ys n = let same : length {A = ℕ} [] + n ≡ n = omega arith in ap (λ (m : ℕ). take m ys) same
behind-front (x ∷ xs) ys n =
    let more : length (x ∷ xs) + n ≡ suc (length xs + n) = omega arith in
    ap (λ (m : ℕ). take m (x ∷ (xs ++ ys))) more ∙ ap (λ (zs : List ℕ). x ∷ zs) (behind-front xs ys n)

-- bytes that were read into the room behind a frame
module _ (room dest post : List ℕ) (filled n : ℕ) (within : filled ≤ length room) (count : n ≤ length dest) where
  pub frame-and : take filled room ++ take n dest ≡ take (filled + n) (take filled room ++ (dest ++ post))
  frame-and =
      let all : length (take filled room) ≡ filled = length-take-le filled room within in
      sym (
      ap (λ (m : ℕ). take (m + n) (take filled room ++ (dest ++ post))) (sym all)
      ∙ behind-front (take filled room) (dest ++ post) n
      ∙ ap (λ (xs : List ℕ). take filled room ++ xs) (take-append-le n dest post count))

-- how much room is there
room-left : (room : List ℕ) (filled : ℕ) → filled ≤ length room → length room ≡ 4101 → length (take (length room - filled) (drop filled room)) ≡ 4101 - length (take filled room)
room-left room filled within whole =
    let all = length-drop filled room in
    let front = length-take-le filled room within in
    let few : length room - filled ≤ length (drop filled room) = omega (arith, all) in
    let here = length-take-le (length room - filled) (drop filled room) few in
    omega (arith, here, whole, front)

-- what was read into it leaves the whole as long as it was
pub whole-length : (room dest : List ℕ) (filled : ℕ) → filled ≤ length room → length dest ≡ length (take (length room - filled) (drop filled room)) → length (take filled room ++ (dest ++ post_of filled (length room - filled) room)) ≡ length room
whole-length room dest filled within size =
    let post = post_of filled (length room - filled) room in
    let all = length-append (take filled room) (dest ++ post) in
    let both = length-append dest post in
    let front = length-take-le filled room within in
    let behind = length-drop filled room in
    let none : length post ≡ length (drop filled room) - (length room - filled) = length-drop (length room - filled) (drop filled room) in
    let few : length room - filled ≤ length (drop filled room) = omega (arith, behind) in
    let here = length-take-le (length room - filled) (drop filled room) few in
    omega (arith, all, both, front, behind, none, size, here, within)

-- some is, while no byte more than a frame has was read
pub room-some : (room frame : List ℕ) (filled : ℕ) → filled ≤ length room → length room ≡ 4101 → frame ≡ take filled room → length frame ≤ 4100 → 0 < length (take (length room - filled) (drop filled room))
room-some room frame filled within whole is few =
    let left = room-left room filled within whole in
    let count = ap length is in
    omega (arith, left, count, few)

-- a read into it that gave no byte is at an end
pub piece-ends : {S : Type 0} (k : BusCalls S) (timeout most n : ℕ) (dest : List ℕ) (old new : Reading S) → read_came k true timeout most old ≡ answered (Ok (take n dest)) new → 0 < most → n ≡ 0 → is_end new.reader ≡ true
piece-ends {S = S} k timeout most n dest old new read some none =
    read-ends k timeout most old new some (read ∙ ap (λ (m : ℕ). answered {W = Reading S} (Ok (take m dest)) new) none)

pub piece-came : {S : Type 0} (k : BusCalls S) (bus bus' : S) (x c : ClientState) (r r' : ReaderState) (room room' dest post : List ℕ) (filled n most : ℕ)
    → c ≡ x → room' ≡ take filled room ++ (dest ++ post) → c.frame ≡ take filled room → r ≡ c.reader → filled ≤ length room → length room ≡ 4101 → most ≡ length (take (length room - filled) (drop filled room))
    → read_came k true r.timeout most (reading bus r) ≡ answered (Ok (take n dest)) (reading bus' r') → n ≤ most → length dest ≡ most
    → PieceCame k (messaging bus x) (messaging bus' (record c { reader = r'; frame = take (filled + n) room' })) n
piece-came {S = S} k bus bus' x c r r' room room' dest post filled n most is is' frame same within whole fits read few size =
    let count : n ≤ length dest = omega (arith, few, size) in
    let left : most ≡ 4101 - length c.frame = fits ∙ room-left room filled within whole ∙ ap (λ (xs : List ℕ). 4101 - length xs) (sym frame) in
    let read' : read_came k true c.reader.timeout (4101 - length c.frame) (reading bus c.reader) ≡ answered (Ok (take n dest)) (reading bus' r') =
    ap (λ (m : ℕ). read_came k true c.reader.timeout m (reading bus c.reader)) (sym left) ∙ ap (λ (x : ReaderState). read_came k true x.timeout most (reading bus x)) (sym same) ∙ read in
    let bytes : c.frame ++ take n dest ≡ take (filled + n) room' = ap (λ (xs : List ℕ). xs ++ take n dest) frame ∙ frame-and room dest post filled n within count ∙ ap (take (filled + n)) (sym is') in
    subst (λ (x : ClientState). PieceCame k (messaging bus x) (messaging bus' (record c { reader = r'; frame = take (filled + n) room' })) n) is (record {
      bytes = take n dest;
      count = sym (length-take-le n dest count);
      came = ap (piece_of c) read' ∙ ap (λ (xs : List ℕ). answered (Ok (take n dest)) (messaging bus' (record c { reader = r'; frame = xs }))) bytes;
    })

-- the reads of a message so far: what is left of them is reads from here, which are enough
pub record Gathering {S : Type 0} (k : BusCalls S) (first now : Messaging S) : Type 0 where
  pub left : ℕ
  pub enough : 4101 ≤ left + length now.client.frame
  pub is : gathered k first ≡ gathered_from k (suc left) now
  pub ws : List (Messaging S)
  pub are : PiecesRead k ws first now

module _ {S : Type 0} (k : BusCalls S) where
  pub gathering-first : (w : Messaging S) → Gathering k w w
  unfolding gathered
  gathering-first w = record { left = 4101; enough = omega arith; is = refl; ws = []; are = refl }

  -- a read is made while no byte more than a frame has was read
  read-next : (left : ℕ) (now next : Messaging S) (a : Result (List ℕ) ReadFault) → length now.client.frame ≤ 4100 → piece_came k now ≡ answered a next
      → gathered_from k (suc left) now ≡ after_piece a next (gathered_from k left)
  read-next left now next a few came =
      ap (λ (b : Bool). unless_long b (λ w. after_piece (piece_came k w).answer (piece_came k w).left (gathered_from k left)) now) (le-ltb (4100) (length now.client.frame) few)
      ∙ ap (λ (p : Answered (List ℕ) ReadFault (Messaging S)). after_piece p.answer p.left (gathered_from k left)) came

  -- it gave bytes, and the reads go on
  goes-on : (bytes : List ℕ) (next : Messaging S) (further : Messaging S → Answered Gathered ReadFault (Messaging S)) → 0 < length bytes → after_piece (Ok bytes) next further ≡ further next
  goes-on [] next further some = absurd (omega (arith, some))
  goes-on (b ∷ bytes) next further some = refl

  some-bytes : (bytes : List ℕ) → 0 < length bytes → bytes ≢ []
  some-bytes bytes some none = let count : length bytes ≡ 0 = ap length none in absurd (omega (arith, some, count))

  module _ (first now next : Messaging S) (so_far : Gathering k first now) (few : length now.client.frame ≤ 4100) where
    from-less : (left : ℕ) → 4101 ≤ left + length now.client.frame → (l : ℕ) × (left ≡ suc l)
    from-less zero enough = absurd (omega (arith, enough, few))
    from-less (suc l) enough = (l, refl)

    pub gathering-more : (n : ℕ) → PieceCame k now next n → length next.client.frame ≡ length now.client.frame + n → 0 < n → Gathering k first next
    gathering-more n came size some =
        let l = from-less so_far.left so_far.enough in
        let enough = so_far.enough in
        let one = l.1 in
        let count = came.count in
        let here : 0 < length came.bytes = omega (arith, count, some) in
        record {
          left = l.0;
          enough = omega (arith, enough, one, size, some);
          is =
              so_far.is
              ∙ read-next so_far.left now next (Ok came.bytes) few came.came
              ∙ goes-on came.bytes next (gathered_from k so_far.left) here
              ∙ ap (λ (m : ℕ). gathered_from k m next) one;
          ws = now ∷ so_far.ws;
          are = (so_far.are, record { few = few; bytes = came.bytes; some = some-bytes came.bytes here; came = came.came });
        }

    no-bytes : (bytes : List ℕ) (further : Messaging S → Answered Gathered ReadFault (Messaging S)) → length bytes ≡ 0 → after_piece (Ok bytes) next further ≡ answered (Ok Ended) next
    no-bytes [] further none = refl
    no-bytes (b ∷ bytes) further none = absurd (omega (arith, none))

    -- it gave none: the message's end is next
    pub gathering-ended : (n : ℕ) → PieceCame k now next n → n ≡ 0 → gathered k first ≡ answered (Ok Ended) next
    gathering-ended n came none =
        so_far.is ∙ read-next so_far.left now next (Ok came.bytes) few came.came ∙ no-bytes came.bytes (gathered_from k so_far.left) (sym came.count ∙ none)

    -- it failed
    pub gathering-failed : (f : ReadFault) → piece_came k now ≡ answered (Err f) next → gathered k first ≡ answered (Err f) next
    gathering-failed f failed = so_far.is ∙ read-next so_far.left now next (Err f) few failed

    -- it found no memory
    pub gathering-short : PieceShort k now next → GatheredShort k first next
    gathering-short short = record { ws = so_far.ws; last = now; are = so_far.are; few = few; short = short }

  -- too many bytes were read
  pub gathering-long : (first now : Messaging S) → Gathering k first now → 4100 < length now.client.frame → gathered k first ≡ answered (Ok TooLong) now
  gathering-long first now so_far long =
      so_far.is
      ∙ ap (λ (b : Bool). unless_long b (λ w. after_piece (piece_came k w).answer (piece_came k w).left (gathered_from k so_far.left)) now) (lt-ltb 4100 (length now.client.frame) long)

-- a piece failed or found no memory, and so the reads did
pub gather-failed : {S : Type 0} (k : BusCalls S) (first now next : Messaging S) → Gathering k first now → length now.client.frame ≤ 4100 → (e : Fail ReadFault) → FailedAs (piece_came k now) (PieceShort k now next) next e → GatherFails k first next e
gather-failed k first now next so_far few (Cause f) failed = gathering-failed k first now next so_far few f failed
gather-failed k first now next so_far few Memory short = gathering-short k first now next so_far few short
