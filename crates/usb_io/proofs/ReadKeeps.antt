-- What each step of a call on a reader keeps, the call keeps.
use Rattle.std.proofs.Common.{◌≡◌, ℕ, zero, suc, ◌-◌, Bool, true, false, cond, List, [], ◌∷◌, length, Option, Some, None, Result, Ok, Err, refl, ap, sym, subst}
use Rattle.std.specs.Prelude.{nat_lt, min, is_none, IfOk, IfErr}
use Rattle.std.specs.Borrow.{Bor}
use Rattle.std.proofs.lemmas.Bool.{and_parts}
use Rattle.usb_desc.specs.declared.error.Fail.{Fail}
use Rattle.usb_desc.specs.declared.error.Fail.TheVariants.{Cause, Memory}
use Rattle.usb_xfer.specs.declared.transfer.Completion.{Completion}
use Rattle.usb_device_endpoint.specs.BusCalls.{BusCalls}
use Rattle.usb_kernel.specs.TransferCompletions.{transfer_completion}
use Rattle.usb_device_endpoint.specs.Waits.{taken_if, polled_of, front_of, waited}
use Rattle.usb_io.specs.Readers.{ReaderState, no_bytes, with_taken, with_read, without_end, turns}
use Rattle.usb_io.specs.Reads.{Reading, reading, pending_of, ended_off, submit_one, submit_more, begin_turn, wait_read, turn_from, turn_once, Turns, turned_on, turned_if, turned_from, turned, most_turns, FilledShort, TurnedShort, filled_to}
use Rattle.usb_io.specs.Answered.{answered}
use Rattle.usb_io.specs.Answers.{fill_came, handed_over, read_came, FillFails, ReadFails}
use Rattle.usb_io.specs.Lent.{Filled}
use Rattle.usb_io.specs.declared.turned.Once.{Once}
use Rattle.usb_io.specs.declared.turned.Once.TheVariants.{Took, NonePending, NotCome}
use Rattle.usb_io.specs.declared.turned.Turned.{Turned}
use Rattle.usb_io.specs.declared.fault.ReadFault.{ReadFault}

-- each submission; of a reader that turns, the end that goes, and the taking of the front; and each wait
pub record Keeps {S : Type 0} (k : BusCalls S) (us : Bool) (timeout : ℕ) (P : Reading S → Type 0) : Type 0 where
  pub submission : (w : Reading S) → P w → P (submit_one k w)
  pub end : (w : Reading S) → turns us w.reader ≡ true → P w → P (ended_off w)
  pub wait : (w : Reading S) (front : ℕ) (others : List ℕ) → pending_of w ≡ front ∷ others → P w → P (reading (waited k front timeout w.bus) w.reader)
  pub taking : (w : Reading S) (front : ℕ) (others : List ℕ) (c : Completion) → pending_of w ≡ front ∷ others → turns us w.reader ≡ true → transfer_completion (k.state w.bus).past front ≡ Some c → P w → P (reading (k.taken w.bus front) (with_taken c others w.reader))

-- and the reading of bytes
abbrev pub KeepsRead : {S : Type 0} → (Reading S → Type 0) → Type 0
KeepsRead {S = S} P = (w : Reading S) (n : ℕ) → P w → P (reading w.bus (with_read n w.reader))

-- a reader that turns has no byte
pub turns-empty : (us : Bool) (r : ReaderState) → turns us r ≡ true → no_bytes r.unread ≡ true
turns-empty us r goes = (and_parts (no_bytes r.unread) _ goes).0

-- it is to turn still once it has submitted
off-turns : (us : Bool) (r : ReaderState) → turns us r ≡ true → turns us (without_end r) ≡ true
off-turns false r goes = goes
off-turns true r goes =
    let parts = and_parts (no_bytes r.unread) _ goes in
    let second = and_parts (is_none r.error) _ parts.1 in
    rw (parts.0, second.0) refl

module _ {S : Type 0} (k : BusCalls S) (us : Bool) where
  more-turns : (i : ℕ) (w : Reading S) → turns us w.reader ≡ true → turns us (submit_more k i w).reader ≡ true
  more-turns zero w goes = goes
  more-turns (suc i) w goes = more-turns i w goes

  pub begin-turns : (w : Reading S) → turns us w.reader ≡ true → turns us (begin_turn k w).reader ≡ true
  begin-turns w goes =
      let i = w.reader.n - length (pending_of w) in
      elim (nat_lt (length (pending_of w)) w.reader.n) as (λ b. turns us (cond b (ended_off (submit_more k i w)) w).reader ≡ true) [
        | true ↦ off-turns us (submit_more k i w).reader (more-turns i w goes)
        | false ↦ goes
      ]

module _ {S : Type 0} (k : BusCalls S) (us : Bool) (timeout : ℕ) (P : Reading S → Type 0) (keeps : Keeps k us timeout P) where
  pub more-keeps : (i : ℕ) (w : Reading S) → P w → P (submit_more k i w)
  more-keeps zero w holds = holds
  more-keeps (suc i) w holds = keeps.submission (submit_more k i w) (more-keeps i w holds)

  pub filled-keeps : (goal : ℕ) (w : Reading S) → P w → P (filled_to k goal w)
  filled-keeps goal w holds = more-keeps (goal - length (pending_of w)) w holds

  pub filled_short-keeps : (goal : ℕ) (old new : Reading S) → FilledShort k goal old new → P old → P new
  filled_short-keeps goal old new short holds = subst P (sym short.is) (more-keeps short.made old holds)

  begin-keeps : (w : Reading S) → turns us w.reader ≡ true → P w → P (begin_turn k w)
  begin-keeps w goes holds =
      let i = w.reader.n - length (pending_of w) in
      let all = submit_more k i w in
      elim (nat_lt (length (pending_of w)) w.reader.n) as (λ b. P (cond b (ended_off all) w)) [
        | true ↦ keeps.end all (more-turns k us i w goes) (more-keeps i w holds)
        | false ↦ holds
      ]

  front-keeps : (w : Reading S) (front : ℕ) (others : List ℕ) (o : Option Completion) → pending_of w ≡ front ∷ others → turns us w.reader ≡ true → transfer_completion (k.state w.bus).past front ≡ o → P w
      → P (wait_read w.reader (taken_if k w.bus w.reader.endpoint front others o)).1
  front-keeps w front others None was goes come holds = holds
  front-keeps w front others (Some c) was goes come holds = keeps.taking w front others c was goes come holds

  turn-keeps : (ts : List ℕ) (w : Reading S) → pending_of w ≡ ts → turns us w.reader ≡ true → P w → P (turn_from k timeout ts w).1
  turn-keeps [] w was goes holds = holds
  turn-keeps (front ∷ others) w was goes holds =
      let mid = waited k front timeout w.bus in
      subst (λ (ts : List ℕ). P (wait_read w.reader (polled_of k (waited k (front_of ts) timeout w.bus) w.reader.endpoint ts)).1) (sym was)
      (front-keeps (reading mid w.reader) front others (transfer_completion (k.state mid).past front) was goes refl (keeps.wait w front others was holds))

  once-keeps : (w : Reading S) → turns us w.reader ≡ true → P w → P (turn_once k timeout w).1
  once-keeps w goes holds = turn-keeps (pending_of (begin_turn k w)) (begin_turn k w) refl (begin-turns k us w goes) (begin-keeps w goes holds)

  on-keeps : (o : Once) (w : Reading S) (next : Reading S → Turned × Reading S) → P w → ((v : Reading S) → P v → P (next v).1) → P (turned_on o w next).1
  on-keeps Took w next holds further = further w holds
  on-keeps NonePending w next holds further = holds
  on-keeps NotCome w next holds further = holds

  if-keeps : (b : Bool) (w : Reading S) (next : Reading S → Turned × Reading S) → turns us w.reader ≡ b → P w → ((v : Reading S) → P v → P (next v).1)
      → P (turned_if b (λ w. turned_on (turn_once k timeout w).0 (turn_once k timeout w).1 next) w).1
  if-keeps false w next is holds further = holds
  if-keeps true w next is holds further = on-keeps (turn_once k timeout w).0 (turn_once k timeout w).1 next (once-keeps w is holds) further

  from-keeps : (n : ℕ) (w : Reading S) → P w → P (turned_from k us timeout n w).1
  from-keeps zero w holds = holds
  from-keeps (suc n) w holds = if-keeps (turns us w.reader) w (turned_from k us timeout n) refl holds (λ v at_v. from-keeps n v at_v)

  -- a call that lends the bytes
  pub fill-keeps : (w : Reading S) → P w → P (fill_came k us timeout w).left
  unfolding turned
  fill-keeps w holds = from-keeps (suc (most_turns (k.state w.bus) w.reader)) w holds

  handed-keeps : (most : ℕ) (a : Result (List ℕ) ReadFault) (w : Reading S) → KeepsRead P → P w → P (handed_over most a w).left
  handed-keeps most (Ok bytes) w read holds = read w (min most (length bytes)) holds
  handed-keeps most (Err e) w read holds = holds

  -- a read
  pub read-keeps : (most : ℕ) (w : Reading S) → KeepsRead P → P w → P (read_came k us timeout most w).left
  read-keeps most w read holds = handed-keeps most (fill_came k us timeout w).answer (fill_came k us timeout w).left read (fill-keeps w holds)

  -- one of them without memory
  turns-keep : (ws : List (Reading S)) (old last : Reading S) → Turns k us timeout ws old last → P old → P last
  turns-keep [] old last are holds = subst P are holds
  turns-keep (w ∷ ws) old last are holds = turns-keep ws w last are.2 (subst P (ap (λ (p : Once × Reading S). p.1) are.1) (once-keeps old are.0 holds))

  short-keeps : (old new : Reading S) → TurnedShort k us timeout old new → P old → P new
  short-keeps old new short holds = filled_short-keeps short.last.reader.n short.last new short.short (turns-keep short.ws old short.last short.are holds)

  -- what they answered, whatever it is (a poll is a wait of no time)
  fill_fails-keep : (old new : Reading S) (e : Fail ReadFault) → FillFails k us timeout old new e → P old → P new
  fill_fails-keep old new (Cause f) is holds = subst P (ap (λ a. a.left) is) (fill-keeps old holds)
  fill_fails-keep old new Memory short holds = short-keeps old new short holds

  read_fails-keep : (most : ℕ) (old new : Reading S) (e : Fail ReadFault) → KeepsRead P → ReadFails k us timeout most old new e → P old → P new
  read_fails-keep most old new (Cause f) read is holds = subst P (ap (λ a. a.left) is) (read-keeps most old read holds)
  read_fails-keep most old new Memory read short holds = short-keeps old new short holds

  pub read_answer-keeps : (most : ℕ) (old new : Reading S) (bytes : ℕ → List ℕ) (r : Result ℕ (Fail ReadFault)) → KeepsRead P
      → IfOk r (λ n. read_came k us timeout most old ≡ answered (Ok (bytes n)) new) → IfErr r (ReadFails k us timeout most old new) → P old → P new
  read_answer-keeps most old new bytes (Ok n) read is failed holds = subst P (ap (λ a. a.left) is) (read-keeps most old read holds)
  read_answer-keeps most old new bytes (Err e) read is failed holds = read_fails-keep most old new e read failed holds

  pub fill_answer-keeps : (old new : Reading S) (r : Result (Bor (List ℕ)) (Fail ReadFault)) → Filled k us timeout old new r → P old → P new
  fill_answer-keeps old new (Ok s) is holds = subst P (ap (λ a. a.left) is) (fill-keeps old holds)
  fill_answer-keeps old new (Err e) failed holds = fill_fails-keep old new e failed holds
