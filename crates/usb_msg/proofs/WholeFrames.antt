-- A write that accepts a whole frame.
use Rattle.std.proofs.Common.{suc, suc-mul, ◌∙◌, ◌≡◌, ℕ, ◌+◌, ◌*◌, ◌/◌, ◌-◌, ◌<◌, ◌≤◌, arith, cond, List, [], ◌∷◌, ◌++◌, length, Option, Some, None, Result, Ok, Err, Bool, true, false, refl, ap, sym, subst, take, drop, replicate, length-append, unwrap_or, min, inl, inr, ◌⊎◌}
use Rattle.std.specs.Prelude.{◌==◌, ◌&&◌, nat_lt}
use Rattle.std.proofs.lemmas.List.{length-take, length-replicate}
use Rattle.std.proofs.lemmas.Bool.{ne_eqb}
use Rattle.std.proofs.lemmas.Nat.{div-add-mod', mod_below}
use Rattle.std.proofs.Math.Seq.{take-length}
use Rattle.usb_xfer.specs.declared.error.TransferError.{TransferError}
use Rattle.usb_xfer.specs.declared.transfer.Completion.{Completion}
use Rattle.usb_kernel.specs.WholePackets.{is_whole}
use Rattle.usb_kernel.specs.TransferCompletions.{transfer_completion}
use Rattle.usb_device_endpoint.specs.BusCalls.{BusCalls}
use Rattle.usb_device_endpoint.specs.BusState.{BusState}
use Rattle.usb_device_endpoint.specs.Waits.{front_of, taken_if, polled_of, waited}
use Rattle.usb_io.specs.Readers.{rounded}
use Rattle.usb_io.specs.declared.fault.WriteFault.{WriteFault}
use Rattle.usb_io.specs.Answered.{Answered, answered}
use Rattle.usb_io.specs.Fronts.{Drained, wait_kept, taken_once, waits_on, after_front, drained_if, drained_of, drained}
use Rattle.usb_io.specs.Writers.{WriterState, Writing, writing, not_begun, kept_buffer, with_taken, sent_end, send, out_buffer, empty_buffer}
use Rattle.usb_io.specs.Writes.{Call, Accept, Flush}
use Rattle.usb_io.specs.Carried.{TellsOn, TellsShort}
use Rattle.usb_io.proofs.Carrying.{tells_trans}
use Rattle.usb_io.specs.WriteAnswers.{accepted, accepted_count, accepts, accepting, write_drained, write_came, AcceptsNone, WriteShort}

-- the fronts that a writer takes leave the bytes that stand
pub record Leaves (w w' : WriterState) : Type 0 where
  pub bytes : unwrap_or w'.buffer [] ≡ unwrap_or w.buffer []
  pub size : w'.size ≡ w.size
  pub maximum : w'.endpoint.maximum ≡ w.endpoint.maximum
  pub few : length w'.endpoint.pending ≤ length w.endpoint.pending

kept-bytes : (size n : ℕ) (buffer : Option (List ℕ)) (room left : ℕ) → unwrap_or (kept_buffer size n buffer room left) [] ≡ unwrap_or buffer []
kept-bytes size n None room left =
    elim (room == size && nat_lt left n) as (λ v. unwrap_or {T = List ℕ} (cond (true && v) (Some []) None) [] ≡ []) [ true ↦ refl | false ↦ refl ]
kept-bytes size n (Some b) room left = refl

leaves-same : (w : WriterState) → Leaves w w
leaves-same w = record { bytes = refl; size = refl; maximum = refl; few = omega arith }

leaves-trans : (u v w : WriterState) → Leaves u v → Leaves v w → Leaves u w
leaves-trans u v w first second =
    let few = first.few in
    let more = second.few in
    record { bytes = second.bytes ∙ first.bytes; size = second.size ∙ first.size; maximum = second.maximum ∙ first.maximum; few = omega (arith, few, more) }

module _ {S : Type 0} (k : BusCalls S) (flushing : Bool) (timeout : ℕ) where
  -- a front is waited for and taken, and what it was decides what comes next
  abbrev after_wait : Option Completion → S → WriterState → ℕ → List ℕ → (Writing S → Drained S) → Drained S
  after_wait o s r front others further = after_front (wait_kept r (taken_if k s r.endpoint front others o)).0 (wait_kept r (taken_if k s r.endpoint front others o)).1 further

  -- what goes on, where these are pending, leaves the bytes
  abbrev LeavesOn : List ℕ → (Writing S → Drained S) → Type 0
  LeavesOn others further = (v : Writing S) → v.writer.endpoint.pending ≡ others → Leaves v.writer (further v).left.writer

  took-leaves : (c : Completion) (r : WriterState) (front : ℕ) (others : List ℕ) → r.endpoint.pending ≡ front ∷ others → Leaves r (with_taken c others r)
  took-leaves c r front others was = record {
    bytes = kept-bytes r.size r.n r.buffer c.buffer.room (length others);
    size = refl;
    maximum = refl;
    few = rw was (omega arith);
  }

  taking-leaves : (status : Result (Unit {0}) TransferError) (c : Completion) (s : S) (r : WriterState) (front : ℕ) (others : List ℕ) (further : Writing S → Drained S) → r.endpoint.pending ≡ front ∷ others → LeavesOn others further
      → Leaves r (after_wait (Some (record c { status = status })) s r front others further).left.writer
  taking-leaves (Ok u) c s r front others further was next =
      let v = writing (k.taken s front) (with_taken c others r) in
      leaves-trans r v.writer (further v).left.writer (took-leaves c r front others was) (next v refl)
  taking-leaves (Err e) c s r front others further was next = took-leaves c r front others was

  after-leaves : (o : Option Completion) (s : S) (r : WriterState) (front : ℕ) (others : List ℕ) (further : Writing S → Drained S) → r.endpoint.pending ≡ front ∷ others → LeavesOn others further
      → Leaves r (after_wait o s r front others further).left.writer
  after-leaves None s r front others further was next = leaves-same r
  after-leaves (Some c) s r front others further was next = taking-leaves c.status c s r front others further was next

  once-leaves : (w : Writing S) (front : ℕ) (others : List ℕ) (further : Writing S → Drained S) → w.writer.endpoint.pending ≡ front ∷ others → LeavesOn others further
      → Leaves w.writer (after_front (taken_once k timeout w).0 (taken_once k timeout w).1 further).left.writer
  once-leaves w front others further was next =
      let mid = waited k front timeout w.bus in
      subst (λ (ts : List ℕ).
      Leaves w.writer (after_front (wait_kept w.writer (polled_of k (waited k (front_of ts) timeout w.bus) w.writer.endpoint ts)).0
      (wait_kept w.writer (polled_of k (waited k (front_of ts) timeout w.bus) w.writer.endpoint ts)).1 further).left.writer) (sym was)
      (after-leaves (transfer_completion (k.state mid).past front) mid w.writer front others further was next)

  if-leaves : (b : Bool) (w : Writing S) (front : ℕ) (others : List ℕ) (further : Writing S → Drained S) → w.writer.endpoint.pending ≡ front ∷ others → LeavesOn others further
      → Leaves w.writer (drained_if b (λ w. after_front (taken_once k timeout w).0 (taken_once k timeout w).1 further) w).left.writer
  if-leaves false w front others further was next = leaves-same w.writer
  if-leaves true w front others further was next = once-leaves w front others further was next

  of-leaves : (ts : List ℕ) (w : Writing S) → w.writer.endpoint.pending ≡ ts → Leaves w.writer (drained_of k flushing timeout ts w).left.writer
  of-leaves [] w was = leaves-same w.writer
  of-leaves (front ∷ others) w was =
      if-leaves (waits_on flushing w.writer) w front others (drained_of k flushing timeout others) was (λ v pending. of-leaves others v pending)

  pub drained-leaves : (w : Writing S) → Leaves w.writer (drained k flushing timeout w).left.writer
  unfolding drained
  drained-leaves w = of-leaves w.writer.endpoint.pending w refl

take-whole : (xs : List ℕ) (n : ℕ) → n ≡ length xs → take n xs ≡ xs
take-whole xs n is = rw is (take-length xs)

-- bytes that are less than a transfer stand
stands-accepted : {S : Type 0} (k : BusCalls S) (c : List ℕ) (w : Writing S) → length c < w.writer.size → accepted k c w ≡ record w { writer = record w.writer { buffer = Some c } }
stands-accepted k c w less = rw (ne_eqb (length c) w.writer.size (λ same. absurd (omega (arith, same, less)))) refl

all-counted : (n len size standing : ℕ) → n ≡ min len (size - standing) → standing ≡ 0 → len < size → n ≡ len
all-counted n len size standing count none less = omega (arith, count, none, less)

-- what a write accepted
accepted-of : {S : Type 0} (k : BusCalls S) (src : List ℕ) (a : Result (Unit {0}) WriteFault) (w new : Writing S) (n : ℕ) → accepting k src a w ≡ answered (Ok n) new → (n ≡ accepted_count src w.writer) × (new ≡ accepts k src w)
accepted-of k src (Ok u) w new n is =
    ((let same : Ok (accepted_count src w.writer) ≡ Ok n = ap (λ (a : Answered ℕ WriteFault (Writing _)). a.answer) is in let e : n ≡ accepted_count src w.writer = cc in e), sym (ap (λ (a : Answered ℕ WriteFault (Writing _)). a.left) is))
accepted-of k src (Err f) w new n is = absurd (let same : Err f ≡ Ok n = ap (λ (a : Answered ℕ WriteFault (Writing _)). a.answer) is in cc)

-- what a write of a frame leaves, where no bytes stood
pub record Whole (w w' : WriterState) (frame : List ℕ) (n : ℕ) : Type 0 where
  pub count : n ≡ length frame
  pub all : take n frame ≡ frame
  pub stands : w'.buffer ≡ Some frame
  pub maximum : w'.endpoint.maximum ≡ w.endpoint.maximum
  pub few : length w'.endpoint.pending ≤ length w.endpoint.pending

module _ {S : Type 0} (k : BusCalls S) (timeout : ℕ) (frame : List ℕ) (old new : Writing S) where
  pub wrote-whole : (n : ℕ) → write_came k timeout frame old ≡ answered (Ok n) new → unwrap_or old.writer.buffer [] ≡ [] → length frame ≤ 4100 → 4160 ≤ old.writer.size → Whole old.writer new.writer frame n
  wrote-whole n wrote empty short holds =
      let d = write_drained k timeout old in
      let leaves : Leaves (not_begun old).writer d.left.writer = drained-leaves k false timeout (not_begun old) in
      let of = accepted-of k frame d.answer d.left new n wrote in
      let none : unwrap_or d.left.writer.buffer [] ≡ [] = leaves.bytes ∙ empty in
      let size = leaves.size in
      let less : length frame < d.left.writer.size = omega (arith, short, holds, size) in
      let count : accepted_count frame d.left.writer ≡ length frame = all-counted _ (length frame) d.left.writer.size (length (unwrap_or d.left.writer.buffer [])) refl (ap length none) less in
      let whole : unwrap_or d.left.writer.buffer [] ++ take (accepted_count frame d.left.writer) frame ≡ frame =
      ap (λ (xs : List ℕ). xs ++ take (accepted_count frame d.left.writer) frame) none ∙ take-whole frame _ count in
      let after : new ≡ record d.left { writer = record d.left.writer { buffer = Some frame } } = of.1 ∙ ap (λ (c : List ℕ). accepted k c d.left) whole ∙ stands-accepted k frame d.left less in
      record {
        count = of.0 ∙ count;
        all = take-whole frame n (of.0 ∙ count);
        stands = ap (λ (w : Writing _). w.writer.buffer) after;
        maximum = ap (λ (w : Writing _). w.writer.endpoint.maximum) after ∙ leaves.maximum;
        few = subst (λ (w : Writing _). length w.writer.endpoint.pending ≤ length old.writer.endpoint.pending) (sym after) leaves.few;
      }

  failed-of : (f : WriteFault) (a : Result (Unit {0}) WriteFault) (w : Writing S) → accepting k frame a w ≡ answered (Err f) new → new ≡ w
  failed-of f (Ok u) w is = absurd (let same : Ok (accepted_count frame w.writer) ≡ Err f = ap (λ (a : Answered ℕ WriteFault (Writing _)). a.answer) is in cc)
  failed-of f (Err g) w is = sym (ap (λ (a : Answered ℕ WriteFault (Writing _)). a.left) is)

  -- no bytes stand behind a write that failed, where none stood
  pub failed-none : (f : WriteFault) → write_came k timeout frame old ≡ answered (Err f) new → unwrap_or old.writer.buffer [] ≡ [] → unwrap_or new.writer.buffer [] ≡ []
  failed-none f failed empty =
      let d = write_drained k timeout old in
      let leaves : Leaves (not_begun old).writer d.left.writer = drained-leaves k false timeout (not_begun old) in
      ap (λ (w : Writing _). unwrap_or w.writer.buffer []) (failed-of f d.answer d.left failed) ∙ leaves.bytes ∙ empty

  accepts-none : (mid : Writing S) → AcceptsNone frame mid new → unwrap_or new.writer.buffer [] ≡ unwrap_or mid.writer.buffer []
  accepts-none mid (inl none) = ap (λ (w : Writing _). unwrap_or w.writer.buffer []) none.1
  accepts-none mid (inr none) = ap (λ (w : Writing _). unwrap_or w.writer.buffer []) none.1

  -- nor behind one that found no memory
  pub short-none : WriteShort k timeout frame old new → unwrap_or old.writer.buffer [] ≡ [] → unwrap_or new.writer.buffer [] ≡ []
  short-none short empty =
      let d = write_drained k timeout old in
      let leaves : Leaves (not_begun old).writer d.left.writer = drained-leaves k false timeout (not_begun old) in
      accepts-none d.left short.none ∙ leaves.bytes ∙ empty

-- none behind an end
pub end-none : {S : Type 0} (k : BusCalls S) (buffer : Option (List ℕ)) (w : Writing S) → (sent_end k buffer w).writer.buffer ≡ None
end-none k None w = refl
end-none k (Some bytes) w =
    elim (is_whole w.writer.endpoint.maximum (length bytes)) as (λ b. (cond b (send k empty_buffer (send k (out_buffer w.writer.size bytes) w)) (send k (out_buffer w.writer.size bytes) w)).writer.buffer ≡ None) [ true ↦ refl | false ↦ refl ]

-- what a write and what comes behind it wrote
pub sent-tells : (x y z : BusState) (r s t : WriterState) (frame : List ℕ) (n : ℕ) → take n frame ≡ frame → TellsOn x y r s (Accept (take n frame) ∷ []) → (calls : List Call) → TellsOn y z s t calls → TellsOn x z r t (calls ++ Accept frame ∷ [])
sent-tells x y z r s t frame n all wrote calls ended =
    tells_trans x y z r s t (Accept frame ∷ []) calls (subst (λ (bytes : List ℕ). TellsOn x y r s (Accept bytes ∷ [])) all wrote) ended

pub unended-tells : (x y z : BusState) (r s t : WriterState) (frame : List ℕ) (n : ℕ) → take n frame ≡ frame → TellsOn x y r s (Accept (take n frame) ∷ []) → TellsShort y z s t → TellsOn x z r t (Accept frame ∷ []) ⊎ TellsOn x z r t (Flush ∷ Accept frame ∷ [])
unended-tells x y z r s t frame n all wrote (inl none) = inl (sent-tells x y z r s t frame n all wrote [] none)
unended-tells x y z r s t frame n all wrote (inr flushed) = inr (sent-tells x y z r s t frame n all wrote (Flush ∷ []) flushed)

one-more : (q : ℕ) → q + 1 ≡ suc q
one-more q = omega arith

next-whole : (q m : ℕ) → (q + 1) * m ≡ q * m + m
next-whole q m = ap (λ (n : ℕ). n * m) (one-more q) ∙ suc-mul q m

-- a size rounded up to whole packets is no less
pub rounded-holds : (maximum size : ℕ) → 0 < maximum → 0 < size → size ≤ rounded maximum size
rounded-holds maximum size some one =
    let whole = div-add-mod' (size - 1) maximum in
    let less = mod_below (size - 1) maximum some in
    let next = next-whole ((size - 1) / maximum) maximum in
    omega (arith, whole, less, next, one)

-- an empty buffer that was filled
pub filled-length : (bytes now items : List ℕ) (n : ℕ) → bytes ≡ [] → now ≡ replicate n 0 → items ≡ bytes ++ take (length (replicate {A = ℕ} n 0)) (now ++ drop (length now) (replicate n 0)) → length items ≡ n
filled-length bytes now items n none filled is =
    let zeros = length-replicate {A = ℕ} n 0 in
    let all = ap length is ∙ length-append bytes (take (length (replicate {A = ℕ} n 0)) (now ++ drop (length now) (replicate n 0))) in
    let empty : length bytes ≡ 0 = ap length none in
    let full : length now ≡ length (replicate {A = ℕ} n 0) = ap length filled in
    let both = length-append now (drop (length now) (replicate n 0)) in
    let cut = length-take (length (replicate {A = ℕ} n 0)) (now ++ drop (length now) (replicate n 0)) in
    omega (arith, zeros, all, empty, full, both, cut)
