-- The fronts that a writer takes, one after another.
use Rattle.std.proofs.Common.{ℕ, ◌≡◌, ◌<◌, ◌∙◌, arith, Bool, true, false, List, [], ◌∷◌, length, Option, Some, None, Result, Ok, Err, refl, ap, sym, subst}
use Rattle.usb_xfer.specs.declared.error.TransferError.{TransferError}
use Rattle.usb_xfer.specs.declared.transfer.Completion.{Completion}
use Rattle.usb_device_endpoint.specs.BusCalls.{BusCalls}
use Rattle.usb_device_endpoint.specs.EndpointState.{EndpointState}
use Rattle.usb_device_endpoint.specs.Waits.{Polled, front_of, taken_if, polled_of, waited, wait_next}
use Rattle.usb_io.specs.declared.fault.WriteFault.TheVariants.{Transfer, TimedOut}
use Rattle.usb_io.specs.declared.fronts.Taken.{Taken}
use Rattle.usb_io.specs.declared.fronts.Taken.TheVariants.{Took, NotCome}
use Rattle.usb_io.specs.Answered.{answered}
use Rattle.usb_io.specs.Fronts.{Drained, wait_kept, taken_once, waits_on, after_front, drained_if, drained_of, drained}
use Rattle.usb_io.specs.Writers.{WriterState, Writing, writing}

-- by the wait of its endpoint
pub taken-once : {S : Type 0} (k : BusCalls S) (timeout : ℕ) (b : S) (inside w : WriterState) (p : Polled S) → inside ≡ w → wait_next k timeout b inside.endpoint ≡ p → taken_once k timeout (writing b w) ≡ wait_kept inside p
taken-once k timeout b inside w p same is = ap (λ x. taken_once k timeout (writing b x)) (sym same) ∙ ap (wait_kept inside) is

-- the others are pending then
left-if : {S : Type 0} (k : BusCalls S) (w : WriterState) (s : S) (e : EndpointState) (front : ℕ) (others : List ℕ) (o : Option Completion) (status : Result (Unit {0}) TransferError) (next : Writing S)
    → wait_kept w (taken_if k s e front others o) ≡ (Took status, next) → next.writer.endpoint.pending ≡ others
left-if k w s e front others None status next is = absurd (let missed : NotCome ≡ Took status = ap (λ (p : Taken × Writing _). p.0) is in cc)
left-if k w s e front others (Some c) status next is = ap (λ (p : Taken × Writing _). p.1.writer.endpoint.pending) (sym is)

module _ {S : Type 0} (k : BusCalls S) (flushing : Bool) (timeout : ℕ) (now next : Writing S) where
  others-left : (front : ℕ) (others : List ℕ) (status : Result (Unit {0}) TransferError) → now.writer.endpoint.pending ≡ front ∷ others → taken_once k timeout now ≡ (Took status, next) → next.writer.endpoint.pending ≡ others
  others-left front others status was is =
      let mid = waited k (front_of now.writer.endpoint.pending) timeout now.bus in
      left-if k now.writer mid now.writer.endpoint front others _ status next
      (subst (λ (ts : List ℕ). wait_kept now.writer (polled_of k mid now.writer.endpoint ts) ≡ (Took status, next)) was is)

  -- the first of those that are left
  drained-next : (came : Taken) (front : ℕ) (others : List ℕ) → waits_on flushing now.writer ≡ true → taken_once k timeout now ≡ (came, next)
      → drained_of k flushing timeout (front ∷ others) now ≡ after_front came next (drained_of k flushing timeout others)
  drained-next came front others goes is =
      ap (λ (b : Bool). drained_if b (λ w. after_front (taken_once k timeout w).0 (taken_once k timeout w).1 (drained_of k flushing timeout others)) now) goes
      ∙ ap (λ (p : Taken × Writing S). after_front p.0 p.1 (drained_of k flushing timeout others)) is

  -- it went well
  more-of : (ts : List ℕ) → now.writer.endpoint.pending ≡ ts → 0 < length ts → waits_on flushing now.writer ≡ true → taken_once k timeout now ≡ (Took (Ok tt), next)
      → drained_of k flushing timeout ts now ≡ drained_of k flushing timeout next.writer.endpoint.pending next
  more-of [] was some goes is = absurd (omega arith)
  more-of (front ∷ others) was some goes is =
      drained-next (Took (Ok tt)) front others goes is
      ∙ ap (λ (ts : List ℕ). drained_of k flushing timeout ts next) (sym (others-left front others (Ok tt) was is))

  -- it failed
  failed-of : (ts : List ℕ) (e : TransferError) → 0 < length ts → waits_on flushing now.writer ≡ true → taken_once k timeout now ≡ (Took (Err e), next)
      → drained_of k flushing timeout ts now ≡ answered (Err (Transfer e)) next
  failed-of [] e some goes is = absurd (omega arith)
  failed-of (front ∷ others) e some goes is = drained-next (Took (Err e)) front others goes is

  -- it was not there
  missed-of : (ts : List ℕ) → 0 < length ts → waits_on flushing now.writer ≡ true → taken_once k timeout now ≡ (NotCome, next)
      → drained_of k flushing timeout ts now ≡ answered (Err TimedOut) next
  missed-of [] some goes is = absurd (omega arith)
  missed-of (front ∷ others) some goes is = drained-next NotCome front others goes is

  -- what a call comes to (whole) is what is left from here on
  module _ (whole : Drained S) (so_far : whole ≡ drained_of k flushing timeout now.writer.endpoint.pending now) (test : Bool) (tells : test ≡ waits_on flushing now.writer) (some : test ≡ true → 0 < length now.writer.endpoint.pending) (yes_ : test ≡ true) where
    pub drained-more : taken_once k timeout now ≡ (Took (Ok tt), next) → whole ≡ drained_of k flushing timeout next.writer.endpoint.pending next
    drained-more is = so_far ∙ more-of now.writer.endpoint.pending refl (some yes_) (sym tells ∙ yes_) is

    pub drained-failed : (e : TransferError) → taken_once k timeout now ≡ (Took (Err e), next) → whole ≡ answered (Err (Transfer e)) next
    drained-failed e is = so_far ∙ failed-of now.writer.endpoint.pending e (some yes_) (sym tells ∙ yes_) is

    pub drained-missed : taken_once k timeout now ≡ (NotCome, next) → whole ≡ answered (Err TimedOut) next
    drained-missed is = so_far ∙ missed-of now.writer.endpoint.pending (some yes_) (sym tells ∙ yes_) is

-- none is to be taken
done-of : {S : Type 0} (k : BusCalls S) (flushing : Bool) (timeout : ℕ) (ts : List ℕ) (now : Writing S) → waits_on flushing now.writer ≡ false → drained_of k flushing timeout ts now ≡ answered (Ok tt) now
done-of k flushing timeout [] now done = refl
done-of k flushing timeout (front ∷ others) now done =
    ap (λ (b : Bool). drained_if b (λ w. after_front (taken_once k timeout w).0 (taken_once k timeout w).1 (drained_of k flushing timeout others)) now) done

pub drained-done : {S : Type 0} (k : BusCalls S) (flushing : Bool) (timeout : ℕ) (now : Writing S) → waits_on flushing now.writer ≡ false → drained_of k flushing timeout now.writer.endpoint.pending now ≡ answered (Ok tt) now
drained-done k flushing timeout now done = done-of k flushing timeout now.writer.endpoint.pending now done

-- all that are pending to begin with
pub drained-first : {S : Type 0} (k : BusCalls S) (flushing : Bool) (timeout : ℕ) (w : Writing S) → drained k flushing timeout w ≡ drained_of k flushing timeout w.writer.endpoint.pending w
unfolding drained
drained-first k flushing timeout w = refl
