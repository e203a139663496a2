-- What writes and flushes answer, by the fronts that they took.
use Rattle.std.proofs.Common.{ℕ, ◌≡◌, ◌≢◌, ◌∙◌, true, List, Ok, Err, refl, ap, sym}
use Rattle.usb_device_endpoint.specs.BusCalls.{BusCalls}
use Rattle.usb_io.specs.declared.fault.WriteFault.{WriteFault}
use Rattle.usb_io.specs.declared.fault.WriteFault.TheVariants.{Transfer, TimedOut}
use Rattle.usb_io.specs.Answered.{answered}
use Rattle.usb_io.specs.Fronts.{Drained, drained}
use Rattle.usb_io.specs.Writers.{Writing, not_begun}
use Rattle.usb_io.specs.WriteAnswers.{accepted_count, accepts, AcceptsNone, accepting_of, write_drained, write_came, WriteShort, begun_end, ending_of, poll_flush_end_came}

module _ {S : Type 0} (k : BusCalls S) (timeout : ℕ) (src : List ℕ) (old mid new : Writing S) where
  -- a write accepted so many bytes behind them
  pub write-wrote : (n : ℕ) → write_drained k timeout old ≡ answered (Ok tt) mid → n ≡ accepted_count src mid.writer → new ≡ accepts k src mid → write_came k timeout src old ≡ answered (Ok n) new
  write-wrote n came count is =
      ap (accepting_of k src) came
      ∙ ap (λ (m : ℕ). answered (Ok m) (accepts k src mid)) (sym count)
      ∙ ap (λ (w : Writing S). answered (Ok n) w) (sym is)

  -- or found no memory for it
  pub write-short : write_drained k timeout old ≡ answered (Ok tt) mid → AcceptsNone src mid new → WriteShort k timeout src old new
  write-short came none = record { drained = ap (λ (d : Drained S). d.answer) came; none = rw came none }

-- a front failed, or was not there
pub write-failed : {S : Type 0} (k : BusCalls S) (timeout : ℕ) (src : List ℕ) (old new : Writing S) (f : WriteFault) → write_drained k timeout old ≡ answered (Err f) new → write_came k timeout src old ≡ answered (Err f) new
write-failed k timeout src old new f came = ap (accepting_of k src) came

-- a call took fronts from here (start) on
pub drained-from : {S : Type 0} (k : BusCalls S) (timeout : ℕ) (start first : Writing S) (d : Drained S) → start ≡ first → drained k true timeout start ≡ d → drained k true timeout first ≡ d
drained-from k timeout start first d same is = ap (drained k true timeout) (sym same) ∙ is

module _ {S : Type 0} (k : BusCalls S) (old start mid new : Writing S) (begins : start ≡ begun_end k old) where
  -- a poll to an end took all of them, and begins anew
  pub poll_end-done : drained k true 0 start ≡ answered (Ok tt) mid → new ≡ not_begun mid → poll_flush_end_came k old ≡ answered (Ok tt) new
  poll_end-done came is = ap ending_of (drained-from k 0 start (begun_end k old) (answered (Ok tt) mid) begins came) ∙ ap (λ (w : Writing S). answered (Ok tt) w) (sym is)

  failed-end : (f : WriteFault) → f ≢ TimedOut → ending_of (answered (Err f) mid) ≡ answered (Err f) (not_begun mid)
  failed-end (Transfer e) in_time = refl
  failed-end TimedOut in_time = absurd (in_time refl)

  -- or one failed, and it begins anew
  pub poll_end-failed : (f : WriteFault) → f ≢ TimedOut → drained k true 0 start ≡ answered (Err f) mid → new ≡ not_begun mid → poll_flush_end_came k old ≡ answered (Err f) new
  poll_end-failed f in_time came is =
      ap ending_of (drained-from k 0 start (begun_end k old) (answered (Err f) mid) begins came)
      ∙ failed-end f in_time
      ∙ ap (λ (w : Writing S). answered (Err f) w) (sym is)

  -- or one was not there
  pub poll_end-waits : drained k true 0 start ≡ answered (Err TimedOut) mid → poll_flush_end_came k old ≡ answered (Err TimedOut) mid
  poll_end-waits came = ap ending_of (drained-from k 0 start (begun_end k old) (answered (Err TimedOut) mid) begins came)
