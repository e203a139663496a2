-- What a call on a writer at a host leaves, whatever it answered: so much of the line is taken, and so much stays open.
use Rattle.std.proofs.Common.{◌≡◌, ℕ, List, Option, Some, None, Result, Ok, Err, sym, subst, inl, inr}
use Rattle.std.specs.Prelude.{IfOk, IfErr, OnOk, OnErr}
use Rattle.usb_desc.specs.declared.error.Fail.{Fail}
use Rattle.usb_desc.specs.declared.error.Fail.TheVariants.{Cause, Memory}
use Rattle.usb_device_host.specs.HostState.{HostState}
use Rattle.usb_device_host.specs.HostCalls.{host_calls}
use Rattle.usb_io.specs.Answered.{Answered, answered, FailedAs}
use Rattle.usb_io.specs.Writers.{Writing, not_begun, out_buffer, EndShort}
use Rattle.usb_io.specs.WriteAnswers.{or_empty, AcceptsNone, SubmitShort, write_drained, write_came, WriteShort, WriteFails, submit_came, submit_end_came, SubmitEndShort, flush_came, FlushFails, flush_end_came, FlushEndFails, poll_flush_end_came, PolledEndShort, PollFlushEndFails}
use Rattle.usb_io.specs.declared.fault.WriteFault.{WriteFault}
use Rattle.usb_session_streams.specs.WriterCalls.{WriterGoesOn}
use Rattle.usb_session_streams.proofs.WritesGoOn.{call-same, call-trans, call-set, call-not_begun, call-send, call-write_drained, write_goes_on, flush_goes_on, flush_end_goes_on, poll_flush_end_goes_on, submit_goes_on, submit_end_goes_on}

-- a call leaves what a function says; or memory was lacking
module _ {A : Type 0} (a : Answered A WriteFault (Writing HostState)) (short : Type 0) (old new : Writing HostState) (goes : WriterGoesOn old a.left) (none : short → WriterGoesOn old new) where
  left-goes : (r : Result A WriteFault) → a ≡ answered r new → WriterGoesOn old new
  left-goes r is = subst (λ (b : Answered A WriteFault (Writing HostState)). WriterGoesOn old b.left) is goes

  failed-goes : (e : Fail WriteFault) → FailedAs a short new e → WriterGoesOn old new
  failed-goes (Cause f) fails = left-goes (Err f) fails
  failed-goes Memory fails = none fails

  answered-goes : (r : Result A (Fail WriteFault)) → IfOk r (λ x. a ≡ answered (Ok x) new) → IfErr r (FailedAs a short new) → WriterGoesOn old new
  answered-goes (Ok x) gives fails = left-goes (Ok x) gives
  answered-goes (Err e) gives fails = failed-goes e fails

-- so does one that gives nothing
module _ (a : Answered (Unit {0}) WriteFault (Writing HostState)) (short : Type 0) (old new : Writing HostState) (goes : WriterGoesOn old a.left) (none : short → WriterGoesOn old new) where
  done-goes : (r : Result (Unit {0}) (Fail WriteFault)) → OnOk r (a ≡ answered (Ok tt) new) → IfErr r (FailedAs a short new) → WriterGoesOn old new
  done-goes (Ok u) gives fails = left-goes a short old new goes none (Ok tt) gives
  done-goes (Err e) gives fails = failed-goes a short old new goes none e fails

-- what a lack of memory leaves: no byte is accepted; nothing is submitted; or an end is without its
-- empty transfer
call-accepts_none : (src : List ℕ) (old new : Writing HostState) → AcceptsNone src old new → WriterGoesOn old new
call-accepts_none src old new (inl none) = subst (WriterGoesOn old) (sym none.1) (call-same old)
call-accepts_none src old new (inr full) = subst (WriterGoesOn old) (sym full.1) (call-set old (or_empty old.writer.buffer) old.writer.begun)

call-unbegun : (old new : Writing HostState) → SubmitShort old new → WriterGoesOn old new
call-unbegun old new short = subst (WriterGoesOn old) (sym short.none) (call-not_begun old)

call-short : (o : Option (List ℕ)) (old new : Writing HostState) → EndShort host_calls o old new → WriterGoesOn old new
call-short None old new is = subst (WriterGoesOn old) (sym is) (call-same old)
call-short (Some bytes) old new (inl is) = subst (WriterGoesOn old) (sym is) (call-same old)
call-short (Some bytes) old new (inr h) = subst (WriterGoesOn old) (sym h.1) (call-send old (out_buffer old.writer.size bytes))

pub call-end_short : (old new : Writing HostState) → SubmitEndShort host_calls old new → WriterGoesOn old new
call-end_short old new short = call-trans old (not_begun old) new (call-not_begun old) (call-short old.writer.buffer (not_begun old) new short)

pub call-write_short : (timeout : ℕ) (src : List ℕ) (old new : Writing HostState) → WriteShort host_calls timeout src old new → WriterGoesOn old new
call-write_short timeout src old new short =
    let left = (write_drained host_calls timeout old).left in call-trans old left new (call-write_drained timeout old) (call-accepts_none src left new short.none)

-- writes (a poll is a wait of no time)
pub write-goes : (timeout : ℕ) (src : List ℕ) (old new : Writing HostState) (r : Result ℕ (Fail WriteFault)) → IfOk r (λ n. write_came host_calls timeout src old ≡ answered (Ok n) new) → IfErr r (WriteFails host_calls timeout src old new) → WriterGoesOn old new
write-goes timeout src old new r wrote failed =
    answered-goes (write_came host_calls timeout src old) (WriteShort host_calls timeout src old new) old new (write_goes_on timeout src old) (call-write_short timeout src old new) r wrote failed

-- submissions
pub submit-goes : {E : Type 0} (r : Result (Unit {0}) E) (old new : Writing HostState) → OnOk r (new ≡ submit_came host_calls old) → OnErr r (SubmitShort old new) → WriterGoesOn old new
submit-goes (Ok u) old new ok err = subst (WriterGoesOn old) (sym ok) (submit_goes_on old)
submit-goes (Err e) old new ok err = call-unbegun old new err

pub submit_end-goes : {E : Type 0} (r : Result (Unit {0}) E) (old new : Writing HostState) → OnOk r (new ≡ submit_end_came host_calls old) → OnErr r (SubmitEndShort host_calls old new) → WriterGoesOn old new
submit_end-goes (Ok u) old new ok err = subst (WriterGoesOn old) (sym ok) (submit_end_goes_on old)
submit_end-goes (Err e) old new ok err = call-end_short old new err

-- flushes
pub flush-goes : (timeout : ℕ) (old new : Writing HostState) (r : Result (Unit {0}) (Fail WriteFault)) → OnOk r (flush_came host_calls timeout old ≡ answered (Ok tt) new) → IfErr r (FlushFails host_calls timeout old new) → WriterGoesOn old new
flush-goes timeout old new r ok failed = done-goes (flush_came host_calls timeout old) (SubmitShort old new) old new (flush_goes_on timeout old) (call-unbegun old new) r ok failed

pub flush_end-goes : (timeout : ℕ) (old new : Writing HostState) (r : Result (Unit {0}) (Fail WriteFault)) → OnOk r (flush_end_came host_calls timeout old ≡ answered (Ok tt) new) → IfErr r (FlushEndFails host_calls timeout old new) → WriterGoesOn old new
flush_end-goes timeout old new r ok failed = done-goes (flush_end_came host_calls timeout old) (SubmitEndShort host_calls old new) old new (flush_end_goes_on timeout old) (call-end_short old new) r ok failed

pub poll_flush_end-goes : (old new : Writing HostState) (r : Result (Unit {0}) (Fail WriteFault)) → OnOk r (poll_flush_end_came host_calls old ≡ answered (Ok tt) new) → IfErr r (PollFlushEndFails host_calls old new) → WriterGoesOn old new
poll_flush_end-goes old new r ok failed =
    done-goes (poll_flush_end_came host_calls old) (PolledEndShort host_calls old new) old new (poll_flush_end_goes_on old) (λ (h : PolledEndShort host_calls old new). call-short old.writer.buffer old new h.short) r ok failed
