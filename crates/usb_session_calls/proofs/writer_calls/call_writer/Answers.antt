use Rattle.std.proofs.Common.{[], ◌∷◌}
use Rattle.usb_io.specs.Writes.{Flush, Finish}
use Rattle.usb_io.specs.Carried.{begun_calls}
use Rattle.usb_io.specs.WriteAnswers.{flush_came, flush_end_came, poll_flush_end_came, submit_came, submit_end_came}
use Rattle.usb_device_host.specs.HostCalls.{host_calls}
use Rattle.usb_session_streams.specs.Needs.{flush_need, finish_need, poll_finish_need}
use Rattle.usb_session_streams.specs.Printed.{written_line, flushed_line, poll_line, submitted_to}
use Rattle.usb_session_calls.proofs.ReaderCode.{keeps-rest}
use Rattle.usb_session_calls.proofs.WriterCode.{keeps-writer, write-answers, writer-answers}
use Rattle.usb_session_calls.proofs.writer_calls.call_writer.Goals as goal

pub returns-in-Write-clause-keeps : goal.returns-in-Write-clause-keeps
returns-in-Write-clause-keeps c = keeps-writer _ _ c.write.ensures.keeps

pub returns-in-Write-clause-answered : goal.returns-in-Write-clause-answered
returns-in-Write-clause-answered c =
    rw c.in-Write.is (write-answers (λ z. z.timeout) c.in-Write.bytes _ written_line _ _ _ _ c.args.line.now c.write.new.line c.write.result c.as_slice.ensures.value c.write.ensures.printed)

pub returns-in-PollWrite-clause-keeps : goal.returns-in-PollWrite-clause-keeps
returns-in-PollWrite-clause-keeps c = keeps-writer _ _ c.poll_write.ensures.keeps

pub returns-in-PollWrite-clause-answered : goal.returns-in-PollWrite-clause-answered
returns-in-PollWrite-clause-answered c =
    rw c.in-PollWrite.is (write-answers (λ z. 0) c.in-PollWrite.bytes _ (poll_line written_line) _ _ _ _ c.args.line.now c.poll_write.new.line c.poll_write.result c.as_slice-in-PollWrite.ensures.value c.poll_write.ensures.printed)

pub returns-in-Submit-clause-keeps : goal.returns-in-Submit-clause-keeps
returns-in-Submit-clause-keeps c = keeps-writer _ _ c.submit.ensures.keeps

pub returns-in-Submit-clause-answered : goal.returns-in-Submit-clause-answered
returns-in-Submit-clause-answered c =
    rw c.in-Submit.is (writer-answers (λ v. submitted_to (submit_came host_calls v)) flush_need (λ z r. Flush ∷ []) flushed_line _ _ _ _ c.args.line.now c.submit.new.line c.submit.result c.submit.ensures.printed)

pub returns-in-SubmitEnd-clause-keeps : goal.returns-in-SubmitEnd-clause-keeps
returns-in-SubmitEnd-clause-keeps c = keeps-writer _ _ c.submit_end.ensures.keeps

pub returns-in-SubmitEnd-clause-answered : goal.returns-in-SubmitEnd-clause-answered
returns-in-SubmitEnd-clause-answered c =
    rw c.in-SubmitEnd.is (writer-answers (λ v. submitted_to (submit_end_came host_calls v)) finish_need (λ z r. Finish ∷ []) flushed_line _ _ _ _ c.args.line.now c.submit_end.new.line c.submit_end.result c.submit_end.ensures.printed)

pub returns-in-Flush-clause-keeps : goal.returns-in-Flush-clause-keeps
returns-in-Flush-clause-keeps c = keeps-writer _ _ c.flush.ensures.keeps

pub returns-in-Flush-clause-answered : goal.returns-in-Flush-clause-answered
returns-in-Flush-clause-answered c =
    rw c.in-Flush.is (writer-answers (λ v. flush_came host_calls v.writer.timeout v) flush_need (λ z r. Flush ∷ []) flushed_line _ _ _ _ c.args.line.now c.flush.new.line c.flush.result c.flush.ensures.printed)

pub returns-in-PollFlush-clause-keeps : goal.returns-in-PollFlush-clause-keeps
returns-in-PollFlush-clause-keeps c = keeps-writer _ _ c.poll_flush.ensures.keeps

pub returns-in-PollFlush-clause-answered : goal.returns-in-PollFlush-clause-answered
returns-in-PollFlush-clause-answered c =
    rw c.in-PollFlush.is (writer-answers (λ v. flush_came host_calls 0 v) flush_need (λ z r. Flush ∷ []) (poll_line flushed_line) _ _ _ _ c.args.line.now c.poll_flush.new.line c.poll_flush.result c.poll_flush.ensures.printed)

pub returns-in-FlushEnd-clause-keeps : goal.returns-in-FlushEnd-clause-keeps
returns-in-FlushEnd-clause-keeps c = keeps-writer _ _ c.flush_end.ensures.keeps

pub returns-in-FlushEnd-clause-answered : goal.returns-in-FlushEnd-clause-answered
returns-in-FlushEnd-clause-answered c =
    rw c.in-FlushEnd.is (writer-answers (λ v. flush_end_came host_calls v.writer.timeout v) finish_need (λ z r. Finish ∷ []) flushed_line _ _ _ _ c.args.line.now c.flush_end.new.line c.flush_end.result c.flush_end.ensures.printed)

pub returns-in-PollFlushEnd-clause-keeps : goal.returns-in-PollFlushEnd-clause-keeps
returns-in-PollFlushEnd-clause-keeps c = keeps-writer _ _ c.poll_flush_end.ensures.keeps

pub returns-in-PollFlushEnd-clause-answered : goal.returns-in-PollFlushEnd-clause-answered
returns-in-PollFlushEnd-clause-answered c =
    rw c.in-PollFlushEnd.is (writer-answers (poll_flush_end_came host_calls) poll_finish_need (λ z r. begun_calls z.begun) (poll_line flushed_line) _ _ _ _ c.args.line.now c.poll_flush_end.new.line c.poll_flush_end.result c.poll_flush_end.ensures.printed)

pub returns-in-SetNumTransfers-clause-keeps : goal.returns-in-SetNumTransfers-clause-keeps
returns-in-SetNumTransfers-clause-keeps c = keeps-rest c.args.host.now _ _ c.requires.stands c.transfers_open.ensures.endpoint

pub returns-in-SetNumTransfers-clause-answered : goal.returns-in-SetNumTransfers-clause-answered
returns-in-SetNumTransfers-clause-answered c = rw c.in-SetNumTransfers.is (c.transfers_open.ensures.answered c.args.host.now)

pub returns-in-SetWriteTimeout-clause-keeps : goal.returns-in-SetWriteTimeout-clause-keeps
returns-in-SetWriteTimeout-clause-keeps c = keeps-rest c.args.host.now _ _ c.requires.stands c.timeout_open.ensures.endpoint

pub returns-in-SetWriteTimeout-clause-answered : goal.returns-in-SetWriteTimeout-clause-answered
returns-in-SetWriteTimeout-clause-answered c = rw c.in-SetWriteTimeout.is (c.timeout_open.ensures.answered c.args.host.now)
