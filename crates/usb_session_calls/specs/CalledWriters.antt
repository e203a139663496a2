-- Calls on a writer. They are barred where it is not open. A poll is a wait of no time.
use Rattle.std.specs.Prelude.{ℕ}
use Rattle.usb_device_host.specs.HostCalls.{host_calls}
use Rattle.usb_io.specs.WriteAnswers.{flush_came, flush_end_came, submit_came, submit_end_came}
use Rattle.usb_session_streams.specs.Printed.{written_line, flushed_line, poll_line, submitted_to}
use Rattle.usb_session_calls.specs.declared.call.WriterCall.{WriterCall}
use Rattle.usb_session_calls.specs.declared.call.WriterCall.TheVariants.{Write, PollWrite, Submit, SubmitEnd, Flush, PollFlush, FlushEnd, PollFlushEnd, SetNumTransfers, SetWriteTimeout}
use Rattle.usb_session_calls.specs.Names.{named}
use Rattle.usb_session_calls.specs.State.{State, Writer}
use Rattle.usb_session_calls.specs.Answer.{Answer, condition_answer, if_open}
use Rattle.usb_session_calls.specs.Writers.{transfers_on, write_timeout_on}
use Rattle.usb_session_calls.specs.Writes.{writing_at, write_on, flush_as, finish_as, poll_finish_on}

-- each call at a writer that is open (x)
abbrev pub writer_called : WriterCall → State → ℕ → Writer → Answer
writer_called (Write bytes) state w x = write_on state w bytes x written_line x.state.timeout
writer_called (PollWrite bytes) state w x = write_on state w bytes x (poll_line written_line) 0
writer_called Submit state w x = flush_as state w x flushed_line (submitted_to (submit_came host_calls (writing_at state x)))
writer_called SubmitEnd state w x = finish_as state w x flushed_line (submitted_to (submit_end_came host_calls (writing_at state x)))
writer_called Flush state w x = flush_as state w x flushed_line (flush_came host_calls x.state.timeout (writing_at state x))
writer_called PollFlush state w x = flush_as state w x (poll_line flushed_line) (flush_came host_calls 0 (writing_at state x))
writer_called FlushEnd state w x = finish_as state w x flushed_line (flush_end_came host_calls x.state.timeout (writing_at state x))
writer_called PollFlushEnd state w x = poll_finish_on state w x (poll_line flushed_line)
writer_called (SetNumTransfers n) state w x = transfers_on state w n
writer_called (SetWriteTimeout timeout) state w x = write_timeout_on state w timeout

-- by the writer's name
unfoldable pub on_writer : State → ℕ → WriterCall → Answer
on_writer state w call = if_open (named state.writers w) (writer_called call state w) (condition_answer state)
