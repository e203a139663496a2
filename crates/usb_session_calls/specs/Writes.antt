-- The calls of a writer that submit or take transfers. They are barred where the submissions that they may need are.
use Rattle.std.specs.Prelude.{ℕ, List, [], ◌∷◌, ◌++◌, Option, Result, if◌then◌else◌}
use Rattle.std.specs.Option.{option_map}
use Rattle.usb_device_host.specs.HostState.{HostState}
use Rattle.usb_io.specs.declared.fault.WriteFault.{WriteFault}
use Rattle.usb_io.specs.Writers.{Writing, writing}
use Rattle.usb_io.specs.Writes.{Call, Flush, Finish}
use Rattle.usb_io.specs.Carried.{written_calls, begun_calls}
use Rattle.usb_io.specs.Answered.{Answered}
use Rattle.usb_io.specs.WriteAnswers.{write_came, poll_flush_end_came}
use Rattle.usb_device_host.specs.HostCalls.{host_calls}
use Rattle.usb_session_streams.specs.Told.{WriterCalls, with_calls, failures_of}
use Rattle.usb_session_streams.specs.Needs.{bars_call, write_need, flush_need, finish_need, poll_finish_need}
use Rattle.usb_session_calls.specs.Names.{change_named}
use Rattle.usb_session_calls.specs.State.{State, Writer, tickets_of, with_host}
use Rattle.usb_session_calls.specs.Readers.{taken_by_call}
use Rattle.usb_session_calls.specs.Answer.{Answer, answer_with, condition_answer}

-- a writer with the host of its session
abbrev pub writing_at : State → Writer → Writing HostState
writing_at state x = writing state.host x.state

-- the state behind a call of a writer, by what the call left of host and writer, and the calls that were accepted then
abbrev pub left_by_writer : State → ℕ → Option WriterCalls → Writing HostState → State
left_by_writer state w calls v =
    record state {
      host = v.bus;
      writers = change_named (λ x. record {
        state = v.writer;
        taken = x.taken ++ taken_by_call (tickets_of state) (tickets_of (with_host state v.bus)) x.state.endpoint.pending v.writer.endpoint.pending;
        calls = calls;
      }) state.writers w;
    }

-- a call that may need so many submissions, counts as these accepted calls, prints this line and answers so
abbrev pub called_as : {A : Type 0} → State → ℕ → Writer → ℕ → List Call → (Result A WriteFault → List ℕ) → Answered A WriteFault (Writing HostState) → Answer
called_as state w x need calls line a =
    if bars_call (writing_at state x) need then condition_answer state
    else answer_with (left_by_writer state w (option_map (with_calls calls (failures_of a.answer)) x.calls) a.left) (line a.answer)

-- a write of bytes (src) counts as those that it accepted
abbrev pub write_on : State → ℕ → List ℕ → Writer → (Result ℕ WriteFault → List ℕ) → ℕ → Answer
write_on state w src x line timeout =
    let came = write_came host_calls timeout src (writing_at state x) in
    called_as state w x (write_need x.state) (written_calls src came.answer) line came

-- a flush of what stands, and a submission, which is a flush that waits for nothing
abbrev pub flush_as : State → ℕ → Writer → (Result Unit WriteFault → List ℕ) → Answered Unit WriteFault (Writing HostState) → Answer
flush_as state w x line a = called_as state w x (flush_need x.state) (Flush ∷ []) line a

-- the end of a message, with a flush or with none
abbrev pub finish_as : State → ℕ → Writer → (Result Unit WriteFault → List ℕ) → Answered Unit WriteFault (Writing HostState) → Answer
finish_as state w x line a = called_as state w x (finish_need x.state) (Finish ∷ []) line a

-- a poll ends the message where no end has begun
abbrev pub poll_finish_on : State → ℕ → Writer → (Result Unit WriteFault → List ℕ) → Answer
poll_finish_on state w x line =
    called_as state w x (poll_finish_need x.state) (begun_calls x.state.begun) line (poll_flush_end_came host_calls (writing_at state x))
