-- Calls on a reader. They are barred where it is not open. A poll is a wait of no time.
use Rattle.std.specs.Prelude.{ℕ}
use Rattle.usb_io.specs.Readers.{is_end}
use Rattle.usb_session_streams.specs.Reads.{read_line, buffer_line, is_end_line}
use Rattle.usb_session_calls.specs.declared.call.ReaderCall.{ReaderCall}
use Rattle.usb_session_calls.specs.declared.call.ReaderCall.TheVariants.{Read, PollRead, FillBuf, PollFillBuf, Consume, IsEnd, ConsumeEnd, SetNumTransfers, SetReadTimeout, Cancel, ClearHalt}
use Rattle.usb_session_calls.specs.Names.{named}
use Rattle.usb_session_calls.specs.State.{State, Reader}
use Rattle.usb_session_calls.specs.Answer.{Answer, answer_with, condition_answer, if_open}
use Rattle.usb_session_calls.specs.Readers.{num_on, timeout_on, cancel_reader_on}
use Rattle.usb_session_calls.specs.Halts.{reader_halt_cleared}
use Rattle.usb_session_calls.specs.Reads.{given_line, polled_given_line, read_on, fill_on, consume_on, consume_end_on}

-- each call at a reader that is open (x)
abbrev pub reader_called : ReaderCall → State → ℕ → Reader → Answer
reader_called (Read framing most) state r x = read_on state framing r most x.state.timeout (given_line read_line) x
reader_called (PollRead framing most) state r x = read_on state framing r most 0 (polled_given_line read_line) x
reader_called (FillBuf framing) state r x = fill_on state framing r x.state.timeout (given_line buffer_line) x
reader_called (PollFillBuf framing) state r x = fill_on state framing r 0 (polled_given_line buffer_line) x
reader_called (Consume framing n) state r x = consume_on state framing r n x
reader_called IsEnd state r x = answer_with state (is_end_line (is_end x.state))
reader_called ConsumeEnd state r x = consume_end_on state r x
reader_called (SetNumTransfers n) state r x = num_on state r n x
reader_called (SetReadTimeout timeout) state r x = timeout_on state r timeout
reader_called Cancel state r x = cancel_reader_on state r x
reader_called ClearHalt state r x = reader_halt_cleared state r x

-- by the reader's name
unfoldable pub on_reader : State → ℕ → ReaderCall → Answer
on_reader state r call = if_open (named state.readers r) (reader_called call state r) (condition_answer state)
