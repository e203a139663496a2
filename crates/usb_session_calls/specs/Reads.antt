-- The calls that read from a reader: each is the reader's own (`Plain`), or stops at a short packet (`UntilShort`).
use Rattle.std.specs.Prelude.{ℕ, ◌++◌, nat_lt, Bool, true, false, List, [], ◌∷◌, length, take, map, Option, None, Result, Ok, Err, if◌then◌else◌}
use Rattle.std.specs.Option.{option_map}
use Rattle.usb_io.specs.Readers.{ReaderState, with_read, without_end, is_end}
use Rattle.usb_io.specs.Reads.{reading}
use Rattle.usb_io.specs.Streams.{Mark, Byte, End}
use Rattle.usb_io.specs.declared.fault.ReadFault.{ReadFault}
use Rattle.usb_io.specs.declared.fault.ReadFault.TheVariants.{TimedOut}
use Rattle.usb_io.specs.Answers.{Read, fill_came, read_came}
use Rattle.usb_device_host.specs.HostState.{HostState}
use Rattle.usb_device_host.specs.HostCalls.{host_calls}
use Rattle.usb_session_streams.specs.ReadNeeds.{read_need}
use Rattle.usb_session_streams.specs.ReaderCalls.{given_by}
use Rattle.usb_session_streams.specs.Faults.{read_fault_line}
use Rattle.usb_session_streams.specs.Reads.{consumed_end_line}
use Rattle.usb_session_text.specs.Controls.{pending_line}
use Rattle.usb_script_words.specs.declared.framing.Framing.{Framing}
use Rattle.usb_script_words.specs.declared.framing.Framing.TheVariants.{Plain, UntilShort}
use Rattle.usb_session_calls.specs.Names.{change_named}
use Rattle.usb_session_calls.specs.State.{State, Reader}
use Rattle.usb_session_calls.specs.Readers.{called}
use Rattle.usb_session_streams.specs.Needs.{bars_need}
use Rattle.usb_session_calls.specs.Answer.{Answer, answer_with, condition_answer, ok_answer}

-- whether a call stops at a short packet
abbrev pub is_until_short : Framing → Bool
is_until_short Plain = false
is_until_short UntilShort = true

-- what was consumed, with these items too. A plain call ends that a reader is framed
abbrev pub consumed_with : Framing → List Mark → Option (List Mark) → Option (List Mark)
consumed_with Plain items consumed = None
consumed_with UntilShort items consumed = option_map (λ before. before ++ items) consumed

-- how many submissions a call may need
abbrev pub need_of : Framing → ReaderState → ℕ
need_of framing r = read_need (is_until_short framing) r

-- whether a reading call is barred
abbrev pub bars_read : State → Framing → Reader → Bool
bars_read state framing x = bars_need state.host.kernel.past (length x.state.endpoint.pending) (need_of framing x.state)

-- the line of what a read took, or of what stands, or of why there is nothing
abbrev pub given_line : (List ℕ → List ℕ) → Result (List ℕ) ReadFault → List ℕ
given_line line (Ok bytes) = line bytes
given_line line (Err fault) = read_fault_line fault

-- a poll is pending where the time was up
abbrev pub polled_given_line : (List ℕ → List ℕ) → Result (List ℕ) ReadFault → List ℕ
polled_given_line line (Err TimedOut) = pending_line
polled_given_line line answer = given_line line answer

-- a call that takes the bytes that it gives
abbrev pub read_as : State → Framing → ℕ → Reader → (Result (List ℕ) ReadFault → List ℕ) → Read HostState → Answer
read_as state framing r x line a =
    answer_with (called state r (consumed_with framing (map Byte (given_by a.answer)) x.consumed) (given_by a.answer) a.left) (line a.answer)

-- one that lends them
abbrev pub filled_as : State → Framing → ℕ → Reader → (Result (List ℕ) ReadFault → List ℕ) → Read HostState → Answer
filled_as state framing r x line a = answer_with (called state r (consumed_with framing [] x.consumed) [] a.left) (line a.answer)

-- a read of at most so many bytes, which waits for at most so many nanoseconds where none stand
abbrev pub read_on : State → Framing → ℕ → ℕ → ℕ → (Result (List ℕ) ReadFault → List ℕ) → Reader → Answer
read_on state framing r most timeout line x =
    if bars_read state framing x then condition_answer state
    else read_as state framing r x line (read_came host_calls (is_until_short framing) timeout most (reading state.host x.state))

-- the bytes that stand, with such a wait where none do
abbrev pub fill_on : State → Framing → ℕ → ℕ → (Result (List ℕ) ReadFault → List ℕ) → Reader → Answer
fill_on state framing r timeout line x =
    if bars_read state framing x then condition_answer state
    else filled_as state framing r x line (fill_came host_calls (is_until_short framing) timeout (reading state.host x.state))

-- a reader as a call left it that asks nothing of the host, these items consumed, and these bytes handed over
abbrev pub read_off : State → Framing → ℕ → Reader → List Mark → List ℕ → ReaderState → State
read_off state framing r x items bytes left =
    record state {
      readers = change_named (λ y. record y { state = left; given = y.given ++ bytes; consumed = consumed_with framing items x.consumed })
          state.readers r;
    }

-- bytes are taken off, of those that stand
abbrev pub consume_on : State → Framing → ℕ → ℕ → Reader → Answer
consume_on state framing r n x =
    if nat_lt (length x.state.unread) n then condition_answer state
    else ok_answer (read_off state framing r x (map Byte (take n x.state.unread)) (take n x.state.unread) (with_read n x.state))

-- the end is taken off, where it is next
abbrev pub consume_end_on : State → ℕ → Reader → Answer
consume_end_on state r x =
    if is_end x.state
    then answer_with (read_off state UntilShort r x (End ∷ []) [] (without_end x.state)) (consumed_end_line (Ok tt))
    else answer_with state (consumed_end_line (Err (record {})))
