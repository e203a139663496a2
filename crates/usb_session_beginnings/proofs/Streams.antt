-- The lines of readers, writers and clients of messages see no place of the kernel.
use Rattle.std.proofs.Common.{Bool, Err, List, Ok, Result, [], ap, false, length, map, nat_lt, refl, take, true, ℕ, ◌-◌, ◌∷◌, ◌≡◌}
use Rattle.std.specs.Option.{option_map}
use Rattle.std.specs.Prelude.{if◌then◌else◌, ◌||◌}
use Rattle.usb_device_host.specs.HostCalls.{host_calls}
use Rattle.usb_device_host.specs.HostState.{HostState}
use Rattle.usb_io.specs.Answered.{Answered}
use Rattle.usb_io.specs.Answers.{fill_came, read_came}
use Rattle.usb_io.specs.Carried.{begun_calls, written_calls}
use Rattle.usb_io.specs.Readers.{is_end, with_read, without_end}
use Rattle.usb_io.specs.Reads.{filled_to, reading}
use Rattle.usb_io.specs.Streams.{Byte, End}
use Rattle.usb_io.specs.WriteAnswers.{flush_came, flush_end_came, poll_flush_end_came, submit_came, submit_end_came, write_came}
use Rattle.usb_io.specs.Writers.{Writing}
use Rattle.usb_io.specs.Writes.{Call, Finish, Flush}
use Rattle.usb_io.specs.declared.fault.ReadFault.{ReadFault}
use Rattle.usb_io.specs.declared.fault.WriteFault.{WriteFault}
use Rattle.usb_msg.specs.Requests.{requested}
use Rattle.usb_msg.specs.Responses.{responded}
use Rattle.usb_script_words.specs.declared.framing.Framing.{Framing}
use Rattle.usb_script_words.specs.declared.framing.Framing.TheVariants.{UntilShort}
use Rattle.usb_session_beginnings.proofs.Clients.{requested-blind, responded-blind}
use Rattle.usb_session_beginnings.proofs.Hosts.{discards-blind}
use Rattle.usb_session_beginnings.proofs.Readers.{fill-blind, filled-blind, read-blind}
use Rattle.usb_session_beginnings.proofs.States.{AnswersBlind, bar-blind, open-blind}
use Rattle.usb_session_beginnings.proofs.Writers.{bare_writing, bare_written, flush-blind, flush_end-blind, poll_flush_end-blind, submit-blind, submit_end-blind, write-blind}
use Rattle.usb_session_calls.specs.Answer.{answer_with, ok_answer}
use Rattle.usb_session_calls.specs.CalledClients.{client_called, on_client}
use Rattle.usb_session_calls.specs.CalledReaders.{on_reader, reader_called}
use Rattle.usb_session_calls.specs.CalledWriters.{on_writer, writer_called}
use Rattle.usb_session_calls.specs.Halts.{reader_halt_cleared}
use Rattle.usb_session_calls.specs.Messages.{messaging_at, request_as, response_as}
use Rattle.usb_session_calls.specs.Names.{change_named, named}
use Rattle.usb_session_calls.specs.Readers.{called, num_on, with_count, with_none}
use Rattle.usb_session_calls.specs.Reads.{bars_read, consume_on, fill_on, filled_as, given_line, is_until_short, polled_given_line, read_as, read_off, read_on}
use Rattle.usb_session_calls.specs.State.{Client, Reader, Writer}
use Rattle.usb_session_calls.specs.Writers.{with_transfers}
use Rattle.usb_session_calls.specs.Writes.{called_as, left_by_writer, writing_at}
use Rattle.usb_session_calls.specs.declared.call.ClientCall.{ClientCall}
use Rattle.usb_session_calls.specs.declared.call.ReaderCall.{ReaderCall}
use Rattle.usb_session_calls.specs.declared.call.WriterCall.{WriterCall}
use Rattle.usb_session_streams.specs.ClientNeeds.{bars_request, bars_response}
use Rattle.usb_session_streams.specs.Needs.{bars_call, bars_need, bars_transfers, finish_need, flush_need, poll_finish_need, write_need}
use Rattle.usb_session_streams.specs.Printed.{flushed_line, poll_line, submitted_to, written_line}
use Rattle.usb_session_streams.specs.Reads.{buffer_line, consumed_end_line, read_line}
use Rattle.usb_session_streams.specs.Told.{failures_of, with_calls}
use Rattle.usb_session_calls.specs.declared.call.ReaderCall.TheVariants as readers
use Rattle.usb_session_calls.specs.declared.call.WriterCall.TheVariants as writers
use Rattle.usb_session_calls.specs.declared.call.ClientCall.TheVariants as clients
use Rattle.usb_kernel.specs.Calls as kernel

-- readers
read_on-blind : (framing : Framing) (r most timeout : ℕ) (line : Result (List ℕ) ReadFault → List ℕ) (x : Reader)
    → AnswersBlind (λ s. read_on s framing r most timeout line x)
read_on-blind framing r most timeout line x s =
    bar-blind s (bars_read s framing x) (λ s. read_as s framing r x line
    (read_came host_calls (is_until_short framing) timeout most (reading s.host x.state)))
    (ap (read_as s framing r x line) (read-blind (is_until_short framing) timeout most (reading s.host x.state)))

fill_on-blind : (framing : Framing) (r timeout : ℕ) (line : Result (List ℕ) ReadFault → List ℕ) (x : Reader)
    → AnswersBlind (λ s. fill_on s framing r timeout line x)
fill_on-blind framing r timeout line x s =
    bar-blind s (bars_read s framing x) (λ s. filled_as s framing r x line
    (fill_came host_calls (is_until_short framing) timeout (reading s.host x.state)))
    (ap (filled_as s framing r x line) (fill-blind (is_until_short framing) timeout (reading s.host x.state)))

consume_on-blind : (framing : Framing) (r n : ℕ) (x : Reader) → AnswersBlind (λ s. consume_on s framing r n x)
consume_on-blind framing r n x s =
    bar-blind s (nat_lt (length x.state.unread) n)
    (λ s. ok_answer (read_off s framing r x (map Byte (take n x.state.unread)) (take n x.state.unread) (with_read n x.state))) refl

end_if-blind : (next : Bool) (r : ℕ) (x : Reader)
    → AnswersBlind (λ s. if next then answer_with (read_off s UntilShort r x (End ∷ []) [] (without_end x.state)) (consumed_end_line (Ok tt))
    else answer_with s (consumed_end_line (Err (record {}))))
end_if-blind true r x s = refl
end_if-blind false r x s = refl

num_on-blind : (r n : ℕ) (x : Reader) → AnswersBlind (λ s. num_on s r n x)
num_on-blind r n x s =
    bar-blind s (nat_lt 64 n || bars_need s.host.kernel.past (length x.state.endpoint.pending) (n - 1 - length x.state.endpoint.pending))
    (λ s. ok_answer (called s r x.consumed [] (filled_to host_calls (n - 1) (reading s.host (with_count n x.state)))))
    (ap (λ w. ok_answer (called s r x.consumed [] w)) (filled-blind (n - 1) (reading s.host (with_count n x.state))))

halt-blind : (r : ℕ) (x : Reader) → AnswersBlind (λ s. reader_halt_cleared s r x)
unfolding kernel.called
halt-blind r x s = refl

reader_called-blind : (r : ℕ) (call : ReaderCall) (x : Reader) → AnswersBlind (λ s. reader_called call s r x)
reader_called-blind r (readers.Read framing most) x = read_on-blind framing r most x.state.timeout (given_line read_line) x
reader_called-blind r (readers.PollRead framing most) x = read_on-blind framing r most 0 (polled_given_line read_line) x
reader_called-blind r (readers.FillBuf framing) x = fill_on-blind framing r x.state.timeout (given_line buffer_line) x
reader_called-blind r (readers.PollFillBuf framing) x = fill_on-blind framing r 0 (polled_given_line buffer_line) x
reader_called-blind r (readers.Consume framing n) x = consume_on-blind framing r n x
reader_called-blind r readers.IsEnd x = λ s. refl
reader_called-blind r readers.ConsumeEnd x = end_if-blind (is_end x.state) r x
reader_called-blind r (readers.SetNumTransfers n) x = num_on-blind r n x
reader_called-blind r (readers.SetReadTimeout timeout) x = λ s. refl
reader_called-blind r readers.Cancel x = λ s.
    ap (λ g. ok_answer (record s { host = g; readers = change_named with_none s.readers r })) (discards-blind x.state.endpoint.pending s.host)
reader_called-blind r readers.ClearHalt x = halt-blind r x

pub on_reader-blind : (r : ℕ) (call : ReaderCall) → AnswersBlind (λ s. on_reader s r call)
unfolding on_reader
on_reader-blind r call s = open-blind s (named s.readers r) (λ s. reader_called call s r) (λ x. reader_called-blind r call x s)

-- writers, by what a call came to
called_as-blind : {A : Type 0} (w : ℕ) (x : Writer) (need : ℕ) (calls : Result A WriteFault → List Call) (line : Result A WriteFault → List ℕ)
    (came : Writing HostState → Answered A WriteFault (Writing HostState))
    → ((v : Writing HostState) → came (bare_writing v) ≡ bare_written (came v))
    → AnswersBlind (λ s. called_as s w x need (calls (came (writing_at s x)).answer) line (came (writing_at s x)))
called_as-blind {A} w x need calls line came blind s =
    bar-blind s (bars_call (writing_at s x) need)
    (λ s. let a = came (writing_at s x) in answer_with
    (left_by_writer s w (option_map (with_calls (calls a.answer) (failures_of a.answer)) x.calls) a.left) (line a.answer))
    (ap (λ (a : Answered A WriteFault (Writing HostState)). answer_with
    (left_by_writer s w (option_map (with_calls (calls a.answer) (failures_of a.answer)) x.calls) a.left) (line a.answer)) (blind (writing_at s x)))

writer_called-blind : (w : ℕ) (call : WriterCall) (x : Writer) → AnswersBlind (λ s. writer_called call s w x)
writer_called-blind w (writers.Write bytes) x =
    called_as-blind w x (write_need x.state) (written_calls bytes) written_line (write_came host_calls x.state.timeout bytes)
    (write-blind x.state.timeout bytes)
writer_called-blind w (writers.PollWrite bytes) x =
    called_as-blind w x (write_need x.state) (written_calls bytes) (poll_line written_line) (write_came host_calls 0 bytes) (write-blind 0 bytes)
writer_called-blind w writers.Submit x =
    called_as-blind w x (flush_need x.state) (λ r. Flush ∷ []) flushed_line (λ v. submitted_to (submit_came host_calls v))
    (λ v. ap submitted_to (submit-blind v))
writer_called-blind w writers.SubmitEnd x =
    called_as-blind w x (finish_need x.state) (λ r. Finish ∷ []) flushed_line (λ v. submitted_to (submit_end_came host_calls v))
    (λ v. ap submitted_to (submit_end-blind v))
writer_called-blind w writers.Flush x =
    called_as-blind w x (flush_need x.state) (λ r. Flush ∷ []) flushed_line (flush_came host_calls x.state.timeout) (flush-blind x.state.timeout)
writer_called-blind w writers.PollFlush x =
    called_as-blind w x (flush_need x.state) (λ r. Flush ∷ []) (poll_line flushed_line) (flush_came host_calls 0) (flush-blind 0)
writer_called-blind w writers.FlushEnd x =
    called_as-blind w x (finish_need x.state) (λ r. Finish ∷ []) flushed_line (flush_end_came host_calls x.state.timeout)
    (flush_end-blind x.state.timeout)
writer_called-blind w writers.PollFlushEnd x =
    called_as-blind w x (poll_finish_need x.state) (λ r. begun_calls x.state.begun) (poll_line flushed_line) (poll_flush_end_came host_calls)
    poll_flush_end-blind
writer_called-blind w (writers.SetNumTransfers n) x =
    λ s. bar-blind s (bars_transfers n) (λ s. ok_answer (record s { writers = change_named (with_transfers n) s.writers w })) refl
writer_called-blind w (writers.SetWriteTimeout timeout) x = λ s. refl

pub on_writer-blind : (w : ℕ) (call : WriterCall) → AnswersBlind (λ s. on_writer s w call)
unfolding on_writer
on_writer-blind w call s = open-blind s (named s.writers w) (λ s. writer_called call s w) (λ x. writer_called-blind w call x s)

-- clients of messages
client_called-blind : (m : ℕ) (call : ClientCall) (x : Client) → AnswersBlind (λ s. client_called call s m x)
client_called-blind m (clients.Request body) x = λ s.
    bar-blind s (bars_request body (messaging_at s x)) (λ s. request_as s m body (requested host_calls body (messaging_at s x)))
    (ap (request_as s m body) (requested-blind body (messaging_at s x)))
client_called-blind m clients.Response x = λ s.
    bar-blind s (bars_response (messaging_at s x)) (λ s. response_as s m (responded host_calls (messaging_at s x)))
    (ap (response_as s m) (responded-blind (messaging_at s x)))
client_called-blind m clients.Outstanding x = λ s. refl

pub on_client-blind : (m : ℕ) (call : ClientCall) → AnswersBlind (λ s. on_client s m call)
unfolding on_client
on_client-blind m call s = open-blind s (named s.clients m) (λ s. client_called call s m) (λ x. client_called-blind m call x s)
