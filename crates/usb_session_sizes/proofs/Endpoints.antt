-- A session stays bounded over the calls on endpoints, readers, writers and clients of messages.
use Rattle.std.proofs.Common.{ℕ, ◌≤◌, ◌-◌, arith, List, [], ◌∷◌, length, map, take, slice_get, Option, Some, None, Result, Ok, Err}
use Rattle.std.specs.Prelude.{◌||◌, nat_lt}
use Rattle.std.specs.Option.{option_map}
use Rattle.usb_desc.specs.declared.types.Direction.{Direction}
use Rattle.usb_desc.specs.declared.types.Direction.TheVariants.{In, Out}
use Rattle.usb_xfer.specs.BufferState.{BufferState}
use Rattle.usb_xfer.specs.declared.transfer.Completion.{Completion}
use Rattle.usb_kernel.specs.TransferCompletions.{transfer_completion}
use Rattle.usb_device_endpoint.specs.Submits.{entered}
use Rattle.usb_device_endpoint.specs.Blocking.{blocked}
use Rattle.usb_device_endpoint.specs.Waits.{waited}
use Rattle.usb_device_host.specs.HostState.{HostState}
use Rattle.usb_device_host.specs.HostCalls.{host_calls}
use Rattle.usb_io.specs.Answered.{Answered}
use Rattle.usb_io.specs.Answers.{read_came, fill_came}
use Rattle.usb_io.specs.Readers.{ReaderState, with_read, without_end, is_end}
use Rattle.usb_io.specs.Reads.{Reading, reading, filled_to}
use Rattle.usb_io.specs.Streams.{Mark, Byte, End}
use Rattle.usb_io.specs.Writers.{Writing}
use Rattle.usb_io.specs.Writes as acts
use Rattle.usb_io.specs.Carried.{written_calls, begun_calls}
use Rattle.usb_io.specs.WriteAnswers.{write_came, flush_came, flush_end_came, poll_flush_end_came, submit_came, submit_end_came}
use Rattle.usb_io.specs.declared.fault.ReadFault.{ReadFault}
use Rattle.usb_io.specs.declared.fault.WriteFault.{WriteFault}
use Rattle.usb_msg.specs.Requests.{Messaging, requested}
use Rattle.usb_msg.specs.Responses.{responded}
use Rattle.usb_script_words.specs.declared.framing.Framing.{Framing}
use Rattle.usb_script_words.specs.declared.framing.Framing.TheVariants.{UntilShort}
use Rattle.usb_session_text.specs.Completions.{polled_line, waited_line}
use Rattle.usb_session_streams.specs.ClientCalls.{asked_of, told_of}
use Rattle.usb_session_streams.specs.ClientNeeds.{bars_request, bars_response}
use Rattle.usb_session_streams.specs.Needs.{bars_need, bars_call, bars_transfers, write_need, flush_need, finish_need, poll_finish_need}
use Rattle.usb_session_streams.specs.Printed.{written_line, flushed_line, poll_line, submitted_to}
use Rattle.usb_session_streams.specs.ReaderCalls.{given_by, halt_came}
use Rattle.usb_session_streams.specs.Reads.{read_line, buffer_line, consumed_end_line}
use Rattle.usb_session_streams.specs.Told.{WriterCalls, with_calls, failures_of}
use Rattle.usb_session_calls.specs.declared.call.EndpointCall.{EndpointCall}
use Rattle.usb_session_calls.specs.declared.call.EndpointCall.TheVariants as endpoints
use Rattle.usb_session_calls.specs.declared.call.ReaderCall.{ReaderCall}
use Rattle.usb_session_calls.specs.declared.call.ReaderCall.TheVariants as readers
use Rattle.usb_session_calls.specs.declared.call.WriterCall.{WriterCall}
use Rattle.usb_session_calls.specs.declared.call.WriterCall.TheVariants as writers
use Rattle.usb_session_calls.specs.declared.call.ClientCall.{ClientCall}
use Rattle.usb_session_calls.specs.declared.call.ClientCall.TheVariants as clients
use Rattle.usb_session_calls.specs.Names.{named, change_named}
use Rattle.usb_session_calls.specs.State.{State, Endpoint, Reader, Writer, Client, tickets_of, with_host}
use Rattle.usb_session_calls.specs.Answer.{answer_with, ok_answer}
use Rattle.usb_session_calls.specs.Buffers.{in_buffer, out_buffer}
use Rattle.usb_session_calls.specs.Submits.{bars_submission, with_submission, deadline_by, submitted, submit_on}
use Rattle.usb_session_calls.specs.Polls.{front_taken, took, poll_on}
use Rattle.usb_session_calls.specs.Waits.{wait_on}
use Rattle.usb_session_calls.specs.Transfers.{bars_transfer, with_taken, transfer_made, transfer_on}
use Rattle.usb_session_calls.specs.EndpointCalls.{endpoint_called, on_endpoint}
use Rattle.usb_session_calls.specs.Readers.{called, with_count, with_timeout, with_none}
use Rattle.usb_session_calls.specs.Reads.{is_until_short, given_line, polled_given_line, bars_read, consumed_with, read_as, filled_as, read_on, fill_on, read_off}
use Rattle.usb_session_calls.specs.CalledReaders.{reader_called, on_reader}
use Rattle.usb_session_calls.specs.Writers.{with_transfers, with_write_timeout}
use Rattle.usb_session_calls.specs.Writes.{writing_at, left_by_writer, called_as, write_on}
use Rattle.usb_session_calls.specs.CalledWriters.{writer_called, on_writer}
use Rattle.usb_session_calls.specs.Messages.{messaging_at, left_by_request, left_by_response, request_as, response_as}
use Rattle.usb_session_calls.specs.CalledClients.{client_called, on_client}
use Rattle.usb_session_sizes.proofs.CallSizes.{IsTransferSized}
use Rattle.usb_session_sizes.proofs.Clients.{IsMessagingBounded, requested-bounded, responded-bounded}
use Rattle.usb_session_sizes.proofs.Fits.{named-fits, changed-fits}
use Rattle.usb_session_sizes.proofs.Hosts.{entered-bounded, waited-bounded, blocked-bounded, taken-bounded, discards-bounded, halt-bounded}
use Rattle.usb_session_sizes.proofs.Journals.{IsBufferSized}
use Rattle.usb_session_sizes.proofs.Readers.{IsReaderSized, IsReadingBounded, fill-bounded, read-bounded, filled-bounded, halted-bounded}
use Rattle.usb_session_sizes.proofs.Sizes.{small-size}
use Rattle.usb_session_sizes.proofs.States.{EndpointFits, ReaderFits, WriterFits, ClientFits, IsStateBounded, IsAnswerBounded, named-bounded, bar-bounded, either-bounded}
use Rattle.usb_session_sizes.proofs.Writers.{IsWritingBounded, write-bounded, flush-bounded, flush_end-bounded, poll_flush_end-bounded, submit-bounded, submit_end-bounded}

-- the buffers of a script's transfers
in-sized : (n : ℕ) → n ≤ 65536 → IsBufferSized (in_buffer n)
in-sized n few = record { requested = omega (arith, few); bytes = omega arith }

out-sized : (bytes : List ℕ) → length bytes ≤ 65536 → IsBufferSized (out_buffer bytes)
out-sized bytes few = record { requested = omega (arith, few); bytes = omega (arith, few) }

-- endpoints: a submission, a front that is taken, and a blocking transfer
submit_on-bounded : (state : State) (direction : Direction) (e : ℕ) (b : BufferState) (timeout : Option ℕ) (h : Endpoint) → IsBufferSized b → EndpointFits h → IsStateBounded state → IsAnswerBounded (submit_on state direction e b timeout h)
submit_on-bounded state direction e b timeout h sized fits is =
    bar-bounded state (bars_submission state.host.kernel.past direction h.state) (ok_answer (submitted state e b timeout h)) (
      entered-bounded state.host h.state (deadline_by state.host timeout) b (small-size h.state.maximum fits) sized is.0,
      (changed-fits EndpointFits (with_submission (tickets_of state)) (λ x small. small) state.endpoints e is.1.0, is.1.1, is.1.2, is.1.3),
    ) is

took-bounded : (line : Option Completion → List ℕ) (state : State) (e t : ℕ) (o : Option Completion) → IsStateBounded state → IsAnswerBounded (took line state e t o)
took-bounded line state e t None is = is
took-bounded line state e t (Some c) is =
    (taken-bounded state.host t is.0, (changed-fits EndpointFits (front_taken t) (λ x small. small) state.endpoints e is.1.0, is.1.1, is.1.2, is.1.3))

poll_on-bounded : (state : State) (e : ℕ) (o : Option ℕ) → IsStateBounded state → IsAnswerBounded (poll_on state e o)
poll_on-bounded state e None is = is
poll_on-bounded state e (Some t) is = took-bounded polled_line state e t (transfer_completion state.host.kernel.past t) is

wait_on-bounded : (state : State) (e timeout : ℕ) (o : Option ℕ) → IsStateBounded state → IsAnswerBounded (wait_on state e timeout o)
wait_on-bounded state e timeout None is = is
wait_on-bounded state e timeout (Some t) is =
    let host = waited host_calls t timeout state.host in
    took-bounded waited_line (with_host state host) e t (transfer_completion host.kernel.past t) (waited-bounded state.host t timeout is.0, is.1)

transfer_on-bounded : (state : State) (direction : Direction) (e : ℕ) (b : BufferState) (timeout : ℕ) (h : Endpoint) → IsBufferSized b → EndpointFits h → IsStateBounded state → IsAnswerBounded (transfer_on state direction e b timeout h)
transfer_on-bounded state direction e b timeout h sized fits is =
    let t = tickets_of state in
    let host = entered host_calls state.host h.state None b in
    let there = blocked-bounded host t timeout (entered-bounded state.host h.state None b (small-size h.state.maximum fits) sized is.0) in
    bar-bounded state (bars_transfer state.host.kernel.past direction h.state) (transfer_made state e b timeout h)
    (taken-bounded (blocked host_calls t timeout host) t there, (changed-fits EndpointFits (with_taken t) (λ x small. small) state.endpoints e is.1.0, is.1.1, is.1.2, is.1.3)) is

endpoint_called-bounded : (state : State) (e : ℕ) (call : EndpointCall) (h : Endpoint) → IsTransferSized call → EndpointFits h → IsStateBounded state → IsAnswerBounded (endpoint_called call state e h)
endpoint_called-bounded state e (endpoints.SubmitIn n timeout) h sized fits is = submit_on-bounded state In e (in_buffer n) timeout h (in-sized n sized) fits is
endpoint_called-bounded state e (endpoints.SubmitOut bytes timeout) h sized fits is = submit_on-bounded state Out e (out_buffer bytes) timeout h (out-sized bytes sized) fits is
endpoint_called-bounded state e endpoints.Pending h sized fits is = is
endpoint_called-bounded state e endpoints.Poll h sized fits is = poll_on-bounded state e (slice_get h.state.pending 0) is
endpoint_called-bounded state e (endpoints.Wait timeout) h sized fits is = wait_on-bounded state e timeout (slice_get h.state.pending 0) is
endpoint_called-bounded state e (endpoints.TransferIn n timeout) h sized fits is = transfer_on-bounded state In e (in_buffer n) timeout h (in-sized n sized) fits is
endpoint_called-bounded state e (endpoints.TransferOut bytes timeout) h sized fits is = transfer_on-bounded state Out e (out_buffer bytes) timeout h (out-sized bytes sized) fits is
endpoint_called-bounded state e endpoints.Cancel h sized fits is = (discards-bounded state.host h.state.pending is.0, is.1)
endpoint_called-bounded state e endpoints.ClearHalt h sized fits is = (halt-bounded state.host h.state.device h.state.address is.0, is.1)

pub on_endpoint-bounded : (state : State) (e : ℕ) (call : EndpointCall) → IsTransferSized call → IsStateBounded state → IsAnswerBounded (on_endpoint state e call)
unfolding on_endpoint
on_endpoint-bounded state e call sized is =
    named-bounded EndpointFits state (named state.endpoints e) (endpoint_called call state e) (named-fits EndpointFits state.endpoints e is.1.0) (λ h fits. endpoint_called-bounded state e call h sized fits is) is

-- readers: what a call left of host and reader
called-bounded : (state : State) (r : ℕ) (consumed : Option (List Mark)) (bytes : List ℕ) (w : Reading HostState) → IsReadingBounded w → IsStateBounded state → IsStateBounded (called state r consumed bytes w)
called-bounded state r consumed bytes w now is = (now.0, (is.1.0, changed-fits ReaderFits _ (λ x was. now.1) state.readers r is.1.1, is.1.2, is.1.3))

off-bounded : (state : State) (framing : Framing) (r : ℕ) (x : Reader) (items : List Mark) (bytes : List ℕ) (left : ReaderState) → IsReaderSized left → IsStateBounded state → IsStateBounded (read_off state framing r x items bytes left)
off-bounded state framing r x items bytes left sized is = (is.0, (is.1.0, changed-fits ReaderFits _ (λ y was. sized) state.readers r is.1.1, is.1.2, is.1.3))

read_on-bounded : (state : State) (framing : Framing) (r most timeout : ℕ) (line : Result (List ℕ) ReadFault → List ℕ) (x : Reader) → ReaderFits x → IsStateBounded state → IsAnswerBounded (read_on state framing r most timeout line x)
read_on-bounded state framing r most timeout line x fits is =
    let w = reading state.host x.state in
    let came = read_came host_calls (is_until_short framing) timeout most w in
    bar-bounded state (bars_read state framing x) (read_as state framing r x line came)
    (called-bounded state r (consumed_with framing (map Byte (given_by came.answer)) x.consumed) (given_by came.answer) came.left (read-bounded (is_until_short framing) timeout most w (is.0, fits)) is) is

fill_on-bounded : (state : State) (framing : Framing) (r timeout : ℕ) (line : Result (List ℕ) ReadFault → List ℕ) (x : Reader) → ReaderFits x → IsStateBounded state → IsAnswerBounded (fill_on state framing r timeout line x)
fill_on-bounded state framing r timeout line x fits is =
    let w = reading state.host x.state in
    let came = fill_came host_calls (is_until_short framing) timeout w in
    bar-bounded state (bars_read state framing x) (filled_as state framing r x line came)
    (called-bounded state r (consumed_with framing [] x.consumed) [] came.left (fill-bounded (is_until_short framing) timeout w (is.0, fits)) is) is

reader_called-bounded : (state : State) (r : ℕ) (call : ReaderCall) (x : Reader) → ReaderFits x → IsStateBounded state → IsAnswerBounded (reader_called call state r x)
reader_called-bounded state r (readers.Read framing most) x fits is = read_on-bounded state framing r most x.state.timeout (given_line read_line) x fits is
reader_called-bounded state r (readers.PollRead framing most) x fits is = read_on-bounded state framing r most 0 (polled_given_line read_line) x fits is
reader_called-bounded state r (readers.FillBuf framing) x fits is = fill_on-bounded state framing r x.state.timeout (given_line buffer_line) x fits is
reader_called-bounded state r (readers.PollFillBuf framing) x fits is = fill_on-bounded state framing r 0 (polled_given_line buffer_line) x fits is
reader_called-bounded state r (readers.Consume framing n) x fits is =
    let off = read_off state framing r x (map Byte (take n x.state.unread)) (take n x.state.unread) (with_read n x.state) in
    bar-bounded state (nat_lt (length x.state.unread) n) (ok_answer off) (off-bounded state framing r x (map Byte (take n x.state.unread)) (take n x.state.unread) (with_read n x.state) fits is) is
reader_called-bounded state r readers.IsEnd x fits is = is
reader_called-bounded state r readers.ConsumeEnd x fits is =
    either-bounded (is_end x.state) (answer_with (read_off state UntilShort r x (End ∷ []) [] (without_end x.state)) (consumed_end_line (Ok tt))) (answer_with state (consumed_end_line (Err (record {}))))
    (off-bounded state UntilShort r x (End ∷ []) [] (without_end x.state) fits is) is
reader_called-bounded state r (readers.SetNumTransfers n) x fits is =
    let w = reading state.host (with_count n x.state) in
    let left = filled_to host_calls (n - 1) w in
    bar-bounded state (nat_lt 64 n || bars_need state.host.kernel.past (length x.state.endpoint.pending) (n - 1 - length x.state.endpoint.pending))
    (ok_answer (called state r x.consumed [] left)) (called-bounded state r x.consumed [] left (filled-bounded (n - 1) w (is.0, fits)) is) is
reader_called-bounded state r (readers.SetReadTimeout timeout) x fits is = (is.0, (is.1.0, changed-fits ReaderFits (with_timeout timeout) (λ y sized. sized) state.readers r is.1.1, is.1.2, is.1.3))
reader_called-bounded state r readers.Cancel x fits is =
    (discards-bounded state.host x.state.endpoint.pending is.0, (is.1.0, changed-fits ReaderFits with_none (λ y sized. sized) state.readers r is.1.1, is.1.2, is.1.3))
reader_called-bounded state r readers.ClearHalt x fits is =
    let w = reading state.host x.state in called-bounded state r x.consumed [] (halt_came w) (halted-bounded w (is.0, fits)) is

pub on_reader-bounded : (state : State) (r : ℕ) (call : ReaderCall) → IsStateBounded state → IsAnswerBounded (on_reader state r call)
unfolding on_reader
on_reader-bounded state r call is =
    named-bounded ReaderFits state (named state.readers r) (reader_called call state r) (named-fits ReaderFits state.readers r is.1.1) (λ x fits. reader_called-bounded state r call x fits is) is

-- writers
left_by-bounded : (state : State) (w : ℕ) (made : Option WriterCalls) (v : Writing HostState) → IsWritingBounded v → IsStateBounded state → IsStateBounded (left_by_writer state w made v)
left_by-bounded state w made v now is = (now.0, (is.1.0, is.1.1, changed-fits WriterFits _ (λ x was. now.1) state.writers w is.1.2, is.1.3))

called_as-bounded : {A : Type 0} (state : State) (w : ℕ) (x : Writer) (need : ℕ) (made : List acts.Call) (line : Result A WriteFault → List ℕ) (came : Answered A WriteFault (Writing HostState)) → IsWritingBounded came.left → IsStateBounded state
    → IsAnswerBounded (called_as state w x need made line came)
called_as-bounded state w x need made line came now is =
    let done = option_map (with_calls made (failures_of came.answer)) x.calls in
    bar-bounded state (bars_call (writing_at state x) need) (answer_with (left_by_writer state w done came.left) (line came.answer)) (left_by-bounded state w done came.left now is) is

write_on-bounded : (state : State) (w : ℕ) (src : List ℕ) (x : Writer) (line : Result ℕ WriteFault → List ℕ) (timeout : ℕ) → WriterFits x → IsStateBounded state → IsAnswerBounded (write_on state w src x line timeout)
write_on-bounded state w src x line timeout fits is =
    let came = write_came host_calls timeout src (writing_at state x) in
    called_as-bounded state w x (write_need x.state) (written_calls src came.answer) line came (write-bounded timeout src (writing_at state x) (is.0, fits)) is

writer_called-bounded : (state : State) (w : ℕ) (call : WriterCall) (x : Writer) → WriterFits x → IsStateBounded state → IsAnswerBounded (writer_called call state w x)
writer_called-bounded state w (writers.Write bytes) x fits is = write_on-bounded state w bytes x written_line x.state.timeout fits is
writer_called-bounded state w (writers.PollWrite bytes) x fits is = write_on-bounded state w bytes x (poll_line written_line) 0 fits is
writer_called-bounded state w writers.Submit x fits is =
    let v = writing_at state x in called_as-bounded state w x (flush_need x.state) (acts.Flush ∷ []) flushed_line (submitted_to (submit_came host_calls v)) (submit-bounded v (is.0, fits)) is
writer_called-bounded state w writers.SubmitEnd x fits is =
    let v = writing_at state x in called_as-bounded state w x (finish_need x.state) (acts.Finish ∷ []) flushed_line (submitted_to (submit_end_came host_calls v)) (submit_end-bounded v (is.0, fits)) is
writer_called-bounded state w writers.Flush x fits is =
    let v = writing_at state x in called_as-bounded state w x (flush_need x.state) (acts.Flush ∷ []) flushed_line (flush_came host_calls x.state.timeout v) (flush-bounded x.state.timeout v (is.0, fits)) is
writer_called-bounded state w writers.PollFlush x fits is =
    let v = writing_at state x in called_as-bounded state w x (flush_need x.state) (acts.Flush ∷ []) (poll_line flushed_line) (flush_came host_calls 0 v) (flush-bounded 0 v (is.0, fits)) is
writer_called-bounded state w writers.FlushEnd x fits is =
    let v = writing_at state x in called_as-bounded state w x (finish_need x.state) (acts.Finish ∷ []) flushed_line (flush_end_came host_calls x.state.timeout v) (flush_end-bounded x.state.timeout v (is.0, fits)) is
writer_called-bounded state w writers.PollFlushEnd x fits is =
    let v = writing_at state x in
    called_as-bounded state w x (poll_finish_need x.state) (begun_calls x.state.begun) (poll_line flushed_line) (poll_flush_end_came host_calls v) (poll_flush_end-bounded v (is.0, fits)) is
writer_called-bounded state w (writers.SetNumTransfers n) x fits is =
    bar-bounded state (bars_transfers n) (ok_answer (record state { writers = change_named (with_transfers n) state.writers w }))
    (is.0, (is.1.0, is.1.1, changed-fits WriterFits (with_transfers n) (λ y sized. sized) state.writers w is.1.2, is.1.3)) is
writer_called-bounded state w (writers.SetWriteTimeout timeout) x fits is = (is.0, (is.1.0, is.1.1, changed-fits WriterFits (with_write_timeout timeout) (λ y sized. sized) state.writers w is.1.2, is.1.3))

pub on_writer-bounded : (state : State) (w : ℕ) (call : WriterCall) → IsStateBounded state → IsAnswerBounded (on_writer state w call)
unfolding on_writer
on_writer-bounded state w call is =
    named-bounded WriterFits state (named state.writers w) (writer_called call state w) (named-fits WriterFits state.writers w is.1.2) (λ x fits. writer_called-bounded state w call x fits is) is

-- clients of messages
request-bounded : (state : State) (m : ℕ) (asked : List (List ℕ)) (w : Messaging HostState) → IsMessagingBounded w → IsStateBounded state → IsStateBounded (left_by_request state m asked w)
request-bounded state m asked w now is = (now.0, (is.1.0, is.1.1, is.1.2, changed-fits ClientFits _ (λ x was. now.1) state.clients m is.1.3))

response-bounded : (state : State) (m : ℕ) (told : List (List ℕ)) (w : Messaging HostState) → IsMessagingBounded w → IsStateBounded state → IsStateBounded (left_by_response state m told w)
response-bounded state m told w now is = (now.0, (is.1.0, is.1.1, is.1.2, changed-fits ClientFits _ (λ x was. now.1) state.clients m is.1.3))

client_called-bounded : (state : State) (m : ℕ) (call : ClientCall) (x : Client) → ClientFits x → IsStateBounded state → IsAnswerBounded (client_called call state m x)
client_called-bounded state m (clients.Request body) x fits is =
    let w = messaging_at state x in
    let a = requested host_calls body w in
    bar-bounded state (bars_request body w) (request_as state m body a) (request-bounded state m (asked_of body a.answer) a.left (requested-bounded body w (is.0, fits)) is) is
client_called-bounded state m clients.Response x fits is =
    let w = messaging_at state x in
    let a = responded host_calls w in
    bar-bounded state (bars_response w) (response_as state m a) (response-bounded state m (told_of a.answer) a.left (responded-bounded w (is.0, fits)) is) is
client_called-bounded state m clients.Outstanding x fits is = is

pub on_client-bounded : (state : State) (m : ℕ) (call : ClientCall) → IsStateBounded state → IsAnswerBounded (on_client state m call)
unfolding on_client
on_client-bounded state m call is =
    named-bounded ClientFits state (named state.clients m) (client_called call state m) (named-fits ClientFits state.clients m is.1.3) (λ x fits. client_called-bounded state m call x fits is) is
