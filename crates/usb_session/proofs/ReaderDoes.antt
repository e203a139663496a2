-- What the calls on readers do.
use Rattle.std.proofs.Common.{◌≡◌, ℕ, ◌-◌, Bool, true, false, List, [], ◌++◌, length, take, map, Option, Some, None, Result, Ok, Err, refl, ap, sym, subst, append-nil, append_assoc}
use Rattle.std.specs.Option.{option_map}
use Rattle.std.specs.Prelude.{nat_lt}
use Rattle.std.proofs.lemmas.Bool.{cond_both}
use Rattle.usb_error.specs.Errors.{clear_halt_error}
use Rattle.usb_device_endpoint.specs.CallErrors.{or_error}
use Rattle.usb_device_host.specs.HostState.{HostState}
use Rattle.usb_device_host.specs.HostCalls.{host_halt_result, host_halt_cleared, host_calls}
use Rattle.usb_device_host.proofs.CountLemmas.{all_discarded-count}
use Rattle.usb_device_host.proofs.FollowLemmas.{on-all_discarded}
use Rattle.usb_io.specs.Readers.{ReaderState, fresh_reader, fresh_buffer, with_read, is_end}
use Rattle.usb_io.specs.Reads.{Reading, reading, filled_to}
use Rattle.usb_io.specs.Streams.{Mark, Byte}
use Rattle.usb_io.specs.declared.fault.ReadFault.{ReadFault}
use Rattle.usb_io.specs.declared.fault.ReadFault.TheVariants.{Transfer, TimedOut, UnexpectedEof}
use Rattle.usb_io.specs.Answers.{fill_came, read_came}
use Rattle.usb_io.proofs.ReadKeeps.{Keeps, fill-keeps, read-keeps, filled-keeps}
use Rattle.usb_session_streams.specs.Faults.{io_line, read_fault_line}
use Rattle.usb_session_streams.specs.Reads.{read_line, buffer_line, is_end_line, consumed_end_line}
use Rattle.usb_script_words.specs.declared.framing.Framing.{Framing}
use Rattle.usb_session_text.specs.Calls.{ok_line}
use Rattle.usb_session_calls.specs.Names.{named, freed, set_name, change_named}
use Rattle.usb_session_calls.specs.declared.call.ReaderCall.{ReaderCall}
use Rattle.usb_session_calls.specs.declared.call.ReaderCall.TheVariants.{Read, PollRead, FillBuf, PollFillBuf, Consume, IsEnd, ConsumeEnd, SetNumTransfers, SetReadTimeout, Cancel, ClearHalt}
use Rattle.usb_session_calls.specs.CalledReaders.{reader_called, on_reader}
use Rattle.usb_session_calls.specs.State.{State, Reader, tickets_at, endpoint_of_reader, tickets_of, with_host}
use Rattle.usb_session_calls.specs.EndpointNames.{EndpointName, Own, OfReader, OfWriter, OfClientWriter, OfClientReader, endpoint_under}
use Rattle.usb_session_calls.proofs.NameLemmas.{free-none, length-change_named}
use Rattle.usb_session_calls.proofs.EndpointNameLemmas.{Changed, set-changes, freed-changes, change-changes}
use Rattle.usb_session_calls.specs.Readers.{nothing_consumed, with_none, taken_by_call, with_reader, reader_answer, without_reader, inner_answer, called, with_count, num_on, closed_reader, reader_closed_at, reader_closed, close_reader_answer}
use Rattle.usb_session_streams.specs.ReaderCalls.{given_by, halt_came}
use Rattle.usb_session_streams.proofs.Halted.{halted-rest}
use Rattle.usb_session_calls.specs.Halts.{halt_line, reader_halt_cleared}
use Rattle.usb_session_calls.proofs.DeviceHosts.{halt-aside}
use Rattle.usb_session_calls.specs.Reads.{is_until_short, consumed_with, given_line, polled_given_line, bars_read, read_as, filled_as, read_on, fill_on, read_off}
use Rattle.usb_session_calls.specs.Answer.{Answer, answer_with, condition_answer, ok_answer, silent, if_open}
use Rattle.usb_device_endpoint.specs.Closes.{after_close}
use Rattle.usb_session.specs.Served.{closed_under}
use Rattle.usb_session.proofs.CallLeads.{Leads, leads-start, leads-send, leads-wait, leads-aside, leads-take, called-acts}
use Rattle.usb_session.proofs.Views.{view_of, name_counts}
use Rattle.usb_session.proofs.Does.{Shuts, shuts-by, Acts, Changes, Quiet, Does, says_done, ends, settles, still, moves, kept-change, own-changes, reader-changes, quiet-aside, quiet-same, told-does, named-does, closing-does, free-does, bar-does, result-other}

-- a reader is made of an endpoint, and the endpoint comes back
pub reader-does : (state : State) (r e size : ℕ) → Does state (reader_answer state r e size)
unfolding reader_answer
reader-does state r e size =
    named-does state (named state.endpoints e) _ (λ h here.
    free-does state (λ free.
    free-does state (λ in_.
    let y : Reader = record { state = fresh_reader h.state size; before = h.taken; taken = []; given = []; consumed = nothing_consumed (tickets_at h) } in
    settles refl (moves (Own e) (OfReader r) h (endpoint_of_reader y) here (ap (option_map endpoint_of_reader) (free-none state.readers r free)) (record { key = refl; maximum = refl; pending = refl; taken = append-nil h.taken }) (λ was. refl)
    (record {
      mid = view_of (record state { endpoints = freed state.endpoints e });
      gone = own-changes state state.host (freed state.endpoints e) e None (freed-changes state.endpoints e);
      put = reader-changes (record state { endpoints = freed state.endpoints e }) state.host (set_name state.readers r y) r (Some y) (set-changes state.readers r y free);
    })
    (still (quiet-same (with_reader state r e size h)))))))

pub inner-does : (state : State) (e r : ℕ) → Does state (inner_answer state e r)
unfolding inner_answer
inner-does state e r =
    named-does state (named state.readers r) _ (λ x is.
    free-does state (λ free.
    settles refl (moves (OfReader r) (Own e) (endpoint_of_reader x) (endpoint_of_reader x) (ap (option_map endpoint_of_reader) is) (free-none state.endpoints e free) (record { key = refl; maximum = refl; pending = refl; taken = refl }) (λ was. was tt)
    (record {
      mid = view_of (record state { readers = freed state.readers r });
      gone = reader-changes state state.host (freed state.readers r) r None (freed-changes state.readers r);
      put = own-changes (record state { readers = freed state.readers r }) state.host (set_name state.endpoints e (endpoint_of_reader x)) e (Some (endpoint_of_reader x)) (set-changes state.endpoints e (endpoint_of_reader x) free);
    })
    (still (quiet-same (without_reader state e r x))))))

-- it is closed
closed-changes : (state : State) (r : ℕ) (x : Reader) → Changes (view_of state) (view_of (closed_reader state r x)) (after_close host_calls state.host x.state.endpoint) (OfReader r) None
closed-changes state r x = reader-changes state (after_close host_calls state.host x.state.endpoint) (freed state.readers r) r None (freed-changes state.readers r)

pub reader_closed-does : (state : State) (r : ℕ) (lines : EndpointName → List (List ℕ)) → Acts (silent (reader_closed state r)) (view_of state) (closed_under state lines (OfReader r)) []
unfolding reader_closed
reader_closed-does state r lines =
    closing-does state (OfReader r) lines (named state.readers r) endpoint_of_reader (λ o. silent (reader_closed_at state r o)) (closed_reader state r) refl refl (quiet-same state) (λ x. refl)
    (λ x is. closed-changes state r x) (λ x. quiet-same (closed_reader state r x))

reader_closed-gone : (state : State) (n : ℕ) → Changed (endpoint_under state) (endpoint_under (reader_closed state n)) (OfReader n) None
unfolding reader_closed
reader_closed-gone state n = by (named state.readers n) refl
  where
    by : (o : Option Reader) → named state.readers n ≡ o → Changed (endpoint_under state) (endpoint_under (reader_closed_at state n o)) (OfReader n) None
    by None is = record { here = ap (option_map endpoint_of_reader) is; others = λ d apart. refl }
    by (Some x) is = (closed-changes state n x).endpoints

pub reader_closed-shuts : Shuts reader_closed OfReader
reader_closed-shuts = shuts-by reader_closed OfReader reader_closed-gone

pub close_reader-does : (state : State) (r : ℕ) (lines : EndpointName → List (List ℕ)) → Acts (close_reader_answer state r) (view_of state) (closed_under state lines (OfReader r)) []
unfolding close_reader_answer
close_reader-does state r lines =
    closing-does state (OfReader r) lines (named state.readers r) endpoint_of_reader (λ o. if_open o (λ x. ok_answer (closed_reader state r x)) (condition_answer state)) (closed_reader state r) refl refl (quiet-same state) (λ x. refl)
    (λ x is. closed-changes state r x) (λ x. quiet-same (closed_reader state r x))

-- a change of it that keeps its endpoint
module _ (f : Reader → Reader) (state : State) (r : ℕ) (x : Reader) (at : named state.readers r ≡ Some x) (same : endpoint_of_reader (f x) ≡ endpoint_of_reader x) where
  endpoint-kept : (e : EndpointName) → endpoint_under (record state { readers = change_named f state.readers r }) e ≡ endpoint_under state e
  endpoint-kept (Own e) = refl
  endpoint-kept (OfReader n) = kept-change endpoint_of_reader f state.readers r n x at same
  endpoint-kept (OfWriter n) = refl
  endpoint-kept (OfClientWriter n) = refl
  endpoint-kept (OfClientReader n) = refl

  kept-quiet : Quiet (view_of state) (view_of (record state { readers = change_named f state.readers r }))
  kept-quiet =
      quiet-aside state (record state { readers = change_named f state.readers r }) refl refl endpoint-kept
      (ap (λ n. record (name_counts state) { readers = n }) (length-change_named f state.readers r)) refl

-- a call goes on
abbrev Led : (state : State) (r : ℕ) (x : Reader) → named state.readers r ≡ Some x → Answer → Reading HostState → Type 0
Led state r x is a w = Leads a (view_of state) (OfReader r) (endpoint_of_reader x) (ap (option_map endpoint_of_reader) is) w.bus w.reader.endpoint

called-does : (state : State) (r : ℕ) (x : Reader) (consumed : Option (List Mark)) (bytes : List ℕ) (y : ReaderState) (w : Reading HostState) (line : List ℕ) (us : Bool) (timeout : ℕ) (is : named state.readers r ≡ Some x) → says_done line ≡ false
    → y.endpoint ≡ x.state.endpoint
    → (Keeps host_calls us timeout (Led state r x is (answer_with (called state r consumed bytes w) line)) → Led state r x is (answer_with (called state r consumed bytes w) line) (reading state.host y) → Led state r x is (answer_with (called state r consumed bytes w) line) w)
    → Does state (answer_with (called state r consumed bytes w) line)
called-does state r x consumed bytes y w line us timeout is other same keeps =
    let a = answer_with (called state r consumed bytes w) line in
    let e = OfReader r in
    let h = endpoint_of_reader x in
    let here = ap (option_map endpoint_of_reader) is in
    let by_call = taken_by_call (tickets_of state) (tickets_of (with_host state w.bus)) x.state.endpoint.pending w.reader.endpoint.pending in
    let took : Changes (view_of state) (view_of a.state) w.bus e (Some (record { state = w.reader.endpoint; taken = x.before ++ (x.taken ++ by_call); was_streamed = true })) → Changes (view_of state) (view_of a.state) w.bus e (Some (record { state = w.reader.endpoint; taken = (x.before ++ x.taken) ++ by_call; was_streamed = true })) =
    subst (λ (ts : List ℕ). Changes (view_of state) (view_of a.state) w.bus e (Some (record { state = w.reader.endpoint; taken = ts; was_streamed = true }))) (sym (append_assoc x.before x.taken by_call)) in
    called-acts a (view_of state) e h tt here other w.bus w.reader.endpoint
    (took (reader-changes state _ _ r _ (change-changes _ state.readers r x is))) (
    keeps
    (record {
      submission = λ w l. leads-send a (view_of state) e h tt here other w.bus w.reader.endpoint (fresh_buffer w.reader.size) l;
      end = λ w goes l. l;
      wait = λ w front others was l. leads-wait a (view_of state) e h tt here other w.bus w.reader.endpoint front timeout l;
      taking = λ w front others c was goes came l. leads-take a (view_of state) e h tt here other w.bus w.reader.endpoint front others was l;
    })
    (leads-start a (view_of state) e h tt here other y.endpoint same))

-- none of their lines is that of a completion
fault-other : (fault : ReadFault) → says_done (read_fault_line fault) ≡ false
unfolding io_line
fault-other fault = refl

given-other : (line : List ℕ → List ℕ) → ((bytes : List ℕ) → says_done (line bytes) ≡ false) → (answer : Result (List ℕ) ReadFault) → says_done (given_line line answer) ≡ false
given-other line other (Ok bytes) = other bytes
given-other line other (Err fault) = fault-other fault

polled-other : (line : List ℕ → List ℕ) → ((bytes : List ℕ) → says_done (line bytes) ≡ false) → (answer : Result (List ℕ) ReadFault) → says_done (polled_given_line line answer) ≡ false
polled-other line other (Ok bytes) = other bytes
polled-other line other (Err TimedOut) = refl
polled-other line other (Err UnexpectedEof) = fault-other UnexpectedEof
polled-other line other (Err (Transfer error)) = fault-other (Transfer error)

read-other : (bytes : List ℕ) → says_done (read_line bytes) ≡ false
unfolding read_line
read-other bytes = refl

buffer-other : (bytes : List ℕ) → says_done (buffer_line bytes) ≡ false
unfolding buffer_line
buffer-other bytes = refl

end-other : (b : Bool) → says_done (is_end_line b) ≡ false
end-other true = refl
end-other false = refl

-- of a reader that is open
read_on-does : (state : State) (framing : Framing) (r most timeout : ℕ) (line : Result (List ℕ) ReadFault → List ℕ) (x : Reader) → named state.readers r ≡ Some x → ((answer : Result (List ℕ) ReadFault) → says_done (line answer) ≡ false)
    → Does state (read_on state framing r most timeout line x)
read_on-does state framing r most timeout line x is other =
    let us = is_until_short framing in
    let first = reading state.host x.state in
    let came = read_came host_calls us timeout most first in
    bar-does state {bars = bars_read state framing x} {call = read_as state framing r x line came} (λ no_.
    called-does state r x (consumed_with framing (map Byte (given_by came.answer)) x.consumed) (given_by came.answer) x.state came.left (line came.answer) us timeout is (other came.answer) refl
    (λ keeps start. read-keeps host_calls us timeout _ keeps most first (λ v n l. l) start))

fill_on-does : (state : State) (framing : Framing) (r timeout : ℕ) (line : Result (List ℕ) ReadFault → List ℕ) (x : Reader) → named state.readers r ≡ Some x → ((answer : Result (List ℕ) ReadFault) → says_done (line answer) ≡ false)
    → Does state (fill_on state framing r timeout line x)
fill_on-does state framing r timeout line x is other =
    let us = is_until_short framing in
    let first = reading state.host x.state in
    let came = fill_came host_calls us timeout first in
    bar-does state {bars = bars_read state framing x} {call = filled_as state framing r x line came} (λ no_.
    called-does state r x (consumed_with framing [] x.consumed) [] x.state came.left (line came.answer) us timeout is (other came.answer) refl
    (λ keeps start. fill-keeps host_calls us timeout _ keeps first start))

-- how many are to be pending is set
num_on-does : (state : State) (r n : ℕ) (x : Reader) → named state.readers r ≡ Some x → Does state (num_on state r n x)
num_on-does state r n x is =
    bar-does state (λ no_.
    let first = reading state.host (with_count n x.state) in
    called-does state r x x.consumed [] (with_count n x.state) (filled_to host_calls (n - 1) first) ok_line false 0 is refl refl
    (λ keeps start. filled-keeps host_calls false 0 _ keeps (n - 1) first start))

-- its halt is cleared
halt-does : (state : State) (r : ℕ) (x : Reader) → named state.readers r ≡ Some x → Does state (reader_halt_cleared state r x)
halt-does state r x is =
    let e = x.state.endpoint in
    let a = reader_halt_cleared state r x in
    let h = endpoint_of_reader x in
    let here = ap (option_map endpoint_of_reader) is in
    let answer = host_halt_result state.host e.device e.address in
    let aside = halt-aside state.host e.device e.address in
    let host = host_halt_cleared state.host e.device e.address in
    called-does state r x x.consumed [] x.state (halt_came (reading state.host x.state)) (halt_line state.host e) false 0 is (result-other (or_error clear_halt_error answer)) refl
    (λ keeps start.
    subst (Leads a (view_of state) (OfReader r) h here host) (sym (halted-rest answer x.state))
    (leads-aside a (view_of state) (OfReader r) h tt here (result-other (or_error clear_halt_error answer)) state.host host e aside.past aside.handles.tickets start))

-- each call
reader_called-does : (state : State) (r : ℕ) (x : Reader) (call : ReaderCall) → named state.readers r ≡ Some x → Does state (reader_called call state r x)
reader_called-does state r x (Read framing most) is = read_on-does state framing r most x.state.timeout (given_line read_line) x is (given-other read_line read-other)
reader_called-does state r x (PollRead framing most) is = read_on-does state framing r most 0 (polled_given_line read_line) x is (polled-other read_line read-other)
reader_called-does state r x (FillBuf framing) is = fill_on-does state framing r x.state.timeout (given_line buffer_line) x is (given-other buffer_line buffer-other)
reader_called-does state r x (PollFillBuf framing) is = fill_on-does state framing r 0 (polled_given_line buffer_line) x is (polled-other buffer_line buffer-other)
reader_called-does state r x (Consume framing n) is =
    let next = read_off state framing r x (map Byte (take n x.state.unread)) (take n x.state.unread) (with_read n x.state) in
    bar-does state {bars = nat_lt (length x.state.unread) n} {call = ok_answer next} (λ no_. ends refl (kept-quiet _ state r x is refl))
reader_called-does state r x IsEnd is = told-does state (is_end_line (is_end x.state)) (end-other (is_end x.state))
reader_called-does state r x ConsumeEnd is =
    cond_both (is_end x.state) _ (answer_with state (consumed_end_line (Err (record {})))) (Does state)
    (λ yes_. ends refl (kept-quiet _ state r x is refl)) (λ no_. told-does state _ refl)
reader_called-does state r x (SetNumTransfers n) is = num_on-does state r n x is
reader_called-does state r x (SetReadTimeout timeout) is = ends refl (kept-quiet _ state r x is refl)
reader_called-does state r x Cancel is =
    ends refl (record { keeps = on-all_discarded state.host x.state.endpoint.pending; count = all_discarded-count state.host x.state.endpoint.pending; endpoints = endpoint-kept with_none state r x is refl; names = (kept-quiet with_none state r x is refl).names; futures = refl })
reader_called-does state r x ClearHalt is = halt-does state r x is

pub on_reader-does : (state : State) (r : ℕ) (call : ReaderCall) → Does state (on_reader state r call)
unfolding on_reader
on_reader-does state r call = named-does state (named state.readers r) (reader_called call state r) (λ x is. reader_called-does state r x call is)
