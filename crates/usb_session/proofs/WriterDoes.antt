-- What the calls on writers do.
use Rattle.std.proofs.Common.{◌≡◌, ℕ, false, List, [], ◌∷◌, length, Option, Some, None, Result, Ok, Err, refl, ap}
use Rattle.std.specs.Option.{option_map}
use Rattle.usb_device_host.specs.HostState.{HostState}
use Rattle.usb_device_host.specs.HostCalls.{host_calls}
use Rattle.usb_io.specs.Writers.{Writing, fresh_writer}
use Rattle.usb_io.specs.Writes.{Call, Flush, Finish}
use Rattle.usb_io.specs.declared.fault.WriteFault.{WriteFault}
use Rattle.usb_io.specs.declared.fault.WriteFault.TheVariants.{Transfer, TimedOut}
use Rattle.usb_io.specs.Answered.{Answered}
use Rattle.usb_io.specs.WriteAnswers.{write_came, flush_came, flush_end_came, poll_flush_end_came, submit_came, submit_end_came}
use Rattle.usb_session_streams.specs.Told.{with_calls, failures_of}
use Rattle.usb_session_streams.proofs.WritesKeep.{Keeps, submit-keeps, submit_end-keeps, write-keeps, flush-keeps, flush_end-keeps, poll_flush_end-keeps}
use Rattle.usb_session_streams.specs.Faults.{io_line, write_fault_line}
use Rattle.usb_session_streams.specs.Writes.{wrote_line}
use Rattle.usb_session_streams.specs.Needs.{bars_call, bars_transfers, flush_need, finish_need}
use Rattle.usb_session_streams.specs.Printed.{written_line, flushed_line, poll_line, submitted_to}
use Rattle.usb_session_calls.specs.Names.{named, freed, set_name, change_named}
use Rattle.usb_session_calls.specs.declared.call.WriterCall.{WriterCall}
use Rattle.usb_session_calls.specs.declared.call.WriterCall.TheVariants as writers
use Rattle.usb_session_calls.specs.declared.call.WriterCall.TheVariants.{Write, PollWrite, Submit, SubmitEnd, PollFlush, FlushEnd, PollFlushEnd, SetNumTransfers, SetWriteTimeout}
use Rattle.usb_session_calls.specs.CalledWriters.{writer_called, on_writer}
use Rattle.usb_session_calls.specs.State.{State, Writer, tickets_at, endpoint_of_writer}
use Rattle.usb_session_calls.specs.EndpointNames.{EndpointName, Own, OfReader, OfWriter, OfClientWriter, OfClientReader, endpoint_under}
use Rattle.usb_session_calls.proofs.NameLemmas.{free-none, length-change_named}
use Rattle.usb_session_calls.proofs.EndpointNameLemmas.{Changed, set-changes, freed-changes, change-changes}
use Rattle.usb_session_calls.specs.Writers.{nothing_called, with_writer, writer_answer, without_writer, writer_inner_answer, with_transfers, closed_writer, close_writer_answer, writer_closed_at, writer_closed}
use Rattle.usb_session_calls.specs.Writes.{writing_at, left_by_writer, called_as, flush_as, finish_as}
use Rattle.usb_session_calls.specs.Answer.{answer_with, condition_answer, ok_answer, silent, if_open}
use Rattle.usb_device_endpoint.specs.Closes.{after_close}
use Rattle.usb_session.specs.Served.{closed_under}
use Rattle.usb_session.proofs.CallLeads.{Leads, leads-start, leads-send, leads-wait, leads-take, called-acts}
use Rattle.usb_session.proofs.Views.{view_of, name_counts}
use Rattle.usb_session.proofs.Does.{Shuts, shuts-by, Acts, Changes, Quiet, Does, says_done, ends, settles, still, moves, kept-change, own-changes, writer-changes, quiet-aside, quiet-same, named-does, closing-does, free-does, bar-does}

-- a writer is made of an endpoint, and the endpoint comes back
pub writer-does : (state : State) (w e size : ℕ) → Does state (writer_answer state w e size)
unfolding writer_answer
writer-does state w e size =
    named-does state (named state.endpoints e) _ (λ h here.
    free-does state (λ free.
    free-does state (λ out.
    let y : Writer = record { state = fresh_writer h.state size; taken = h.taken; calls = nothing_called (tickets_at h) } in
    settles refl (moves (Own e) (OfWriter w) h (endpoint_of_writer y) here (ap (option_map endpoint_of_writer) (free-none state.writers w free)) (record { key = refl; maximum = refl; pending = refl; taken = refl }) (λ was. refl)
    (record {
      mid = view_of (record state { endpoints = freed state.endpoints e });
      gone = own-changes state state.host (freed state.endpoints e) e None (freed-changes state.endpoints e);
      put = writer-changes (record state { endpoints = freed state.endpoints e }) state.host (set_name state.writers w y) w (Some y) (set-changes state.writers w y free);
    })
    (still (quiet-same (with_writer state w e size h)))))))

pub writer_inner-does : (state : State) (e w : ℕ) → Does state (writer_inner_answer state e w)
unfolding writer_inner_answer
writer_inner-does state e w =
    named-does state (named state.writers w) _ (λ x is.
    free-does state (λ free.
    settles refl (moves (OfWriter w) (Own e) (endpoint_of_writer x) (endpoint_of_writer x) (ap (option_map endpoint_of_writer) is) (free-none state.endpoints e free) (record { key = refl; maximum = refl; pending = refl; taken = refl }) (λ was. was tt)
    (record {
      mid = view_of (record state { writers = freed state.writers w });
      gone = writer-changes state state.host (freed state.writers w) w None (freed-changes state.writers w);
      put = own-changes (record state { writers = freed state.writers w }) state.host (set_name state.endpoints e (endpoint_of_writer x)) e (Some (endpoint_of_writer x)) (set-changes state.endpoints e (endpoint_of_writer x) free);
    })
    (still (quiet-same (without_writer state e w x))))))

-- it is closed
closed-changes : (state : State) (w : ℕ) (x : Writer) → Changes (view_of state) (view_of (closed_writer state w x)) (after_close host_calls state.host x.state.endpoint) (OfWriter w) None
closed-changes state w x = writer-changes state (after_close host_calls state.host x.state.endpoint) (freed state.writers w) w None (freed-changes state.writers w)

pub writer_closed-does : (state : State) (w : ℕ) (lines : EndpointName → List (List ℕ)) → Acts (silent (writer_closed state w)) (view_of state) (closed_under state lines (OfWriter w)) []
unfolding writer_closed
writer_closed-does state w lines =
    closing-does state (OfWriter w) lines (named state.writers w) endpoint_of_writer (λ o. silent (writer_closed_at state w o)) (closed_writer state w) refl refl (quiet-same state) (λ x. refl)
    (λ x is. closed-changes state w x) (λ x. quiet-same (closed_writer state w x))

writer_closed-gone : (state : State) (n : ℕ) → Changed (endpoint_under state) (endpoint_under (writer_closed state n)) (OfWriter n) None
unfolding writer_closed
writer_closed-gone state n = by (named state.writers n) refl
  where
    by : (o : Option Writer) → named state.writers n ≡ o → Changed (endpoint_under state) (endpoint_under (writer_closed_at state n o)) (OfWriter n) None
    by None is = record { here = ap (option_map endpoint_of_writer) is; others = λ d apart. refl }
    by (Some x) is = (closed-changes state n x).endpoints

pub writer_closed-shuts : Shuts writer_closed OfWriter
writer_closed-shuts = shuts-by writer_closed OfWriter writer_closed-gone

pub close_writer-does : (state : State) (w : ℕ) (lines : EndpointName → List (List ℕ)) → Acts (close_writer_answer state w) (view_of state) (closed_under state lines (OfWriter w)) []
unfolding close_writer_answer
close_writer-does state w lines =
    closing-does state (OfWriter w) lines (named state.writers w) endpoint_of_writer (λ o. if_open o (λ x. ok_answer (closed_writer state w x)) (condition_answer state)) (closed_writer state w) refl refl (quiet-same state) (λ x. refl)
    (λ x is. closed-changes state w x) (λ x. quiet-same (closed_writer state w x))

-- a change of it that keeps its endpoint
module _ (f : Writer → Writer) (state : State) (w : ℕ) (x : Writer) (at : named state.writers w ≡ Some x) (same : endpoint_of_writer (f x) ≡ endpoint_of_writer x) where
  endpoint-kept : (e : EndpointName) → endpoint_under (record state { writers = change_named f state.writers w }) e ≡ endpoint_under state e
  endpoint-kept (Own e) = refl
  endpoint-kept (OfWriter n) = kept-change endpoint_of_writer f state.writers w n x at same
  endpoint-kept (OfReader n) = refl
  endpoint-kept (OfClientWriter n) = refl
  endpoint-kept (OfClientReader n) = refl

  kept-quiet : Quiet (view_of state) (view_of (record state { writers = change_named f state.writers w }))
  kept-quiet =
      quiet-aside state (record state { writers = change_named f state.writers w }) refl refl endpoint-kept
      (ap (λ n. record (name_counts state) { writers = n }) (length-change_named f state.writers w)) refl

-- what is kept by all that a call does is kept by one that leaves this
abbrev KeptBy : Writing HostState → Writing HostState → Type 1
KeptBy old new = (P : Writing HostState → Type 0) → Keeps P → P old → P new

called_as-does : {A : Type 0} (state : State) (w : ℕ) (x : Writer) (need : ℕ) (calls : List Call) (line : Result A WriteFault → List ℕ) (came : Answered A WriteFault (Writing HostState)) → named state.writers w ≡ Some x → ((r : Result A WriteFault) → says_done (line r) ≡ false) → KeptBy (writing_at state x) came.left
    → Does state (called_as state w x need calls line came)
called_as-does state w x need calls line came is other keeps =
    let e = OfWriter w in
    let h = endpoint_of_writer x in
    let here = ap (option_map endpoint_of_writer) is in
    let not_done = other came.answer in
    let a = answer_with (left_by_writer state w (option_map (with_calls calls (failures_of came.answer)) x.calls) came.left) (line came.answer) in
    bar-does state {bars = bars_call (writing_at state x) need} {call = a} (λ no_.
    called-acts a (view_of state) e h tt here not_done came.left.bus came.left.writer.endpoint
    (writer-changes state _ _ w _ (change-changes _ state.writers w x is)) (
    keeps (λ v. Leads a (view_of state) e h here v.bus v.writer.endpoint)
    (record {
      set = λ v buffer begun l. l;
      submission = λ v b l. leads-send a (view_of state) e h tt here not_done v.bus v.writer.endpoint b l;
      wait = λ v timeout front others was l. leads-wait a (view_of state) e h tt here not_done v.bus v.writer.endpoint front timeout l;
      taking = λ v front others c was came l. leads-take a (view_of state) e h tt here not_done v.bus v.writer.endpoint front others was l;
    })
    (leads-start a (view_of state) e h tt here not_done x.state.endpoint refl)))

-- a flush of what stands, and the end of a message
flush_as-does : (state : State) (w : ℕ) (x : Writer) (line : Result (Unit {0}) WriteFault → List ℕ) (came : Answered (Unit {0}) WriteFault (Writing HostState)) → named state.writers w ≡ Some x → ((r : Result (Unit {0}) WriteFault) → says_done (line r) ≡ false) → KeptBy (writing_at state x) came.left
    → Does state (flush_as state w x line came)
flush_as-does state w x = called_as-does state w x (flush_need x.state) (Flush ∷ [])

finish_as-does : (state : State) (w : ℕ) (x : Writer) (line : Result (Unit {0}) WriteFault → List ℕ) (came : Answered (Unit {0}) WriteFault (Writing HostState)) → named state.writers w ≡ Some x → ((r : Result (Unit {0}) WriteFault) → says_done (line r) ≡ false) → KeptBy (writing_at state x) came.left
    → Does state (finish_as state w x line came)
finish_as-does state w x = called_as-does state w x (finish_need x.state) (Finish ∷ [])

-- none of their lines is that of a completion
fault-other : (fault : WriteFault) → says_done (write_fault_line fault) ≡ false
unfolding io_line
fault-other fault = refl

written-other : (r : Result ℕ WriteFault) → says_done (written_line r) ≡ false
unfolding wrote_line
written-other (Ok count) = refl
written-other (Err fault) = fault-other fault

flushed-other : (r : Result (Unit {0}) WriteFault) → says_done (flushed_line r) ≡ false
flushed-other (Ok done) = refl
flushed-other (Err fault) = fault-other fault

polled-other : {A : Type 0} (line : Result A WriteFault → List ℕ) → ((r : Result A WriteFault) → says_done (line r) ≡ false) → (r : Result A WriteFault) → says_done (poll_line line r) ≡ false
polled-other line other (Ok x) = other (Ok x)
polled-other line other (Err (Transfer e)) = other (Err (Transfer e))
polled-other line other (Err TimedOut) = refl

-- each call
writer_called-does : (state : State) (w : ℕ) (x : Writer) (call : WriterCall) → named state.writers w ≡ Some x → Does state (writer_called call state w x)
writer_called-does state w x (Write bytes) is =
    called_as-does state w x _ _ written_line (write_came host_calls x.state.timeout bytes (writing_at state x)) is written-other (λ P keeps. write-keeps P keeps x.state.timeout bytes (writing_at state x))
writer_called-does state w x (PollWrite bytes) is =
    called_as-does state w x _ _ (poll_line written_line) (write_came host_calls 0 bytes (writing_at state x)) is (polled-other written_line written-other) (λ P keeps. write-keeps P keeps 0 bytes (writing_at state x))
writer_called-does state w x Submit is =
    flush_as-does state w x flushed_line (submitted_to (submit_came host_calls (writing_at state x))) is flushed-other (λ P keeps. submit-keeps P keeps (writing_at state x))
writer_called-does state w x SubmitEnd is =
    finish_as-does state w x flushed_line (submitted_to (submit_end_came host_calls (writing_at state x))) is flushed-other (λ P keeps. submit_end-keeps P keeps (writing_at state x))
writer_called-does state w x writers.Flush is =
    flush_as-does state w x flushed_line (flush_came host_calls x.state.timeout (writing_at state x)) is flushed-other (λ P keeps. flush-keeps P keeps x.state.timeout (writing_at state x))
writer_called-does state w x PollFlush is =
    flush_as-does state w x (poll_line flushed_line) (flush_came host_calls 0 (writing_at state x)) is (polled-other flushed_line flushed-other) (λ P keeps. flush-keeps P keeps 0 (writing_at state x))
writer_called-does state w x FlushEnd is =
    finish_as-does state w x flushed_line (flush_end_came host_calls x.state.timeout (writing_at state x)) is flushed-other (λ P keeps. flush_end-keeps P keeps x.state.timeout (writing_at state x))
writer_called-does state w x PollFlushEnd is =
    called_as-does state w x _ _ (poll_line flushed_line) (poll_flush_end_came host_calls (writing_at state x)) is (polled-other flushed_line flushed-other) (λ P keeps. poll_flush_end-keeps P keeps (writing_at state x))
writer_called-does state w x (SetNumTransfers n) is =
    let next = record state { writers = change_named (with_transfers n) state.writers w } in
    bar-does state {bars = bars_transfers n} {call = ok_answer next} (λ no_. ends refl (kept-quiet _ state w x is refl))
writer_called-does state w x (SetWriteTimeout timeout) is = ends refl (kept-quiet _ state w x is refl)

pub on_writer-does : (state : State) (w : ℕ) (call : WriterCall) → Does state (on_writer state w call)
unfolding on_writer
on_writer-does state w call = named-does state (named state.writers w) (writer_called call state w) (λ x is. writer_called-does state w x call is)
