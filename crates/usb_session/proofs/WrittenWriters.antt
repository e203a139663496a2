-- The tickets of writers' endpoints tell of their calls, where these alone used them.
use Rattle.std.proofs.Common.{◌≡◌, ◌∙◌, ℕ, ◌+◌, ◌-◌, ◌*◌, ◌/◌, ◌<◌, true, List, [], ◌∷◌, ◌++◌, Option, Some, None, Result, refl, ap, sym, subst, inl, inr}
use Rattle.std.specs.Prelude.{All, nat_le, if◌then◌else◌}
use Rattle.std.specs.Option.{option_map}
use Rattle.std.proofs.lemmas.Bool.{cases_Bool, leb-false}
use Rattle.std.proofs.lemmas.List.Elements.{All-nil, All-append}
use Rattle.std.proofs.lemmas.Option.{none-some, same_Some}
use Rattle.usb_desc.specs.declared.types.Direction.TheVariants.{In, Out}
use Rattle.usb_xfer.specs.declared.error.TransferError.{TransferError}
use Rattle.usb_kernel.specs.declared.event.Event.{Event}
use Rattle.usb_kernel.specs.Extends.{Extends}
use Rattle.usb_kernel.proofs.Extends.{extends-same}
use Rattle.usb_device_endpoint.specs.EndpointState.{EndpointState}
use Rattle.usb_device_host.specs.HostState.{HostState}
use Rattle.usb_device_host.specs.EndpointRefusals.{same_direction}
use Rattle.usb_device_host.specs.HostCalls.{host_calls}
use Rattle.usb_device_host.proofs.FollowLemmas.{on-rest}
use Rattle.usb_io.specs.declared.fault.WriteFault.{WriteFault}
use Rattle.usb_io.specs.Readers.{rounded}
use Rattle.usb_io.specs.Writers.{Writing, fresh_writer}
use Rattle.usb_io.specs.Writes.{Call, Flush, Finish}
use Rattle.usb_io.specs.Carried.{WriterHistory, Tells, written_calls, begun_calls}
use Rattle.usb_io.specs.Answered.{Answered}
use Rattle.usb_io.specs.WriteAnswers.{write_came, flush_came, flush_end_came, poll_flush_end_came, submit_came, submit_end_came}
use Rattle.usb_io.proofs.CarriedLaws.{fresh_tells, later_tells}
use Rattle.usb_session_streams.specs.WriterCalls.{WriterGoesOn}
use Rattle.usb_session_streams.specs.Told.{WriterCalls, no_calls, with_calls, failures_of, failures_at, IsComplete, CallTells, WriterCall as StreamCall, Write, FlushAll, FlushEnd, PollFlushEnd, Submit, SubmitEnd, left_by, counts_as, failures_by}
use Rattle.usb_session_streams.proofs.WritesGoOn.{writer_calls-go_on}
use Rattle.usb_session_streams.proofs.Tells.{calls-tell}
use Rattle.usb_session_streams.proofs.TicketMoves.{complete-later, failures-later, failures-append}
use Rattle.usb_session_streams.specs.Needs.{bars_call, bars_transfers, write_need, flush_need, finish_need, poll_finish_need}
use Rattle.usb_script_lines.specs.declared.item.Item.{Item}
use Rattle.usb_session_streams.specs.Printed.{written_line, flushed_line, poll_line, submitted_to}
use Rattle.usb_session_calls.specs.Names.{named, is_free, change_named}
use Rattle.usb_session_calls.proofs.EndpointNameLemmas.{set-changes, freed-changes, change-changes}
use Rattle.usb_session_calls.specs.declared.call.Call.{Call as SessionCall}
use Rattle.usb_session_calls.specs.declared.call.Call.TheVariants as families
use Rattle.usb_session_calls.specs.declared.call.OpenCall.TheVariants as opens
use Rattle.usb_session_calls.specs.declared.call.CloseCall.TheVariants as closes
use Rattle.usb_session_calls.specs.declared.call.WriterCall.{WriterCall}
use Rattle.usb_session_calls.specs.declared.call.WriterCall.TheVariants as writers
use Rattle.usb_session_calls.specs.State.{State, Endpoint, Writer, tickets_at, tickets_of, with_host}
use Rattle.usb_session.specs.WrittenScripts.{IsWritten, ScriptsAreWritten}
use Rattle.usb_session_calls.specs.Answer.{Answer, answer_with, condition_answer, ok_answer}
use Rattle.usb_session_calls.specs.Submits.{has_direction}
use Rattle.usb_session_calls.specs.Readers.{taken_by_call}
use Rattle.usb_session_calls.specs.Writers.{nothing_called, with_writer, writer_on, writer_answer, without_writer, writer_inner_answer, with_transfers, with_write_timeout, closed_writer, close_writer_answer}
use Rattle.usb_session_calls.specs.Writes.{writing_at, left_by_writer, called_as, write_on, flush_as, finish_as}
use Rattle.usb_session_calls.specs.Steps.{with_steps, steps_applied, then_applied}
use Rattle.usb_session_calls.specs.CalledWriters.{writer_called, on_writer}
use Rattle.usb_session.specs.CallAnswers.{call_answer}
use Rattle.usb_session.specs.Answers.{answer}
use Rattle.usb_session.specs.Output.{start, behind}
use Rattle.usb_session.specs.Behind.{ScriptsGoOn}
use Rattle.usb_session.proofs.Crowds.{over-line}
use Rattle.usb_session.proofs.LinesBehind.{past_of, behind-keeps}
use Rattle.usb_session.proofs.TakenTickets.{taken-are}
use Rattle.usb_session.proofs.Barred.{bar-keeps, free-keeps, open-keeps}
use Rattle.usb_session.proofs.StreamsLeave.{leaves-writers}
use Rattle.usb_session.proofs.StreamsKeep.{EachOpen, none-open, left-keeps, one-keeps, gone-keeps}

-- the tickets that were taken of a writer's endpoint, and its accepted calls
abbrev pub history_of : Writer → WriterCalls → WriterHistory
history_of x c = record { taken = x.taken; calls = c.accepted }

-- the tickets of an OUT endpoint tell of its writer's accepted calls, those that were taken are complete, and failed as the calls
-- answered, and transfers are of whole packets
pub record TellsAt (past : List Event) (x : Writer) (c : WriterCalls) : Type 0 where
  pub output : x.state.endpoint.address < 128
  pub whole : (more : ℕ) × ((more + 1) * x.state.endpoint.maximum ≡ x.state.size)
  pub tells : Tells past x.state (history_of x c)
  pub complete : All (IsComplete past) x.taken
  pub failed : failures_at past x.taken ≡ c.failures

-- so do those of a writer that alone used its endpoint
abbrev IsTelling : List Event → Writer → Type 0
IsTelling past x = (c : WriterCalls) → x.calls ≡ Some c → TellsAt past x c

-- which says what was written
is-written : (past : List Event) (x : Writer) (c : WriterCalls) → TellsAt past x c → IsWritten past x c
is-written past x c f = record { transfers = f.tells.carries.0; standing = f.tells.stands; failures = f.failed }

-- whatever comes
pub at-later : (old new : List Event) (x : Writer) (c : WriterCalls) → Extends old new → TellsAt old x c → TellsAt new x c
at-later old new x c extends f =
    record {
      output = f.output;
      whole = f.whole;
      tells = later_tells old new x.state (history_of x c) extends f.tells;
      complete = complete-later old new x.taken extends f.complete;
      failed = failures-later old new x.taken extends f.complete ∙ f.failed;
    }

later : (old new : List Event) (x : Writer) → Extends old new → IsTelling old x → IsTelling new x
later old new x extends f c is = at-later old new x c extends (f c is)

-- a writer is made
nothing-is : (taken pending : List ℕ) (c : WriterCalls) → nothing_called (taken ++ pending) ≡ Some c → (taken ≡ []) × (pending ≡ []) × (no_calls ≡ c)
nothing-is [] [] c is = (refl, refl, same_Some no_calls c is)
nothing-is [] (t ∷ ts) c is = absurd (none-some c is)
nothing-is (t ∷ ts) pending c is = absurd (none-some c is)

pub output-of : (h : Endpoint) → has_direction Out h.state ≡ true → h.state.address < 128
output-of h is =
    elim (cases_Bool (nat_le 128 h.state.address)) [ inl below ↦ absurd (let e : same_direction In Out ≡ true = rw below at is in cc) | inr other ↦ leb-false 128 h.state.address other ]

abbrev made_of : Endpoint → ℕ → Writer
made_of h size = record { state = fresh_writer h.state size; taken = h.taken; calls = nothing_called (tickets_at h) }

-- a transfer size is rounded up to whole packets, at least one
whole-rounded : (maximum size : ℕ) → (more : ℕ) × ((more + 1) * maximum ≡ rounded maximum size)
whole-rounded maximum size = ((size - 1) / maximum, refl)

fresh-at : (past : List Event) (h : Endpoint) (size : ℕ) → h.state.address < 128 → IsTelling past (made_of h size)
fresh-at past h size output c is =
    let none = nothing-is h.taken h.state.pending c is in
    record {
      output = output;
      whole = whole-rounded h.state.maximum size;
      tells = rw (none.0, sym none.2) (fresh_tells past h.state size none.1);
      complete = subst (All (IsComplete past)) (sym none.0) (All-nil (IsComplete past));
      failed = ap (failures_at past) none.0 ∙ ap (λ (d : WriterCalls). d.failures) none.2;
    }

abbrev writers_of : State → List (Option Writer)
writers_of state = state.writers

-- so it is of each that is open
abbrev AllTell : State → Type 0
AllTell state = EachOpen writers_of IsTelling state

writer-tell : (state : State) (w e size : ℕ) → AllTell state → AllTell (writer_answer state w e size).state
unfolding writer_answer
writer-tell state w e size f =
    let past = state.host.kernel.past in
    open-keeps AllTell state f (named state.endpoints e) (writer_on state w e size) (λ h at.
    let made = with_writer state w e size h in
    let x = made_of h size in
    free-keeps AllTell state f (is_free state.writers w) (if has_direction Out h.state then ok_answer made else condition_answer state) (λ free.
    free-keeps AllTell state f (has_direction Out h.state) (ok_answer made) (λ output.
    one-keeps writers_of IsTelling later state made (extends-same past) w x (set-changes state.writers w x free) (fresh-at past h size (output-of h output)) f)))

-- its endpoint comes back
inner-tell : (state : State) (e w : ℕ) → AllTell state → AllTell (writer_inner_answer state e w).state
unfolding writer_inner_answer
inner-tell state e w f =
    open-keeps AllTell state f (named state.writers w) _ (λ x at.
    free-keeps AllTell state f (is_free state.endpoints e) (ok_answer (without_writer state e w x)) (λ free.
    gone-keeps writers_of IsTelling later state (without_writer state e w x) (extends-same state.host.kernel.past) w (freed-changes state.writers w) f))

-- it is closed
close-tell : (state : State) (w : ℕ) → AllTell state → Extends state.host.kernel.past (close_writer_answer state w).state.host.kernel.past → AllTell (close_writer_answer state w).state
unfolding close_writer_answer
close-tell state w f =
    open-keeps (λ (next : State). Extends state.host.kernel.past next.host.kernel.past → AllTell next) state (λ extends. f) (named state.writers w) _ (λ x at extends.
    gone-keeps writers_of IsTelling later state (closed_writer state w x) extends w (freed-changes state.writers w) f)

-- what is set is neither calls nor transfer size nor buffer
set-tells : (past : List Event) (n timeout : ℕ) (x : Writer) → IsTelling past x → IsTelling past (record x { state = record x.state { n = n; timeout = timeout } })
set-tells past n timeout x f c is = let was = f c is in record { output = was.output; whole = was.whole; tells = was.tells; complete = was.complete; failed = was.failed }

-- behind a call of a writer
abbrev called_at : State → Option WriterCalls → Writing HostState → Writer → Writer
called_at state calls v x =
    record {
      state = v.writer;
      taken = x.taken ++ taken_by_call (tickets_of state) (tickets_of (with_host state v.bus)) x.state.endpoint.pending v.writer.endpoint.pending;
      calls = calls;
    }

called-tells : (state : State) (x : Writer) (v : Writing HostState) (before : WriterCalls) (accepted : List Call) (failures : List TransferError) (now : Option WriterCalls) → WriterGoesOn (writing_at state x) v → CallTells (writing_at state x) v accepted failures
    → TellsAt state.host.kernel.past x before → TellsAt v.bus.kernel.past (called_at state now v x) (with_calls accepted failures before)
called-tells state x v before accepted failures now goes t was =
    let new = v.bus.kernel.past in
    let still = at-later state.host.kernel.past new x before goes.past was in
    let taken = taken-are (tickets_of state) (tickets_of (with_host state v.bus)) x.state.endpoint.pending v.writer.endpoint.pending t.taken (sym t.tickets) in
    subst (λ (ts : List ℕ). TellsAt new (record (called_at state now v x) { taken = x.taken ++ ts }) (with_calls accepted failures before)) (sym taken)
    (record {
      output = subst (λ (e : EndpointState). e.address < 128) (sym goes.settings.endpoint) was.output;
      whole = (was.whole.0, ap (λ (e : EndpointState). (was.whole.0 + 1) * e.maximum) goes.settings.endpoint ∙ was.whole.1 ∙ sym goes.settings.size);
      tells = t.tells x.taken before.accepted was.tells;
      complete = All-append (IsComplete new) x.taken t.taken still.complete t.complete;
      failed =
          failures-append new x.taken t.taken
          ∙ ap (λ (l : List TransferError). l ++ failures_at new t.taken) still.failed
          ∙ ap (λ (l : List TransferError). before.failures ++ l) t.failed;
    })

-- the calls before one
record Before (accepted : List Call) (failures : List TransferError) (o : Option WriterCalls) (c : WriterCalls) : Type 0 where
  before : WriterCalls
  was : o ≡ Some before
  is : with_calls accepted failures before ≡ c

before-of : (accepted : List Call) (failures : List TransferError) (o : Option WriterCalls) (c : WriterCalls) → option_map (with_calls accepted failures) o ≡ Some c → Before accepted failures o c
before-of accepted failures None c is = absurd (none-some c is)
before-of accepted failures (Some before) c is = record { before = before; was = refl; is = same_Some (with_calls accepted failures before) c is }

-- what a call is to its writer where it is made
record ToldCall (state : State) (x : Writer) (accepted : List Call) (failures : List TransferError) (v : Writing HostState) : Type 0 where
  goes : WriterGoesOn (writing_at state x) v
  tells : x.state.endpoint.address < 128 → CallTells (writing_at state x) v accepted failures

told_by : (state : State) (x : Writer) (call : StreamCall) → ToldCall state x (counts_as call (writing_at state x)) (failures_by call (writing_at state x)) (left_by call (writing_at state x))
told_by state x call = record { goes = writer_calls-go_on call (writing_at state x); tells = calls-tell call (writing_at state x) }

-- with the steps of a line, of which those that are left are applied behind a call
applied-tell : (a : Answer) → AllTell a.state → AllTell (then_applied a).state
applied-tell a f = left-keeps writers_of IsTelling later a.state (steps_applied a.state) (on-rest a.state.host).past refl f

-- a writer that is open, in a session in which each tells
module _ (state : State) (f : AllTell state) (w : ℕ) (x : Writer) (at : named state.writers w ≡ Some x) where
  -- what changes it, and the host
  own-tell : (host : HostState) (change : Writer → Writer) → Extends state.host.kernel.past host.kernel.past → IsTelling host.kernel.past (change x) → AllTell (record state { host = host; writers = change_named change state.writers w })
  own-tell host change extends here =
      one-keeps writers_of IsTelling later state (record state { host = host; writers = change_named change state.writers w }) extends w (change x) (change-changes change state.writers w x at) here f

  called_as-tell : {A : Type 0} (need : ℕ) (accepted : List Call) (line : Result A WriteFault → List ℕ) (a : Answered A WriteFault (Writing HostState)) → ToldCall state x accepted (failures_of a.answer) a.left → AllTell (called_as state w x need accepted line a).state
  called_as-tell need accepted line a t =
      let failures = failures_of a.answer in
      let now = option_map (with_calls accepted failures) x.calls in
      bar-keeps AllTell state f (bars_call (writing_at state x) need) (answer_with (left_by_writer state w now a.left) (line a.answer))
      (own-tell a.left.bus (called_at state now a.left) t.goes.past (λ c is.
      let b = before-of accepted failures x.calls c is in
      let was = f w x at b.before b.was in
      subst (TellsAt a.left.bus.kernel.past (called_at state now a.left x)) b.is (called-tells state x a.left b.before accepted failures now t.goes (t.tells was.output) was)))

  -- each call on it
  write-tell : (src : List ℕ) (line : Result ℕ WriteFault → List ℕ) (timeout : ℕ) → AllTell (write_on state w src x line timeout).state
  write-tell src line timeout =
      let came = write_came host_calls timeout src (writing_at state x) in
      called_as-tell (write_need x.state) (written_calls src came.answer) line came (told_by state x (Write timeout src))

  flush-tell : (line : Result Unit WriteFault → List ℕ) (a : Answered Unit WriteFault (Writing HostState)) → ToldCall state x (Flush ∷ []) (failures_of a.answer) a.left → AllTell (flush_as state w x line a).state
  flush-tell line a t = called_as-tell (flush_need x.state) (Flush ∷ []) line a t

  finish-tell : (line : Result Unit WriteFault → List ℕ) (a : Answered Unit WriteFault (Writing HostState)) → ToldCall state x (Finish ∷ []) (failures_of a.answer) a.left → AllTell (finish_as state w x line a).state
  finish-tell line a t = called_as-tell (finish_need x.state) (Finish ∷ []) line a t

  called-tell : (call : WriterCall) → AllTell (writer_called call state w x).state
  called-tell (writers.Write bytes) = write-tell bytes written_line x.state.timeout
  called-tell (writers.PollWrite bytes) = write-tell bytes (poll_line written_line) 0
  called-tell writers.Submit = flush-tell flushed_line (submitted_to (submit_came host_calls (writing_at state x))) (told_by state x Submit)
  called-tell writers.SubmitEnd = finish-tell flushed_line (submitted_to (submit_end_came host_calls (writing_at state x))) (told_by state x SubmitEnd)
  called-tell writers.Flush = flush-tell flushed_line (flush_came host_calls x.state.timeout (writing_at state x)) (told_by state x (FlushAll x.state.timeout))
  called-tell writers.PollFlush = flush-tell (poll_line flushed_line) (flush_came host_calls 0 (writing_at state x)) (told_by state x (FlushAll 0))
  called-tell writers.FlushEnd = finish-tell flushed_line (flush_end_came host_calls x.state.timeout (writing_at state x)) (told_by state x (FlushEnd x.state.timeout))
  called-tell writers.PollFlushEnd =
      called_as-tell (poll_finish_need x.state) (begun_calls x.state.begun) (poll_line flushed_line) (poll_flush_end_came host_calls (writing_at state x)) (told_by state x PollFlushEnd)
  called-tell (writers.SetNumTransfers n) =
      bar-keeps AllTell state f (bars_transfers n) (ok_answer (record state { writers = change_named (with_transfers n) state.writers w }))
      (own-tell state.host (with_transfers n) (extends-same state.host.kernel.past) (set-tells state.host.kernel.past n x.state.timeout x (f w x at)))
  called-tell (writers.SetWriteTimeout timeout) = own-tell state.host (with_write_timeout timeout) (extends-same state.host.kernel.past) (set-tells state.host.kernel.past x.state.n timeout x (f w x at))

on_writer-tell : (state : State) (w : ℕ) (call : WriterCall) → AllTell state → AllTell (on_writer state w call).state
unfolding on_writer
on_writer-tell state w call f = open-keeps AllTell state f (named state.writers w) (writer_called call state w) (λ x at. called-tell state f w x at call)

-- each call
call-tell : (state : State) (call : SessionCall) → Extends state.host.kernel.past (call_answer state call).state.host.kernel.past → AllTell state → AllTell (call_answer state call).state
unfolding call_answer
call-tell state (families.Writer w call steps) extends f = let now = with_steps state steps in applied-tell (on_writer now w call) (on_writer-tell now w call f)
call-tell state (families.Open (opens.Writer w e size)) extends f = writer-tell state w e size f
call-tell state (families.Open (opens.WriterInner e w)) extends f = inner-tell state e w f
call-tell state (families.Close (closes.Writer w)) extends f = close-tell state w f extends
call-tell state call extends f = left-keeps writers_of IsTelling later state (call_answer state call).state extends (leaves-writers state call refl) f

-- and each line
line-tells : (state : State) (line : Item) → Extends state.host.kernel.past (answer state line).state.host.kernel.past → AllTell state → AllTell (answer state line).state
line-tells state line = over-line (λ (next : State). Extends state.host.kernel.past next.host.kernel.past → AllTell state → AllTell next) state line (call-tell state)

-- and it is so behind the lines of a script
start-tells : (items : List Item) → AllTell (start items)
unfolding start
start-tells items = none-open (IsTelling [])

pub tell-at : ScriptsGoOn → (items before : List Item) → AllTell (behind (start items) before)
tell-at go items before =
    behind-keeps AllTell (λ past. Unit {0}) (record { before = λ old new extends legal. tt; first = start-tells; line = λ state line extends legal. line-tells state line extends }) go items before tt

pub tell-by : ScriptsGoOn → ScriptsAreWritten
tell-by go items before after all w x c at is = is-written (past_of (behind (start items) before)) x c (tell-at go items before w x at c is)
