-- What calls on an open writer answer.
use Rattle.std.proofs.Common.{◌≡◌, ℕ, Bool, true, false, cond, List, ◌++◌, Option, Some, Result, Ok, Err, refl, ap, sym, ◌∙◌, subst, String, string_bytes}
use Rattle.std.specs.Prelude.{OnOk}
use Rattle.std.specs.Option.{option_map}
use Rattle.std.specs.declared.alloc.Global.{Global}
use Rattle.usb_device_endpoint.specs.EndpointState.{EndpointState}
use Rattle.usb_device_host.specs.HostState.{HostState}
use Rattle.usb_device_host.specs.HostCalls.{host_calls}
use Rattle.usb_io.specs.Writers.{WriterState, Writing, writing}
use Rattle.usb_io.specs.Writes.{Call}
use Rattle.usb_io.specs.Carried.{written_calls}
use Rattle.usb_io.specs.declared.fault.WriteFault.{WriteFault}
use Rattle.usb_io.specs.Answered.{Answered as Given}
use Rattle.usb_io.specs.WriteAnswers.{write_came}
use Rattle.usb_session_streams.specs.Told.{WriterCalls, with_calls, failures_of}
use Rattle.usb_session_text.specs.Calls.{condition_line, ok_line}
use Rattle.usb_session_streams.specs.Needs.{bars_call, bars_transfers, write_need}
use Rattle.usb_session_streams.specs.Printed.{CallKeeps as WriterKeeps, Prints, CameTo}
use Rattle.usb_session_calls.specs.Names.{named, change_named}
use Rattle.usb_session_calls.proofs.NameLemmas.{change_named-none}
use Rattle.usb_session_calls.specs.State.{State, Writer, tickets_of, with_host}
use Rattle.usb_session_calls.specs.Readers.{taken_by_call}
use Rattle.usb_session_calls.specs.Writers.{with_transfers, transfers_on, with_write_timeout, write_timeout_on}
use Rattle.usb_session_calls.specs.Writes.{writing_at, left_by_writer, called_as}
use Rattle.usb_session_calls.specs.Answer.{Answer, answer_with, condition_answer}
use Rattle.usb_session_calls.specs.Answered.{Answered}
use Rattle.usb_session_calls.specs.SessionState.{SessionState}
use Rattle.usb_session_calls.specs.Relation.{Represents}
use Rattle.usb_session_calls.specs.OpenCalls.{CallKeeps}
use Rattle.usb_session_calls.proofs.Answering.{host_is, told-answered}
use Rattle.usb_session_calls.proofs.Called.{represents-writer}
use Rattle.usb_session_calls.specs.WriterCalls.{WriterAnswers, with_writer_called}

-- what a call on a writer keeps, by its endpoint
pub keeps-writer : (old new : Writing HostState) → WriterKeeps old new → CallKeeps old.bus new.bus old.writer.endpoint new.writer.endpoint
keeps-writer old new keeps =
    record {
      line = keeps.line;
      past = keeps.past;
      stands = keeps.stands;
      others = keeps.others;
      key = ap (λ (h : EndpointState). h.key) keeps.settings.endpoint;
      maximum = ap (λ (h : EndpointState). h.maximum) keeps.settings.endpoint;
      accounts = keeps.accounts;
    }

-- an answer of a call of a writer (at): the writer is changed, to one that calls see so (y), the host goes on, and this line is told
record ComesTo (state : State) (w : ℕ) (at : Writer) (now : HostState) (y : WriterState) (line : List ℕ) (a : Answer) : Type 0 where
  pub change : Writer → Writer
  pub is : a ≡ answer_with (record state { host = now; writers = change_named change state.writers w }) line
  pub same : (change at).state ≡ y

comes-answered : (s : SessionState) (state : State) (w : ℕ) (at : Writer) (now : HostState) (y : WriterState) (before after line : List ℕ) (a : Answer) → Represents s state → named state.writers w ≡ Some at → after ≡ before ++ line → ComesTo state w at now y line a
    → Answered (with_writer_called s w now y) before after a
comes-answered s state w at now y before after line a rep is printed c =
    subst (Answered (with_writer_called s w now y) before after) (sym c.is)
    (told-answered (with_writer_called s w now y) (record state { host = now; writers = change_named c.change state.writers w }) before after line
    (represents-writer s state now c.change w at y rep is c.same) printed)

-- nothing but the line
comes-told : (state : State) (w : ℕ) (at : Writer) (x : WriterState) (line : List ℕ) → at.state ≡ x → ComesTo state w at state.host x line (answer_with state line)
comes-told state w at x line same =
    record { change = λ z. z; is = ap (λ (l : List (Option Writer)). answer_with (record state { writers = l }) line) (sym (change_named-none state.writers w)); same = same }

-- what a call left of host and writer
comes-called : (state : State) (w : ℕ) (at : Writer) (v : Writing HostState) (calls : Option WriterCalls) (line : List ℕ) → ComesTo state w at v.bus v.writer line (answer_with (left_by_writer state w calls v) line)
comes-called state w at v calls line =
    record {
      change = λ z. record {
        state = v.writer;
        taken = z.taken ++ taken_by_call (tickets_of state) (tickets_of (with_host state v.bus)) z.state.endpoint.pending v.writer.endpoint.pending;
        calls = calls;
      };
      is = refl;
      same = refl;
    }

-- a call, by what it comes to at the host
abbrev pub called_by : {A : Type 0} → (Writing HostState → Given A WriteFault (Writing HostState)) → (WriterState → ℕ) → (WriterState → Result A WriteFault → List Call) → (Result A WriteFault → List ℕ) → State → ℕ → Writer → Answer
called_by came need calls line state w at =
    called_as state w at (need at.state) (calls at.state (came (writing_at state at)).answer) line (came (writing_at state at))

-- it is answered in a session as at the host
pub writer-answers : {A E : Type 0} (came : Writing HostState → Given A WriteFault (Writing HostState)) (need : WriterState → ℕ) (calls : WriterState → Result A WriteFault → List Call) (line : Result A WriteFault → List ℕ) (old new : HostState) (x y : WriterState)
    (before text : String Global) (result : Result Unit E) → Prints (bars_call (writing old x) (need x)) line (came (writing old x)) before text (writing old x) (writing new y) result
    → WriterAnswers old new x y before text result (called_by came need calls line)
writer-answers came need calls line old new x y before text (Err error) prints = tt
writer-answers {A} came need calls line old new x y before text (Ok done) prints =
    λ s state w at rep host_was is same.
    let a = came (writing old x) in
    let host : state.host ≡ old = sym (host_is s state rep) ∙ host_was in
    let there : writing_at state at ≡ writing old x =
    ap (λ (h : HostState). writing h at.state) host ∙ ap (λ (z : WriterState). writing old z) same in
    let all = λ (p : Writing HostState). option_map (with_calls (calls p.writer (came p).answer) (failures_of (came p).answer)) at.calls in
    let answer = λ (p : Writing HostState). cond (bars_call p (need p.writer)) (condition_answer state) (answer_with (left_by_writer state w (all p) (came p).left) (line (came p).answer)) in
    let by : (b : Bool) → CameTo b (line a.answer) a.left (string_bytes before) (string_bytes text) (writing old x) (writing new y)
    → Answered (with_writer_called s w new y) (string_bytes before) (string_bytes text) (cond b (condition_answer state) (answer_with (left_by_writer state w (all (writing old x)) a.left) (line a.answer))) =
    elim [
      | true ↦ λ p.
          subst (λ (v : Writing HostState). Answered (with_writer_called s w v.bus v.writer) (string_bytes before) (string_bytes text) (condition_answer state)) (sym p.1)
          (comes-answered s state w at old x (string_bytes before) (string_bytes text) condition_line (condition_answer state) rep is p.0
          (subst (λ (h : HostState). ComesTo state w at h x condition_line (condition_answer state)) host (comes-told state w at x condition_line same)))
      | false ↦ λ p.
          let after = answer_with (left_by_writer state w (all (writing old x)) a.left) (line a.answer) in
          subst (λ (v : Writing HostState). Answered (with_writer_called s w v.bus v.writer) (string_bytes before) (string_bytes text) after) (sym p.1)
          (comes-answered s state w at a.left.bus a.left.writer (string_bytes before) (string_bytes text) (line a.answer) after rep is p.0
          (comes-called state w at a.left (all (writing old x)) (line a.answer)))
    ] in
    subst (Answered (with_writer_called s w new y) (string_bytes before) (string_bytes text)) (sym (ap answer there)) (by (bars_call (writing old x) (need x)) prints)

-- a write, of the bytes of this slice (l)
pub write-answers : {E : Type 0} (timeout : WriterState → ℕ) (src l : List ℕ) (line : Result ℕ WriteFault → List ℕ) (old new : HostState) (x y : WriterState) (before text : String Global) (result : Result Unit E) → l ≡ src
    → Prints (bars_call (writing old x) (write_need x)) line (write_came host_calls (timeout x) l (writing old x)) before text (writing old x) (writing new y) result
    → WriterAnswers old new x y before text result (called_by (λ v. write_came host_calls (timeout v.writer) src v) write_need (λ z r. written_calls src r) line)
write-answers timeout src l line old new x y before text result same prints =
    writer-answers (λ v. write_came host_calls (timeout v.writer) src v) write_need (λ z r. written_calls src r) line old new x y before text result
    (subst (λ (bytes : List ℕ). Prints (bars_call (writing old x) (write_need x)) line (write_came host_calls (timeout x) bytes (writing old x)) before text (writing old x) (writing new y) result) same prints)

-- a call that asks nothing of the host
writer-off : {E : Type 0} (host : HostState) (x y : WriterState) (before text : String Global) (result : Result Unit E) (line : List ℕ) (call : State → ℕ → Writer → Answer) → OnOk result (string_bytes text ≡ string_bytes before ++ line)
    → ((state : State) (w : ℕ) (at : Writer) → at.state ≡ x → ComesTo state w at state.host y line (call state w at)) → WriterAnswers host host x y before text result call
writer-off host x y before text (Err error) line call printed comes = tt
writer-off host x y before text (Ok done) line call printed comes =
    λ s state w at rep host_was is same.
    comes-answered s state w at host y (string_bytes before) (string_bytes text) line (call state w at) rep is printed
    (subst (λ (h : HostState). ComesTo state w at h y line (call state w at)) (sym (host_is s state rep) ∙ host_was) (comes state w at same))

-- `num` of a writer
pub transfers-barred : {E : Type 0} (host : HostState) (x : WriterState) (n : ℕ) (before text : String Global) (result : Result Unit E) → bars_transfers n ≡ true → OnOk result (string_bytes text ≡ string_bytes before ++ condition_line) → WriterAnswers host host x x before text result (λ state w at. transfers_on state w n)
transfers-barred host x n before text result bars printed =
    writer-off host x x before text result condition_line (λ state w at. transfers_on state w n) printed
    (λ state w at same. rw bars (comes-told state w at x condition_line same))

pub transfers-set : {E : Type 0} (host : HostState) (x y : WriterState) (n : ℕ) (before text : String Global) (result : Result Unit E) → bars_transfers n ≡ false → y ≡ record x { n = n } → OnOk result (string_bytes text ≡ string_bytes before ++ ok_line) → WriterAnswers host host x y before text result (λ state w at. transfers_on state w n)
transfers-set host x y n before text result free is printed =
    writer-off host x y before text result ok_line (λ state w at. transfers_on state w n) printed
    (λ state w at same. record { change = with_transfers n; is = rw free refl; same = ap (λ (z : WriterState). record z { n = n }) same ∙ sym is })

-- and `timeout`
pub write_timeout-set : {E : Type 0} (host : HostState) (x y : WriterState) (timeout : ℕ) (before text : String Global) (result : Result Unit E) → y ≡ record x { timeout = timeout } → OnOk result (string_bytes text ≡ string_bytes before ++ ok_line) → WriterAnswers host host x y before text result (λ state w at. write_timeout_on state w timeout)
write_timeout-set host x y timeout before text result is printed =
    writer-off host x y before text result ok_line (λ state w at. write_timeout_on state w timeout) printed
    (λ state w at same. record { change = with_write_timeout timeout; is = refl; same = ap (λ (z : WriterState). record z { timeout = timeout }) same ∙ sym is })
