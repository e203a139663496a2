-- What calls on an open reader answer.
use Rattle.std.proofs.Common.{◌≡◌, ◌≢◌, ℕ, ◌<◌, ◌≤◌, ◌-◌, arith, Bool, true, false, cond, List, [], ◌∷◌, ◌++◌, length, map, take, Option, Result, Ok, Err, refl, ap, sym, ◌∙◌, subst, String, string_bytes}
use Rattle.std.specs.Prelude.{OnOk, OnErr, nat_lt, ◌||◌}
use Rattle.std.specs.declared.alloc.Global.{Global}
use Rattle.std.proofs.lemmas.Bool.Decides.{nat_tests}
use Rattle.usb_kernel.proofs.Extends.{extends-same}
use Rattle.usb_device_endpoint.specs.EndpointState.{EndpointState}
use Rattle.usb_device_endpoint.specs.Handles.{Stands}
use Rattle.usb_device_endpoint.proofs.Frames.{others-same}
use Rattle.usb_device_endpoint.specs.Closes.{all_discarded}
use Rattle.usb_device_host.specs.HostState.{HostState}
use Rattle.usb_device_host.specs.HostBus.{bus_of}
use Rattle.usb_device_host.specs.HostCalls.{host_discarded, host_calls}
use Rattle.usb_io.specs.Readers.{ReaderState, with_read, without_end, is_end}
use Rattle.usb_io.specs.Along.{ReadsAlong}
use Rattle.usb_io.specs.Reads.{Reading, reading, filled_to}
use Rattle.usb_io.specs.Streams.{Mark, Byte, End}
use Rattle.usb_io.specs.declared.fault.ReadFault.{ReadFault}
use Rattle.usb_io.specs.declared.fault.ReadFault.TheVariants.{Transfer, TimedOut, UnexpectedEof}
use Rattle.usb_io.specs.declared.until_short.ExpectedShortPacket.{ExpectedShortPacket}
use Rattle.usb_io.specs.Answers.{Read, fill_came, read_came}
use Rattle.usb_io.specs.Answered.{answered}
use Rattle.usb_session_streams.specs.Faults.{read_fault_line}
use Rattle.usb_session_streams.specs.Reads.{consumed_end_line, is_end_line}
use Rattle.usb_session_text.specs.Calls.{condition_line, ok_line}
use Rattle.usb_script_words.specs.declared.framing.Framing.{Framing}
use Rattle.usb_script_words.specs.declared.framing.Framing.TheVariants.{UntilShort}
use Rattle.usb_session_calls.specs.Names.{change_named}
use Rattle.usb_session_calls.proofs.NameLemmas.{change_named-none}
use Rattle.usb_session_calls.specs.State.{State, Reader, tickets_of, with_host}
use Rattle.usb_session_calls.specs.Readers.{taken_by_call, called, with_count, num_on, with_timeout, timeout_on, with_none, cancel_reader_on}
use Rattle.usb_session_streams.specs.Needs.{bars_need}
use Rattle.usb_session_streams.specs.ReaderCalls.{halt_came, given_by, ReaderGoesOn}
use Rattle.usb_session_streams.proofs.AccountLemmas.{of-same}
use Rattle.usb_session_calls.specs.Reads.{need_of, bars_read, consumed_with, is_until_short, polled_given_line, read_on, fill_on, read_off, consume_on, consume_end_on}
use Rattle.usb_session_calls.specs.Halts.{halt_line, reader_halt_cleared}
use Rattle.usb_session_calls.specs.Answer.{Answer, answer_with, condition_answer, ok_answer}
use Rattle.usb_session_calls.specs.Answered.{Answered}
use Rattle.usb_session_calls.specs.OpenCalls.{CallKeeps}
use Rattle.usb_session_calls.specs.ReaderCalls.{ReaderAnswers, with_reader_called}
use Rattle.usb_session_calls.proofs.Answering.{host_is, told-answered}
use Rattle.usb_session_calls.proofs.Called.{represents-reader}
use Rattle.usb_session_calls.proofs.LentHosts.{line-same}

-- what a call keeps
pub keeps-along : (old new : Reading HostState) → ReaderGoesOn old new → ReadsAlong (bus_of old.bus) (bus_of new.bus) old.reader.endpoint new.reader.endpoint → Stands (bus_of old.bus) old.reader.endpoint → CallKeeps old.bus new.bus old.reader.endpoint new.reader.endpoint
keeps-along old new on goes was =
    record {
      line = on.line;
      past = goes.goes_on.past;
      stands = goes.stands;
      others = goes.others;
      key = ap (λ (h : EndpointState). h.key) goes.endpoint;
      maximum = ap (λ (h : EndpointState). h.maximum) goes.endpoint;
      accounts = on.accounts was.key_is_open;
    }

-- an answer of a call of a reader (at): the reader is changed, to one that calls see so (y), the host goes on, and this line is told
record ComesTo (state : State) (r : ℕ) (at : Reader) (now : HostState) (y : ReaderState) (line : List ℕ) (a : Answer) : Type 0 where
  pub change : Reader → Reader
  pub is : a ≡ answer_with (record state { host = now; readers = change_named change state.readers r }) line
  pub same : (change at).state ≡ y

reader-comes : {E : Type 0} (old now : HostState) (x y : ReaderState) (before text : String Global) (result : Result Unit E) (line : List ℕ) (call : State → ℕ → Reader → Answer) → OnOk result (string_bytes text ≡ string_bytes before ++ line)
    → ((state : State) (r : ℕ) (at : Reader) → state.host ≡ old → at.state ≡ x → ComesTo state r at now y line (call state r at)) → ReaderAnswers old now x y before text result call
reader-comes old now x y before text (Err error) line call printed comes = tt
reader-comes old now x y before text (Ok done) line call printed comes =
    λ s state r at rep host_was is same.
    let c = comes state r at (sym (host_is s state rep) ∙ host_was) same in
    subst (Answered (with_reader_called s r now y) (string_bytes before) (string_bytes text)) (sym c.is)
    (told-answered (with_reader_called s r now y) (record state { host = now; readers = change_named c.change state.readers r }) (string_bytes before) (string_bytes text) line
    (represents-reader s state now c.change r at y rep is c.same) printed)

-- a line is told, and nothing else
reader-told : {E : Type 0} (host : HostState) (x : ReaderState) (before text : String Global) (result : Result Unit E) (line : List ℕ) (call : State → ℕ → Reader → Answer) → OnOk result (string_bytes text ≡ string_bytes before ++ line)
    → ((state : State) (r : ℕ) (at : Reader) → state.host ≡ host → at.state ≡ x → call state r at ≡ answer_with state line) → ReaderAnswers host host x x before text result call
reader-told host x before text result line call printed tells =
    reader-comes host host x x before text result line call printed
    (λ state r at host_was same. record {
      change = λ z. z;
      is =
          tells state r at host_was same
          ∙ ap (λ (h : HostState). answer_with (record state { host = h }) line) host_was
          ∙ ap (λ (l : List (Option Reader)). answer_with (record state { host = host; readers = l }) line) (sym (change_named-none state.readers r));
      same = same;
    })

-- or the host is not asked
reader-off : {E : Type 0} (host : HostState) (x y : ReaderState) (before text : String Global) (result : Result Unit E) (line : List ℕ) (call : State → ℕ → Reader → Answer) → OnOk result (string_bytes text ≡ string_bytes before ++ line)
    → ((state : State) (r : ℕ) (at : Reader) → at.state ≡ x → ComesTo state r at state.host y line (call state r at)) → ReaderAnswers host host x y before text result call
reader-off host x y before text result line call printed comes =
    reader-comes host host x y before text result line call printed
    (λ state r at host_was same. subst (λ (h : HostState). ComesTo state r at h y line (call state r at)) host_was (comes state r at same))

-- an answer that goes on to what a call left of host and reader
called-comes : (state : State) (r : ℕ) (at : Reader) (w : Reading HostState) (consumed : Option (List Mark)) (bytes line : List ℕ) → ComesTo state r at w.bus w.reader line (answer_with (called state r consumed bytes w) line)
called-comes state r at w consumed bytes line =
    record {
      change = λ z. record z {
        state = w.reader;
        taken = z.taken ++ taken_by_call (tickets_of state) (tickets_of (with_host state w.bus)) z.state.endpoint.pending w.reader.endpoint.pending;
        given = z.given ++ bytes;
        consumed = consumed;
      };
      is = refl;
      same = refl;
    }

-- whether a call is barred
bars_at : (framing : Framing) (host : HostState) (x : ReaderState) (state : State) (at : Reader) → state.host ≡ host → at.state ≡ x → bars_read state framing at ≡ bars_need host.kernel.past (length x.endpoint.pending) (need_of framing x)
bars_at framing host x state at host_was same =
    ap (λ (h : HostState). bars_need h.kernel.past (length at.state.endpoint.pending) (need_of framing at.state)) host_was
    ∙ ap (λ (z : ReaderState). bars_need host.kernel.past (length z.endpoint.pending) (need_of framing z)) same

-- it is told so
pub reads-barred : {E : Type 0} (framing : Framing) (host : HostState) (x : ReaderState) (before text : String Global) (result : Result Unit E) (call : State → ℕ → Reader → Answer) → bars_need host.kernel.past (length x.endpoint.pending) (need_of framing x) ≡ true
    → OnOk result (string_bytes text ≡ string_bytes before ++ condition_line) → ReaderAnswers host host x x before text result (λ state r at. cond (bars_read state framing at) (condition_answer state) (call state r at))
reads-barred framing host x before text result call bars printed =
    reader-told host x before text result condition_line (λ state r at. cond (bars_read state framing at) (condition_answer state) (call state r at)) printed
    (λ state r at host_was same. ap (λ b. cond b (condition_answer state) (call state r at)) (bars_at framing host x state at host_was same ∙ bars))

-- what a reading call gave is told, and the bytes that it took are consumed
abbrev given_as : State → Framing → ℕ → Reader → (Result (List ℕ) ReadFault → List ℕ) → (Result (List ℕ) ReadFault → List ℕ) → Read HostState → Answer
given_as state framing r at bytes line a = answer_with (called state r (consumed_with framing (map Byte (bytes a.answer)) at.consumed) (bytes a.answer) a.left) (line a.answer)

module _ (framing : Framing) (old new : HostState) (x y : ReaderState) (free : bars_need old.kernel.past (length x.endpoint.pending) (need_of framing x) ≡ false) where
  reads-given : {E : Type 0} (before text : String Global) (result : Result Unit E) (answer : Result (List ℕ) ReadFault) (bytes line : Result (List ℕ) ReadFault → List ℕ) (given : HostState → ReaderState → Read HostState)
      → given old x ≡ answered answer (reading new y) → OnOk result (string_bytes text ≡ string_bytes before ++ line answer)
      → ReaderAnswers old new x y before text result (λ state r at. cond (bars_read state framing at) (condition_answer state) (given_as state framing r at bytes line (given state.host at.state)))
  reads-given before text result answer bytes line given is printed =
      reader-comes old new x y before text result (line answer)
      (λ state r at. cond (bars_read state framing at) (condition_answer state) (given_as state framing r at bytes line (given state.host at.state))) printed
      (λ state r at host_was same.
      subst (λ b. ComesTo state r at new y (line answer) (cond b (condition_answer state) (given_as state framing r at bytes line (given state.host at.state)))) (sym (bars_at framing old x state at host_was same ∙ free))
      (subst (λ (a : Read HostState). ComesTo state r at new y (line answer) (given_as state framing r at bytes line a))
      (sym (ap (λ (h : HostState). given h at.state) host_was ∙ ap (λ (z : ReaderState). given old z) same ∙ is))
      (called-comes state r at (reading new y) (consumed_with framing (map Byte (bytes answer)) at.consumed) (bytes answer) (line answer))))

  -- what a read gave, which waits for the reader's timeout, or for no time
  pub read-gave : {E : Type 0} (timeout : ReaderState → ℕ) (line : Result (List ℕ) ReadFault → List ℕ) (before text : String Global) (result : Result Unit E) (most : ℕ) (answer : Result (List ℕ) ReadFault) → read_came host_calls (is_until_short framing) (timeout x) most (reading old x) ≡ answered answer (reading new y)
      → OnOk result (string_bytes text ≡ string_bytes before ++ line answer) → ReaderAnswers old new x y before text result (λ state r at. read_on state framing r most (timeout at.state) line at)
  read-gave timeout line before text result most answer is printed =
      reads-given before text result answer (λ a. given_by a) line (λ h z. read_came host_calls (is_until_short framing) (timeout z) most (reading h z)) is printed

  -- and a call that lends the bytes
  pub fill-gave : {E : Type 0} (timeout : ReaderState → ℕ) (line : Result (List ℕ) ReadFault → List ℕ) (before text : String Global) (result : Result Unit E) (answer : Result (List ℕ) ReadFault) → fill_came host_calls (is_until_short framing) (timeout x) (reading old x) ≡ answered answer (reading new y)
      → OnOk result (string_bytes text ≡ string_bytes before ++ line answer) → ReaderAnswers old new x y before text result (λ state r at. fill_on state framing r (timeout at.state) line at)
  fill-gave timeout line before text result answer is printed =
      reads-given before text result answer (λ a. []) line (λ h z. fill_came host_calls (is_until_short framing) (timeout z) (reading h z)) is printed

-- a reader of which the host knows nothing was changed
pub keeps-rest : (host : HostState) (x y : EndpointState) → Stands (bus_of host) x → y ≡ x → CallKeeps host host x y
keeps-rest host x y stands same =
    subst (λ (z : EndpointState). CallKeeps host host x z) (sym same)
    (record {
      line = line-same host;
      past = extends-same host.kernel.past;
      stands = stands;
      others = others-same (bus_of host) (bus_of host) x.key refl refl;
      key = refl;
      maximum = refl;
      accounts = of-same host x.key x.pending;
    })

-- a poll that is not pending is told as what waits is
in_time-line : (line : List ℕ → List ℕ) (fault : ReadFault) → fault ≢ TimedOut → polled_given_line line (Err fault) ≡ read_fault_line fault
in_time-line line (Transfer e) in_time = refl
in_time-line line TimedOut in_time = absurd (in_time refl)
in_time-line line UnexpectedEof in_time = refl

-- how many transfers are to be pending was set
bars_num : (host : HostState) (x : ReaderState) (n : ℕ) (state : State) (at : Reader) → state.host ≡ host → at.state ≡ x
    → nat_lt 64 n || bars_need state.host.kernel.past (length at.state.endpoint.pending) (n - 1 - length at.state.endpoint.pending) ≡ nat_lt 64 n || bars_need host.kernel.past (length x.endpoint.pending) (n - 1 - length x.endpoint.pending)
bars_num host x n state at host_was same =
    ap (λ (h : HostState). nat_lt 64 n || bars_need h.kernel.past (length at.state.endpoint.pending) (n - 1 - length at.state.endpoint.pending)) host_was
    ∙ ap (λ (z : ReaderState). nat_lt 64 n || bars_need host.kernel.past (length z.endpoint.pending) (n - 1 - length z.endpoint.pending)) same

pub num-barred : {E : Type 0} (host : HostState) (x : ReaderState) (n : ℕ) (before text : String Global) (result : Result Unit E) → nat_lt 64 n || bars_need host.kernel.past (length x.endpoint.pending) (n - 1 - length x.endpoint.pending) ≡ true
    → OnOk result (string_bytes text ≡ string_bytes before ++ condition_line) → ReaderAnswers host host x x before text result (λ state r at. num_on state r n at)
num-barred host x n before text result bars printed =
    reader-told host x before text result condition_line (λ state r at. num_on state r n at) printed
    (λ state r at host_was same.
    ap (λ b. cond b (condition_answer state) (ok_answer (called state r at.consumed [] (filled_to host_calls (n - 1) (reading state.host (with_count n at.state))))))
    (bars_num host x n state at host_was same ∙ bars))

pub num-made : {E : Type 0} (old new : HostState) (x y : ReaderState) (n : ℕ) (before text : String Global) (result : Result Unit E) → nat_lt 64 n || bars_need old.kernel.past (length x.endpoint.pending) (n - 1 - length x.endpoint.pending) ≡ false
    → reading new y ≡ filled_to host_calls (n - 1) (reading old (with_count n x))
    → OnOk result (string_bytes text ≡ string_bytes before ++ ok_line) → ReaderAnswers old new x y before text result (λ state r at. num_on state r n at)
num-made old new x y n before text result free is printed =
    reader-comes old new x y before text result ok_line (λ state r at. num_on state r n at) printed
    (λ state r at host_was same.
    subst (λ b. ComesTo state r at new y ok_line (cond b (condition_answer state) (ok_answer (called state r at.consumed [] (filled_to host_calls (n - 1) (reading state.host (with_count n at.state))))))) (sym (bars_num old x n state at host_was same ∙ free))
    (subst (λ (w : Reading HostState). ComesTo state r at new y ok_line (ok_answer (called state r at.consumed [] w)))
    (is ∙ sym (ap (λ (h : HostState). filled_to host_calls (n - 1) (reading h (with_count n at.state))) host_was ∙ ap (λ (z : ReaderState). filled_to host_calls (n - 1) (reading old (with_count n z))) same))
    (called-comes state r at (reading new y) at.consumed [] ok_line)))

-- a timeout was set
pub timeout-set : {E : Type 0} (host : HostState) (x y : ReaderState) (timeout : ℕ) (before text : String Global) (result : Result Unit E) → y ≡ record x { timeout = timeout } → OnOk result (string_bytes text ≡ string_bytes before ++ ok_line) → ReaderAnswers host host x y before text result (λ state r at. timeout_on state r timeout)
timeout-set host x y timeout before text result is printed =
    reader-off host x y before text result ok_line (λ state r at. timeout_on state r timeout) printed
    (λ state r at same. record { change = with_timeout timeout; is = refl; same = ap (λ (z : ReaderState). record z { timeout = timeout }) same ∙ sym is })

-- what was pending was discarded
pub reader-cancelled : {E : Type 0} (old new : HostState) (x y : ReaderState) (before text : String Global) (result : Result Unit E) → new ≡ all_discarded host_discarded old x.endpoint.pending → y ≡ record x { n = 0 } → OnOk result (string_bytes text ≡ string_bytes before ++ ok_line)
    → ReaderAnswers old new x y before text result (λ state r at. cancel_reader_on state r at)
reader-cancelled old new x y before text result host_is is printed =
    reader-comes old new x y before text result ok_line (λ state r at. cancel_reader_on state r at) printed
    (λ state r at host_was same. record {
      change = with_none;
      is =
          ap (λ (h : HostState). ok_answer (record state { host = h; readers = change_named with_none state.readers r }))
          (ap (λ (h : HostState). all_discarded host_discarded h at.state.endpoint.pending) host_was
          ∙ ap (λ (z : ReaderState). all_discarded host_discarded old z.endpoint.pending) same ∙ sym host_is);
      same = ap (λ (z : ReaderState). record z { n = 0 }) same ∙ sym is;
    })

-- its halt was cleared, or the kernel refused
abbrev halt_seen : State → ℕ → Reader → HostState → ReaderState → Answer
halt_seen state r at h z = answer_with (called state r at.consumed [] (halt_came (reading h z))) (halt_line h z.endpoint)

pub reader-halt-made : {E : Type 0} (old new : HostState) (x y : ReaderState) (before text : String Global) (result : Result Unit E) → reading new y ≡ halt_came (reading old x)
    → OnOk result (string_bytes text ≡ string_bytes before ++ halt_line old x.endpoint) → ReaderAnswers old new x y before text result (λ state r at. reader_halt_cleared state r at)
reader-halt-made old new x y before text result is printed =
    reader-comes old new x y before text result (halt_line old x.endpoint) (λ state r at. reader_halt_cleared state r at) printed
    (λ state r at host_was same.
    subst (λ (a : Answer). ComesTo state r at new y (halt_line old x.endpoint) a)
    (ap (λ (w : Reading HostState). answer_with (called state r at.consumed [] w) (halt_line old x.endpoint)) is
    ∙ sym (ap (λ (h : HostState). halt_seen state r at h at.state) host_was ∙ ap (halt_seen state r at old) same))
    (called-comes state r at (reading new y) at.consumed [] (halt_line old x.endpoint)))

more-yes : (n m : ℕ) → n < m → nat_lt n m ≡ true
more-yes n m more = grind (arith, nat_tests)

more-no : (n m : ℕ) → m ≤ n → nat_lt n m ≡ false
more-no n m few = grind (arith, nat_tests)

-- bytes were taken off
pub consume-barred : {E : Type 0} (framing : Framing) (host : HostState) (x : ReaderState) (n : ℕ) (before text : String Global) (result : Result Unit E) → length x.unread < n → OnOk result (string_bytes text ≡ string_bytes before ++ condition_line) → ReaderAnswers host host x x before text result (λ state r at. consume_on state framing r n at)
consume-barred framing host x n before text result more printed =
    reader-told host x before text result condition_line (λ state r at. consume_on state framing r n at) printed
    (λ state r at host_was same.
    ap (λ b. cond b (condition_answer state) (ok_answer (read_off state framing r at (map Byte (take n at.state.unread)) (take n at.state.unread) (with_read n at.state))))
    (ap (λ (z : ReaderState). nat_lt (length z.unread) n) same ∙ more-yes (length x.unread) n more))

pub consume-took : {E : Type 0} (framing : Framing) (host : HostState) (x y : ReaderState) (n : ℕ) (before text : String Global) (result : Result Unit E) → n ≤ length x.unread → y ≡ with_read n x → OnOk result (string_bytes text ≡ string_bytes before ++ ok_line) → ReaderAnswers host host x y before text result (λ state r at. consume_on state framing r n at)
consume-took framing host x y n before text result few is printed =
    reader-off host x y before text result ok_line (λ state r at. consume_on state framing r n at) printed
    (λ state r at same. record {
      change = λ z. record z { state = with_read n at.state; given = z.given ++ take n at.state.unread; consumed = consumed_with framing (map Byte (take n at.state.unread)) at.consumed };
      is =
          ap (λ b. cond b (condition_answer state) (ok_answer (read_off state framing r at (map Byte (take n at.state.unread)) (take n at.state.unread) (with_read n at.state))))
          (ap (λ (z : ReaderState). nat_lt (length z.unread) n) same ∙ more-no (length x.unread) n few);
      same = ap (with_read n) same ∙ sym is;
    })

-- the end was taken off, or was not next
pub end-taken : {E : Type 0} (host : HostState) (x y : ReaderState) (answer : Result Unit ExpectedShortPacket) (before text : String Global) (result : Result Unit E) → OnOk answer ((is_end x ≡ true) × (y ≡ without_end x)) → OnErr answer ((is_end x ≡ false) × (y ≡ x))
    → OnOk result (string_bytes text ≡ string_bytes before ++ consumed_end_line answer) → ReaderAnswers host host x y before text result (λ state r at. consume_end_on state r at)
end-taken host x y (Ok u) before text result ok err printed =
    reader-off host x y before text result ok_line (λ state r at. consume_end_on state r at) printed
    (λ state r at same. record {
      change = λ z. record z { state = without_end at.state; given = z.given ++ []; consumed = consumed_with UntilShort (End ∷ []) at.consumed };
      is =
          ap (λ b. cond b (ok_answer (read_off state UntilShort r at (End ∷ []) [] (without_end at.state))) (answer_with state (consumed_end_line (Err (record {}))))) (ap (λ (z : ReaderState). is_end z) same ∙ ok.0);
      same = ap without_end same ∙ sym ok.1;
    })
end-taken host x y (Err e) before text result ok err printed =
    subst (λ (z : ReaderState). ReaderAnswers host host x z before text result (λ state r at. consume_end_on state r at)) (sym err.1)
    (reader-told host x before text result (consumed_end_line (Err e)) (λ state r at. consume_end_on state r at) printed
    (λ state r at host_was same.
    ap (λ b. cond b (ok_answer (read_off state UntilShort r at (End ∷ []) [] (without_end at.state))) (answer_with state (consumed_end_line (Err (record {}))))) (ap (λ (z : ReaderState). is_end z) same ∙ err.0)))

pub end-rest : (x y : ReaderState) (answer : Result Unit ExpectedShortPacket) → OnOk answer ((is_end x ≡ true) × (y ≡ without_end x)) → OnErr answer ((is_end x ≡ false) × (y ≡ x)) → y.endpoint ≡ x.endpoint
end-rest x y (Ok u) ok err = ap (λ (z : ReaderState). z.endpoint) ok.1
end-rest x y (Err e) ok err = ap (λ (z : ReaderState). z.endpoint) err.1

-- whether it is next is told
pub end-told : {E : Type 0} (host : HostState) (x : ReaderState) (next : Bool) (before text : String Global) (result : Result Unit E) → next ≡ is_end x → OnOk result (string_bytes text ≡ string_bytes before ++ is_end_line next)
    → ReaderAnswers host host x x before text result (λ state r at. answer_with state (is_end_line (is_end at.state)))
end-told host x next before text result is printed =
    reader-told host x before text result (is_end_line next) (λ state r at. answer_with state (is_end_line (is_end at.state))) printed
    (λ state r at host_was same. ap (λ (z : ReaderState). answer_with state (is_end_line (is_end z))) same ∙ ap (λ b. answer_with state (is_end_line b)) (sym is))

pub few-count : (n : ℕ) (b : Bool) → nat_lt 64 n || b ≡ false → n ≤ 64
few-count n b free = grind (arith, nat_tests)

pub printed-in_time : {E : Type 0} (line : List ℕ → List ℕ) (fault : ReadFault) (before text : String Global) (result : Result Unit E) → fault ≢ TimedOut → OnOk result (string_bytes text ≡ string_bytes before ++ read_fault_line fault) → OnOk result (string_bytes text ≡ string_bytes before ++ polled_given_line line (Err fault))
printed-in_time line fault before text (Ok u) in_time printed = printed ∙ ap (λ (l : List ℕ). string_bytes before ++ l) (sym (in_time-line line fault in_time))
printed-in_time line fault before text (Err e) in_time printed = tt
