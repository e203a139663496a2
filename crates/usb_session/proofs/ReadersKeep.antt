-- What a law says of each open reader, and that the calls of a session keep it, where each change of a reader does.
use Rattle.std.proofs.Common.{◌≡◌, ℕ, ◌-◌, ◌≤◌, Bool, true, List, [], ◌∷◌, ◌++◌, length, take, map, append-nil, Option, Some, None, Result, Ok, Err, refl, inl, inr}
use Rattle.std.specs.Prelude.{nat_lt, nat_le, ◌||◌, if◌then◌else◌}
use Rattle.std.proofs.lemmas.Bool.{cond_both, cases_Bool, leb-true}
use Rattle.std.proofs.lemmas.Option.{none-some, same_Some}
use Rattle.usb_desc.specs.declared.types.Direction.TheVariants.{In, Out}
use Rattle.usb_kernel.specs.declared.event.Event.{Event}
use Rattle.usb_kernel.specs.Extends.{Extends}
use Rattle.usb_kernel.proofs.Extends.{extends-same}
use Rattle.usb_device_endpoint.specs.Closes.{all_discarded}
use Rattle.usb_device_host.specs.HostState.{HostState}
use Rattle.usb_device_host.specs.HostCalls.{host_discarded, host_calls}
use Rattle.usb_device_host.specs.EndpointRefusals.{same_direction}
use Rattle.usb_device_host.proofs.FollowLemmas.{on-rest, on-all_discarded}
use Rattle.usb_io.specs.Readers.{ReaderState, fresh_reader, with_read, without_end, is_end}
use Rattle.usb_io.specs.Reads.{Reading, reading, filled_to}
use Rattle.usb_io.specs.Streams.{Mark, Byte, End}
use Rattle.usb_io.specs.declared.fault.ReadFault.{ReadFault}
use Rattle.usb_io.specs.Answers.{fill_came, read_came}
use Rattle.usb_session_streams.specs.ReaderCalls.{given_by, ReaderCall as StreamCall, Fill, Read, Submit, ClearHalt, read_by, handed_by, is_framed}
use Rattle.usb_session_streams.proofs.ReadsGoOn.{reader_calls-go_on}
use Rattle.usb_session_streams.specs.Reads.{read_line, buffer_line, consumed_end_line}
use Rattle.usb_script_words.specs.declared.framing.Framing.{Framing}
use Rattle.usb_script_words.specs.declared.framing.Framing.TheVariants.{Plain, UntilShort}
use Rattle.usb_session_streams.specs.Needs.{bars_need}
use Rattle.usb_script_lines.specs.declared.item.Item.{Item}
use Rattle.usb_session_calls.specs.Names.{named, is_free, change_named}
use Rattle.usb_session_calls.proofs.EndpointNameLemmas.{set-changes, freed-changes, change-changes}
use Rattle.usb_session_calls.specs.declared.call.Call.{Call}
use Rattle.usb_session_calls.specs.declared.call.Call.TheVariants as families
use Rattle.usb_session_calls.specs.declared.call.OpenCall.TheVariants as opens
use Rattle.usb_session_calls.specs.declared.call.CloseCall.TheVariants as closes
use Rattle.usb_session_calls.specs.declared.call.ReaderCall.{ReaderCall}
use Rattle.usb_session_calls.specs.declared.call.ReaderCall.TheVariants as readers
use Rattle.usb_session_calls.specs.State.{State, Endpoint, Reader, tickets_at, tickets_of, with_host}
use Rattle.usb_session_calls.specs.Answer.{Answer, answer_with, condition_answer, ok_answer}
use Rattle.usb_session_calls.specs.Submits.{has_direction}
use Rattle.usb_session_calls.specs.Readers.{nothing_consumed, with_reader, reader_on, reader_answer, without_reader, inner_answer, taken_by_call, called, with_count, with_timeout, with_none, num_on, timeout_on, cancel_reader_on, closed_reader, close_reader_answer}
use Rattle.usb_session_calls.specs.Halts.{reader_halt_cleared}
use Rattle.usb_session_calls.specs.Reads.{is_until_short, consumed_with, bars_read, given_line, polled_given_line, read_as, filled_as, read_on, fill_on, read_off, consume_on, consume_end_on}
use Rattle.usb_session_calls.specs.Steps.{with_steps, steps_applied, then_applied}
use Rattle.usb_session_calls.specs.CalledReaders.{reader_called, on_reader}
use Rattle.usb_session.specs.CallAnswers.{call_answer}
use Rattle.usb_session.specs.Answers.{answer}
use Rattle.usb_session.specs.Output.{start, behind}
use Rattle.usb_session.specs.Behind.{ScriptsGoOn}
use Rattle.usb_session.proofs.Crowds.{over-line}
use Rattle.usb_session.proofs.LinesBehind.{past_of, behind-keeps}
use Rattle.usb_session.proofs.Barred.{bar-keeps, free-keeps, open-keeps}
use Rattle.usb_session.proofs.StreamsLeave.{leaves-readers}
use Rattle.usb_session.proofs.StreamsKeep.{EachOpen, none-open, left-keeps, one-keeps, gone-keeps}

-- a reader as it is made of an endpoint
abbrev pub made_of : Endpoint → ℕ → Reader
made_of h size = record { state = fresh_reader h.state size; before = h.taken; taken = []; given = []; consumed = nothing_consumed (tickets_at h) }

-- one of which so many transfers are to be pending, and whose waits have this timeout
abbrev pub set_to : ℕ → ℕ → Reader → Reader
set_to n timeout x = record x { state = record x.state { n = n; timeout = timeout } }

-- one off which items were taken, by what the call left of it
abbrev pub off_at : Framing → List Mark → List ℕ → ReaderState → Reader → Reader
off_at framing items bytes left x = record x { state = left; given = x.given ++ bytes; consumed = consumed_with framing items x.consumed }

-- and one behind a call
abbrev pub called_at : State → Option (List Mark) → List ℕ → Reading HostState → Reader → Reader
called_at state now bytes w x =
    record x {
      state = w.reader;
      taken = x.taken ++ taken_by_call (tickets_of state) (tickets_of (with_host state w.bus)) x.state.endpoint.pending w.reader.endpoint.pending;
      given = x.given ++ bytes;
      consumed = now;
    }

-- what a reader that is framed behind a call consumed before it, where the call consumed these items: it goes no further than a
-- short packet
pub record Before (short : Bool) (items : List Mark) (old : Option (List Mark)) (consumed : List Mark) : Type 0 where
  pub within : short ≡ true
  pub before : List Mark
  pub was : old ≡ Some before
  pub is : before ++ items ≡ consumed

abbrev pub Consumes : Bool → List Mark → Option (List Mark) → Option (List Mark) → Type 0
Consumes short items old now = (consumed : List Mark) → now ≡ Some consumed → Before short items old consumed

pub consumes-with : (framing : Framing) (items : List Mark) (old : Option (List Mark)) → Consumes (is_until_short framing) items old (consumed_with framing items old)
consumes-with Plain items old consumed is = absurd (none-some consumed is)
consumes-with UntilShort items None consumed is = absurd (none-some consumed is)
consumes-with UntilShort items (Some before) consumed is = record { within = refl; before = before; was = refl; is = same_Some (before ++ items) consumed is }

consumes-none : (old : Option (List Mark)) → Consumes true [] old old
consumes-none old consumed is = record { within = refl; before = consumed; was = is; is = append-nil consumed }

-- a reader as its calls see it
abbrev pub reading_at : State → Reader → Reading HostState
reading_at state x = reading state.host x.state

-- what a law says of a reader (At) is true of each as it is made, and stays true of it whatever comes; and each change that calls
-- make keeps it, where the journal behind it is as the law asks (Legal)
pub record ReaderLaw (At : List Event → Reader → Type 0) (Legal : List Event → Type 0) : Type 0 where
  pub before : (old new : List Event) → Extends old new → Legal new → Legal old
  pub later : (old new : List Event) (x : Reader) → Extends old new → At old x → At new x
  pub made : (past : List Event) (h : Endpoint) (size : ℕ) → 128 ≤ h.state.address → At past (made_of h size)
  pub set : (past : List Event) (n timeout : ℕ) (x : Reader) → At past x → At past (set_to n timeout x)
  pub called : (state : State) (call : StreamCall) (now : Option (List Mark)) (x : Reader) →
      Consumes (is_framed call) (map Byte (handed_by call (reading_at state x))) x.consumed now →
      Legal (read_by call (reading_at state x)).left.bus.kernel.past → At state.host.kernel.past x →
      At (read_by call (reading_at state x)).left.bus.kernel.past (called_at state now (handed_by call (reading_at state x)) (read_by call (reading_at state x)).left x)
  pub read : (past : List Event) (framing : Framing) (n : ℕ) (x : Reader) → At past x →
      At past (off_at framing (map Byte (take n x.state.unread)) (take n x.state.unread) (with_read n x.state) x)
  pub ended : (past : List Event) (x : Reader) → is_end x.state ≡ true → At past x → At past (off_at UntilShort (End ∷ []) [] (without_end x.state) x)

abbrev readers_of : State → List (Option Reader)
readers_of state = state.readers

-- it is true of each open reader
abbrev pub AllReaders : (List Event → Reader → Type 0) → State → Type 0
AllReaders At state = EachOpen readers_of At state

-- an IN endpoint has such an address
pub input-of : (h : Endpoint) → has_direction In h.state ≡ true → 128 ≤ h.state.address
input-of h is = elim (cases_Bool (nat_le 128 h.state.address)) [ inl below ↦ leb-true 128 h.state.address below | inr other ↦ absurd (let e : same_direction Out In ≡ true = rw other at is in cc) ]

module _ (At : List Event → Reader → Type 0) (Legal : List Event → Type 0) (law : ReaderLaw At Legal) where
  abbrev All : State → Type 0
  All state = AllReaders At state

  abbrev Keeps : State → Type 0
  Keeps next = Legal next.host.kernel.past → All next

  -- with the steps of a line, of which those that are left are applied behind a call
  applied-keeps : (a : Answer) → Keeps a.state → Keeps (then_applied a).state
  applied-keeps a keeps legal =
      let next = steps_applied a.state in
      let extends = (on-rest a.state.host).past in
      left-keeps readers_of At law.later a.state next extends refl (keeps (law.before a.state.host.kernel.past next.host.kernel.past extends legal))

  -- a reader is made
  reader-keeps : (state : State) (r e size : ℕ) → All state → Keeps (reader_answer state r e size).state
  unfolding reader_answer
  reader-keeps state r e size f =
      let past = state.host.kernel.past in
      open-keeps Keeps state (λ legal. f) (named state.endpoints e) (reader_on state r e size) (λ h at.
      let made = with_reader state r e size h in
      let x = made_of h size in
      free-keeps Keeps state (λ legal. f) (is_free state.readers r) (if has_direction In h.state then ok_answer made else condition_answer state) (λ free.
      free-keeps Keeps state (λ legal. f) (has_direction In h.state) (ok_answer made) (λ input legal.
      one-keeps readers_of At law.later state made (extends-same past) r x (set-changes state.readers r x free) (law.made past h size (input-of h input)) f)))

  -- its endpoint comes back
  inner-keeps : (state : State) (e r : ℕ) → All state → Keeps (inner_answer state e r).state
  unfolding inner_answer
  inner-keeps state e r f =
      open-keeps Keeps state (λ legal. f) (named state.readers r) _ (λ x at.
      free-keeps Keeps state (λ legal. f) (is_free state.endpoints e) (ok_answer (without_reader state e r x)) (λ free legal.
      gone-keeps readers_of At law.later state (without_reader state e r x) (extends-same state.host.kernel.past) r (freed-changes state.readers r) f))

  -- it is closed
  close-keeps : (state : State) (r : ℕ) → All state → Extends state.host.kernel.past (close_reader_answer state r).state.host.kernel.past → Keeps (close_reader_answer state r).state
  unfolding close_reader_answer
  close-keeps state r f =
      open-keeps (λ (next : State). Extends state.host.kernel.past next.host.kernel.past → Keeps next) state (λ extends legal. f) (named state.readers r) _ (λ x at extends legal.
      gone-keeps readers_of At law.later state (closed_reader state r x) extends r (freed-changes state.readers r) f)

  -- a reader that is open, in a session in which what is said is true of each
  module _ (state : State) (f : All state) (r : ℕ) (x : Reader) (at : named state.readers r ≡ Some x) where
    -- what changes it, and the host
    own-keep : (host : HostState) (change : Reader → Reader) → Extends state.host.kernel.past host.kernel.past → At host.kernel.past (change x) → All (record state { host = host; readers = change_named change state.readers r })
    own-keep host change extends here =
        one-keeps readers_of At law.later state (record state { host = host; readers = change_named change state.readers r }) extends r (change x) (change-changes change state.readers r x at) here f

    -- what takes transfers or submits them (with so many transfers to be pending, n)
    called-keep : (n : ℕ) (call : StreamCall) (now : Option (List Mark)) → Consumes (is_framed call) (map Byte (handed_by call (reading_at state (set_to n x.state.timeout x)))) x.consumed now
        → Keeps (called state r now (handed_by call (reading_at state (set_to n x.state.timeout x))) (read_by call (reading_at state (set_to n x.state.timeout x))).left)
    called-keep n call now consumes legal =
        let y = set_to n x.state.timeout x in
        let w = reading_at state y in
        let left = (read_by call w).left in
        own-keep left.bus (called_at state now (handed_by call w) left) (reader_calls-go_on call w).past
        (law.called state call now y consumes legal (law.set state.host.kernel.past n x.state.timeout x (f r x at)))

    read-keeps : (framing : Framing) (most timeout : ℕ) (line : Result (List ℕ) ReadFault → List ℕ) → Keeps (read_on state framing r most timeout line x).state
    read-keeps framing most timeout line =
        let a = read_came host_calls (is_until_short framing) timeout most (reading_at state x) in
        let items = map Byte (given_by a.answer) in
        bar-keeps Keeps state (λ legal. f) (bars_read state framing x) (read_as state framing r x line a)
        (called-keep x.state.n (Read (is_until_short framing) timeout most) (consumed_with framing items x.consumed) (consumes-with framing items x.consumed))

    fill-keeps : (framing : Framing) (timeout : ℕ) (line : Result (List ℕ) ReadFault → List ℕ) → Keeps (fill_on state framing r timeout line x).state
    fill-keeps framing timeout line =
        let a = fill_came host_calls (is_until_short framing) timeout (reading_at state x) in
        bar-keeps Keeps state (λ legal. f) (bars_read state framing x) (filled_as state framing r x line a)
        (called-keep x.state.n (Fill (is_until_short framing) timeout) (consumed_with framing [] x.consumed) (consumes-with framing [] x.consumed))

    num-keeps : (n : ℕ) → Keeps (num_on state r n x).state
    num-keeps n =
        let left = filled_to host_calls (n - 1) (reading state.host (with_count n x.state)) in
        bar-keeps Keeps state (λ legal. f) (nat_lt 64 n || bars_need state.host.kernel.past (length x.state.endpoint.pending) (n - 1 - length x.state.endpoint.pending)) (ok_answer (called state r x.consumed [] left))
        (called-keep n (Submit (n - 1)) x.consumed (consumes-none x.consumed))

    -- what clears its halt
    halt-keeps : Keeps (reader_halt_cleared state r x).state
    halt-keeps = called-keep x.state.n ClearHalt x.consumed (consumes-none x.consumed)

    -- what takes off what stands
    off-keep : (framing : Framing) (items : List Mark) (bytes : List ℕ) (left : ReaderState) → At state.host.kernel.past (off_at framing items bytes left x) → All (read_off state framing r x items bytes left)
    off-keep framing items bytes left here =
        own-keep state.host (λ y. record y { state = left; given = y.given ++ bytes; consumed = consumed_with framing items x.consumed }) (extends-same state.host.kernel.past) here

    consume-keeps : (framing : Framing) (n : ℕ) → Keeps (consume_on state framing r n x).state
    consume-keeps framing n =
        let bytes = take n x.state.unread in
        let left = with_read n x.state in
        bar-keeps Keeps state (λ legal. f) (nat_lt (length x.state.unread) n) (ok_answer (read_off state framing r x (map Byte bytes) bytes left))
        (λ legal. off-keep framing (map Byte bytes) bytes left (law.read state.host.kernel.past framing n x (f r x at)))

    consume_end-keeps : Keeps (consume_end_on state r x).state
    consume_end-keeps =
        let left = without_end x.state in
        cond_both (is_end x.state) (answer_with (read_off state UntilShort r x (End ∷ []) [] left) (consumed_end_line (Ok tt))) (answer_with state (consumed_end_line (Err (record {})))) (λ (a : Answer). Keeps a.state)
        (λ is legal. off-keep UntilShort (End ∷ []) [] left (law.ended state.host.kernel.past x is (f r x at)))
        (λ no_ legal. f)

    -- what sets its timeout, and what cancels
    timeout-keeps : (timeout : ℕ) → Keeps (timeout_on state r timeout).state
    timeout-keeps timeout legal = own-keep state.host (with_timeout timeout) (extends-same state.host.kernel.past) (law.set state.host.kernel.past x.state.n timeout x (f r x at))

    cancel-keeps : Keeps (cancel_reader_on state r x).state
    cancel-keeps legal =
        let old = state.host.kernel.past in
        let host = all_discarded host_discarded state.host x.state.endpoint.pending in
        let extends = (on-all_discarded state.host x.state.endpoint.pending).past in
        own-keep host with_none extends (law.set host.kernel.past 0 x.state.timeout x (law.later old host.kernel.past x extends (f r x at)))

    -- each call on it
    reader_called-keeps : (call : ReaderCall) → Keeps (reader_called call state r x).state
    reader_called-keeps (readers.Read framing most) = read-keeps framing most x.state.timeout (given_line read_line)
    reader_called-keeps (readers.PollRead framing most) = read-keeps framing most 0 (polled_given_line read_line)
    reader_called-keeps (readers.FillBuf framing) = fill-keeps framing x.state.timeout (given_line buffer_line)
    reader_called-keeps (readers.PollFillBuf framing) = fill-keeps framing 0 (polled_given_line buffer_line)
    reader_called-keeps (readers.Consume framing n) = consume-keeps framing n
    reader_called-keeps readers.IsEnd = λ legal. f
    reader_called-keeps readers.ConsumeEnd = consume_end-keeps
    reader_called-keeps (readers.SetNumTransfers n) = num-keeps n
    reader_called-keeps (readers.SetReadTimeout timeout) = timeout-keeps timeout
    reader_called-keeps readers.Cancel = cancel-keeps
    reader_called-keeps readers.ClearHalt = halt-keeps

  on_reader-keeps : (state : State) (r : ℕ) (call : ReaderCall) → All state → Keeps (on_reader state r call).state
  unfolding on_reader
  on_reader-keeps state r call f = open-keeps Keeps state (λ legal. f) (named state.readers r) (reader_called call state r) (λ x at. reader_called-keeps state f r x at call)

  -- each call
  call-keeps : (state : State) (call : Call) → Extends state.host.kernel.past (call_answer state call).state.host.kernel.past → All state → Keeps (call_answer state call).state
  unfolding call_answer
  call-keeps state (families.Reader r call steps) extends f = let now = with_steps state steps in applied-keeps (on_reader now r call) (on_reader-keeps now r call f)
  call-keeps state (families.Open (opens.Reader r e size)) extends f = reader-keeps state r e size f
  call-keeps state (families.Open (opens.ReaderInner e r)) extends f = inner-keeps state e r f
  call-keeps state (families.Close (closes.Reader r)) extends f = close-keeps state r f extends
  call-keeps state call extends f = λ legal. left-keeps readers_of At law.later state (call_answer state call).state extends (leaves-readers state call refl) f

  -- and each line
  answer-keeps : (state : State) (line : Item) → Extends state.host.kernel.past (answer state line).state.host.kernel.past → Legal (answer state line).state.host.kernel.past → All state → All (answer state line).state
  answer-keeps state line =
      over-line (λ (next : State). Extends state.host.kernel.past next.host.kernel.past → Legal next.host.kernel.past → All state → All next) state line
      (λ call extends legal f. call-keeps state call extends f legal)

  -- and so it is behind the lines of a script
  start-all : (items : List Item) → All (start items)
  unfolding start
  start-all items = none-open (At [])

  pub behind-all : ScriptsGoOn → (items before : List Item) → Legal (past_of (behind (start items) before)) → All (behind (start items) before)
  behind-all go items before legal = behind-keeps All Legal (record { before = law.before; first = start-all; line = answer-keeps }) go items before legal
