-- A read until a short packet that gives no byte leaves an end that stands, and so does a call that lends none.
use Rattle.std.proofs.Common.{◌≡◌, ◌∙◌, ℕ, ◌+◌, ◌≤◌, arith, Bool, true, List, [], ◌∷◌, ◌++◌, codes, length, map, get_or, length-append, Option, Some, None, Result, Ok, Err, refl, ap, sym}
use Rattle.std.specs.Prelude.{if◌then◌else◌}
use Rattle.std.specs.Fmt.{decimal}
use Rattle.std.proofs.lemmas.Bool.{cond_both}
use Rattle.std.proofs.lemmas.Fmt.{decimal_digit}
use Rattle.std.proofs.lemmas.Option.{same_Some}
use Rattle.hex.specs.Hex.{encode_with}
use Rattle.usb_error.specs.FaultState.{FaultState}
use Rattle.usb_kernel.specs.declared.event.Event.{Event}
use Rattle.usb_kernel_devices.specs.declared.step.KernelStep.{KernelStep}
use Rattle.usb_device_host.specs.HostState.{HostState}
use Rattle.usb_device_host.specs.HostCalls.{host_calls}
use Rattle.usb_io.specs.Readers.{is_end}
use Rattle.usb_io.specs.Reads.{Reading, reading}
use Rattle.usb_io.specs.Streams.{Mark, Byte, End}
use Rattle.usb_io.specs.Following.{IsPrefixOf}
use Rattle.usb_io.specs.StreamFaults.{read_fault}
use Rattle.usb_io.specs.declared.fault.ReadFault.{ReadFault}
use Rattle.usb_io.specs.declared.fault.ReadFault.TheVariants.{Transfer, TimedOut, UnexpectedEof}
use Rattle.usb_io.specs.Answers.{fill_came, read_came}
use Rattle.usb_io.proofs.Following.{consumed_is_prefix, end_is_next}
use Rattle.usb_session_streams.proofs.FramedCalls.{empty_read_leaves_end, empty_fill_leaves_end}
use Rattle.usb_session_streams.specs.Faults.{io_line}
use Rattle.usb_session_streams.specs.Reads.{read_line, buffer_line}
use Rattle.usb_session_text.specs.Calls.{condition_line}
use Rattle.usb_session_text.specs.Controls.{pending_line}
use Rattle.usb_session_text.specs.Words.{line_of, hex_word}
use Rattle.usb_script_words.specs.declared.framing.Framing.TheVariants.{UntilShort}
use Rattle.usb_session_calls.specs.Names.{named}
use Rattle.usb_session_calls.proofs.EndpointNameLemmas.{change-changes}
use Rattle.usb_session_calls.specs.declared.call.ReaderCall.{ReaderCall}
use Rattle.usb_session_calls.specs.declared.call.ReaderCall.TheVariants as readers
use Rattle.usb_session_calls.specs.State.{State, Reader, endpoint_of_reader}
use Rattle.usb_session_calls.specs.Answer.{Answer, condition_answer, if_open}
use Rattle.usb_session_calls.specs.Readers.{called}
use Rattle.usb_session_streams.specs.ReaderCalls.{given_by}
use Rattle.usb_session_calls.specs.Reads.{consumed_with, bars_read, given_line, polled_given_line, read_as, filled_as, read_on, fill_on}
use Rattle.usb_session_calls.specs.Steps.{with_steps, then_applied, along_steps}
use Rattle.usb_session_calls.specs.CalledReaders.{reader_called, on_reader}
use Rattle.usb_session.specs.Framed.{stream_at}
use Rattle.usb_session.proofs.ReadersKeep.{called_at}
use Rattle.usb_session.proofs.FramedReaders.{FollowsAt, history_of}

-- the line of bytes, behind a word
abbrev line_with : List ℕ → List ℕ → List ℕ
line_with word bytes = line_of word (decimal (length bytes) ∷ hex_word bytes ∷ [])

-- lines by their length
line-length : (word d x : List ℕ) → length (line_of word (d ∷ x ∷ [])) ≡ length word + 3 + (length d + length x)
line-length word d x = omega (arith, length-append word (32 ∷ (d ++ (32 ∷ (x ++ 10 ∷ [])))), length-append d (32 ∷ (x ++ 10 ∷ [])), length-append x (10 ∷ []))

none-length : (word : List ℕ) → length (line_with word []) ≡ length word + 3 + (1 + 1)
unfolding hex_word
none-length word = line-length word (decimal 0) (codes "-") ∙ ap (λ (d : List ℕ). length word + 3 + (length d + 1)) (decimal_digit 0 (omega arith))

one-length : (word : List ℕ) (b : ℕ) → length (line_with word (b ∷ [])) ≡ length word + 3 + (1 + 2)
unfolding hex_word encode_with
one-length word b = line-length word (decimal 1) (hex_word (b ∷ [])) ∙ ap (λ (d : List ℕ). length word + 3 + (length d + 2)) (decimal_digit 1 (omega arith))

more-length : (word : List ℕ) (b c : ℕ) (bytes : List ℕ) → length word + 6 ≤ length (line_with word (b ∷ c ∷ bytes))
unfolding hex_word encode_with
more-length word b c bytes = omega (arith, line-length word (decimal (length (b ∷ c ∷ bytes))) (hex_word (b ∷ c ∷ bytes)))

some-other : (word : List ℕ) (b : ℕ) (bytes : List ℕ) → line_with word (b ∷ bytes) ≡ line_with word [] → ⊥
some-other word b [] is = let e = ap (λ (l : List ℕ). length l) is in omega (arith, e, none-length word, one-length word b)
some-other word b (c ∷ bytes) is = let e = ap (λ (l : List ℕ). length l) is in omega (arith, e, none-length word, more-length word b c bytes)

-- what is printed of no bytes is printed of nothing else
pub record PrintsNone (print : List ℕ → List ℕ) : Type 0 where
  pub fault : (fault : FaultState) → io_line fault ≡ print [] → ⊥
  pub condition : condition_line ≡ print [] → ⊥
  pub pending : pending_line ≡ print [] → ⊥
  pub some : (b : ℕ) (bytes : List ℕ) → print (b ∷ bytes) ≡ print [] → ⊥

pub read-none : PrintsNone read_line
unfolding io_line read_line
read-none =
    record {
      fault = λ fault is. let e : 105 ≡ 114 = ap (λ (l : List ℕ). get_or l 0 0) is in omega (arith, e);
      condition = λ is. let e : 99 ≡ 114 = ap (λ (l : List ℕ). get_or l 0 0) is in omega (arith, e);
      pending = λ is. let e : 112 ≡ 114 = ap (λ (l : List ℕ). get_or l 0 0) is in omega (arith, e);
      some = λ b bytes is. some-other (codes "read") b bytes is;
    }

pub buffer-none : PrintsNone buffer_line
unfolding io_line buffer_line
buffer-none =
    record {
      fault = λ fault is. let e : 105 ≡ 98 = ap (λ (l : List ℕ). get_or l 0 0) is in omega (arith, e);
      condition = λ is. let e : 99 ≡ 98 = ap (λ (l : List ℕ). get_or l 0 0) is in omega (arith, e);
      pending = λ is. let e : 112 ≡ 98 = ap (λ (l : List ℕ). get_or l 0 0) is in omega (arith, e);
      some = λ b bytes is. some-other (codes "buf") b bytes is;
    }

given-none : (print : List ℕ → List ℕ) → PrintsNone print → (a : Result (List ℕ) ReadFault) → given_line print a ≡ print [] → a ≡ Ok []
given-none print none (Ok []) is = refl
given-none print none (Ok (b ∷ bytes)) is = absurd (none.some b bytes is)
given-none print none (Err fault) is = absurd (none.fault (read_fault fault) is)

polled-none : (print : List ℕ → List ℕ) → PrintsNone print → (a : Result (List ℕ) ReadFault) → polled_given_line print a ≡ print [] → a ≡ Ok []
polled-none print none (Ok []) is = refl
polled-none print none (Ok (b ∷ bytes)) is = absurd (none.some b bytes is)
polled-none print none (Err (Transfer e)) is = absurd (none.fault (read_fault (Transfer e)) is)
polled-none print none (Err TimedOut) is = absurd (none.pending is)
polled-none print none (Err UnexpectedEof) is = absurd (none.fault (read_fault UnexpectedEof) is)

-- what a call left of a reader
as-end : (state : State) (r : ℕ) (x0 x : Reader) (items : Option (List Mark)) (bytes : List ℕ) (w : Reading HostState) → named state.readers r ≡ Some x0 → is_end w.reader ≡ true → named (called state r items bytes w).readers r ≡ Some x → is_end x.state ≡ true
as-end state r x0 x items bytes w was ends at =
    let change : Reader → Reader = called_at state items bytes w in
    let now : x ≡ change x0 = same_Some x (change x0) (sym at ∙ (change-changes change state.readers r x0 was).here) in
    ap (λ (y : Reader). is_end y.state) now ∙ ends

-- where a line says that no byte was given, an end stands
abbrev pub Ends : (List ℕ → List ℕ) → ℕ → Answer → Type 0
Ends print r a = (x : Reader) → named a.state.readers r ≡ Some x → a.line ≡ print [] → is_end x.state ≡ true

bar-ends : (print : List ℕ → List ℕ) → PrintsNone print → (state : State) (r : ℕ) (bars : Bool) (call : Answer) → Ends print r call → Ends print r (if bars then condition_answer state else call)
bar-ends print none state r bars call ends = cond_both bars (condition_answer state) call (Ends print r) (λ yes_ x at is. absurd (none.condition is)) (λ no_. ends)

open-ends : (print : List ℕ → List ℕ) → PrintsNone print → (state : State) (r : ℕ) (o : Option Reader) (call : Reader → Answer) → ((x : Reader) → o ≡ Some x → Ends print r (call x)) → Ends print r (if_open o call (condition_answer state))
open-ends print none state r None call ends x at is = absurd (none.condition is)
open-ends print none state r (Some x0) call ends x at is = ends x0 refl x at is

-- so it is of a line whose call on an open reader is such a call, which may be barred
pub line-ends : (print : List ℕ → List ℕ) → PrintsNone print → (state : State) (bars : Bool) (barred : State) (r : ℕ) (call : ReaderCall) (steps : List KernelStep)
    → ((now : State) (x : Reader) → named now.readers r ≡ Some x → Ends print r (reader_called call now r x)) → Ends print r (if bars then condition_answer barred else along_steps state steps (λ s. on_reader s r call))
unfolding on_reader
line-ends print none state bars barred r call steps ends =
    let now = with_steps state steps in
    let opened = open-ends print none now r (named now.readers r) (reader_called call now r) (ends now) in
    bar-ends print none barred r bars (then_applied (on_reader now r call)) (λ x at is. opened x at is)

-- reads
read_on-ends : (state : State) (r timeout most : ℕ) (line : Result (List ℕ) ReadFault → List ℕ) (x0 : Reader) → 1 ≤ most → ((a : Result (List ℕ) ReadFault) → line a ≡ read_line [] → a ≡ Ok []) → named state.readers r ≡ Some x0
    → Ends read_line r (read_on state UntilShort r most timeout line x0)
read_on-ends state r timeout most line x0 some none was =
    let w = reading state.host x0.state in
    let a = read_came host_calls true timeout most w in
    bar-ends read_line read-none state r (bars_read state UntilShort x0) (read_as state UntilShort r x0 line a) (λ x at is.
    as-end state r x0 x (consumed_with UntilShort (map Byte (given_by a.answer)) x0.consumed) (given_by a.answer) a.left was (empty_read_leaves_end timeout most w some (none a.answer is)) at)

pub read-ends : (r most : ℕ) → 1 ≤ most → (state : State) (x : Reader) → named state.readers r ≡ Some x → Ends read_line r (reader_called (readers.Read UntilShort most) state r x)
read-ends r most some state x was = read_on-ends state r x.state.timeout most (given_line read_line) x some (given-none read_line read-none) was

pub poll_read-ends : (r most : ℕ) → 1 ≤ most → (state : State) (x : Reader) → named state.readers r ≡ Some x → Ends read_line r (reader_called (readers.PollRead UntilShort most) state r x)
poll_read-ends r most some state x was = read_on-ends state r 0 most (polled_given_line read_line) x some (polled-none read_line read-none) was

-- and fills
fill_on-ends : (state : State) (r timeout : ℕ) (line : Result (List ℕ) ReadFault → List ℕ) (x0 : Reader) → ((a : Result (List ℕ) ReadFault) → line a ≡ buffer_line [] → a ≡ Ok []) → named state.readers r ≡ Some x0
    → Ends buffer_line r (fill_on state UntilShort r timeout line x0)
fill_on-ends state r timeout line x0 none was =
    let w = reading state.host x0.state in
    let a = fill_came host_calls true timeout w in
    bar-ends buffer_line buffer-none state r (bars_read state UntilShort x0) (filled_as state UntilShort r x0 line a) (λ x at is.
    as-end state r x0 x (consumed_with UntilShort [] x0.consumed) [] a.left was (empty_fill_leaves_end timeout w (none a.answer is)) at)

pub fill-ends : (r : ℕ) (state : State) (x : Reader) → named state.readers r ≡ Some x → Ends buffer_line r (reader_called (readers.FillBuf UntilShort) state r x)
fill-ends r state x was = fill_on-ends state r x.state.timeout (given_line buffer_line) x (given-none buffer_line buffer-none) was

pub poll_fill-ends : (r : ℕ) (state : State) (x : Reader) → named state.readers r ≡ Some x → Ends buffer_line r (reader_called (readers.PollFillBuf UntilShort) state r x)
poll_fill-ends r state x was = fill_on-ends state r 0 (polled_given_line buffer_line) x (polled-none buffer_line buffer-none) was

-- the stream of a reader's endpoint
pub prefix-at : (past : List Event) (x : Reader) (consumed : List Mark) → FollowsAt past x consumed → IsPrefixOf consumed (stream_at past (endpoint_of_reader x))
prefix-at past x consumed f = consumed_is_prefix past x.state (history_of x consumed) f.follows

pub end-at : (past : List Event) (x : Reader) (consumed : List Mark) → FollowsAt past x consumed → is_end x.state ≡ true → IsPrefixOf (consumed ++ End ∷ []) (stream_at past (endpoint_of_reader x))
end-at past x consumed f is = end_is_next past x.state (history_of x consumed) f.follows is
