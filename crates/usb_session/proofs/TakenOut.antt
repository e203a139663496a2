-- Calls as the code makes them: what is open is taken out of its name, called and put back.
use Rattle.std.proofs.Common.{◌≡◌, ℕ, List, ◌++◌, map, Option, Some, None, Result, refl, ap, sym, ◌∙◌, subst, String, string_bytes}
use Rattle.std.specs.Prelude.{OnOk, true}
use Rattle.std.specs.Option.{option_map}
use Rattle.std.specs.declared.alloc.Global.{Global}
use Rattle.std.proofs.lemmas.Result.{on_ok_weaker}
use Rattle.usb_device_endpoint.specs.EndpointState.{EndpointState}
use Rattle.usb_device_host.specs.HostState.{HostState}
use Rattle.usb_io.specs.Readers.{ReaderState}
use Rattle.usb_io.specs.Writers.{WriterState}
use Rattle.usb_msg.specs.Clients.{ClientState}
use Rattle.usb_session_text.specs.Calls.{condition_line}
use Rattle.usb_session_calls.specs.Names.{named, change_named, freed, set_name, is_free}
use Rattle.usb_session_calls.specs.State.{State, Endpoint, Reader, Writer, Client}
use Rattle.usb_session_calls.specs.Answer.{Answer, condition_answer, if_open}
use Rattle.usb_session_calls.specs.SessionState.{SessionState}
use Rattle.usb_session_calls.specs.Relation.{Represents}
use Rattle.usb_session_calls.specs.Answered.{Answered, Answers}
use Rattle.usb_session_calls.specs.OpenCalls.{CallAnswers}
use Rattle.usb_session_calls.specs.ReaderCalls.{ReaderAnswers}
use Rattle.usb_session_calls.specs.WriterCalls.{WriterAnswers}
use Rattle.usb_session_calls.specs.ClientCalls.{ClientAnswers}
use Rattle.usb_session_calls.proofs.Answering.{told-answered, answered-none, answered-some}
use Rattle.usb_session_calls.proofs.NameLemmas.{freed-none, freed-free, put-changed}
use Rattle.usb_session_calls.proofs.EndpointNameLemmas.{ChangedAt, put-changes}
use Rattle.usb_session_calls.proofs.Called.{endpoints_kept, readers_kept, writers_kept, clients_kept}
use Rattle.usb_session.proofs.KeptNames.{kept-at, kept-none}

-- what was open was taken out of its name, and put back as it was left
pub record PutBack {X : Type 0} (xs after : List (Option X)) (n : ℕ) (x y : X) : Type 0 where
  pub was : named xs n ≡ Some x
  pub put : after ≡ set_name (freed xs n) n y

-- the facts of the code
pub put_back : {X : Type 0} (xs mid after : List (Option X)) (n : ℕ) (x y : X) (taken : Option X) → taken ≡ named xs n → taken ≡ Some x → mid ≡ freed xs n → after ≡ set_name mid n y → PutBack xs after n x y
put_back xs mid after n x y taken was is rest put = record { was = sym was ∙ is; put = put ∙ ap (λ l. set_name l n y) rest }

pub free_again : {X : Type 0} (xs mid : List (Option X)) (n : ℕ) (x : X) (taken : Option X) → taken ≡ named xs n → taken ≡ Some x → mid ≡ freed xs n → is_free mid n ≡ true
free_again xs mid n x taken was is rest = ap (λ l. is_free l n) rest ∙ freed-free xs n x (sym was ∙ is)

-- nothing was open under the name
pub same-none : {X : Type 0} (xs mid : List (Option X)) (n : ℕ) (taken : Option X) → taken ≡ named xs n → taken ≡ None → mid ≡ freed xs n → mid ≡ xs
same-none xs mid n taken was none rest = rest ∙ freed-none xs n (sym was ∙ none)

-- the name has what was put back
pub back-changes : {X : Type 0} (xs after : List (Option X)) (n : ℕ) (x y : X) → PutBack xs after n x y → ChangedAt xs after n (Some y)
back-changes xs after n x y back = put-changes xs after n x y back.was back.put

pub back-is : {X : Type 0} (xs after : List (Option X)) (n : ℕ) (x y : X) → PutBack xs after n x y → change_named (λ z. y) xs n ≡ after
back-is xs after n x y back = sym (back.put ∙ put-changed (λ z. y) xs n x y back.was refl)

-- what a call by name answers, with n the number of the name m: of what is open under it, and where nothing is
module _ {X Y E : Type 0} (names : State → List (Option X)) (kept : SessionState → List (Option Y)) (v : X → Y) (keeps : (s : SessionState) (state : State) → Represents s state → kept s ≡ map (option_map v) (names state)) (s after : SessionState) (n m : ℕ) (same : n ≡ m) (before text : String Global) (result : Result Unit E) where
  answers-some : (y : Y) (call : State → ℕ → X → Answer) → named (kept s) n ≡ Some y
      → OnOk result ((state : State) (x : X) → Represents s state → named (names state) n ≡ Some x → v x ≡ y → Answered after (string_bytes before) (string_bytes text) (call state n x))
      → Answers s after before text result (λ state. if_open (named (names state) m) (call state m) (condition_answer state))
  answers-some y call was =
      on_ok_weaker result
      (λ (answers : (state : State) (x : X) → Represents s state → named (names state) n ≡ Some x → v x ≡ y → Answered after (string_bytes before) (string_bytes text) (call state n x)) (state : State) (r : Represents s state).
      let k = kept-at v (names state) (kept s) (keeps s state r) n y was in
      subst (λ i. Answered after (string_bytes before) (string_bytes text) (if_open (named (names state) i) (call state i) (condition_answer state))) same
      (answered-some after (string_bytes before) (string_bytes text) (named (names state) n) k.entry (call state n) (condition_answer state) k.is (answers state k.entry r k.is k.same)))

  pub answers-none : (call : State → X → Answer) → named (kept s) n ≡ None → after ≡ s → OnOk result (string_bytes text ≡ string_bytes before ++ condition_line)
      → Answers s after before text result (λ state. if_open (named (names state) m) (call state) (condition_answer state))
  answers-none call none stays =
      on_ok_weaker result
      (λ (line : string_bytes text ≡ string_bytes before ++ condition_line) (state : State) (r : Represents s state).
      answered-none after (string_bytes before) (string_bytes text) (named (names state) m) (call state) (condition_answer state)
      (kept-none v (names state) (kept s) (keeps s state r) m (ap (named (kept s)) (sym same) ∙ none))
      (told-answered after state (string_bytes before) (string_bytes text) condition_line (stays ∙ r) line))

-- an endpoint was called, where the session has this host; or a reader; or a writer; or a client
module _ {E : Type 0} (s : SessionState) (at now : HostState) (n m : ℕ) (same : n ≡ m) (before text : String Global) (result : Result Unit E) where
  pub answers-endpoint : (after : List (Option EndpointState)) (x y : EndpointState) (call : State → ℕ → Endpoint → Answer) → PutBack s.endpoints after n x y → CallAnswers at now x y before text result call
      → Answers (record s { host = at }) (record s { host = now; endpoints = after }) before text result (λ state. if_open (named state.endpoints m) (call state m) (condition_answer state))
  answers-endpoint after x y call back answers =
      answers-some (λ (state : State). state.endpoints) (λ (z : SessionState). z.endpoints) (λ (z : Endpoint). z.state) endpoints_kept (record s { host = at }) (record s { host = now; endpoints = after }) n m same before text result x call back.was
      (on_ok_weaker result
      (λ answers state h r is seen.
      subst (λ l. Answered (record s { host = now; endpoints = l }) (string_bytes before) (string_bytes text) (call state n h)) (back-is s.endpoints after n x y back)
      (answers (record s { host = at }) state n h r refl is seen)) answers)

  pub answers-reader : (after : List (Option ReaderState)) (x y : ReaderState) (call : State → ℕ → Reader → Answer) → PutBack s.readers after n x y → ReaderAnswers at now x y before text result call
      → Answers (record s { host = at }) (record s { host = now; readers = after }) before text result (λ state. if_open (named state.readers m) (call state m) (condition_answer state))
  answers-reader after x y call back answers =
      answers-some (λ (state : State). state.readers) (λ (z : SessionState). z.readers) (λ (z : Reader). z.state) readers_kept (record s { host = at }) (record s { host = now; readers = after }) n m same before text result x call back.was
      (on_ok_weaker result
      (λ answers state h r is seen.
      subst (λ l. Answered (record s { host = now; readers = l }) (string_bytes before) (string_bytes text) (call state n h)) (back-is s.readers after n x y back)
      (answers (record s { host = at }) state n h r refl is seen)) answers)

  pub answers-writer : (after : List (Option WriterState)) (x y : WriterState) (call : State → ℕ → Writer → Answer) → PutBack s.writers after n x y → WriterAnswers at now x y before text result call
      → Answers (record s { host = at }) (record s { host = now; writers = after }) before text result (λ state. if_open (named state.writers m) (call state m) (condition_answer state))
  answers-writer after x y call back answers =
      answers-some (λ (state : State). state.writers) (λ (z : SessionState). z.writers) (λ (z : Writer). z.state) writers_kept (record s { host = at }) (record s { host = now; writers = after }) n m same before text result x call back.was
      (on_ok_weaker result
      (λ answers state h r is seen.
      subst (λ l. Answered (record s { host = now; writers = l }) (string_bytes before) (string_bytes text) (call state n h)) (back-is s.writers after n x y back)
      (answers (record s { host = at }) state n h r refl is seen)) answers)

  pub answers-client : (after : List (Option ClientState)) (x y : ClientState) (call : State → ℕ → Client → Answer) → PutBack s.clients after n x y → ClientAnswers at now x y before text result call
      → Answers (record s { host = at }) (record s { host = now; clients = after }) before text result (λ state. if_open (named state.clients m) (call state m) (condition_answer state))
  answers-client after x y call back answers =
      answers-some (λ (state : State). state.clients) (λ (z : SessionState). z.clients) (λ (z : Client). z.state) clients_kept (record s { host = at }) (record s { host = now; clients = after }) n m same before text result x call back.was
      (on_ok_weaker result
      (λ answers state h r is seen.
      subst (λ l. Answered (record s { host = now; clients = l }) (string_bytes before) (string_bytes text) (call state n h)) (back-is s.clients after n x y back)
      (answers (record s { host = at }) state n h r refl is seen)) answers)
