-- What calls on an open client of messages answer, and what they keep.
use Rattle.std.proofs.Common.{◌≡◌, ℕ, Bool, true, false, cond, List, ◌++◌, Option, Some, Result, Ok, Err, refl, ap, sym, ◌∙◌, subst, String, string_bytes}
use Rattle.std.specs.Prelude.{OnOk}
use Rattle.std.specs.declared.alloc.Global.{Global}
use Rattle.usb_device_endpoint.specs.EndpointState.{EndpointState}
use Rattle.usb_device_endpoint.specs.Handles.{Stands}
use Rattle.usb_device_host.specs.HostState.{HostState}
use Rattle.usb_device_host.specs.HostBus.{bus_of}
use Rattle.usb_device_host.specs.HostCalls.{host_calls}
use Rattle.usb_msg.specs.Clients.{ClientState}
use Rattle.usb_msg.specs.Requests.{Messaging, messaging, Message, requested}
use Rattle.usb_msg.specs.Responses.{responded}
use Rattle.usb_msg.specs.declared.error.MsgError.{MsgError}
use Rattle.usb_session_text.specs.Calls.{condition_line}
use Rattle.usb_session_streams.specs.Clients.{ClientKeeps, ClientPrints, ClientCameTo}
use Rattle.usb_session_streams.specs.ClientCalls.{asked_of, told_of}
use Rattle.usb_session_streams.specs.ClientLines.{request_line, response_line, outstanding_line}
use Rattle.usb_session_streams.specs.ClientNeeds.{bars_request, bars_response}
use Rattle.usb_session_calls.specs.Names.{named, change_named}
use Rattle.usb_session_calls.specs.State.{State, Client}
use Rattle.usb_session_calls.specs.Messages.{messaging_at, taken_to, request_as, response_as, request_on, response_on}
use Rattle.usb_session_calls.specs.Answer.{Answer, answer_with, condition_answer}
use Rattle.usb_session_calls.specs.Answered.{Answered}
use Rattle.usb_session_calls.specs.SessionState.{SessionState}
use Rattle.usb_session_calls.specs.Relation.{Represents}
use Rattle.usb_session_calls.specs.OpenCalls.{CallKeeps}
use Rattle.usb_session_calls.specs.ClientCalls.{ClientAnswers, with_client_called}
use Rattle.usb_session_calls.proofs.Answering.{host_is, told-answered}
use Rattle.usb_session_calls.proofs.Called.{represents-client}
use Rattle.usb_session_calls.proofs.NameLemmas.{change_named-none}

-- what a call on one of a client's endpoints keeps
pub keeps-client : (old new : Messaging HostState) (x y : EndpointState) → ClientKeeps old new x y → Stands (bus_of new.bus) y → CallKeeps old.bus new.bus x y
keeps-client old new x y keeps stands =
    record {
      line = keeps.line;
      past = keeps.past;
      stands = stands;
      others = keeps.others;
      key = ap (λ (h : EndpointState). h.key) keeps.endpoint;
      maximum = ap (λ (h : EndpointState). h.maximum) keeps.endpoint;
      accounts = keeps.accounts;
    }

-- an answer of a call of a client (at): the client is changed, to one that calls see so (y), the host goes on, and this line is told
record ComesTo (state : State) (m : ℕ) (at : Client) (now : HostState) (y : ClientState) (line : List ℕ) (a : Answer) : Type 0 where
  pub change : Client → Client
  pub is : a ≡ answer_with (record state { host = now; clients = change_named change state.clients m }) line
  pub same : (change at).state ≡ y

comes-answered : (s : SessionState) (state : State) (m : ℕ) (at : Client) (now : HostState) (y : ClientState) (before after line : List ℕ) (a : Answer) → Represents s state → named state.clients m ≡ Some at → after ≡ before ++ line → ComesTo state m at now y line a
    → Answered (with_client_called s m now y) before after a
comes-answered s state m at now y before after line a rep is printed c =
    subst (Answered (with_client_called s m now y) before after) (sym c.is)
    (told-answered (with_client_called s m now y) (record state { host = now; clients = change_named c.change state.clients m }) before after line
    (represents-client s state now c.change m at y rep is c.same) printed)

-- nothing but the line
comes-told : (state : State) (m : ℕ) (at : Client) (x : ClientState) (line : List ℕ) → at.state ≡ x → ComesTo state m at state.host x line (answer_with state line)
comes-told state m at x line same =
    record { change = λ z. z; is = ap (λ (l : List (Option Client)). answer_with (record state { clients = l }) line) (sym (change_named-none state.clients m)); same = same }

-- what a request left of host and client, and what a response did
comes-requested : (body : List ℕ) (state : State) (m : ℕ) (at : Client) (a : Message ℕ HostState) → ComesTo state m at a.left.bus a.left.client (request_line a.answer) (request_as state m body a)
comes-requested body state m at a =
    record {
      change = λ z. record z {
        state = a.left.client;
        sent = z.sent ++ taken_to state a.left.bus z.state.writer.endpoint.pending a.left.client.writer.endpoint.pending;
        requests = z.requests ++ asked_of body a.answer;
      };
      is = refl;
      same = refl;
    }

comes-responded : (state : State) (m : ℕ) (at : Client) (a : Message (List ℕ) HostState) → ComesTo state m at a.left.bus a.left.client (response_line a.answer) (response_as state m a)
comes-responded state m at a =
    record {
      change = λ z. record z {
        state = a.left.client;
        received = z.received ++ taken_to state a.left.bus z.state.reader.endpoint.pending a.left.client.reader.endpoint.pending;
        responses = z.responses ++ told_of a.answer;
      };
      is = refl;
      same = refl;
    }

-- a call by what bars it, what it comes to at the host, and what that is of a state
module _ {A : Type 0} (bars : Messaging HostState → Bool) (came : Messaging HostState → Message A HostState) (line : Result A MsgError → List ℕ) (by : State → ℕ → Message A HostState → Answer)
    (comes : (state : State) (m : ℕ) (at : Client) (a : Message A HostState) → ComesTo state m at a.left.bus a.left.client (line a.answer) (by state m a)) where
  abbrev called_by : State → ℕ → Client → Answer
  called_by state m at = cond (bars (messaging_at state at)) (condition_answer state) (by state m (came (messaging_at state at)))

  -- it is answered in a session as at the host
  client-answers : {E : Type 0} (old new : HostState) (x y : ClientState) (before text : String Global) (result : Result Unit E) → ClientPrints (bars (messaging old x)) line (came (messaging old x)) before text (messaging old x) (messaging new y) result
      → ClientAnswers old new x y before text result called_by
  client-answers old new x y before text (Err error) prints = tt
  client-answers old new x y before text (Ok done) prints =
      λ s state m at rep host_was is same.
      let a = came (messaging old x) in
      let host : state.host ≡ old = sym (host_is s state rep) ∙ host_was in
      let there : messaging_at state at ≡ messaging old x =
      ap (λ (h : HostState). messaging h at.state) host ∙ ap (λ (z : ClientState). messaging old z) same in
      let answer = λ (p : Messaging HostState). cond (bars p) (condition_answer state) (by state m (came p)) in
      let comes_so : (b : Bool) → ClientCameTo b line a (string_bytes before) (string_bytes text) (messaging old x) (messaging new y)
      → Answered (with_client_called s m new y) (string_bytes before) (string_bytes text) (cond b (condition_answer state) (by state m a)) =
      elim [
        | true ↦ λ p.
            subst (λ (v : Messaging HostState). Answered (with_client_called s m v.bus v.client) (string_bytes before) (string_bytes text) (condition_answer state)) (sym p.1)
            (comes-answered s state m at old x (string_bytes before) (string_bytes text) condition_line (condition_answer state) rep is p.0
            (subst (λ (h : HostState). ComesTo state m at h x condition_line (condition_answer state)) host (comes-told state m at x condition_line same)))
        | false ↦ λ p.
            subst (λ (v : Messaging HostState). Answered (with_client_called s m v.bus v.client) (string_bytes before) (string_bytes text) (by state m a)) (sym p.2)
            (comes-answered s state m at a.left.bus a.left.client (string_bytes before) (string_bytes text) (line a.answer) (by state m a) rep is p.1
            (comes state m at a))
      ] in
      subst (Answered (with_client_called s m new y) (string_bytes before) (string_bytes text)) (sym (ap answer there)) (comes_so (bars (messaging old x)) prints)

-- a request, with the bytes of this slice (l)
pub request-answers : {E : Type 0} (body l : List ℕ) (old new : HostState) (x y : ClientState) (before text : String Global) (result : Result Unit E) → l ≡ body
    → ClientPrints (bars_request l (messaging old x)) request_line (requested host_calls l (messaging old x)) before text (messaging old x) (messaging new y) result
    → ClientAnswers old new x y before text result (λ state m at. request_on state m body at)
request-answers body l old new x y before text result same prints =
    client-answers (bars_request body) (requested host_calls body) request_line (λ state m a. request_as state m body a) (comes-requested body) old new x y before text result
    (subst (λ (bytes : List ℕ). ClientPrints (bars_request bytes (messaging old x)) request_line (requested host_calls bytes (messaging old x)) before text (messaging old x) (messaging new y) result) same prints)

-- a response
pub response-answers : {E : Type 0} (old new : HostState) (x y : ClientState) (before text : String Global) (result : Result Unit E)
    → ClientPrints (bars_response (messaging old x)) response_line (responded host_calls (messaging old x)) before text (messaging old x) (messaging new y) result
    → ClientAnswers old new x y before text result (λ state m at. response_on state m at)
response-answers old new x y before text result prints =
    client-answers bars_response (responded host_calls) response_line response_as comes-responded old new x y before text result prints

-- how many are outstanding
pub count-answers : {E : Type 0} (host : HostState) (x : ClientState) (before text : String Global) (result : Result Unit E) → OnOk result (string_bytes text ≡ string_bytes before ++ outstanding_line x)
    → ClientAnswers host host x x before text result (λ state m at. answer_with state (outstanding_line at.state))
count-answers host x before text (Err error) printed = tt
count-answers host x before text (Ok done) printed =
    λ s state m at rep host_was is same.
    comes-answered s state m at host x (string_bytes before) (string_bytes text) (outstanding_line x) (answer_with state (outstanding_line at.state)) rep is printed
    (subst (λ (h : HostState). ComesTo state m at h x (outstanding_line x) (answer_with state (outstanding_line at.state))) (sym (host_is s state rep) ∙ host_was)
    (subst (λ (z : ClientState). ComesTo state m at state.host x (outstanding_line z) (answer_with state (outstanding_line at.state))) same
    (comes-told state m at x (outstanding_line at.state) same)))
