-- The tickets of clients of messages tell of their requests and responses.
use Rattle.std.proofs.Common.{◌≡◌, ◌∙◌, ℕ, ◌<◌, Bool, true, false, List, [], ◌∷◌, ◌++◌, Option, Some, append-nil, refl, ap, sym, subst}
use Rattle.std.specs.Prelude.{◌&&◌, ◌==◌, length, if◌then◌else◌}
use Rattle.std.proofs.lemmas.Bool.{cond_both, and_parts, eqb-true}
use Rattle.std.proofs.lemmas.Option.{same_Some}
use Rattle.usb_desc.specs.declared.types.Direction.{Direction}
use Rattle.usb_desc.specs.declared.types.Direction.TheVariants.{In, Out}
use Rattle.usb_kernel.specs.declared.event.Event.{Event}
use Rattle.usb_kernel.specs.Legal.{IsLawful}
use Rattle.usb_kernel.specs.Extends.{Extends}
use Rattle.usb_kernel.proofs.Extends.{extends-same}
use Rattle.usb_device_endpoint.specs.EndpointState.{EndpointState}
use Rattle.usb_device_host.specs.HostState.{HostState}
use Rattle.usb_device_host.specs.HostCalls.{host_calls}
use Rattle.usb_device_host.proofs.FollowLemmas.{on-rest}
use Rattle.usb_msg.specs.Requests.{Messaging, requested}
use Rattle.usb_msg.specs.Responses.{responded}
use Rattle.usb_msg.specs.Histories.{ClientHistory, Keeps}
use Rattle.usb_msg.specs.Frames.{frames_from}
use Rattle.usb_msg.proofs.Messages.{requests_are_messages, responses_are_first, responses_are_messages, responses_are_asked, answers_come_back}
use Rattle.usb_session_streams.specs.ClientCalls as stream_calls
use Rattle.usb_session_streams.specs.ClientCalls.{asked_of, told_of}
use Rattle.usb_session_streams.specs.ClientNeeds.{bars_request, bars_response}
use Rattle.usb_session_streams.specs.ClientTickets.{KeepsTaking}
use Rattle.usb_session_streams.proofs.ClientsGoOn.{client_calls-go_on}
use Rattle.usb_session_streams.proofs.ClientsKeep.{fresh_clients-keep, later_clients-keep, client_calls-keep}
use Rattle.usb_script_lines.specs.declared.item.Item.{Item}
use Rattle.usb_session_calls.specs.Names.{named, is_free, change_named}
use Rattle.usb_session_calls.proofs.EndpointNameLemmas.{set-changes, freed-changes, change-changes}
use Rattle.usb_session_calls.specs.declared.call.Call.{Call}
use Rattle.usb_session_calls.specs.declared.call.Call.TheVariants as families
use Rattle.usb_session_calls.specs.declared.call.OpenCall.TheVariants as opens
use Rattle.usb_session_calls.specs.declared.call.CloseCall.TheVariants as closes
use Rattle.usb_session_calls.specs.declared.call.ClientCall.{ClientCall}
use Rattle.usb_session_calls.specs.declared.call.ClientCall.TheVariants.{Request, Response, Outstanding}
use Rattle.usb_session_calls.specs.EndpointNames.{Own, endpoint_under}
use Rattle.usb_session_calls.specs.State.{State, Endpoint, Client, tickets_of, with_host}
use Rattle.usb_session_calls.specs.Answer.{Answer, condition_answer, ok_answer}
use Rattle.usb_session_calls.specs.Submits.{has_direction}
use Rattle.usb_session_calls.specs.Clients.{is_idle, new_client, with_client, client_on, client_answer, closed_client, close_client_answer}
use Rattle.usb_session_calls.specs.Messages.{messaging_at, taken_to, request_as, response_as}
use Rattle.usb_session_calls.specs.Steps.{with_steps, steps_applied, then_applied}
use Rattle.usb_session_calls.specs.CalledClients.{client_called, on_client}
use Rattle.usb_session.specs.CallAnswers.{call_answer}
use Rattle.usb_session.specs.Answers.{answer}
use Rattle.usb_session.specs.Output.{start, behind, final_host}
use Rattle.usb_session.specs.Behind.{ScriptsGoOn}
use Rattle.usb_session.specs.ClientsServed.{IsClientServed, ScriptsServeClients}
use Rattle.usb_session.proofs.Crowds.{over-line}
use Rattle.usb_session.proofs.LinesBehind.{past_of, behind-keeps, final-extends}
use Rattle.usb_session.proofs.TakenTickets.{taken-are}
use Rattle.usb_session.proofs.Barred.{free-keeps, open-keeps}
use Rattle.usb_session.proofs.StreamsLeave.{leaves-clients}
use Rattle.usb_session.proofs.StreamsKeep.{EachOpen, none-open, left-keeps, one-keeps, gone-keeps}
use Rattle.usb_session.proofs.ReadersKeep.{input-of}
use Rattle.usb_session.proofs.WrittenWriters.{output-of}
use Rattle.usb_session_streams.proofs.FramedCalls.{lawful-before}
use Rattle.usb_session.proofs.Views.{view_of}
use Rattle.usb_session.proofs.StepLemmas.{Inv}
use Rattle.usb_session.proofs.HandleLemmas.{inv-start, inv-of, inv-behind}

-- the tickets of a client say what it did
abbrev IsServing : List Event → Client → Type 0
IsServing past x = KeepsTaking past x.state x.sent x.received x.requests x.responses

-- so its requests are sent, and its responses are the device's answers
told-by : (past : List Event) (x : Client) (h : ClientHistory) → Keeps past x.state h
    → IsClientServed past (record x { sent = h.written.taken; received = h.read.taken; requests = h.requests; responses = h.responses })
told-by past x h keeps =
    record {
      calls = h.written.calls;
      carried = keeps.tells.carries.0;
      sent = requests_are_messages past x.state h keeps;
      whole = keeps.wrote.whole;
      first = responses_are_first past x.state h keeps;
      response = λ k body is. responses_are_messages past x.state h k body keeps is;
      asked = responses_are_asked past x.state h keeps;
      back = λ f answers k request body asked told. answers_come_back past x.state h f keeps answers k request body asked told;
    }

is-served : (past : List Event) (x : Client) → IsServing past x → IsClientServed past x
is-served past x k =
    let h = k.history in
    let same : record x { sent = h.written.taken; received = h.read.taken; requests = h.requests; responses = h.responses } ≡ x = rw (k.sent_is, k.received_is, k.asked_is, k.told_is) refl in
    subst (IsClientServed past) same (told-by past x h k.keeps)

later : (old new : List Event) (x : Client) → Extends old new → IsServing old x → IsServing new x
later old new x extends k = later_clients-keep old new x.state x.sent x.received x.requests x.responses extends k

-- a client is made
none-of : (l : List ℕ) → (length l == 0) ≡ true → l ≡ []
none-of [] is = refl
none-of (t ∷ ts) is = absurd (let some : length (t ∷ ts) ≡ 0 = eqb-true (length (t ∷ ts)) 0 is in cc)

idle-parts : (direction : Direction) (h : EndpointState) → is_idle direction h ≡ true → (has_direction direction h ≡ true) × (h.pending ≡ [])
idle-parts direction h is =
    let parts = and_parts (has_direction direction h) (length h.pending == 0) is in
    (parts.0, none-of h.pending parts.1)

fresh-serves : (past : List Event) (out inp : Endpoint) → is_idle Out out.state ≡ true → is_idle In inp.state ≡ true → 0 < out.state.maximum → IsServing past (new_client out inp)
fresh-serves past out inp output input some =
    let first = idle-parts Out out.state output in
    let second = idle-parts In inp.state input in
    fresh_clients-keep past out.state inp.state first.1 second.1 (output-of out first.0) (input-of inp second.0) some

abbrev clients_of : State → List (Option Client)
clients_of state = state.clients

-- so it is of each that is open
abbrev AllServe : State → Type 0
AllServe state = EachOpen clients_of IsServing state

-- where the journal is lawful
abbrev Serves : State → Type 0
Serves next = IsLawful (past_of next) → AllServe next

client-serves : (state : State) (m a b : ℕ) → Inv (view_of state) → AllServe state → AllServe (client_answer state m a b).state
unfolding client_answer
client-serves state m a b inv f =
    open-keeps AllServe state f (named state.endpoints a) _ (λ out here.
    open-keeps AllServe state f (named state.endpoints b) (client_on state m a b out) (λ inp there.
    let made = with_client state m a b out inp in
    free-keeps AllServe state f (is_free state.clients m && (is_idle Out out.state && is_idle In inp.state)) (ok_answer made) (λ may.
    let first = and_parts (is_free state.clients m) (is_idle Out out.state && is_idle In inp.state) may in
    let both = and_parts (is_idle Out out.state) (is_idle In inp.state) first.1 in
    one-keeps clients_of IsServing later state made (extends-same (past_of state)) m (new_client out inp) (set-changes state.clients m (new_client out inp) first.0)
    (fresh-serves (past_of state) out inp both.0 both.1 (inv.some (Own a) out here)) f)))

-- it is closed
close-serves : (state : State) (m : ℕ) → AllServe state → Extends (past_of state) (past_of (close_client_answer state m).state) → AllServe (close_client_answer state m).state
unfolding close_client_answer
close-serves state m f =
    open-keeps (λ (next : State). Extends (past_of state) (past_of next) → AllServe next) state (λ extends. f) (named state.clients m) _ (λ x at extends.
    gone-keeps clients_of IsServing later state (closed_client state m x) extends m (freed-changes state.clients m) f)

-- a client that is open, in a session in which each serves
module _ (state : State) (f : AllServe state) (m : ℕ) (x : Client) (at : named state.clients m ≡ Some x) where
  abbrev messaging_now : Messaging HostState
  messaging_now = messaging_at state x

  request-serves : (body : List ℕ) → Serves (client_called (Request body) state m x).state
  request-serves body =
      let call = stream_calls.Request body in
      let came = requested host_calls body messaging_now in
      let now = came.left in
      let a = request_as state m body came in
      cond_both (bars_request body messaging_now) (condition_answer state) a (λ (b : Answer). Serves b.state) (λ yes_ legal. f)
      (λ no_ legal.
      let t = client_calls-keep call messaging_now x.sent x.received x.requests x.responses no_ legal (f m x at) in
      let more = taken_to state now.bus x.state.writer.endpoint.pending now.client.writer.endpoint.pending in
      let taken : more ≡ t.taken = taken-are (tickets_of state) (tickets_of (with_host state now.bus)) x.state.writer.endpoint.pending now.client.writer.endpoint.pending t.taken (sym t.tickets) in
      let y : Client = record x { state = now.client; sent = x.sent ++ more; requests = x.requests ++ asked_of body came.answer } in
      let serving : KeepsTaking now.bus.kernel.past now.client (x.sent ++ t.taken) x.received y.requests x.responses =
      subst (λ (l : List (List ℕ)). KeepsTaking now.bus.kernel.past now.client (x.sent ++ t.taken) x.received y.requests l) (append-nil x.responses) t.keeps in
      one-keeps clients_of IsServing later state a.state (client_calls-go_on call messaging_now).1.past m y (change-changes _ state.clients m x at)
      (subst (λ (ts : List ℕ). KeepsTaking now.bus.kernel.past now.client (x.sent ++ ts) x.received y.requests x.responses) (sym taken) serving) f)

  response-serves : Serves (client_called Response state m x).state
  response-serves =
      let call = stream_calls.Response in
      let came = responded host_calls messaging_now in
      let now = came.left in
      let a = response_as state m came in
      cond_both (bars_response messaging_now) (condition_answer state) a (λ (b : Answer). Serves b.state) (λ yes_ legal. f)
      (λ no_ legal.
      let t = client_calls-keep call messaging_now x.sent x.received x.requests x.responses no_ legal (f m x at) in
      let more = taken_to state now.bus x.state.reader.endpoint.pending now.client.reader.endpoint.pending in
      let taken : more ≡ t.taken = taken-are (tickets_of state) (tickets_of (with_host state now.bus)) x.state.reader.endpoint.pending now.client.reader.endpoint.pending t.taken (sym t.tickets) in
      let y : Client = record x { state = now.client; received = x.received ++ more; responses = x.responses ++ told_of came.answer } in
      let serving : KeepsTaking now.bus.kernel.past now.client x.sent (x.received ++ t.taken) x.requests y.responses =
      subst (λ (l : List (List ℕ)). KeepsTaking now.bus.kernel.past now.client x.sent (x.received ++ t.taken) l y.responses) (append-nil x.requests) t.keeps in
      one-keeps clients_of IsServing later state a.state (client_calls-go_on call messaging_now).1.past m y (change-changes _ state.clients m x at)
      (subst (λ (ts : List ℕ). KeepsTaking now.bus.kernel.past now.client x.sent (x.received ++ ts) x.requests y.responses) (sym taken) serving) f)

  called-serves : (call : ClientCall) → Serves (client_called call state m x).state
  called-serves (Request body) = request-serves body
  called-serves Response = response-serves
  called-serves Outstanding = λ legal. f

on_client-serves : (state : State) (m : ℕ) (call : ClientCall) → AllServe state → Serves (on_client state m call).state
unfolding on_client
on_client-serves state m call f = open-keeps Serves state (λ legal. f) (named state.clients m) (client_called call state m) (λ x at. called-serves state f m x at call)

-- with the steps of a line, of which those that are left are applied behind a call
applied-serves : (a : Answer) → Serves a.state → Serves (then_applied a).state
applied-serves a f legal =
    let extends = (on-rest a.state.host).past in
    left-keeps clients_of IsServing later a.state (steps_applied a.state) extends refl (f (lawful-before (past_of a.state) (past_of (steps_applied a.state)) extends legal))

-- each call
call-serves : (state : State) (call : Call) → Inv (view_of state) → Extends (past_of state) (past_of (call_answer state call).state) → AllServe state → Serves (call_answer state call).state
unfolding call_answer
call-serves state (families.Client m call steps) inv extends f = let now = with_steps state steps in applied-serves (on_client now m call) (on_client-serves now m call f)
call-serves state (families.Open (opens.Client m out inp)) inv extends f = λ legal. client-serves state m out inp inv f
call-serves state (families.Close (closes.Client m)) inv extends f = λ legal. close-serves state m f extends
call-serves state call inv extends f = λ legal. left-keeps clients_of IsServing later state (call_answer state call).state extends (leaves-clients state call refl) f

-- and each line
line-serves : (state : State) (line : Item) → Inv (view_of state) → Extends (past_of state) (past_of (answer state line).state) → AllServe state → Serves (answer state line).state
line-serves state line inv =
    over-line (λ (next : State). Extends (past_of state) (past_of next) → AllServe state → Serves next) state line (λ call. call-serves state call inv)

-- and it is so behind the lines of a script, where the journal is lawful
record IsKept (state : State) : Type 0 where
  inv : Inv (view_of state)
  each : AllServe state

start-serves : (items : List Item) → AllServe (start items)
unfolding start
start-serves items = none-open (IsServing [])

pub serve-at : ScriptsGoOn → (items before : List Item) → IsLawful (past_of (behind (start items) before)) → AllServe (behind (start items) before)
serve-at go items before legal =
    (behind-keeps IsKept IsLawful
    (record {
      before = lawful-before;
      first = λ all. record { inv = inv-start all; each = start-serves all };
      line = λ state line extends lawful k. record { inv = (inv-behind state (line ∷ []) k.inv); each = line-serves state line k.inv extends k.each lawful };
    }) go items before legal).each

pub serve-by : ScriptsGoOn → ScriptsServeClients
serve-by go items lawful before after all m x at =
    let now = past_of (behind (start items) before) in
    is-served now x (serve-at go items before (lawful-before now (final_host items).kernel.past (final-extends go items before after all) lawful) m x at)
