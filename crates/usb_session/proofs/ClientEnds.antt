-- No client of messages ends by want of memory in what a script answers, so each of its calls has a line.
use Rattle.std.proofs.Common.{◌≡◌, ◌≢◌, ℕ, Bool, true, false, List, [], ◌∷◌, Option, Some, None, Result, Ok, Err, refl}
use Rattle.std.specs.Prelude.{◌&&◌, ◌≤◌, ◌-◌, nat_lt, length, if◌then◌else◌}
use Rattle.std.proofs.lemmas.Option.{none-some}
use Rattle.usb_desc.specs.declared.types.Direction.TheVariants.{In, Out}
use Rattle.usb_kernel.specs.declared.event.Event.{Event}
use Rattle.usb_kernel.specs.Extends.{Extends}
use Rattle.usb_kernel.proofs.Extends.{extends-same}
use Rattle.usb_device_host.specs.HostState.{HostState}
use Rattle.usb_device_host.specs.HostCalls.{host_calls}
use Rattle.usb_device_host.proofs.FollowLemmas.{on-rest}
use Rattle.usb_io.specs.declared.fault.ReadFault.{ReadFault}
use Rattle.usb_io.specs.declared.fault.ReadFault.TheVariants as reads
use Rattle.usb_io.specs.declared.fault.WriteFault.{WriteFault}
use Rattle.usb_io.specs.declared.fault.WriteFault.TheVariants as writes
use Rattle.usb_io.specs.Reads.{Reading}
use Rattle.usb_io.specs.Answers.{read_came}
use Rattle.usb_io.specs.Writers.{Writing}
use Rattle.usb_msg.specs.declared.error.Ending.{Ending}
use Rattle.usb_msg.specs.declared.error.Ending.TheVariants as ending
use Rattle.usb_msg.specs.Errors.{ended_by_read}
use Rattle.usb_msg.specs.Clients.{ClientState}
use Rattle.usb_msg.specs.Frames.{has_tag}
use Rattle.usb_msg.specs.Requests.{Messaging, Message, after_write, ended_by, frame_written, requested_by, requested}
use Rattle.usb_msg.specs.Responses.{reading_of, piece_by, piece_came, without_message, by_tag, by_length, responded_by, responded}
use Rattle.usb_msg.proofs.Responding.{responds}
use Rattle.usb_session_streams.specs.ClientCalls as stream_calls
use Rattle.usb_session_streams.proofs.ClientsGoOn.{client_calls-go_on}
use Rattle.usb_script_lines.specs.declared.item.Item.{Item}
use Rattle.usb_session_calls.specs.Names.{named, is_free}
use Rattle.usb_session_calls.proofs.EndpointNameLemmas.{set-changes, freed-changes, change-changes}
use Rattle.usb_session_calls.specs.declared.call.Call.{Call}
use Rattle.usb_session_calls.specs.declared.call.Call.TheVariants as families
use Rattle.usb_session_calls.specs.declared.call.OpenCall.TheVariants as opens
use Rattle.usb_session_calls.specs.declared.call.CloseCall.TheVariants as closes
use Rattle.usb_session_calls.specs.declared.call.ClientCall.{ClientCall}
use Rattle.usb_session_calls.specs.declared.call.ClientCall.TheVariants.{Request, Response, Outstanding}
use Rattle.usb_session_calls.specs.State.{State, Endpoint, Client}
use Rattle.usb_session_calls.specs.Answer.{Answer, ok_answer}
use Rattle.usb_session_calls.specs.Clients.{is_idle, new_client, with_client, client_on, client_answer, closed_client, close_client_answer}
use Rattle.usb_session_calls.specs.Messages.{messaging_at, request_as, response_as}
use Rattle.usb_session_calls.specs.Steps.{with_steps, steps_applied, then_applied}
use Rattle.usb_session_calls.specs.CalledClients.{client_called, on_client}
use Rattle.usb_session_streams.specs.ClientNeeds.{bars_request, bars_response}
use Rattle.usb_session.specs.CallAnswers.{call_answer}
use Rattle.usb_session.specs.Answers.{answer}
use Rattle.usb_session.specs.Output.{start, behind}
use Rattle.usb_session.specs.Behind.{ScriptsGoOn}
use Rattle.usb_session.proofs.Crowds.{over-line}
use Rattle.usb_session.proofs.LinesBehind.{past_of, behind-keeps}
use Rattle.usb_session.proofs.Barred.{bar-keeps, free-keeps, open-keeps}
use Rattle.usb_session.proofs.StreamsLeave.{leaves-clients}
use Rattle.usb_session.proofs.StreamsKeep.{EachOpen, none-open, left-keeps, one-keeps, gone-keeps}

-- what ended a client, if anything did, is not want of memory
abbrev pub IsTold : Option Ending → Type 0
IsTold why = why ≢ Some ending.Memory

abbrev IsFor : Messaging HostState → Type 0
IsFor w = IsTold w.client.ended

none-told : IsTold None
none-told same = none-some ending.Memory same

by-write : (fault : WriteFault) (c : ClientState) (v : Writing HostState) → IsFor (after_write host_calls c (Err fault) v).left
by-write (writes.Transfer e) c v same = absurd (cc)
by-write writes.TimedOut c v same = none-some ending.Memory same

after-told : (c : ClientState) (r : Result ℕ WriteFault) (v : Writing HostState) → IsTold c.ended → IsFor (after_write host_calls c r v).left
after-told c (Ok n) v told = told
after-told c (Err fault) v told = by-write fault c v

request-told : (body : List ℕ) (why : Option Ending) (w : Messaging HostState) → IsFor w → IsFor (requested_by host_calls body why w).left
request-told body (Some why) w told = told
request-told body None w told = let a = frame_written host_calls body w in after-told w.client a.answer a.left told

piece-by : (c : ClientState) (r : Result (List ℕ) ReadFault) (v : Reading HostState) → IsTold c.ended → IsFor (piece_by c r v).left
piece-by c (Ok bytes) v told = told
piece-by c (Err fault) v told = told

tag-told : (b : Bool) (message : List ℕ) (c : ClientState) → IsTold c.ended → IsTold (by_tag b message c).left.ended
tag-told true message c told = told
tag-told false message c told = λ same. absurd (cc)

length-told : (b : Bool) (message : List ℕ) (c : ClientState) → IsTold c.ended → IsTold (by_length b message c).left.ended
length-told true message c told = λ same. absurd (cc)
length-told false message c told = tag-told (has_tag c.responses message) message c told

by-read : (fault : ReadFault) (w : Messaging HostState) → IsFor (ended_by (ended_by_read fault) w)
by-read (reads.Transfer e) w same = absurd (cc)
by-read reads.TimedOut w same = none-some ending.Memory same
by-read reads.UnexpectedEof w same = none-some ending.Memory same

piece-told : (w : Messaging HostState) → length w.client.frame ≤ 4100 → IsFor w → IsFor (piece_came host_calls w).left
piece-told w is_few told =
    let came = read_came host_calls true w.client.reader.timeout (4101 - length w.client.frame) (reading_of w) in piece-by w.client came.answer came.left told

long-told : IsTold (Some ending.TooLong)
long-told same = absurd (cc)

response-told : (why : Option Ending) (w : Messaging HostState) → IsFor w → IsFor (responded_by host_calls why w).left
response-told (Some why) w told = told
response-told None w told =
    responds host_calls IsFor piece-told (λ (a : Message (List ℕ) HostState). IsFor a.left)
    (λ v end so_far. length-told (nat_lt (length v.client.frame) 4) v.client.frame (without_message v.client) so_far) (λ v so_far. long-told) (λ v fault so_far. by-read fault v) w told

-- so it is of each open client
abbrev clients_of : State → List (Option Client)
clients_of state = state.clients

abbrev IsTelling : List Event → Client → Type 0
IsTelling past x = IsTold x.state.ended

later : (old new : List Event) (x : Client) → Extends old new → IsTelling old x → IsTelling new x
later old new x extends told = told

abbrev pub AllTell : State → Type 0
AllTell state = EachOpen clients_of IsTelling state

client-tells : (state : State) (m a b : ℕ) → AllTell state → AllTell (client_answer state m a b).state
unfolding client_answer
client-tells state m a b f =
    open-keeps AllTell state f (named state.endpoints a) _ (λ out here.
    open-keeps AllTell state f (named state.endpoints b) (client_on state m a b out) (λ inp there.
    let made = with_client state m a b out inp in
    free-keeps AllTell state f (is_free state.clients m && (is_idle Out out.state && is_idle In inp.state)) (ok_answer made) (λ may.
    one-keeps clients_of IsTelling later state made (extends-same (past_of state)) m (new_client out inp) (set-changes state.clients m (new_client out inp) (free-part _ _ may)) none-told f)))
  where
    free-part : (x y : Bool) → (x && y) ≡ true → x ≡ true
    free-part true y is = refl
    free-part false y is = is

close-tells : (state : State) (m : ℕ) → AllTell state → Extends (past_of state) (past_of (close_client_answer state m).state) → AllTell (close_client_answer state m).state
unfolding close_client_answer
close-tells state m f =
    open-keeps (λ (next : State). Extends (past_of state) (past_of next) → AllTell next) state (λ extends. f) (named state.clients m) _ (λ x at extends.
    gone-keeps clients_of IsTelling later state (closed_client state m x) extends m (freed-changes state.clients m) f)

called-tells : (state : State) (f : AllTell state) (m : ℕ) (x : Client) → named state.clients m ≡ Some x → (call : ClientCall) → AllTell (client_called call state m x).state
called-tells state f m x at (Request body) =
    let w = messaging_at state x in
    let came = requested host_calls body w in
    let a = request_as state m body came in
    bar-keeps AllTell state f (bars_request body w) a
    (one-keeps clients_of IsTelling later state a.state (client_calls-go_on (stream_calls.Request body) w).1.past m _ (change-changes _ state.clients m x at) (request-told body x.state.ended w (f m x at)) f)
called-tells state f m x at Response =
    let w = messaging_at state x in
    let came = responded host_calls w in
    let a = response_as state m came in
    bar-keeps AllTell state f (bars_response w) a
    (one-keeps clients_of IsTelling later state a.state (client_calls-go_on stream_calls.Response w).1.past m _ (change-changes _ state.clients m x at) (response-told x.state.ended w (f m x at)) f)
called-tells state f m x at Outstanding = f

on_client-tells : (state : State) (m : ℕ) (call : ClientCall) → AllTell state → AllTell (on_client state m call).state
unfolding on_client
on_client-tells state m call f = open-keeps AllTell state f (named state.clients m) (client_called call state m) (λ x at. called-tells state f m x at call)

applied-tells : (a : Answer) → AllTell a.state → AllTell (then_applied a).state
applied-tells a f = left-keeps clients_of IsTelling later a.state (steps_applied a.state) (on-rest a.state.host).past refl f

-- over each call
call-tells : (state : State) (call : Call) → Extends (past_of state) (past_of (call_answer state call).state) → AllTell state → AllTell (call_answer state call).state
unfolding call_answer
call-tells state (families.Client m call steps) extends f = let now = with_steps state steps in applied-tells (on_client now m call) (on_client-tells now m call f)
call-tells state (families.Open (opens.Client m out inp)) extends f = client-tells state m out inp f
call-tells state (families.Close (closes.Client m)) extends f = close-tells state m f extends
call-tells state call extends f = left-keeps clients_of IsTelling later state (call_answer state call).state extends (leaves-clients state call refl) f

line-tells : (state : State) (line : Item) → Extends (past_of state) (past_of (answer state line).state) → AllTell state → AllTell (answer state line).state
line-tells state line = over-line (λ (next : State). Extends (past_of state) (past_of next) → AllTell state → AllTell next) state line (call-tells state)

start-tells : (items : List Item) → AllTell (start items)
unfolding start
start-tells items = none-open (IsTelling [])

-- and behind the lines of a script
pub tell-behind : ScriptsGoOn → (items before : List Item) → AllTell (behind (start items) before)
tell-behind go items before =
    behind-keeps AllTell (λ past. Unit {0}) (record { before = λ old new extends legal. tt; first = start-tells; line = λ state line extends legal. line-tells state line extends }) go items before tt
