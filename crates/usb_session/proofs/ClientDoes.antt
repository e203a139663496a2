-- What the calls on clients of messages do.
use Rattle.std.proofs.Common.{◌≡◌, ◌≢◌, ◌<◌, ◌≤◌, ℕ, true, false, Bool, List, [], ◌∷◌, ◌++◌, ◌-◌, length, Option, Some, None, Result, Ok, Err, inl, inr, refl, ap, sym, ◌∙◌, subst, append_assoc, append-nil}
use Rattle.std.specs.Prelude.{◌&&◌, ◌==◌, nat_lt, if◌then◌else◌}
use Rattle.std.specs.Option.{option_map}
use Rattle.std.proofs.lemmas.Bool.{cond_both, and_parts}
use Rattle.std.proofs.lemmas.Option.{same_Some}
use Rattle.usb_desc.specs.Fields.{direction_of_address}
use Rattle.usb_desc.specs.declared.types.Direction.{Direction}
use Rattle.usb_desc.specs.declared.types.Direction.TheVariants.{In, Out}
use Rattle.usb_device_endpoint.specs.EndpointState.{EndpointState}
use Rattle.usb_device_endpoint.specs.Closes.{after_close}
use Rattle.usb_device_host.specs.HostState.{HostState}
use Rattle.usb_device_host.specs.EndpointRefusals.{same_direction}
use Rattle.usb_device_host.specs.HostCalls.{host_calls}
use Rattle.usb_io.specs.declared.fault.ReadFault.{ReadFault}
use Rattle.usb_io.specs.declared.fault.WriteFault.{WriteFault}
use Rattle.usb_io.specs.Readers.{ReaderState, fresh_buffer}
use Rattle.usb_io.specs.Reads.{Reading}
use Rattle.usb_io.specs.Answers.{read_came}
use Rattle.usb_io.proofs.ReadKeeps.{read-keeps}
use Rattle.usb_io.specs.Writers.{WriterState, Writing}
use Rattle.usb_msg.specs.declared.error.Ending.{Ending}
use Rattle.usb_msg.specs.declared.error.MsgError.{MsgError}
use Rattle.usb_msg.specs.declared.error.MsgError.TheVariants.{Short, TooLong, WrongTag, Io, Memory}
use Rattle.usb_msg.specs.Frames.{framed, has_tag}
use Rattle.usb_msg.specs.Clients.{ClientState}
use Rattle.usb_msg.specs.Requests.{Messaging, Message, messaging, writing_of, after_write, frame_written, requested_by, requested}
use Rattle.usb_msg.specs.Responses.{reading_of, piece_by, piece_came, without_message, by_tag, by_length, message_taken, responded_by, responded}
use Rattle.usb_msg.proofs.Responding.{responds}
use Rattle.usb_session_text.specs.Completions.{count_line}
use Rattle.usb_session_streams.specs.Faults.{io_line}
use Rattle.usb_session_streams.specs.ClientLines.{message_error_line, tag_line, request_line, body_line, response_line, outstanding_line}
use Rattle.usb_session_streams.specs.ClientNeeds.{bars_request, bars_response}
use Rattle.usb_session_streams.specs.ClientCalls.{asked_of, told_of}
use Rattle.usb_session_streams.specs.ClientCalls as calls
use Rattle.usb_session_streams.proofs.ClientsGoOn.{client_calls-go_on}
use Rattle.usb_session_streams.proofs.WritesKeep.{write-keeps, submit_end-keeps}
use Rattle.usb_session_streams.proofs.WritesKeep as writes
use Rattle.usb_session_calls.specs.Names.{named, is_free, freed, set_name, change_named}
use Rattle.usb_session_calls.specs.State.{State, Endpoint, Client, endpoint_of_client_writer, endpoint_of_client_reader}
use Rattle.usb_session_calls.specs.EndpointNames.{EndpointName, Own, OfReader, OfWriter, OfClientWriter, OfClientReader, endpoint_under}
use Rattle.usb_session_calls.specs.declared.call.ClientCall.{ClientCall}
use Rattle.usb_session_calls.specs.declared.call.ClientCall.TheVariants.{Request, Response, Outstanding}
use Rattle.usb_session_calls.specs.Answer.{Answer, condition_answer, ok_answer, silent, if_open}
use Rattle.usb_session_calls.specs.Submits.{has_direction}
use Rattle.usb_session_calls.specs.Messages.{messaging_at, taken_to, request_as, response_as}
use Rattle.usb_session_calls.specs.CalledClients.{client_called, on_client}
use Rattle.usb_session_calls.specs.Clients.{is_idle, new_client, with_client, client_on, client_answer, closed_client, close_client_answer, client_closed_at, client_closed}
use Rattle.usb_session.specs.Served.{ClosedEndpoint, client_closed_as, client_closed_under}
use Rattle.usb_session_calls.proofs.NameLemmas.{free-none, free-within, length-freed, length-set_name}
use Rattle.usb_session_calls.proofs.EndpointNameLemmas.{Changed, ChangedAt, ChangedBoth, number_of, cases_name, second-changes, set-changes, freed-changes, change-changes}
use Rattle.usb_session.proofs.Views.{View, view_of, named-within, with_open}
use Rattle.usb_session.proofs.CallLeads.{Leads, leads-start, leads-send, leads-wait, leads-take, called-acts}
use Rattle.usb_session.proofs.Does.{Acts, Settles, Changes, Does, Shuts, Fewer, says_done, ends, settles, still, closes, moves, quiet-same, open-changes, client-both, client-counts, client_writer-changes, client_reader-changes, named-does, bar-does, barred-does, told-does}

-- a client is closed: its writer's endpoint, and then its reader's
module _ (state : State) (m : ℕ) (x : Client) (is : named state.clients m ≡ Some x) where
  abbrev out_here : endpoint_under state (OfClientWriter m) ≡ Some (endpoint_of_client_writer x)
  out_here = ap (option_map endpoint_of_client_writer) is

  abbrev in_here : endpoint_under state (OfClientReader m) ≡ Some (endpoint_of_client_reader x)
  in_here = ap (option_map endpoint_of_client_reader) is

  abbrev out_closed : HostState
  out_closed = after_close host_calls state.host x.state.writer.endpoint

  -- what is open between the two
  abbrev mid : View
  mid = with_open (view_of state) out_closed (OfClientWriter m) None (λ y some. (view_of state).within (OfClientWriter m) (endpoint_of_client_writer x) out_here)

  first : Changes (view_of state) mid out_closed (OfClientWriter m) None
  first = open-changes (view_of state) out_closed (OfClientWriter m) None (λ y some. (view_of state).within (OfClientWriter m) (endpoint_of_client_writer x) out_here)

  both-gone : ChangedBoth (endpoint_under state) (endpoint_under (closed_client state m x)) (OfClientWriter m) (OfClientReader m) None None
  both-gone = client-both state (closed_client state m x).host (freed state.clients m) m None (freed-changes state.clients m)

  second : Changes mid (view_of (closed_client state m x)) (after_close host_calls out_closed x.state.reader.endpoint) (OfClientReader m) None
  second =
      record {
        host_is = refl;
        endpoints = second-changes _ _ _ _ _ _ both-gone;
        names = client-counts state (closed_client state m x).host (freed state.clients m) (length-freed state.clients m);
        futures = refl;
      }

  closed-settles : (lines : EndpointName → List (List ℕ)) → Settles (view_of (closed_client state m x)) (view_of state) (client_closed_as state.host lines m (Some x))
  closed-settles lines =
      closes (OfClientWriter m) (endpoint_of_client_writer x) (lines (OfClientWriter m)) out_here first
      (closes (OfClientReader m) (endpoint_of_client_reader x) (lines (OfClientReader m)) (first.endpoints.others (OfClientReader m) (λ same. absurd (cc)) ∙ in_here) second
      (still (quiet-same (closed_client state m x))))

closed-by : (state : State) (m : ℕ) (lines : EndpointName → List (List ℕ)) (a : Option Client → Answer) (o : Option Client) → named state.clients m ≡ o → Does state (a None) → ((x : Client) → says_done (a (Some x)).line ≡ false) → ((x : Client) → (a (Some x)).state ≡ closed_client state m x)
    → Acts (a o) (view_of state) (client_closed_as state.host lines m o) []
closed-by state m lines a None is none other same = none
closed-by state m lines a (Some x) is none other same =
    settles (other x) (subst (λ (s : State). Settles (view_of s) (view_of state) (client_closed_as state.host lines m (Some x))) (sym (same x)) (closed-settles state m x is lines))

pub client_closed-does : (state : State) (m : ℕ) (lines : EndpointName → List (List ℕ)) → Acts (silent (client_closed state m)) (view_of state) (client_closed_under state lines m) []
unfolding client_closed
client_closed-does state m lines =
    closed-by state m lines (λ o. silent (client_closed_at state m o)) (named state.clients m) refl (ends refl (quiet-same state)) (λ x. refl) (λ x. refl)

pub close_client-does : (state : State) (m : ℕ) (lines : EndpointName → List (List ℕ)) → Acts (close_client_answer state m) (view_of state) (client_closed_under state lines m) []
unfolding close_client_answer
close_client-does state m lines =
    closed-by state m lines (λ o. if_open o (λ x. ok_answer (closed_client state m x)) (condition_answer state)) (named state.clients m) refl (barred-does state) (λ x. refl) (λ x. refl)

-- then neither of its names has one
client_closed-fewer : (state : State) (m : ℕ) (o : Option Client) → named state.clients m ≡ o → Fewer (endpoint_under state) (endpoint_under (client_closed_at state m o))
client_closed-fewer state m None is d = inl refl
client_closed-fewer state m (Some x) is d =
    let both = both-gone state m x is in
    elim (cases_name d (OfClientWriter m)) [
      | inl out ↦ inr (ap (endpoint_under (closed_client state m x)) out ∙ both.first)
      | inr notout ↦ elim (cases_name d (OfClientReader m)) [
        | inl inp ↦ inr (ap (endpoint_under (closed_client state m x)) inp ∙ both.second)
        | inr notin ↦ inl (both.others d notout notin)
      ]
    ]

client_closed-none : (state : State) (m : ℕ) (o : Option Client) → named state.clients m ≡ o → named (client_closed_at state m o).clients m ≡ None
client_closed-none state m None is = is
client_closed-none state m (Some x) is = (freed-changes state.clients m).here

pub client_writer-shuts : Shuts client_closed OfClientWriter
unfolding client_closed
client_writer-shuts =
    record {
      fewer = λ state m. client_closed-fewer state m (named state.clients m) refl;
      gone = λ state m. ap (option_map endpoint_of_client_writer) (client_closed-none state m (named state.clients m) refl);
    }

pub client_reader-shuts : Shuts client_closed OfClientReader
unfolding client_closed
client_reader-shuts =
    record {
      fewer = λ state m. client_closed-fewer state m (named state.clients m) refl;
      gone = λ state m. ap (option_map endpoint_of_client_reader) (client_closed-none state m (named state.clients m) refl);
    }

-- two endpoints become a client's: the one is its writer's, and then the other its reader's
module _ (state : State) (m a b : ℕ) (out inp : Endpoint) (apart : a ≢ b) (here : named state.endpoints a ≡ Some out) (there : named state.endpoints b ≡ Some inp) (free : is_free state.clients m ≡ true) where
  abbrev y : Client
  y = new_client out inp

  abbrev made : State
  made = with_client state m a b out inp

  -- a name of the client is one of so many
  few : m < length state.clients
  few = free-within state.clients m free

  abbrev out_gone : View
  out_gone = with_open (view_of state) state.host (Own a) None (λ z some. named-within state.endpoints a out here)

  abbrev out_moved : View
  out_moved = with_open out_gone state.host (OfClientWriter m) (Some (endpoint_of_client_writer y)) (λ z some. few)

  abbrev in_gone : View
  in_gone = with_open out_moved state.host (Own b) None (λ z some. named-within state.endpoints b inp there)

  gone : Changes (view_of state) out_gone state.host (Own a) None
  gone = open-changes (view_of state) state.host (Own a) None (λ z some. named-within state.endpoints a out here)

  put : Changes out_gone out_moved state.host (OfClientWriter m) (Some (endpoint_of_client_writer y))
  put = open-changes out_gone state.host (OfClientWriter m) (Some (endpoint_of_client_writer y)) (λ z some. few)

  shut : Changes out_moved in_gone state.host (Own b) None
  shut = open-changes out_moved state.host (Own b) None (λ z some. named-within state.endpoints b inp there)

  client : ChangedAt state.clients (set_name state.clients m y) m (Some y)
  client = set-changes state.clients m y free

  one_freed : ChangedAt state.endpoints (freed state.endpoints a) a None
  one_freed = freed-changes state.endpoints a

  two_freed : ChangedAt (freed state.endpoints a) (freed (freed state.endpoints a) b) b None
  two_freed = freed-changes (freed state.endpoints a) b

  -- the other names have what they had
  rest-was : (d : EndpointName) → d ≢ Own a → d ≢ Own b → d ≢ OfClientWriter m → endpoint_under state d ≡ in_gone.opened d
  rest-was d nota notb notm = sym (gone.endpoints.others d nota) ∙ sym (put.endpoints.others d notm) ∙ sym (shut.endpoints.others d notb)

  rest-own : (k : ℕ) → endpoint_under made (Own k) ≡ in_gone.opened (Own k)
  rest-own k =
      elim (cases_name (Own k) (Own b)) [
        | inl same ↦ ap (endpoint_under made) same ∙ two_freed.here ∙ sym shut.endpoints.here ∙ sym (ap in_gone.opened same)
        | inr notb ↦
            let still_ : endpoint_under made (Own k) ≡ named (freed state.endpoints a) k = two_freed.others k (λ is. notb (ap Own is)) in
            elim (cases_name (Own k) (Own a)) [
              | inl same ↦
                  still_ ∙ ap (named (freed state.endpoints a)) (ap number_of same) ∙ one_freed.here ∙ sym gone.endpoints.here ∙ ap out_gone.opened (sym same)
                  ∙ sym (put.endpoints.others (Own k) (λ is. absurd (cc))) ∙ sym (shut.endpoints.others (Own k) notb)
              | inr nota ↦ still_ ∙ one_freed.others k (λ is. nota (ap Own is)) ∙ rest-was (Own k) nota notb (λ is. absurd (cc))
            ]
      ]

  rest-writer : (k : ℕ) → endpoint_under made (OfClientWriter k) ≡ in_gone.opened (OfClientWriter k)
  rest-writer k =
      elim (cases_name (OfClientWriter k) (OfClientWriter m)) [
        | inl same ↦
            ap (endpoint_under made) same ∙ ap (option_map endpoint_of_client_writer) client.here ∙ sym put.endpoints.here ∙ ap out_moved.opened (sym same)
            ∙ sym (shut.endpoints.others (OfClientWriter k) (λ is. absurd (cc)))
        | inr notm ↦
            ap (option_map endpoint_of_client_writer) (client.others k (λ is. notm (ap OfClientWriter is)))
            ∙ rest-was (OfClientWriter k) (λ is. absurd (cc)) (λ is. absurd (cc)) notm
      ]

  rest-of : (d : EndpointName) → d ≢ OfClientReader m → endpoint_under made d ≡ in_gone.opened d
  rest-of (Own k) notm = rest-own k
  rest-of (OfReader k) notm = rest-was (OfReader k) (λ is. absurd (cc)) (λ is. absurd (cc)) (λ is. absurd (cc))
  rest-of (OfWriter k) notm = rest-was (OfWriter k) (λ is. absurd (cc)) (λ is. absurd (cc)) (λ is. absurd (cc))
  rest-of (OfClientWriter k) notm = rest-writer k
  rest-of (OfClientReader k) notm =
      ap (option_map endpoint_of_client_reader) (client.others k (λ is. notm (ap OfClientReader is)))
      ∙ rest-was (OfClientReader k) (λ is. absurd (cc)) (λ is. absurd (cc)) (λ is. absurd (cc))

  last : Changes in_gone (view_of made) state.host (OfClientReader m) (Some (endpoint_of_client_reader y))
  last =
      record {
        host_is = refl;
        endpoints = record { here = ap (option_map endpoint_of_client_reader) client.here; others = rest-of };
        names =
            ap (λ n. record (view_of state).names { own = n; clients = length (set_name state.clients m y) }) (length-freed (freed state.endpoints a) b ∙ length-freed state.endpoints a)
            ∙ ap (λ n. record (view_of state).names { clients = n }) (length-set_name state.clients m y);
        futures = refl;
      }

  none-client : named state.clients m ≡ None
  none-client = free-none state.clients m free

  made-settles : Settles (view_of made) (view_of state) []
  made-settles =
      moves (Own a) (OfClientWriter m) out (endpoint_of_client_writer y) here (ap (option_map endpoint_of_client_writer) none-client)
      (record { key = refl; maximum = refl; pending = refl; taken = append-nil out.taken }) (λ was. refl)
      (record { mid = out_gone; gone = gone; put = put })
      (moves (Own b) (OfClientReader m) inp (endpoint_of_client_reader y)
      (put.endpoints.others (Own b) (λ is. absurd (cc)) ∙ gone.endpoints.others (Own b) (λ is. apart (sym (ap number_of is))) ∙ there)
      (put.endpoints.others (OfClientReader m) (λ is. absurd (cc)) ∙ gone.endpoints.others (OfClientReader m) (λ is. absurd (cc)) ∙ ap (option_map endpoint_of_client_reader) none-client)
      (record { key = refl; maximum = refl; pending = refl; taken = append-nil inp.taken }) (λ was. refl)
      (record { mid = in_gone; gone = shut; put = last })
      (still (quiet-same made)))

-- an endpoint has one direction
one-direction : (d : Direction) → same_direction d Out ≡ true → same_direction d In ≡ true → ⊥
one-direction In output input = absurd (let wrong : true ≡ false = sym output in cc)
one-direction Out output input = absurd (let wrong : true ≡ false = sym input in cc)

names-apart : (es : List (Option Endpoint)) (a b : ℕ) (out inp : Endpoint) → named es a ≡ Some out → named es b ≡ Some inp → is_idle Out out.state ≡ true → is_idle In inp.state ≡ true → a ≢ b
names-apart es a b out inp here there output input same =
    let one_ : out ≡ inp = same_Some out inp (sym here ∙ ap (named es) same ∙ there) in
    let out_is = (and_parts (has_direction Out out.state) (length out.state.pending == 0) output).0 in
    let in_is = (and_parts (has_direction In inp.state) (length inp.state.pending == 0) input).0 in
    one-direction (direction_of_address out.state.address) out_is (ap (λ (h : Endpoint). has_direction In h.state) one_ ∙ in_is)

client_on-does : (state : State) (m a b : ℕ) (out inp : Endpoint) → named state.endpoints a ≡ Some out → named state.endpoints b ≡ Some inp → Does state (client_on state m a b out inp)
client_on-does state m a b out inp here there =
    cond_both (is_free state.clients m && (is_idle Out out.state && is_idle In inp.state)) (ok_answer (with_client state m a b out inp)) (condition_answer state) (Does state)
    (λ may.
    let first = and_parts (is_free state.clients m) (is_idle Out out.state && is_idle In inp.state) may in
    let both = and_parts (is_idle Out out.state) (is_idle In inp.state) first.1 in
    settles refl (made-settles state m a b out inp (names-apart state.endpoints a b out inp here there both.0 both.1) here there first.0))
    (λ no_. barred-does state)

pub client-does : (state : State) (m a b : ℕ) → Does state (client_answer state m a b)
unfolding client_answer
client-does state m a b =
    named-does state (named state.endpoints a) _ (λ out here.
    named-does state (named state.endpoints b) (client_on state m a b out) (λ inp there. client_on-does state m a b out inp here there))

-- none of their lines is that of a completion
error-other : (error : MsgError) → says_done (message_error_line error) ≡ false
unfolding io_line
error-other (Short len) = refl
error-other TooLong = refl
error-other (WrongTag expected got) = refl
error-other (Io fault) = refl
error-other Memory = refl

request-other : (r : Result ℕ MsgError) → says_done (request_line r) ≡ false
unfolding tag_line
request-other (Ok tag) = refl
request-other (Err error) = error-other error

response-other : (r : Result (List ℕ) MsgError) → says_done (response_line r) ≡ false
unfolding body_line
response-other (Ok body) = refl
response-other (Err error) = error-other error

-- calls on a client that is open
module _ (state : State) (m : ℕ) (x : Client) (is : named state.clients m ≡ Some x) where
  abbrev before_call : Messaging HostState
  before_call = messaging_at state x

  -- a request submits and takes tickets of its writer's endpoint
  module _ (a : Answer) (other : says_done a.line ≡ false) where
    abbrev sends : Writing HostState → Type 0
    sends v = Leads a (view_of state) (OfClientWriter m) (endpoint_of_client_writer x) (out_here state m x is) v.bus v.writer.endpoint

    sends-keeps : writes.Keeps sends
    sends-keeps =
        let e = OfClientWriter m in
        let h = endpoint_of_client_writer x in
        let here = out_here state m x is in
        record {
          set = λ v buffer begun l. l;
          submission = λ v b l. leads-send a (view_of state) e h tt here other v.bus v.writer.endpoint b l;
          wait = λ v timeout front others was l. leads-wait a (view_of state) e h tt here other v.bus v.writer.endpoint front timeout l;
          taking = λ v front others c was came l. leads-take a (view_of state) e h tt here other v.bus v.writer.endpoint front others was l;
        }

    write-sends : (c : ClientState) (r : Result ℕ WriteFault) (v : Writing HostState) → sends v → sends (writing_of (after_write host_calls c r v).left)
    write-sends c (Ok n) v l = submit_end-keeps sends sends-keeps v l
    write-sends c (Err fault) v l = l

    request-sends : (body : List ℕ) (why : Option Ending) → sends (writing_of before_call) → sends (writing_of (requested_by host_calls body why before_call).left)
    request-sends body (Some why) l = l
    request-sends body None l =
        let came = frame_written host_calls body before_call in
        write-sends before_call.client came.answer came.left
        (write-keeps sends sends-keeps before_call.client.writer.timeout (framed before_call.client.requests body) (writing_of before_call) l)

    -- and a response of its reader's
    abbrev gets : Messaging HostState → Type 0
    gets w = Leads a (view_of state) (OfClientReader m) (endpoint_of_client_reader x) (in_here state m x is) w.bus w.client.reader.endpoint

    piece-by : (c : ClientState) (r : Result (List ℕ) ReadFault) (v : Reading HostState) → Leads a (view_of state) (OfClientReader m) (endpoint_of_client_reader x) (in_here state m x is) v.bus v.reader.endpoint → gets (piece_by c r v).left
    piece-by c (Ok bytes) v l = l
    piece-by c (Err fault) v l = l

    piece-gets : (w : Messaging HostState) → length w.client.frame ≤ 4100 → gets w → gets (piece_came host_calls w).left
    piece-gets w is_few l =
        let e = OfClientReader m in
        let h = endpoint_of_client_reader x in
        let here = in_here state m x is in
        let timeout = w.client.reader.timeout in
        let came = read_came host_calls true timeout (4101 - length w.client.frame) (reading_of w) in
        piece-by w.client came.answer came.left
        (read-keeps host_calls true timeout (λ (v : Reading HostState). Leads a (view_of state) e h here v.bus v.reader.endpoint)
        (record {
          submission = λ v l. leads-send a (view_of state) e h tt here other v.bus v.reader.endpoint (fresh_buffer v.reader.size) l;
          end = λ v goes l. l;
          wait = λ v front others was l. leads-wait a (view_of state) e h tt here other v.bus v.reader.endpoint front timeout l;
          taking = λ v front others c was goes came l. leads-take a (view_of state) e h tt here other v.bus v.reader.endpoint front others was l;
        })
        (4101 - length w.client.frame) (reading_of w) (λ v n l. l) l)

    tag-gets : (b : Bool) (message : List ℕ) (bus : HostState) (c : ClientState) → gets (messaging bus c) → gets (messaging bus (by_tag b message c).left)
    tag-gets true message bus c l = l
    tag-gets false message bus c l = l

    length-gets : (b : Bool) (message : List ℕ) (bus : HostState) (c : ClientState) → gets (messaging bus c) → gets (messaging bus (by_length b message c).left)
    length-gets true message bus c l = l
    length-gets false message bus c l = tag-gets (has_tag c.responses message) message bus c l

    taken-gets : (v : Messaging HostState) → gets v → gets (messaging v.bus (message_taken v.client).left)
    taken-gets v l = length-gets (nat_lt (length v.client.frame) 4) v.client.frame v.bus (without_message v.client) l

    response-gets : (why : Option Ending) → gets before_call → gets (responded_by host_calls why before_call).left
    response-gets (Some why) l = l
    response-gets None l =
        responds host_calls gets piece-gets (λ (r : Message (List ℕ) HostState). gets r.left) (λ v end l. taken-gets v l) (λ v l. l) (λ v fault l. l) before_call l

  request_as-does : (body : List ℕ) → Does state (request_as state m body (requested host_calls body before_call))
  request_as-does body =
      let came = requested host_calls body before_call in
      let now = came.left in
      let a = request_as state m body came in
      let e = OfClientWriter m in
      let h = endpoint_of_client_writer x in
      let here = out_here state m x is in
      let other = request-other came.answer in
      let more = taken_to state now.bus x.state.writer.endpoint.pending now.client.writer.endpoint.pending in
      let y : Client = record x { state = now.client; sent = x.sent ++ more; requests = x.requests ++ asked_of body came.answer } in
      let reader : now.client.reader ≡ x.state.reader = (client_calls-go_on (calls.Request body) before_call).0 in
      let same : endpoint_of_client_reader y ≡ endpoint_of_client_reader x = ap (λ (r : ReaderState). record { state = r.endpoint; taken = x.before_in ++ x.received; was_streamed = true }) reader in
      let changes = client_writer-changes state now.bus a.state.clients m x y is (change-changes _ state.clients m x is) same in
      called-acts a (view_of state) e h tt here other now.bus now.client.writer.endpoint
      (subst (λ (ts : List ℕ). Changes (view_of state) (view_of a.state) now.bus e (Some (record { state = now.client.writer.endpoint; taken = ts; was_streamed = true }))) (sym (append_assoc x.before_out x.sent more)) changes)
      (request-sends a other body x.state.ended (leads-start a (view_of state) e h tt here other x.state.writer.endpoint refl))

  response_as-does : Does state (response_as state m (responded host_calls before_call))
  response_as-does =
      let came = responded host_calls before_call in
      let now = came.left in
      let a = response_as state m came in
      let e = OfClientReader m in
      let h = endpoint_of_client_reader x in
      let here = in_here state m x is in
      let other = response-other came.answer in
      let more = taken_to state now.bus x.state.reader.endpoint.pending now.client.reader.endpoint.pending in
      let y : Client = record x { state = now.client; received = x.received ++ more; responses = x.responses ++ told_of came.answer } in
      let writer : now.client.writer ≡ x.state.writer = (client_calls-go_on calls.Response before_call).0 in
      let same : endpoint_of_client_writer y ≡ endpoint_of_client_writer x = ap (λ (w : WriterState). record { state = w.endpoint; taken = x.before_out ++ x.sent; was_streamed = true }) writer in
      let changes = client_reader-changes state now.bus a.state.clients m x y is (change-changes _ state.clients m x is) same in
      called-acts a (view_of state) e h tt here other now.bus now.client.reader.endpoint
      (subst (λ (ts : List ℕ). Changes (view_of state) (view_of a.state) now.bus e (Some (record { state = now.client.reader.endpoint; taken = ts; was_streamed = true }))) (sym (append_assoc x.before_in x.received more)) changes)
      (response-gets a other x.state.ended (leads-start a (view_of state) e h tt here other x.state.reader.endpoint refl))

  client_called-does : (call : ClientCall) → Does state (client_called call state m x)
  unfolding count_line
  client_called-does (Request body) =
      bar-does state {bars = bars_request body before_call} {call = request_as state m body (requested host_calls body before_call)} (λ no_. request_as-does body)
  client_called-does Response =
      bar-does state {bars = bars_response before_call} {call = response_as state m (responded host_calls before_call)} (λ no_. response_as-does)
  client_called-does Outstanding = told-does state (outstanding_line x.state) refl

pub on_client-does : (state : State) (m : ℕ) (call : ClientCall) → Does state (on_client state m call)
unfolding on_client
on_client-does state m call = named-does state (named state.clients m) (client_called call state m) (λ x is. client_called-does state m x is call)
