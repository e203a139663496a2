-- Each endpoint that a script opens: its tickets in the order of submission, how many of them were taken, what was printed at that, and how all of them ended.
use Rattle.std.specs.Prelude.{ℕ, ◌≡◌, ◌<◌, ◌==◌, nat_lt, Bool, false, not, ◌&&◌, List, [], ◌∷◌, ◌++◌, length, map, flat_map, count_by, Option, Some, None, is_none, is_some, if◌then◌else◌}
use Rattle.std.specs.List.{All}
use Rattle.std.specs.List.Sorted.{IsStrictlyIncreasing}
use Rattle.std.specs.Option.{option_map_or}
use Rattle.usb_kernel.specs.declared.event.Event.{Event}
use Rattle.usb_kernel.specs.Completions.{completion}
use Rattle.usb_kernel.specs.Tickets.{tickets}
use Rattle.usb_kernel.specs.TransferCompletions.{transfer_completion}
use Rattle.usb_script_lines.specs.declared.item.Item.{Item}
use Rattle.usb_session_calls.specs.declared.call.Call.{Call}
use Rattle.usb_session_calls.specs.declared.call.Call.TheVariants.{Close}
use Rattle.usb_session_calls.specs.declared.call.CloseCall.TheVariants as closes
use Rattle.usb_device_ledger.specs.declared.ends.TicketEnd.{TicketEnd}
use Rattle.usb_device_ledger.specs.declared.ends.TicketEnd.TheVariants.{Taken, Dropped, Reclaimed}
use Rattle.usb_device_host.specs.HostState.{HostState}
use Rattle.usb_device_ledger.specs.EndedTickets.{end_at}
use Rattle.usb_device_host.specs.Finishes.{HasEnds}
use Rattle.usb_session_text.specs.Completions.{polled_line}
use Rattle.usb_device_endpoint.specs.Closes.{after_close}
use Rattle.usb_device_host.specs.HostCalls.{host_calls}
use Rattle.usb_session_calls.specs.Names.{named}
use Rattle.usb_session_calls.specs.State.{State, Endpoint, Client, tickets_at, tickets_of, endpoint_of_client_writer, endpoint_of_client_reader}
use Rattle.usb_session_calls.specs.EndpointNames.{EndpointName, Own, OfReader, OfWriter, OfClientWriter, OfClientReader, endpoint_under}
use Rattle.usb_session_calls.specs.Calls.{call_of, is_of_control}
use Rattle.usb_session_calls.specs.Answer.{Answer}
use Rattle.usb_session.specs.Crowded.{bars_line}
use Rattle.usb_session.specs.Answers.{answer}
use Rattle.usb_session_calls.specs.Closes.{closed}
use Rattle.usb_session_calls.specs.Readers.{reader_closed}
use Rattle.usb_session_calls.specs.Writers.{writer_closed}
use Rattle.usb_session_calls.specs.Clients.{client_closed}
use Rattle.usb_session.specs.Below.{given_below}
use Rattle.usb_session.specs.Ends.{clients_closed, readers_closed, streams_closed}
use Rattle.usb_session.specs.Output.{start, final_host}

-- a closed endpoint: the endpoint as it is when it is closed, the journal right before that, and the lines that
-- printed its completions
pub record ClosedEndpoint : Type 0 where
  pub endpoint : Endpoint
  pub past : List Event
  pub lines : List (List ℕ)

-- the tickets that were taken of the endpoint that is open under a name, none where none is open
abbrev pub taken_under : State → EndpointName → List ℕ
taken_under state e = option_map_or (λ (h : Endpoint). h.taken) (endpoint_under state e) []

-- whether a reader, a writer or a client was made of the endpoint that is open under a name
abbrev pub was_streamed_under : State → EndpointName → Bool
was_streamed_under state e = option_map_or (λ (h : Endpoint). h.was_streamed) (endpoint_under state e) false

-- the line of an answer, where the answer takes a ticket of what is open under a name, of which no reader, writer or
-- client was made
abbrev pub line_taking : State → Answer → EndpointName → List (List ℕ)
line_taking state a e = if nat_lt (length (taken_under state e)) (length (taken_under a.state e)) && not (was_streamed_under a.state e) then a.line ∷ [] else []

-- for each name the lines that printed completions of the endpoint that is open under it, with that
-- of this answer; `lines` has those before it
abbrev pub lines_behind : State → Answer → (EndpointName → List (List ℕ)) → EndpointName → List (List ℕ)
lines_behind state a lines e = (if is_none (endpoint_under state e) then [] else lines e) ++ line_taking state a e

-- an endpoint that is closed now, if there is one, with this journal and these lines
abbrev pub closed_as : List Event → List (List ℕ) → Option Endpoint → List ClosedEndpoint
closed_as past lines None = []
closed_as past lines (Some e) = record { endpoint = e; past = past; lines = lines } ∷ []

-- what is open under a name, where it is closed now
abbrev pub closed_under : State → (EndpointName → List (List ℕ)) → EndpointName → List ClosedEndpoint
closed_under state lines e = closed_as state.host.kernel.past (lines e) (endpoint_under state e)

-- the two endpoints of a client that is closed now, if there is one: its writer's, and then its
-- reader's
abbrev pub client_closed_as : HostState → (EndpointName → List (List ℕ)) → ℕ → Option Client → List ClosedEndpoint
client_closed_as h lines m None = []
client_closed_as h lines m (Some x) =
    record {
      endpoint = endpoint_of_client_writer x;
      past = h.kernel.past;
      lines = lines (OfClientWriter m);
    } ∷ record {
      endpoint = endpoint_of_client_reader x;
      past = (after_close host_calls h x.state.writer.endpoint).kernel.past;
      lines = lines (OfClientReader m);
    } ∷ []

-- what is open under the name of a client, where it is closed now
abbrev pub client_closed_under : State → (EndpointName → List (List ℕ)) → ℕ → List ClosedEndpoint
client_closed_under state lines m = client_closed_as state.host lines m (named state.clients m)

-- the endpoints that a call closes, which may be a reader's or a writer's, or the two of a client
abbrev pub closed_by_call : State → (EndpointName → List (List ℕ)) → Call → List ClosedEndpoint
closed_by_call state lines (Close (closes.Endpoint e)) = closed_under state lines (Own e)
closed_by_call state lines (Close (closes.Reader r)) = closed_under state lines (OfReader r)
closed_by_call state lines (Close (closes.Writer w)) = closed_under state lines (OfWriter w)
closed_by_call state lines (Close (closes.Client m)) = client_closed_under state lines m
closed_by_call state lines call = []

-- those that an item closes: none where the session is crowded
abbrev pub closed_by : State → (EndpointName → List (List ℕ)) → Item → List ClosedEndpoint
closed_by state lines item = if bars_line state item then [] else closed_by_call state lines (call_of item)

-- those of clients that the end of the session closes, of the names below k in order; then those of
-- readers; then those of writers; and then those that have names of their own
abbrev pub messaged_at_end : State → (EndpointName → List (List ℕ)) → ℕ → List ClosedEndpoint
messaged_at_end state lines = given_below client_closed (λ s k. client_closed_under s lines k) state

abbrev pub read_at_end : State → (EndpointName → List (List ℕ)) → ℕ → List ClosedEndpoint
read_at_end state lines = given_below reader_closed (λ s k. closed_under s lines (OfReader k)) state

abbrev pub written_at_end : State → (EndpointName → List (List ℕ)) → ℕ → List ClosedEndpoint
written_at_end state lines = given_below writer_closed (λ s k. closed_under s lines (OfWriter k)) state

abbrev pub closed_at_end : State → (EndpointName → List (List ℕ)) → ℕ → List ClosedEndpoint
closed_at_end state lines = given_below closed (λ s k. closed_under s lines (Own k)) state

-- the endpoints that these items close, and then the end of the session
abbrev pub closed_endpoints_from : State → (EndpointName → List (List ℕ)) → List Item → List ClosedEndpoint
closed_endpoints_from state lines [] =
    messaged_at_end state lines 64 ++ read_at_end (clients_closed state 64) lines 64
    ++ written_at_end (readers_closed (clients_closed state 64) 64) lines 64
    ++ closed_at_end (streams_closed state) lines 64
closed_endpoints_from state lines (item ∷ items) = closed_by state lines item ++ closed_endpoints_from (answer state item).state (lines_behind state (answer state item) lines) items

-- each endpoint that a script opens, as it is when it is closed
unfoldable pub closed_endpoints : List Item → List ClosedEndpoint
closed_endpoints items = closed_endpoints_from (start items) (λ e. []) items

-- the ticket of a control transfer that the answer of a call hands in, if it does: the next number
abbrev pub control_ticket_by : State → Call → Answer → List ℕ
control_ticket_by state call a =
    if is_of_control call && nat_lt (tickets_of state) (tickets_of a.state) then tickets_of state ∷ [] else []

abbrev pub control_ticket : State → Item → List ℕ
control_ticket state item = control_ticket_by state (call_of item) (answer state item)

abbrev pub control_tickets_from : State → List Item → List ℕ
control_tickets_from state [] = []
control_tickets_from state (item ∷ items) = control_ticket state item ++ control_tickets_from (answer state item).state items

-- those of a script
unfoldable pub control_tickets : List Item → List ℕ
control_tickets items = control_tickets_from (start items) items

-- how a ticket ends that its endpoint gives up: dropped exactly where it is reaped then, and else reclaimed
abbrev pub end_given_up : List Event → ℕ → TicketEnd
end_given_up past t = if is_some (completion past t) then Dropped else Reclaimed

-- An endpoint's tickets are in the order of their submission (`rising`). The first of them were taken: these have the end `Taken`,
-- and where no reader, writer or client was made of it the lines that were printed are those of their completions by the last
-- journal, in this order (`printed`; a wait prints the same line as a poll, but a reader prints bytes, a writer counts, and a client answers). The others were
-- given up at the close, with the end that comes of that (`others`)
pub record IsServedInOrder (last : HostState) (h : ClosedEndpoint) : Type 0 where
  pub rising : IsStrictlyIncreasing (tickets_at h.endpoint)
  pub printed : h.endpoint.was_streamed ≡ false → h.lines ≡ map (λ t. polled_line (transfer_completion last.kernel.past t)) h.endpoint.taken
  pub taken : All (λ t. end_at last.tickets t ≡ Some Taken) h.endpoint.taken
  pub others : All (λ t. end_at last.tickets t ≡ Some (end_given_up h.past t)) h.endpoint.state.pending

-- the tickets of all of them
abbrev pub tickets_of_all : List ClosedEndpoint → List ℕ
tickets_of_all hs = flat_map (λ (h : ClosedEndpoint). tickets_at h.endpoint) hs

-- each endpoint of a script is served so, and each ticket belongs to one endpoint, at one place, or is that of one control
-- transfer
pub record EndpointsAreServed (items : List Item) : Type 0 where
  pub served : All (IsServedInOrder (final_host items)) (closed_endpoints items)
  pub once : (t : ℕ) → t < length (final_host items).tickets → count_by (λ u. u == t) (tickets_of_all (closed_endpoints items) ++ control_tickets items) ≡ 1

-- the law: so it is of each script whose tickets have their ends
abbrev pub EndpointsAreServedInOrder : Type 0
EndpointsAreServedInOrder = (items : List Item) → HasEnds (final_host items).tickets → EndpointsAreServed items

-- at the end of a script the host has as many tickets as the journal
abbrev pub IsCounted : List Item → Type 0
IsCounted items = length (final_host items).tickets ≡ length (tickets (final_host items).kernel.past)

-- the law: so it is of each script
abbrev pub ScriptsAreCounted : Type 0
ScriptsAreCounted = (items : List Item) → IsCounted items
