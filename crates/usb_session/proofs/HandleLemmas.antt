-- The endpoints of a whole script.
use Rattle.std.proofs.Common.{◌≡◌, ◌≢◌, ℕ, ◌<◌, ◌+◌, suc, zero, arith, true, false, List, [], ◌∷◌, ◌++◌, length, map, slice_get, Option, Some, None, refl, ap, sym, ◌∙◌, subst, inl, inr}
use Rattle.std.specs.Prelude.{option_and_then, All, count_by, ◌==◌}
use Rattle.std.proofs.lemmas.Bool.{cases_eq, cond_both}
use Rattle.std.proofs.lemmas.List.Elements.{All-append, All-nil, All-cons}
use Rattle.std.proofs.lemmas.Option.{none-some}
use Rattle.usb_kernel.specs.declared.event.Event.{Event}
use Rattle.usb_kernel.specs.Extends.{Extends}
use Rattle.usb_kernel.specs.Tickets.{tickets}
use Rattle.usb_kernel.specs.TransferCompletions.{transfer_completion}
use Rattle.usb_session_text.specs.Completions.{polled_line}
use Rattle.usb_script_lines.specs.declared.item.Item.{Item}
use Rattle.usb_session_calls.specs.declared.call.Call.{Call}
use Rattle.usb_session_calls.specs.declared.call.Call.TheVariants.{Close}
use Rattle.usb_session_calls.specs.declared.call.CloseCall.TheVariants as closes
use Rattle.usb_device_ledger.specs.declared.ends.TicketEnd.{TicketEnd}
use Rattle.usb_device_ledger.specs.Entries.{HostTicket, HeldBy, Abandoned, Ended}
use Rattle.usb_device_endpoint.specs.Closes.{after_close}
use Rattle.usb_device_host.specs.HostState.{HostState}
use Rattle.usb_device_ledger.specs.EndedTickets.{ended_at}
use Rattle.usb_device_host.specs.Finishes.{discarded_below, reaped_below, finished, HasEnds}
use Rattle.usb_device_host.specs.HostCalls.{host_calls, host_discarded}
use Rattle.usb_device_host.specs.HostTurns.{host_reaped}
use Rattle.usb_device_host.proofs.CountLemmas.{KeepsCount, count-same, count-trans, discarded-count, reaped-count}
use Rattle.usb_device_host.proofs.FollowLemmas.{on-finished}
use Rattle.usb_device.specs.Futures.{FutureState}
use Rattle.usb_session_calls.specs.Names.{named}
use Rattle.usb_session_calls.specs.State.{State, Endpoint, Client, tickets_of, with_host, endpoint_of_client_writer, endpoint_of_client_reader}
use Rattle.usb_session_calls.specs.EndpointNames.{EndpointName, Own, OfReader, OfWriter, OfClientWriter, OfClientReader, endpoint_under}
use Rattle.usb_session_calls.specs.Readers.{reader_closed}
use Rattle.usb_session_calls.specs.Writers.{writer_closed}
use Rattle.usb_session_calls.specs.Clients.{client_closed}
use Rattle.usb_session_calls.specs.Closes.{closed}
use Rattle.usb_session_calls.specs.Calls.{call_of}
use Rattle.usb_session.specs.Answers.{answer}
use Rattle.usb_session.specs.Below.{below, given_below}
use Rattle.usb_session.specs.Crowded.{bars_line}
use Rattle.usb_session.specs.Ends.{clients_closed, readers_closed, writers_closed, streams_closed, endpoints_closed, future_closed_at, future_closed_under, futures_closed, interfaces_closed, devices_closed, all_closed, ended}
use Rattle.usb_session.specs.Output.{start, behind, last_host, final_host}
use Rattle.usb_session.specs.Behind.{GoesOnTo, ScriptsGoOn}
use Rattle.usb_session.specs.Served.{ClosedEndpoint, closed_endpoints, IsServedInOrder, EndpointsAreServedInOrder, ScriptsAreCounted, closed_as, tickets_of_all, closed_under, client_closed_as, client_closed_under, closed_by_call, closed_by, messaged_at_end, read_at_end, written_at_end, closed_at_end, closed_endpoints_from, control_ticket, control_tickets_from, control_tickets, lines_behind}
use Rattle.usb_session.specs.Fates.{fate_lines, fate_lines_from}
use Rattle.usb_session.specs.FinalFates.{FatesOfScripts}
use Rattle.usb_session.specs.Sums.{counts_of}
use Rattle.usb_session.proofs.FateLemmas.{fates-final}
use Rattle.usb_session.proofs.Views.{IsAmong, name_counts, view_of}
use Rattle.usb_session.proofs.Does.{Quiet, Closing, Fewer, Shuts, quiet-same, quiet-then}
use Rattle.usb_session.proofs.EndpointLines.{closed-does, closed-shuts}
use Rattle.usb_session.proofs.ReaderDoes.{reader_closed-does, reader_closed-shuts}
use Rattle.usb_session.proofs.WriterDoes.{writer_closed-does, writer_closed-shuts}
use Rattle.usb_session.proofs.ClientDoes.{client_closed-does, client_writer-shuts, client_reader-shuts}
use Rattle.usb_session.proofs.DeviceLines.{handles-quiet}
use Rattle.usb_session.proofs.RunLemmas.{none-start, no-future_start}
use Rattle.usb_session.proofs.TimesLemmas.{times, times-append, counts-times, among, among-within, times_open, open-none, awaited-none}
use Rattle.usb_session.proofs.OrderLemmas.{Leaves, LeavesTickets, goes-then, closed-taken, closed-others}
use Rattle.usb_session.proofs.StepLemmas.{Inv, Step, Closes, closes-on, all-tickets, step-then, step-after, step-quiet, acts-step, answer-step, below-step, future_closed-step}
use Rattle.usb_session.proofs.PrintLemmas.{Prints, prints-stay, AllPrint, all-print}
use Rattle.usb_session.proofs.TakeLemmas.{answer-takes}

-- what is open under a name of a reader, of a writer and under its own, where it is closed
abbrev pub readers_shut : State → (EndpointName → List (List ℕ)) → ℕ → List ClosedEndpoint
readers_shut s lines n = closed_under s lines (OfReader n)

abbrev pub writers_shut : State → (EndpointName → List (List ℕ)) → ℕ → List ClosedEndpoint
writers_shut s lines n = closed_under s lines (OfWriter n)

abbrev pub own_shut : State → (EndpointName → List (List ℕ)) → ℕ → List ClosedEndpoint
own_shut s lines n = closed_under s lines (Own n)

-- the end closes clients, readers, writers and endpoints by number
pub clients-step : (state : State) (lines : EndpointName → List (List ℕ)) (k : ℕ) → Inv (view_of state) → Step (view_of state) (view_of (clients_closed state k)) (messaged_at_end state lines k) []
clients-step = below-step client_closed client_closed_under client_closed-does

pub readers-step : (state : State) (lines : EndpointName → List (List ℕ)) (k : ℕ) → Inv (view_of state) → Step (view_of state) (view_of (readers_closed state k)) (read_at_end state lines k) []
readers-step = below-step reader_closed readers_shut reader_closed-does

pub writers-step : (state : State) (lines : EndpointName → List (List ℕ)) (k : ℕ) → Inv (view_of state) → Step (view_of state) (view_of (writers_closed state k)) (written_at_end state lines k) []
writers-step = below-step writer_closed writers_shut writer_closed-does

pub ends-step : (state : State) (lines : EndpointName → List (List ℕ)) (k : ℕ) → Inv (view_of state) → Step (view_of state) (view_of (endpoints_closed state k)) (closed_at_end state lines k) []
ends-step = below-step closed own_shut closed-does

-- all of them, one kind after another
pub streams-step : (state : State) (lines : EndpointName → List (List ℕ)) → Inv (view_of state)
    → Step (view_of state) (view_of (streams_closed state)) (messaged_at_end state lines 64 ++ read_at_end (clients_closed state 64) lines 64 ++ written_at_end (readers_closed (clients_closed state 64) 64) lines 64) []
streams-step state lines inv =
    let messaged = clients_closed state 64 in
    let first = clients-step state lines 64 inv in
    let second = step-then first (readers-step messaged lines 64 first.inv) in
    step-then second (writers-step (readers_closed messaged 64) lines 64 second.inv)

-- and leaves no name open
none-stays : {old new : EndpointName → Option Endpoint} (d : EndpointName) → Fewer old new → old d ≡ None → new d ≡ None
none-stays d fewer none = elim (fewer d) [ inl same ↦ same ∙ none | inr gone ↦ gone ]

module _ (act : State → ℕ → State) (name : ℕ → EndpointName) (shuts : Shuts act name) where
  below-stays : (state : State) (k : ℕ) (d : EndpointName) → endpoint_under state d ≡ None → endpoint_under (below act state k) d ≡ None
  below-stays state zero d none = none
  below-stays state (suc k) d none = none-stays d (shuts.fewer (below act state k) k) (below-stays state k d none)

  below-none : (state : State) (k n : ℕ) → n < k → endpoint_under (below act state k) (name n) ≡ None
  below-none state zero n few = absurd (omega arith)
  below-none state (suc k) n few =
      elim (cases_eq n k) [
        | inl same ↦ ap (λ m. endpoint_under (below act state (suc k)) (name m)) same ∙ shuts.gone (below act state k) k
        | inr apart ↦ none-stays (name n) (shuts.fewer (below act state k) k) (below-none state k n (lower k n apart few))
      ]
    where
      lower : (k n : ℕ) → n ≢ k → n < suc k → n < k
      lower k n apart small = omega arith

-- so in the end no endpoint is open
module _ (state : State) where
  abbrev messaged : State
  messaged = clients_closed state 64

  abbrev read : State
  read = readers_closed messaged 64

  abbrev written : State
  written = writers_closed read 64

  abbrev last : State
  last = endpoints_closed written 64

  from-messaged : (d : EndpointName) → endpoint_under messaged d ≡ None → endpoint_under last d ≡ None
  from-messaged d none =
      below-stays closed Own closed-shuts written 64 d
      (below-stays writer_closed OfWriter writer_closed-shuts read 64 d (below-stays reader_closed OfReader reader_closed-shuts messaged 64 d none))

  none-among : (e : EndpointName) → IsAmong (record { own = 64; readers = 64; writers = 64; clients = 64 }) e → endpoint_under last e ≡ None
  none-among (Own e) few = below-none closed Own closed-shuts written 64 e few
  none-among (OfReader r) few =
      below-stays closed Own closed-shuts written 64 (OfReader r) (below-stays writer_closed OfWriter writer_closed-shuts read 64 (OfReader r) (below-none reader_closed OfReader reader_closed-shuts messaged 64 r few))
  none-among (OfWriter w) few = below-stays closed Own closed-shuts written 64 (OfWriter w) (below-none writer_closed OfWriter writer_closed-shuts read 64 w few)
  none-among (OfClientWriter m) few = from-messaged (OfClientWriter m) (below-none client_closed OfClientWriter client_writer-shuts state 64 m few)
  none-among (OfClientReader m) few = from-messaged (OfClientReader m) (below-none client_closed OfClientReader client_reader-shuts state 64 m few)

  none-open : name_counts last ≡ record { own = 64; readers = 64; writers = 64; clients = 64 } → (e : EndpointName) → endpoint_under last e ≡ None
  none-open names e = by (endpoint_under last e) refl
    where
      by : (o : Option Endpoint) → endpoint_under last e ≡ o → endpoint_under last e ≡ None
      by None is = is
      by (Some h) is = none-among e (subst (λ c. IsAmong c e) names ((view_of last).within e h is))

-- futures are closed, and endpoints stay
pub futures-step : (state : State) (k : ℕ) → Inv (view_of state) → Step (view_of state) (view_of (futures_closed state k)) [] []
futures-step state zero inv = step-quiet inv (quiet-same state)
futures-step state (suc k) inv = let first = futures-step state k inv in step-then first (future_closed-step (futures_closed state k) k first.inv)

future_closed-endpoints : (state : State) (n : ℕ) (o : Option FutureState) (e : EndpointName) → endpoint_under (future_closed_at state n o) e ≡ endpoint_under state e
future_closed-endpoints state n None e = refl
future_closed-endpoints state n (Some f) e = refl

futures-endpoints : (state : State) (k : ℕ) (e : EndpointName) → endpoint_under (futures_closed state k) e ≡ endpoint_under state e
unfolding future_closed_under
futures-endpoints state zero e = refl
futures-endpoints state (suc k) e = let mid = futures_closed state k in future_closed-endpoints mid k (named mid.futures k) e ∙ futures-endpoints state k e

-- the discards and reaps at the end
discarded_below-count : (h : HostState) (n : ℕ) → KeepsCount h (discarded_below h n)
discarded_below-count h zero = count-same h
discarded_below-count h (suc n) = count-trans h (discarded_below h n) (host_discarded (discarded_below h n) n) (discarded_below-count h n) (discarded-count (discarded_below h n) n)

reaped_below-count : (h : HostState) (n : ℕ) → KeepsCount h (reaped_below h n)
reaped_below-count h zero = count-same h
reaped_below-count h (suc n) = count-trans h (reaped_below h n) (host_reaped (reaped_below h n) n) (reaped_below-count h n) (reaped-count (reaped_below h n) n)

abbrev pub finished_at : State → State
finished_at state = with_host (devices_closed (interfaces_closed state 64) 64) (finished (devices_closed (interfaces_closed state 64) 64).host)

pub end-quiet : (state : State) → Quiet (view_of state) (view_of (finished_at state))
unfolding finished
end-quiet state =
    let last = (devices_closed (interfaces_closed state 64) 64).host in
    let n = length (tickets last.kernel.past) in
    let discarded = discarded_below last n in
    quiet-then (handles-quiet state)
    (record { keeps = on-finished last; count = count-trans last discarded (reaped_below discarded n) (discarded_below-count last n) (reaped_below-count discarded n); endpoints = λ e. refl; names = refl; futures = refl })

-- what is done at the end once the endpoints are closed
last-step : (state : State) → Inv (view_of state) → Step (view_of state) (view_of (finished_at (futures_closed state 64))) [] []
last-step state inv = let first = futures-step state 64 inv in step-after first (step-quiet first.inv (end-quiet (futures_closed state 64)))

-- what these items and the end of the session make
record Runs (state : State) (lines : EndpointName → List (List ℕ)) (items : List Item) : Type 0 where
  goes : LeavesTickets state.host (last_host state items)
  closes : All (Closes (last_host state items)) (closed_endpoints_from state lines items)
  adds : (t : ℕ) → times t (tickets_of_all (closed_endpoints_from state lines items)) + times t (control_tickets_from state items) + among t (tickets_of state) ≡ times_open t (view_of state) + among t (length (tickets (last_host state items).kernel.past))
  count : length (last_host state items).tickets ≡ length (tickets (last_host state items).kernel.past)

runs-end : (state : State) (lines : EndpointName → List (List ℕ)) → Inv (view_of state) → Runs state lines []
unfolding ended all_closed
runs-end state lines inv =
    let streams = streams-step state lines inv in
    let mid = endpoints_closed (streams_closed state) 64 in
    let first = step-then streams (ends-step (streams_closed state) lines 64 streams.inv) in
    let last = last-step mid first.inv in
    let all = step-after first last in
    record {
      goes = all.goes;
      closes = all.closes;
      adds = λ t.
          let whole = all.adds t in
          let none = open-none t (view_of (finished_at (futures_closed mid 64))) (λ e. (end-quiet (futures_closed mid 64)).endpoints e ∙ futures-endpoints mid 64 e ∙ none-open state first.inv.names e) in omega arith;
      count = all.inv.count;
    }

runs : (state : State) (lines : EndpointName → List (List ℕ)) (items : List Item) → Inv (view_of state) → Runs state lines items
runs state lines [] inv = runs-end state lines inv
runs state lines (item ∷ items) inv =
    let next = (answer state item).state in
    let first = answer-step state lines item inv in
    let rest = runs next (lines_behind state (answer state item) lines) items first.inv in
    let last = last_host next items in
    record {
      goes = goes-then state.host next.host last first.goes rest.goes;
      closes = All-append (Closes last) (closed_by state lines item) (closed_endpoints_from next (lines_behind state (answer state item) lines) items) (closes-on next.host last (closed_by state lines item) rest.goes first.closes) rest.closes;
      adds = λ t.
          let one_ = first.adds t in
          let two = rest.adds t in
          let parts = all-tickets t (closed_by state lines item) (closed_endpoints_from next (lines_behind state (answer state item) lines) items) in
          let handed = times-append t (control_ticket state item) (control_tickets_from next items) in omega arith;
      count = rest.count;
    }

-- the beginning
names-start : (items : List Item) → name_counts (start items) ≡ record { own = 64; readers = 64; writers = 64; clients = 64 }
unfolding start
names-start items = refl

no-tickets_start : (items : List Item) → (length (start items).host.tickets ≡ 0) × (tickets_of (start items) ≡ 0)
unfolding start
no-tickets_start items = (refl, refl)

nothing-open : (items : List Item) (t : ℕ) → times_open t (view_of (start items)) ≡ 0
nothing-open items t = open-none t (view_of (start items)) (none-start items)

pub inv-start : (items : List Item) → Inv (view_of (start items))
inv-start items =
    let count = no-tickets_start items in
    record {
      order = λ e h is. absurd (none-some h (sym (none-start items e) ∙ is));
      once = λ t. let none = nothing-open items t in let no_ = awaited-none t (start items).futures (no-future_start items) in omega arith;
      waits = λ n f t is ticket. absurd (none-some f (sym (no-future_start items n) ∙ is));
      count = count.0 ∙ sym count.1;
      names = names-start items;
      read = λ e h is stream. absurd (none-some h (sym (none-start items e) ∙ is));
      some = λ e h is. absurd (none-some h (sym (none-start items e) ∙ is));
    }

-- what was printed of the endpoints that are closed, and of which no reader or writer was made
abbrev Printed : List Event → ClosedEndpoint → Type 0
Printed past c = c.endpoint.was_streamed ≡ false → Prints past c.endpoint.taken c.lines

printed-on : (old new : List Event) (xs : List ClosedEndpoint) → Extends old new → All (Printed old) xs → All (Printed new) xs
printed-on old new xs extends all k d below = λ unread. prints-stay old new _ _ extends (all k d below unread)

closed_as-printed : (past : List Event) (lines : List (List ℕ)) (o : Option Endpoint) → ((h : Endpoint) → o ≡ Some h → h.was_streamed ≡ false → Prints past h.taken lines) → All (Printed past) (closed_as past lines o)
closed_as-printed past lines None prints = All-nil (Printed past)
closed_as-printed past lines (Some h) prints = All-cons (Printed past) (record { endpoint = h; past = past; lines = lines }) [] (prints h refl) (All-nil (Printed past))

closed_under-printed : (state : State) (lines : EndpointName → List (List ℕ)) (e : EndpointName) → AllPrint state lines → All (Printed state.host.kernel.past) (closed_under state lines e)
closed_under-printed state lines e prints = closed_as-printed state.host.kernel.past (lines e) (endpoint_under state e) (λ h is. prints e h is)

-- of those of a client nothing was
client_as-printed : (past : List Event) (h : HostState) (lines : EndpointName → List (List ℕ)) (m : ℕ) (o : Option Client) → All (Printed past) (client_closed_as h lines m o)
client_as-printed past h lines m None = All-nil (Printed past)
client_as-printed past h lines m (Some x) =
    let out : ClosedEndpoint = record { endpoint = endpoint_of_client_writer x; past = h.kernel.past; lines = lines (OfClientWriter m) } in
    let after = (after_close host_calls h x.state.writer.endpoint).kernel.past in
    let inp : ClosedEndpoint = record { endpoint = endpoint_of_client_reader x; past = after; lines = lines (OfClientReader m) } in
    All-cons (Printed past) out (inp ∷ []) (λ unread. absurd (let wrong : true ≡ false = unread in cc))
    (All-cons (Printed past) inp [] (λ unread. absurd (let wrong : true ≡ false = unread in cc)) (All-nil (Printed past)))

client-printed : (state : State) (lines : EndpointName → List (List ℕ)) (m : ℕ) → AllPrint state lines → All (Printed state.host.kernel.past) (client_closed_under state lines m)
client-printed state lines m prints = client_as-printed state.host.kernel.past state.host lines m (named state.clients m)

closed_by_call-printed : (state : State) (lines : EndpointName → List (List ℕ)) (call : Call) → AllPrint state lines → All (Printed state.host.kernel.past) (closed_by_call state lines call)
closed_by_call-printed state lines (Close (closes.Endpoint e)) prints = closed_under-printed state lines (Own e) prints
closed_by_call-printed state lines (Close (closes.Reader r)) prints = closed_under-printed state lines (OfReader r) prints
closed_by_call-printed state lines (Close (closes.Writer w)) prints = closed_under-printed state lines (OfWriter w) prints
closed_by_call-printed state lines (Close (closes.Client m)) prints = client-printed state lines m prints
closed_by_call-printed state lines call prints = All-nil (Printed state.host.kernel.past)

closed_by-printed : (state : State) (lines : EndpointName → List (List ℕ)) (item : Item) → AllPrint state lines → All (Printed state.host.kernel.past) (closed_by state lines item)
closed_by-printed state lines item prints =
    cond_both (bars_line state item) [] (closed_by_call state lines (call_of item)) (λ (xs : List ClosedEndpoint). All (Printed state.host.kernel.past) xs)
    (λ yes_. All-nil (Printed state.host.kernel.past)) (λ no_. closed_by_call-printed state lines (call_of item) prints)

-- a close leaves what was printed of others
closed-prints : (state next : State) (lines : EndpointName → List (List ℕ)) → Fewer (endpoint_under state) (endpoint_under next) → Extends state.host.kernel.past next.host.kernel.past → AllPrint state lines → AllPrint next lines
closed-prints state next lines fewer extends prints d g is unread =
    let was : endpoint_under state d ≡ Some g = elim (fewer d) [ inl same ↦ sym same ∙ is | inr gone ↦ absurd (none-some g (sym gone ∙ is)) ] in
    prints-stay state.host.kernel.past next.host.kernel.past g.taken (lines d) extends (prints d g was unread)

-- and one more is closed
closed-printed : (state next : State) (before more : List ClosedEndpoint) → Extends state.host.kernel.past next.host.kernel.past → All (Printed state.host.kernel.past) before → All (Printed state.host.kernel.past) more
    → All (Printed next.host.kernel.past) (before ++ more)
closed-printed state next before more extends shut now =
    printed-on state.host.kernel.past next.host.kernel.past (before ++ more) extends (All-append (Printed state.host.kernel.past) before more shut now)

-- what was printed of those that are open, and of those that are closed
record EndPrints (state : State) (lines : EndpointName → List (List ℕ)) (shut : List ClosedEndpoint) : Type 0 where
  open_ : AllPrint state lines
  shut_ : All (Printed state.host.kernel.past) shut

-- what is closed under a name was printed so
abbrev ShutPrints : (State → (EndpointName → List (List ℕ)) → ℕ → List ClosedEndpoint) → Type 0
ShutPrints shut = (state : State) (lines : EndpointName → List (List ℕ)) (n : ℕ) → AllPrint state lines → All (Printed state.host.kernel.past) (shut state lines n)

below-print : (act : State → ℕ → State) (name : ℕ → EndpointName) (shut : State → (EndpointName → List (List ℕ)) → ℕ → List ClosedEndpoint) → Shuts act name → Closing act shut → ShutPrints shut
    → (state : State) (lines : EndpointName → List (List ℕ)) (k : ℕ) → Inv (view_of state) → AllPrint state lines
    → EndPrints (below act state k) lines (given_below act (λ s n. shut s lines n) state k)
below-print act name shut shuts closing printed state lines zero inv prints = record { open_ = prints; shut_ = All-nil (Printed state.host.kernel.past) }
below-print act name shut shuts closing printed state lines (suc k) inv prints =
    let mid = below act state k in
    let next = act mid k in
    let before = given_below act (λ s n. shut s lines n) state k in
    let p = below-print act name shut shuts closing printed state lines k inv prints in
    let extends = (acts-step (closing mid k lines) (below-step act shut closing state lines k inv).inv).goes.past in
    record {
      open_ = closed-prints mid next lines (shuts.fewer mid k) extends p.open_;
      shut_ = closed-printed mid next before (shut mid lines k) extends p.shut_ (printed mid lines k p.open_);
    }

runs-print : (state : State) (lines : EndpointName → List (List ℕ)) (items : List Item) → Inv (view_of state) → AllPrint state lines → All (Printed (last_host state items).kernel.past) (closed_endpoints_from state lines items)
unfolding ended all_closed
runs-print state lines [] inv prints =
    let messaged_ = clients_closed state 64 in
    let read_ = readers_closed messaged_ 64 in
    let written_ = writers_closed read_ 64 in
    let mid = endpoints_closed written_ 64 in
    let clients = clients-step state lines 64 inv in
    let readers = readers-step messaged_ lines 64 clients.inv in
    let writers = writers-step read_ lines 64 readers.inv in
    let ends = ends-step written_ lines 64 writers.inv in
    let last_ = last-step mid ends.inv in
    let zero_ = below-print client_closed OfClientWriter client_closed_under client_writer-shuts client_closed-does client-printed state lines 64 inv prints in
    let first = below-print reader_closed OfReader readers_shut reader_closed-shuts reader_closed-does (λ s l n. closed_under-printed s l (OfReader n)) messaged_ lines 64 clients.inv zero_.open_ in
    let second = below-print writer_closed OfWriter writers_shut writer_closed-shuts writer_closed-does (λ s l n. closed_under-printed s l (OfWriter n)) read_ lines 64 readers.inv first.open_ in
    let third = below-print closed Own own_shut closed-shuts closed-does (λ s l n. closed_under-printed s l (Own n)) written_ lines 64 writers.inv second.open_ in
    let past = (ended state).kernel.past in
    All-append (Printed past) (messaged_at_end state lines 64 ++ read_at_end messaged_ lines 64 ++ written_at_end read_ lines 64) (closed_at_end written_ lines 64)
    (All-append (Printed past) (messaged_at_end state lines 64 ++ read_at_end messaged_ lines 64) (written_at_end read_ lines 64)
    (All-append (Printed past) (messaged_at_end state lines 64) (read_at_end messaged_ lines 64)
    (printed-on messaged_.host.kernel.past past (messaged_at_end state lines 64) (step-after (step-then readers (step-then writers ends)) last_).goes.past zero_.shut_)
    (printed-on read_.host.kernel.past past (read_at_end messaged_ lines 64) (step-after (step-then writers ends) last_).goes.past first.shut_))
    (printed-on written_.host.kernel.past past (written_at_end read_ lines 64) (step-after ends last_).goes.past second.shut_))
    (printed-on mid.host.kernel.past past (closed_at_end written_ lines 64) last_.goes.past third.shut_)
runs-print state lines (item ∷ items) inv prints =
    let a = answer state item in
    let over = answer-step state lines item inv in
    let last = (last_host a.state items).kernel.past in
    All-append (Printed last) (closed_by state lines item) (closed_endpoints_from a.state (lines_behind state a lines) items)
    (printed-on state.host.kernel.past last (closed_by state lines item) (runs state lines (item ∷ items) inv).goes.past (closed_by-printed state lines item prints))
    (runs-print a.state (lines_behind state a lines) items over.inv (all-print state a lines over.goes.past prints (answer-takes state item inv)))

none-print : (items : List Item) (lines : EndpointName → List (List ℕ)) → AllPrint (start items) lines
none-print items lines e h is unread = absurd (none-some h (sym (none-start items e) ∙ is))

-- each ticket of the last host stands once
handles-once : (state : State) (lines : EndpointName → List (List ℕ)) (items : List Item) (t : ℕ) → times_open t (view_of state) ≡ 0 → tickets_of state ≡ 0 → Runs state lines items → t < length (last_host state items).tickets → count_by (λ u. u == t) (tickets_of_all (closed_endpoints_from state lines items) ++ control_tickets_from state items) ≡ 1
handles-once state lines items t none few run within =
    let all = run.adds t in
    let before : among t (tickets_of state) ≡ 0 = ap (among t) few in
    let there : t < length (tickets (last_host state items).kernel.past) = omega (arith, run.count, within) in
    let here = among-within t (length (tickets (last_host state items).kernel.past)) there in
    let counts = counts-times t (tickets_of_all (closed_endpoints_from state lines items) ++ control_tickets_from state items) in
    let parts = times-append t (tickets_of_all (closed_endpoints_from state lines items)) (control_tickets_from state items) in
    omega arith

served-one : (last : HostState) (c : ClosedEndpoint) → HasEnds last.tickets → Closes last c → (c.endpoint.was_streamed ≡ false → c.lines ≡ map (λ t. polled_line (transfer_completion last.kernel.past t)) c.endpoint.taken) → IsServedInOrder last c
served-one last c ends closes printed =
    record {
      rising = closes.rising;
      printed = printed;
      taken = closed-taken last c.endpoint c.past closes;
      others = closed-others last c.endpoint c.past ends closes;
    }

pub served-handles : EndpointsAreServedInOrder
unfolding closed_endpoints control_tickets final_host
served-handles items ends =
    let lines : EndpointName → List (List ℕ) = λ e. [] in
    let run = runs (start items) lines items (inv-start items) in
    let prints = runs-print (start items) lines items (inv-start items) (none-print items lines) in
    record {
      served = λ k d below. served-one (last_host (start items) items) _ ends (run.closes k d below) (λ unread. (prints k d below unread).are);
      once = λ t within. handles-once (start items) lines items t (nothing-open items t) (no-tickets_start items).1 run within;
    }

-- the host has as many tickets as the journal
pub final-counted : ScriptsAreCounted
unfolding final_host
final-counted items = (runs (start items) (λ e. []) items (inv-start items)).count

-- one fate line for each ticket of the summary
pub fates-of_scripts : FatesOfScripts
unfolding fate_lines counts_of
fates-of_scripts items ends reaped =
    let counted = final-counted items in
    record {
      lines = ap (fate_lines_from (final_host items) 0) (sym counted);
      final = λ t below. fates-final (final_host items) t ends reaped below (omega (arith, counted, below));
    }

-- what came before any line
pub inv-behind : (state : State) (items : List Item) → Inv (view_of state) → Inv (view_of (behind state items))
inv-behind state [] inv = inv
inv-behind state (item ∷ items) inv = inv-behind (answer state item).state items (answer-step state (λ e. []) item inv).inv

leaves-end : (o p : Option HostTicket) (end : TicketEnd) → Leaves o p → option_and_then ended_at o ≡ Some end → option_and_then ended_at p ≡ Some end
leaves-end None p end leaves is = absurd (none-some end is)
leaves-end (Some (HeldBy hold)) p end leaves is = absurd (none-some end is)
leaves-end (Some (Abandoned key)) p end leaves is = absurd (none-some end is)
leaves-end (Some (Ended was)) p end leaves is = ap (option_and_then ended_at) leaves ∙ is

goes-to : {old new : HostState} → LeavesTickets old new → GoesOnTo old new
goes-to {old} {new} goes = record { journal = goes.past; ends = λ t end is. leaves-end (slice_get old.tickets t) (slice_get new.tickets t) end (goes.tickets t) is }

pub inv-of : (items before : List Item) → Inv (view_of (behind (start items) before))
inv-of items before = inv-behind (start items) before (inv-start items)

last-behind : (state : State) (before rest : List Item) → last_host state (before ++ rest) ≡ last_host (behind state before) rest
last-behind state [] rest = refl
last-behind state (x ∷ xs) rest = last-behind (answer state x).state xs rest

-- the host goes on to the last
pub runs-go : (state : State) (items : List Item) → Inv (view_of state) → LeavesTickets state.host (last_host state items)
runs-go state items inv = (runs state (λ e. []) items inv).goes

-- also from behind each line
pub goes-last : (items before after : List Item) (item : Item) → items ≡ before ++ item ∷ after → LeavesTickets (answer (behind (start items) before) item).state.host (final_host items)
unfolding final_host
goes-last items before after item is =
    let state = behind (start items) before in
    let next = (answer state item).state in
    let inv = (answer-step state (λ e. []) item (inv-of items before)).inv in
    subst (LeavesTickets next.host) (sym (ap (last_host (start items)) is ∙ last-behind (start items) before (item ∷ after))) (runs next (λ e. []) after inv).goes

pub scripts-go_on : ScriptsGoOn
scripts-go_on =
    record {
      line = λ items before item. goes-to (answer-step (behind (start items) before) (λ e. []) item (inv-of items before)).goes;
      end = λ items before. goes-to (runs (behind (start items) before) (λ e. []) [] (inv-of items before)).goes;
    }
