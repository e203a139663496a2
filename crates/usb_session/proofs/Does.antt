-- What a line does.
use Rattle.std.proofs.Common.{◌≡◌, ◌<◌, ℕ, Bool, true, false, ◌⊎◌, List, [], ◌∷◌, ◌++◌, map, codes, length, Option, Some, None, Result, Ok, Err, inl, inr, refl, ap, sym, ◌∙◌, subst}
use Rattle.std.specs.Prelude.{nat_eq, if◌then◌else◌}
use Rattle.std.specs.List.{starts_with}
use Rattle.std.specs.Option.{option_map}
use Rattle.std.proofs.lemmas.Bool.{cases_eq, cond_both}
use Rattle.usb_xfer.specs.BufferState.{BufferState}
use Rattle.usb_xfer.specs.declared.transfer.Completion.{Completion}
use Rattle.usb_error.specs.ErrorState.{ErrorState}
use Rattle.usb_kernel_devices.specs.declared.step.KernelStep.{KernelStep}
use Rattle.usb_kernel.specs.Tickets.{tickets}
use Rattle.usb_kernel.specs.TransferCompletions.{transfer_completion}
use Rattle.usb_xfer.specs.declared.transfer.TransferData.{TransferData}
use Rattle.usb_device_endpoint.specs.Closes.{after_close}
use Rattle.usb_device_endpoint.specs.Submits.{entered}
use Rattle.usb_device_host.specs.HostState.{HostState}
use Rattle.usb_device_host.specs.HostCalls.{host_calls}
use Rattle.usb_device_host.specs.TicketEnds.{host_taken}
use Rattle.usb_device_host.proofs.CountLemmas.{KeepsCount, CountsOneMore, count-trans, rest-count}
use Rattle.usb_device_host.proofs.FollowLemmas.{KeepsTickets, on-then, on-kept, on-rest}
use Rattle.usb_device_host.proofs.StartedLemmas.{Parts, AddsTaken}
use Rattle.usb_device.specs.Futures.{FutureState}
use Rattle.usb_session_text.specs.Calls.{ok_line, condition_line, error_line, result_line}
use Rattle.usb_session_text.specs.Completions.{done_line}
use Rattle.usb_session_calls.specs.Names.{named, is_free, freed, change_named}
use Rattle.usb_session_calls.specs.EndpointNames.{EndpointName, Own, OfReader, OfWriter, OfClientWriter, OfClientReader, endpoint_under}
use Rattle.usb_session_calls.proofs.NameLemmas.{named-change_same, named-change_other}
use Rattle.usb_session_calls.proofs.EndpointNameLemmas.{Changed, ChangedAt, ChangedBoth, cases_name, under-changes, first-alone, second-alone, own-changed, reader-changed, writer-changed, client-changed}
use Rattle.usb_session_calls.specs.State.{State, Endpoint, Reader, Writer, Client, endpoint_of_reader, endpoint_of_writer, endpoint_of_client_writer, endpoint_of_client_reader, tickets_of, with_host}
use Rattle.usb_session_calls.specs.Answer.{Answer, answer_with, condition_answer, ok_answer, error_answer, silent, if_open}
use Rattle.usb_session_calls.specs.Submits.{with_submission}
use Rattle.usb_session_calls.specs.Polls.{front_taken}
use Rattle.usb_session_calls.specs.Steps.{with_steps, steps_applied, stepped_all, then_applied, along_steps}
use Rattle.usb_session.specs.Served.{ClosedEndpoint, closed_as, closed_under}
use Rattle.usb_session.specs.ControlAnswers.{listed}
use Rattle.usb_session.proofs.Views.{IsAmong, View, view_of, name_counts, tickets_seen, hosted, future_started, without_future_of, with_open}

-- the host went on, and no endpoint or future was opened or closed, and no ticket submitted or taken
pub record Quiet (old new : View) : Type 0 where
  pub keeps : KeepsTickets old.host new.host
  pub count : KeepsCount old.host new.host
  pub endpoints : (e : EndpointName) → new.opened e ≡ old.opened e
  pub names : new.names ≡ old.names
  pub futures : new.futures ≡ old.futures

-- the host has as many tickets as the journal
abbrev pub CountsAlike : HostState → Type 0
CountsAlike h = length h.tickets ≡ length (tickets h.kernel.past)

-- whether a line begins as that of a completion
abbrev pub says_done : List ℕ → Bool
says_done line = starts_with nat_eq line (codes "done")

-- another host, and another endpoint under one name or none, with the same futures
pub record Changes (old new : View) (host : HostState) (e : EndpointName) (o : Option Endpoint) : Type 0 where
  pub host_is : new.host ≡ host
  pub endpoints : Changed old.opened new.opened e o
  pub names : new.names ≡ old.names
  pub futures : new.futures ≡ old.futures

-- the endpoint of one name is open under another, where nothing was: it is taken out, and then put there
pub record MovesTo (old new : View) (from to : EndpointName) (g : Endpoint) : Type 0 where
  pub mid : View
  pub gone : Changes old mid old.host from None
  pub put : Changes mid new old.host to (Some g)

-- the name of a reader, a writer or a client
abbrev pub IsStream : EndpointName → Type 0
IsStream (Own e) = ⊥
IsStream (OfReader r) = Unit {0}
IsStream (OfWriter w) = Unit {0}
IsStream (OfClientWriter m) = Unit {0}
IsStream (OfClientReader m) = Unit {0}

-- an endpoint with the tickets of another
pub record SameTickets (h g : Endpoint) : Type 0 where
  pub key : g.state.key ≡ h.state.key
  pub maximum : g.state.maximum ≡ h.state.maximum
  pub pending : g.state.pending ≡ h.state.pending
  pub taken : g.taken ≡ h.taken

-- a control transfer is handed in, or the host parts with the ticket of one: it was answered, or its future closed
pub data ControlMove : Type 0 where
  Handed : ℕ → ControlMove
  Parted : ℕ → ControlMove

-- the tickets that are handed in, and those that the host parts with
abbrev pub handed_of : List ControlMove → List ℕ
handed_of [] = []
handed_of (Handed t ∷ moves) = t ∷ handed_of moves
handed_of (Parted t ∷ moves) = handed_of moves

abbrev pub parted_of : List ControlMove → List ℕ
parted_of [] = []
parted_of (Handed t ∷ moves) = parted_of moves
parted_of (Parted t ∷ moves) = t ∷ parted_of moves

pub handed-append : (ms ns : List ControlMove) → handed_of (ms ++ ns) ≡ handed_of ms ++ handed_of ns
handed-append [] ns = refl
handed-append (Handed t ∷ ms) ns = ap (λ ts. t ∷ ts) (handed-append ms ns)
handed-append (Parted t ∷ ms) ns = handed-append ms ns

pub parted-append : (ms ns : List ControlMove) → parted_of (ms ++ ns) ≡ parted_of ms ++ parted_of ns
parted-append [] ns = refl
parted-append (Handed t ∷ ms) ns = parted-append ms ns
parted-append (Parted t ∷ ms) ns = ap (λ ts. t ∷ ts) (parted-append ms ns)

pub handed-handed : (ts : List ℕ) → handed_of (map Handed ts) ≡ ts
handed-handed [] = refl
handed-handed (t ∷ ts) = ap (λ us. t ∷ us) (handed-handed ts)

pub handed-parted : (ts : List ℕ) (ms : List ControlMove) → handed_of (map Parted ts ++ ms) ≡ handed_of ms
handed-parted [] ms = refl
handed-parted (t ∷ ts) ms = handed-parted ts ms

pub parted-handed : (ts : List ℕ) (ms : List ControlMove) → parted_of (map Handed ts ++ ms) ≡ parted_of ms
parted-handed [] ms = refl
parted-handed (t ∷ ts) ms = parted-handed ts ms

pub parted-parted : (ts : List ℕ) → parted_of (map Parted ts) ≡ ts
parted-parted [] = refl
parted-parted (t ∷ ts) = ap (λ us. t ∷ us) (parted-parted ts)

-- what is left for an answer to do, and the endpoints that it closes: nothing more; or an endpoint is closed, or goes to another name
-- (from then on a reader, a writer or a client was made of it; under the name of one it was before)
pub data Settles (last : View) : View → List ClosedEndpoint → Type 0 where
  still : {v : View} → Quiet v last → Settles last v []
  closes : {v next : View} {closed : List ClosedEndpoint} (e : EndpointName) (h : Endpoint) (lines : List (List ℕ)) → v.opened e ≡ Some h
      → Changes v next (after_close host_calls v.host h.state) e None → Settles last next closed → Settles last v (record { endpoint = h; past = v.host.kernel.past; lines = lines } ∷ closed)
  moves : {v next : View} {closed : List ClosedEndpoint} (from to : EndpointName) (h g : Endpoint) → v.opened from ≡ Some h → v.opened to ≡ None → SameTickets h g
      → ((IsStream from → h.was_streamed ≡ true) → g.was_streamed ≡ true) → MovesTo v next from to g → Settles last next closed → Settles last v closed

-- what an answer does from a state on, the endpoints that it closes, and what becomes of the control transfers of its line: the
-- host goes on, endpoints are opened (under names of their own) and tickets submitted, a reader, a writer or a client takes a ticket (`reads`), a control transfer is handed in (`starts`: its future is opened; `controls`: it is awaited and its ticket
-- taken at once), and the host parts with the ticket of a future, whose name is free then; and then a ticket is taken and its
-- completion printed, or what is left is done
pub data Acts (a : Answer) : View → List ClosedEndpoint → List ControlMove → Type 0 where
  goes : {v next : View} {closed : List ClosedEndpoint} {handed : List ControlMove} → Quiet v next → Acts a next closed handed → Acts a v closed handed
  opens : {v next : View} {closed : List ClosedEndpoint} {handed : List ControlMove} (e : ℕ) (x : Endpoint) → v.opened (Own e) ≡ None → x.state.pending ≡ [] → x.taken ≡ [] → 0 < x.state.maximum
      → Changes v next v.host (Own e) (Some x) → Acts a next closed handed → Acts a v closed handed
  submits : {v next : View} {closed : List ClosedEndpoint} {handed : List ControlMove} (e : EndpointName) (deadline : Option ℕ) (b : BufferState) (h : Endpoint) → v.opened e ≡ Some h
      → Changes v next (entered host_calls v.host h.state deadline b) e (Some (with_submission (tickets_seen v) h)) → Acts a next closed handed → Acts a v closed handed
  reads : {v next : View} {closed : List ClosedEndpoint} {handed : List ControlMove} (e : EndpointName) (t : ℕ) (ts : List ℕ) (h : Endpoint) → IsStream e → v.opened e ≡ Some h → h.state.pending ≡ t ∷ ts
      → says_done a.line ≡ false → Changes v next (host_taken v.host t) e (Some (front_taken t h)) → Acts a next closed handed → Acts a v closed handed
  starts : {v : View} {closed : List ClosedEndpoint} {handed : List ControlMove} (n : ℕ) (request : TransferData) (timeout device : ℕ) → is_free v.futures n ≡ true
      → Acts a (future_started v n request timeout device) closed handed → Acts a v closed (Handed (tickets_seen v) ∷ handed)
  controls : {v : View} {closed : List ClosedEndpoint} {handed : List ControlMove} (host : HostState) → CountsOneMore v.host host → (CountsAlike v.host → AddsTaken v.host host)
      → Acts a (hosted v host) closed handed → Acts a v closed (Handed (tickets_seen v) ∷ Parted (tickets_seen v) ∷ handed)
  frees : {v : View} {closed : List ClosedEndpoint} {handed : List ControlMove} (n : ℕ) (f : FutureState) (host : HostState) → named v.futures n ≡ Some f → Parts v.host host f.ticket
      → Acts a (without_future_of v host n) closed handed → Acts a v closed (map Parted (listed f.ticket) ++ handed)
  takes : {v next : View} (e : EndpointName) (t : ℕ) (ts : List ℕ) (h : Endpoint) (c : Completion) → v.opened e ≡ Some h → h.state.pending ≡ t ∷ ts
      → transfer_completion v.host.kernel.past t ≡ Some c → a.line ≡ done_line c → Changes v next (host_taken v.host t) e (Some (front_taken t h)) → Quiet next (view_of a.state) → Acts a v [] []
  settles : {v : View} {closed : List ClosedEndpoint} → says_done a.line ≡ false → Settles (view_of a.state) v closed → Acts a v closed []

-- there is nothing more
pub ends : {a : Answer} {v : View} → says_done a.line ≡ false → Quiet v (view_of a.state) → Acts a v [] []
ends other quiet = settles other (still quiet)

-- what the answer of a line does that closes no endpoint, and hands in no control transfer
abbrev pub Does : State → Answer → Type 0
Does state a = Acts a (view_of state) [] []

pub quiet-then : {a b c : View} → Quiet a b → Quiet b c → Quiet a c
quiet-then {a} {b} {c} first second =
    record {
      keeps = on-then a.host b.host c.host first.keeps second.keeps;
      count = count-trans a.host b.host c.host first.count second.count;
      endpoints = λ e. second.endpoints e ∙ first.endpoints e;
      names = second.names ∙ first.names;
      futures = second.futures ∙ first.futures;
    }

-- journal and tickets are as they were
pub quiet-beside : (old new : View) → new.host.kernel.past ≡ old.host.kernel.past → new.host.tickets ≡ old.host.tickets → ((e : EndpointName) → new.opened e ≡ old.opened e) → new.names ≡ old.names → new.futures ≡ old.futures → Quiet old new
quiet-beside old new past same endpoints names futures =
    record {
      keeps = on-kept old.host new.host past same;
      count = record { count = ap (λ l. length l) same; past = ap (λ p. length (tickets p)) past };
      endpoints = endpoints;
      names = names;
      futures = futures;
    }

pub quiet-aside : (old new : State) → new.host.kernel.past ≡ old.host.kernel.past → new.host.tickets ≡ old.host.tickets → ((e : EndpointName) → endpoint_under new e ≡ endpoint_under old e) → name_counts new ≡ name_counts old → new.futures ≡ old.futures → Quiet (view_of old) (view_of new)
quiet-aside old new = quiet-beside (view_of old) (view_of new)

pub quiet-same : (state : State) → Quiet (view_of state) (view_of state)
quiet-same state = quiet-aside state state refl refl (λ e. refl) refl refl

quiet-rested : (state : State) → Quiet (view_of state) (view_of (steps_applied state))
quiet-rested state = record { keeps = on-rest state.host; count = rest-count state.host; endpoints = λ e. refl; names = refl; futures = refl }

pub quiet-lent : (state : State) (steps : List KernelStep) → Quiet (view_of state) (view_of (with_steps state steps))
quiet-lent state steps = quiet-aside state (with_steps state steps) refl refl (λ e. refl) refl refl

pub quiet-stepped : (state : State) (steps : List KernelStep) → Quiet (view_of state) (view_of (stepped_all state steps))
unfolding stepped_all
quiet-stepped state steps = quiet-then (quiet-lent state steps) (quiet-rested (with_steps state steps))

-- a line that only asks, and the lines of calls that give no value
pub told-does : (state : State) (line : List ℕ) → says_done line ≡ false → Acts (answer_with state line) (view_of state) [] []
told-does state line other = ends other (quiet-same state)

pub barred-does : (state : State) → Acts (condition_answer state) (view_of state) [] []
barred-does state = told-does state condition_line refl

pub ok-does : (state : State) → Acts (ok_answer state) (view_of state) [] []
ok-does state = told-does state ok_line refl

pub error-does : (state : State) (error : ErrorState) → Acts (error_answer state error) (view_of state) [] []
unfolding error_line
error-does state error = told-does state (error_line error) refl

-- a call on what is open under a name
pub named-does : {X : Type 0} (state : State) (o : Option X) (call : X → Answer) → ((x : X) → o ≡ Some x → Does state (call x)) → Does state (if_open o call (condition_answer state))
named-does state None call does = barred-does state
named-does state (Some x) call does = does x refl

-- an endpoint is closed, where one is open under its name
pub closing-does : {X : Type 0} (state : State) (e : EndpointName) (lines : EndpointName → List (List ℕ)) (o : Option X) (its : X → Endpoint) (a : Option X → Answer) (without : X → State)
    → endpoint_under state e ≡ option_map its o → says_done (a None).line ≡ false → Quiet (view_of state) (view_of (a None).state) → ((x : X) → says_done (a (Some x)).line ≡ false)
    → ((x : X) → o ≡ Some x → Changes (view_of state) (view_of (without x)) (after_close host_calls state.host (its x).state) e None) → ((x : X) → Quiet (view_of (without x)) (view_of (a (Some x)).state))
    → Acts (a o) (view_of state) (closed_under state lines e) []
closing-does state e lines None its a without here none same other changes quiet =
    subst (λ p. Acts (a None) (view_of state) (closed_as state.host.kernel.past (lines e) p) []) (sym here) (ends none same)
closing-does state e lines (Some x) its a without here none same other changes quiet =
    subst (λ p. Acts (a (Some x)) (view_of state) (closed_as state.host.kernel.past (lines e) p) []) (sym here) (settles (other x) (closes e (its x) (lines e) here (changes x refl) (still (quiet x))))

-- an act of the end of a session closes what is open under a name, if anything is: these endpoints
abbrev pub Closing : (State → ℕ → State) → (State → (EndpointName → List (List ℕ)) → ℕ → List ClosedEndpoint) → Type 0
Closing act shut = (state : State) (n : ℕ) (lines : EndpointName → List (List ℕ)) → Acts (silent (act state n)) (view_of state) (shut state lines n) []

-- no endpoint is open that was not
abbrev pub Fewer : (EndpointName → Option Endpoint) → (EndpointName → Option Endpoint) → Type 0
Fewer old new = (d : EndpointName) → (new d ≡ old d) ⊎ (new d ≡ None)

pub fewer-changed : {old new : EndpointName → Option Endpoint} {e : EndpointName} → Changed old new e None → Fewer old new
fewer-changed {new = new} {e = e} c d = elim (cases_name d e) [ inl same ↦ inr (ap new same ∙ c.here) | inr apart ↦ inl (c.others d apart) ]

-- and then none is open under the name
pub record Shuts (act : State → ℕ → State) (name : ℕ → EndpointName) : Type 0 where
  pub fewer : (state : State) (n : ℕ) → Fewer (endpoint_under state) (endpoint_under (act state n))
  pub gone : (state : State) (n : ℕ) → endpoint_under (act state n) (name n) ≡ None

pub shuts-by : (act : State → ℕ → State) (name : ℕ → EndpointName) → ((state : State) (n : ℕ) → Changed (endpoint_under state) (endpoint_under (act state n)) (name n) None) → Shuts act name
shuts-by act name changes = record { fewer = λ state n. fewer-changed (changes state n); gone = λ state n. (changes state n).here }

-- the state behind a change has the host that the change names
pub at-host : {old new : View} {host : HostState} {e : EndpointName} {o : Option Endpoint} (P : View → Type 0) → Changes old new host e o → P (hosted new host) → P new
at-host {new = new} P changes now = subst P (ap (hosted new) (sym changes.host_is)) now

-- so it is where another endpoint is put under a name
pub open-changes : (v : View) (host : HostState) (e : EndpointName) (o : Option Endpoint) (within : (h : Endpoint) → o ≡ Some h → IsAmong v.names e) → Changes v (with_open v host e o within) host e o
open-changes v host e o within = record { host_is = refl; endpoints = under-changes v.opened e o; names = refl; futures = refl }

-- a state where what is open under the names of one kind changed, and the host
pub own-changes : (state : State) (host : HostState) (after : List (Option Endpoint)) (e : ℕ) (o : Option Endpoint) → ChangedAt state.endpoints after e o → Changes (view_of state) (view_of (record state { host = host; endpoints = after })) host (Own e) o
own-changes state host after e o c =
    record {
      host_is = refl;
      endpoints = own-changed endpoint_of_reader endpoint_of_writer endpoint_of_client_writer endpoint_of_client_reader state.endpoints state.readers state.writers state.clients after e o c;
      names = ap (λ n. record (name_counts state) { own = n }) c.length;
      futures = refl;
    }

pub reader-changes : (state : State) (host : HostState) (after : List (Option Reader)) (r : ℕ) (o : Option Reader) → ChangedAt state.readers after r o
    → Changes (view_of state) (view_of (record state { host = host; readers = after })) host (OfReader r) (option_map endpoint_of_reader o)
reader-changes state host after r o c =
    record {
      host_is = refl;
      endpoints = reader-changed endpoint_of_reader endpoint_of_writer endpoint_of_client_writer endpoint_of_client_reader state.endpoints state.readers state.writers state.clients after r o c;
      names = ap (λ n. record (name_counts state) { readers = n }) c.length;
      futures = refl;
    }

pub writer-changes : (state : State) (host : HostState) (after : List (Option Writer)) (w : ℕ) (o : Option Writer) → ChangedAt state.writers after w o
    → Changes (view_of state) (view_of (record state { host = host; writers = after })) host (OfWriter w) (option_map endpoint_of_writer o)
writer-changes state host after w o c =
    record {
      host_is = refl;
      endpoints = writer-changed endpoint_of_reader endpoint_of_writer endpoint_of_client_writer endpoint_of_client_reader state.endpoints state.readers state.writers state.clients after w o c;
      names = ap (λ n. record (name_counts state) { writers = n }) c.length;
      futures = refl;
    }

-- of a client both endpoints may be others
pub client-both : (state : State) (host : HostState) (after : List (Option Client)) (m : ℕ) (o : Option Client) → ChangedAt state.clients after m o
    → ChangedBoth (endpoint_under state) (endpoint_under (record state { host = host; clients = after })) (OfClientWriter m) (OfClientReader m) (option_map endpoint_of_client_writer o) (option_map endpoint_of_client_reader o)
client-both state host after m o c =
    client-changed endpoint_of_reader endpoint_of_writer endpoint_of_client_writer endpoint_of_client_reader state.endpoints state.readers state.writers state.clients after m o c

pub client-counts : (state : State) (host : HostState) (after : List (Option Client)) → length after ≡ length state.clients → name_counts (record state { host = host; clients = after }) ≡ name_counts state
client-counts state host after same = ap (λ n. record (name_counts state) { clients = n }) same

-- or only one of them
module _ (state : State) (host : HostState) (after : List (Option Client)) (m : ℕ) (x y : Client) (is : named state.clients m ≡ Some x) (c : ChangedAt state.clients after m (Some y)) where
  pub client_writer-changes : endpoint_of_client_reader y ≡ endpoint_of_client_reader x → Changes (view_of state) (view_of (record state { host = host; clients = after })) host (OfClientWriter m) (Some (endpoint_of_client_writer y))
  client_writer-changes same =
      record {
        host_is = refl;
        endpoints = first-alone _ _ _ _ _ _ (client-both state host after m (Some y) c) (ap (option_map endpoint_of_client_reader) is ∙ ap (λ z. Some z) (sym same));
        names = client-counts state host after c.length;
        futures = refl;
      }

  pub client_reader-changes : endpoint_of_client_writer y ≡ endpoint_of_client_writer x → Changes (view_of state) (view_of (record state { host = host; clients = after })) host (OfClientReader m) (Some (endpoint_of_client_reader y))
  client_reader-changes same =
      record {
        host_is = refl;
        endpoints = second-alone _ _ _ _ _ _ (client-both state host after m (Some y) c) (ap (option_map endpoint_of_client_writer) is ∙ ap (λ z. Some z) (sym same));
        names = client-counts state host after c.length;
        futures = refl;
      }

-- a change of what is open under a name (x) that keeps a part of it
pub kept-change : {X Y : Type 0} (v : X → Y) (f : X → X) (xs : List (Option X)) (n m : ℕ) (x : X) → named xs n ≡ Some x → v (f x) ≡ v x → option_map v (named (change_named f xs n) m) ≡ option_map v (named xs m)
kept-change v f xs n m x at same =
    elim (cases_eq m n) [
      | inl is ↦
          ap (λ k. option_map v (named (change_named f xs n) k)) is ∙ ap (option_map v) (named-change_same f xs n ∙ ap (option_map f) at) ∙ ap (λ y. Some y) same
          ∙ sym (ap (λ k. option_map v (named xs k)) is ∙ ap (option_map v) at)
      | inr apart ↦ ap (option_map v) (named-change_other f xs n m apart)
    ]

-- it is done, or refused
pub result-other : (r : Result (Unit {0}) ErrorState) → says_done (result_line r) ≡ false
unfolding error_line
result-other (Ok done) = refl
result-other (Err error) = refl

-- one that is allowed where a name is free, one that is barred for another reason, and one that may be refused
pub free-does : (state : State) {free : Bool} {call : Answer} → (free ≡ true → Does state call) → Does state (if free then call else condition_answer state)
free-does state {free} {call} does = cond_both free call (condition_answer state) (Does state) does (λ no_. barred-does state)

pub bar-does : (state : State) {bars : Bool} {call : Answer} → (bars ≡ false → Does state call) → Does state (if bars then condition_answer state else call)
bar-does state {bars} {call} does = cond_both bars (condition_answer state) call (Does state) (λ yes_. barred-does state) does

pub try-does : {X : Type 0} (state : State) (call : Result X ErrorState → Answer) (tried : Result X ErrorState) → ((error : ErrorState) → call (Err error) ≡ error_answer state error) → ((x : X) → Does state (call (Ok x))) → Does state (call tried)
try-does state call (Err error) refused does = subst (Does state) (sym (refused error)) (error-does state error)
try-does state call (Ok x) refused does = does x

-- with the steps of its line
settles-then : {last next v : View} {closed : List ClosedEndpoint} → Quiet last next → Settles last v closed → Settles next v closed
settles-then quiet (still first) = still (quiet-then first quiet)
settles-then quiet (closes e h lines here changes rest) = closes e h lines here changes (settles-then quiet rest)
settles-then quiet (moves from to h g here free same read moved rest) = moves from to h g here free same read moved (settles-then quiet rest)

rest-does : {a : Answer} {v : View} {closed : List ClosedEndpoint} {handed : List ControlMove} → Acts a v closed handed → Acts (then_applied a) v closed handed
rest-does (goes quiet rest) = goes quiet (rest-does rest)
rest-does (opens e x free none zero_ some changes rest) = opens e x free none zero_ some changes (rest-does rest)
rest-does (submits e deadline b h here changes rest) = submits e deadline b h here changes (rest-does rest)
rest-does (reads e t ts h stream here front other changes rest) = reads e t ts h stream here front other changes (rest-does rest)
rest-does (starts n request timeout device free rest) = starts n request timeout device free (rest-does rest)
rest-does (controls host one adds rest) = controls host one adds (rest-does rest)
rest-does (frees n f host here parts rest) = frees n f host here parts (rest-does rest)
rest-does {a} (takes e t ts h c here front came line changes quiet) = takes e t ts h c here front came line changes (quiet-then quiet (quiet-rested a.state))
rest-does {a} (settles other rest) = settles other (settles-then (quiet-rested a.state) rest)

pub along-does : {closed : List ClosedEndpoint} {handed : List ControlMove} (state : State) (steps : List KernelStep) (call : State → Answer)
    → Acts (call (with_steps state steps)) (view_of (with_steps state steps)) closed handed → Acts (along_steps state steps call) (view_of state) closed handed
along-does state steps call does = goes (quiet-lent state steps) (rest-does does)
