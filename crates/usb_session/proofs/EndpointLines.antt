-- What the calls on endpoints do.
use Rattle.std.proofs.Common.{◌≡◌, ◌<◌, ℕ, arith, List, [], ◌∷◌, ◌++◌, length, drop, Option, Some, None, Result, Ok, Err, true, false, refl, ap, sym, ◌∙◌, subst, slice_get}
use Rattle.std.specs.Prelude.{not, ◌||◌, ◌==◌, nat_le, is_some}
use Rattle.std.specs.Option.{option_map}
use Rattle.std.proofs.lemmas.Bool.{or_parts, eqb-true, not-false}
use Rattle.usb_desc.specs.declared.types.Direction.{Direction}
use Rattle.usb_desc.specs.declared.types.Direction.TheVariants.{In, Out}
use Rattle.usb_desc.specs.declared.types.TransferType.{TransferType}
use Rattle.usb_xfer.specs.BufferState.{BufferState}
use Rattle.usb_xfer.specs.declared.transfer.Completion.{Completion}
use Rattle.usb_error.specs.ErrorState.{ErrorState}
use Rattle.usb_error.specs.Errors.{clear_halt_error}
use Rattle.usb_device_endpoint.specs.CallErrors.{or_error}
use Rattle.usb_kernel.specs.declared.event.Event.{Event}
use Rattle.usb_kernel.specs.Info.{unreaped}
use Rattle.std.proofs.lemmas.Option.{none-some, same_Some}
use Rattle.usb_kernel.specs.TransferCompletions.{transfer_completion}
use Rattle.usb_device_endpoint.specs.EndpointState.{EndpointState}
use Rattle.usb_device_endpoint.specs.Closes.{after_close}
use Rattle.usb_device_endpoint.specs.Submits.{entered}
use Rattle.usb_device_endpoint.specs.Waits.{waited}
use Rattle.usb_device_host.specs.HostState.{HostState}
use Rattle.usb_device_host.specs.TicketEnds.{host_taken}
use Rattle.usb_device_endpoint.specs.Blocking.{blocked}
use Rattle.usb_device_host.specs.HostCalls.{host_halt_result, host_halt_cleared, host_calls}
use Rattle.usb_device_host.specs.EndpointOpens.{host_asked, host_tries, with_endpoint}
use Rattle.usb_device_host.proofs.CountLemmas.{asked-count, entered-count, waited-count, blocked-count, all_discarded-count}
use Rattle.usb_device_host.proofs.FollowLemmas.{on-asked, on-waited, on-blocked, on-all_discarded}
use Rattle.usb_device_host.proofs.FoundLemmas.{blocked-found}
use Rattle.usb_device_host.proofs.EndpointLemmas.{tried-some}
use Rattle.usb_session_text.specs.Completions.{count_line, done_line, polled_line, waited_line}
use Rattle.usb_session_calls.specs.Names.{named, is_free, freed, change_named}
use Rattle.usb_session_calls.specs.declared.call.EndpointCall.{EndpointCall}
use Rattle.usb_session_calls.specs.declared.call.EndpointCall.TheVariants.{SubmitIn, SubmitOut, Pending, Poll, Wait, TransferIn, TransferOut, Cancel, ClearHalt}
use Rattle.usb_session_calls.specs.Buffers.{in_buffer, out_buffer}
use Rattle.usb_session_calls.specs.EndpointCalls.{endpoint_called, on_endpoint}
use Rattle.usb_session_calls.specs.State.{State, Endpoint, tickets_of, with_host}
use Rattle.usb_session_calls.specs.Answer.{condition_answer, ok_answer, silent, if_open}
use Rattle.usb_session_calls.specs.OpenAt.{InterfaceAt, interface_at}
use Rattle.usb_session_calls.specs.Endpoints.{new_endpoint, endpoint_as, endpoint_answer}
use Rattle.usb_session_calls.specs.Submits.{with_submission, deadline_by, submitted, submit_on, has_direction}
use Rattle.usb_session_calls.specs.Polls.{front_taken, taken_from, took, poll_on}
use Rattle.usb_session_calls.specs.Waits.{wait_on}
use Rattle.usb_session_calls.specs.Transfers.{bars_transfer, with_taken, transfer_made, transfer_on}
use Rattle.usb_session_calls.specs.Closes.{without_endpoint, close_answer, closed_at, closed}
use Rattle.usb_session.specs.Served.{closed_under}
use Rattle.usb_session_calls.specs.EndpointNames.{EndpointName, Own, endpoint_under}
use Rattle.usb_session_calls.proofs.NameLemmas.{free-none}
use Rattle.usb_session_calls.proofs.EndpointNameLemmas.{Changed, set-changes, freed-changes, change-changes}
use Rattle.usb_session.proofs.CallLeads.{then-changes}
use Rattle.usb_session.proofs.Views.{view_of}
use Rattle.usb_session.proofs.Does.{Shuts, shuts-by, Acts, Changes, Does, own-changes, says_done, goes, opens, submits, ends, takes, quiet-aside, quiet-same, told-does, barred-does, free-does, bar-does, ok-does, error-does, named-does, closing-does, result-other}
use Rattle.usb_session_calls.proofs.DeviceHosts.{halt-aside}

-- an endpoint is opened, whose packets have some bytes
endpoint_as-does : (state : State) (e address : ℕ) (kind : TransferType) (x : InterfaceAt) (tried : Result ℕ ErrorState) → is_free state.endpoints e ≡ true → ((maximum : ℕ) → tried ≡ Ok maximum → 0 < maximum) → Does state (endpoint_as state e address kind x tried)
endpoint_as-does state e address kind x (Err error) free some = error-does state error
endpoint_as-does state e address kind x (Ok maximum) free some =
    let now = with_endpoint state.host x.handle.key address in
    let y = new_endpoint state.host x.claimed.device address kind maximum in
    goes (quiet-aside state (with_host state now) refl refl (λ d. refl) refl refl)
    (opens e y (free-none state.endpoints e free) refl refl (some maximum refl)
    (own-changes (with_host state now) now _ e _ (set-changes state.endpoints e y free)) (ok-does _))

pub endpoint-does : (state : State) (e i address : ℕ) (kind : TransferType) (direction : Direction) → Does state (endpoint_answer state e i address kind direction)
unfolding endpoint_answer
endpoint-does state e i address kind direction =
    named-does state (interface_at state i) _ (λ x is.
    free-does state (λ free.
    let host = host_asked state.host x.claimed.opened in
    goes (record { keeps = on-asked state.host x.claimed.opened; count = asked-count state.host x.claimed.opened; endpoints = λ d. refl; names = refl; futures = refl })
    (endpoint_as-does (with_host state host) e address kind x (host_tries host x.handle.key x.claimed address kind direction) free
    (λ maximum. tried-some host x.handle.key x.claimed address kind direction maximum))))

-- what a call changes of an endpoint
changed-own : (state : State) (f : Endpoint → Endpoint) (e : ℕ) (h : Endpoint) → named state.endpoints e ≡ Some h → (host : HostState) → Changes (view_of state) (view_of (record state { host = host; endpoints = change_named f state.endpoints e })) host (Own e) (Some (f h))
changed-own state f e h here host = own-changes state host (change_named f state.endpoints e) e (Some (f h)) (change-changes f state.endpoints e h here)

-- a ticket is submitted
submit_on-does : (state : State) (direction : Direction) (e : ℕ) (b : BufferState) (timeout : Option ℕ) (h : Endpoint) → named state.endpoints e ≡ Some h → Does state (submit_on state direction e b timeout h)
submit_on-does state direction e b timeout h here =
    let deadline = deadline_by state.host timeout in
    bar-does state (λ no_. submits (Own e) deadline b h here
    (changed-own state (with_submission (tickets_of state)) e h here (entered host_calls state.host h.state deadline b)) (ok-does (submitted state e b timeout h)))

-- the oldest pending ticket is taken
first-of : (l : List ℕ) (t : ℕ) → slice_get l 0 ≡ Some t → (ts : List ℕ) × (l ≡ t ∷ ts)
first-of [] t is = absurd (none-some t is)
first-of (u ∷ us) t is = (us, ap (λ v. v ∷ us) (same_Some u t is))

took-does : (line : Option Completion → List ℕ) (state : State) (e t : ℕ) (h : Endpoint) (o : Option Completion) → says_done (line None) ≡ false → ((c : Completion) → line (Some c) ≡ done_line c) → named state.endpoints e ≡ Some h → slice_get h.state.pending 0 ≡ Some t → transfer_completion state.host.kernel.past t ≡ o → Does state (took line state e t o)
took-does line state e t h None other done here front is = told-does state (line None) other
took-does line state e t h (Some c) other done here front is =
    let first = first-of h.state.pending t front in
    takes (Own e) t first.0 h c here first.1 is (done c) (changed-own state (front_taken t) e h here (host_taken state.host t)) (quiet-same (taken_from state e t))

poll_on-does : (state : State) (e : ℕ) (h : Endpoint) (o : Option ℕ) → named state.endpoints e ≡ Some h → slice_get h.state.pending 0 ≡ o → Does state (poll_on state e o)
poll_on-does state e h None here front = barred-does state
poll_on-does state e h (Some t) here front = took-does polled_line state e t h (transfer_completion state.host.kernel.past t) refl (λ c. refl) here front refl

wait_on-does : (state : State) (e timeout : ℕ) (h : Endpoint) (o : Option ℕ) → named state.endpoints e ≡ Some h → slice_get h.state.pending 0 ≡ o → Does state (wait_on state e timeout o)
wait_on-does state e timeout h None here front = barred-does state
wait_on-does state e timeout h (Some t) here front =
    let mid = with_host state (waited host_calls t timeout state.host) in
    goes (record { keeps = on-waited state.host t timeout; count = waited-count state.host t timeout; endpoints = λ d. refl; names = refl; futures = refl })
    (took-does waited_line mid e t h (transfer_completion mid.host.kernel.past t) refl (λ c. refl) here front refl)

no-tickets : (l : List ℕ) → length l ≡ 0 → l ≡ []
no-tickets [] none = refl
no-tickets (t ∷ ts) none = absurd (omega (arith, none))

-- a blocking transfer at an endpoint where none is pending: its ticket is submitted, comes, and is taken
transfer-free : (past : List Event) (direction : Direction) (h : EndpointState) → bars_transfer past direction h ≡ false → h.pending ≡ []
transfer-free past direction h allowed =
    let others = or_parts (not (has_direction direction h)) (not (length h.pending == 0) || nat_le 1024 (unreaped past)) allowed in
    let none = or_parts (not (length h.pending == 0)) (nat_le 1024 (unreaped past)) others.1 in
    no-tickets h.pending (eqb-true (length h.pending) 0 (not-false (length h.pending == 0) none.0))

pub some-of : {X : Type 0} (o : Option X) → is_some o ≡ true → (x : X) × (o ≡ Some x)
some-of None is = absurd (cc)
some-of (Some x) is = (x, refl)

transfer_made-does : (state : State) (e : ℕ) (b : BufferState) (timeout : ℕ) (h : Endpoint) → named state.endpoints e ≡ Some h → h.state.pending ≡ [] → Does state (transfer_made state e b timeout h)
transfer_made-does state e b timeout h here none =
    let n = tickets_of state in
    let sent = submitted state e b None h in
    let last = with_host sent (blocked host_calls n timeout sent.host) in
    let one = entered-count state.host h.state None b in
    let found = some-of (transfer_completion last.host.kernel.past n) (blocked-found sent.host n timeout (omega (arith, one.past))) in
    let first = changed-own state (with_submission n) e h here (entered host_calls state.host h.state None b) in
    let here_last = changed-own state (with_submission n) e h here last.host in
    let whole = changed-own state (with_taken n) e h here (host_taken last.host n) in
    let front : (with_submission n h).state.pending ≡ n ∷ [] = ap (λ (l : List ℕ). l ++ n ∷ []) none in
    let taken : with_taken n h ≡ front_taken n (with_submission n h) =
    ap (λ (l : List ℕ). record h { state = record h.state { pending = l }; taken = h.taken ++ n ∷ [] }) (none ∙ sym (ap (λ (l : List ℕ). drop 1 l) front)) in
    submits (Own e) None b h here first (goes {next = view_of last} (record { keeps = on-blocked sent.host n timeout; count = blocked-count sent.host n timeout; endpoints = λ d. refl; names = refl; futures = refl })
    (takes {v = view_of last} {next = view_of (transfer_made state e b timeout h).state} (Own e) n [] (with_submission n h) found.0 first.endpoints.here front found.1 (ap waited_line found.1)
    (subst (λ g. Changes (view_of last) (view_of (transfer_made state e b timeout h).state) (host_taken last.host n) (Own e) (Some g)) taken (then-changes here_last whole)) (quiet-same (transfer_made state e b timeout h).state)))

transfer_on-does : (state : State) (direction : Direction) (e : ℕ) (b : BufferState) (timeout : ℕ) (h : Endpoint) → named state.endpoints e ≡ Some h → Does state (transfer_on state direction e b timeout h)
transfer_on-does state direction e b timeout h here =
    bar-does state (λ allowed. transfer_made-does state e b timeout h here (transfer-free state.host.kernel.past direction h.state allowed))

-- so each call at an endpoint that is open
called-does : (state : State) (e : ℕ) (h : Endpoint) (call : EndpointCall) → named state.endpoints e ≡ Some h → Does state (endpoint_called call state e h)
unfolding count_line
called-does state e h (SubmitIn n timeout) here = submit_on-does state In e (in_buffer n) timeout h here
called-does state e h (SubmitOut bytes timeout) here = submit_on-does state Out e (out_buffer bytes) timeout h here
called-does state e h Pending here = told-does state (count_line (length h.state.pending)) refl
called-does state e h Poll here = poll_on-does state e h (slice_get h.state.pending 0) here refl
called-does state e h (Wait timeout) here = wait_on-does state e timeout h (slice_get h.state.pending 0) here refl
called-does state e h (TransferIn n timeout) here = transfer_on-does state In e (in_buffer n) timeout h here
called-does state e h (TransferOut bytes timeout) here = transfer_on-does state Out e (out_buffer bytes) timeout h here
called-does state e h Cancel here =
    ends refl (record { keeps = on-all_discarded state.host h.state.pending; count = all_discarded-count state.host h.state.pending; endpoints = λ d. refl; names = refl; futures = refl })
called-does state e h ClearHalt here =
    let aside = halt-aside state.host h.state.device h.state.address in
    ends (result-other (or_error clear_halt_error (host_halt_result state.host h.state.device h.state.address)))
    (quiet-aside state (with_host state (host_halt_cleared state.host h.state.device h.state.address)) aside.past aside.handles.tickets (λ d. refl) refl refl)

pub on_endpoint-does : (state : State) (e : ℕ) (call : EndpointCall) → Does state (on_endpoint state e call)
unfolding on_endpoint
on_endpoint-does state e call = named-does state (named state.endpoints e) (endpoint_called call state e) (λ h here. called-does state e h call here)

map-id : {X : Type 0} (o : Option X) → option_map (λ x. x) o ≡ o
map-id None = refl
map-id (Some x) = refl

-- an endpoint is closed
closed-changes : (state : State) (e : ℕ) (h : Endpoint) → Changes (view_of state) (view_of (without_endpoint state e h)) (after_close host_calls state.host h.state) (Own e) None
closed-changes state e h = own-changes state (after_close host_calls state.host h.state) (freed state.endpoints e) e None (freed-changes state.endpoints e)

pub closed-does : (state : State) (e : ℕ) (lines : EndpointName → List (List ℕ)) → Acts (silent (closed state e)) (view_of state) (closed_under state lines (Own e)) []
unfolding closed
closed-does state e lines =
    closing-does state (Own e) lines (named state.endpoints e) (λ h. h) (λ o. silent (closed_at state e o)) (without_endpoint state e) (sym (map-id (named state.endpoints e))) refl (quiet-same state) (λ h. refl)
    (λ h is. closed-changes state e h) (λ h. quiet-same (without_endpoint state e h))

closed-gone : (state : State) (e : ℕ) → Changed (endpoint_under state) (endpoint_under (closed state e)) (Own e) None
unfolding closed
closed-gone state e = by (named state.endpoints e) refl
  where
    by : (o : Option Endpoint) → named state.endpoints e ≡ o → Changed (endpoint_under state) (endpoint_under (closed_at state e o)) (Own e) None
    by None is = record { here = is; others = λ d apart. refl }
    by (Some h) is = (closed-changes state e h).endpoints

pub closed-shuts : Shuts closed Own
closed-shuts = shuts-by closed Own closed-gone

pub close-does : (state : State) (e : ℕ) (lines : EndpointName → List (List ℕ)) → Acts (close_answer state e) (view_of state) (closed_under state lines (Own e)) []
unfolding close_answer
close-does state e lines =
    closing-does state (Own e) lines (named state.endpoints e) (λ h. h) (λ o. if_open o (λ h. ok_answer (without_endpoint state e h)) (condition_answer state)) (without_endpoint state e) (sym (map-id (named state.endpoints e))) refl (quiet-same state) (λ h. refl)
    (λ h is. closed-changes state e h) (λ h. quiet-same (without_endpoint state e h))
