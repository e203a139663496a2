-- Calls that are no reader's, writer's or client's leave the readers, the writers and the clients as they are.
use Rattle.std.proofs.Common.{◌≡◌, ℕ, Bool, true, false, List, length, slice_get, Option, Some, None, Result, Ok, Err, refl}
use Rattle.std.specs.Prelude.{◌||◌, if◌then◌else◌}
use Rattle.std.proofs.lemmas.Bool.{cond_both, true≢false}
use Rattle.usb_desc.specs.declared.types.Direction.{Direction}
use Rattle.usb_desc.specs.declared.types.TransferType.{TransferType}
use Rattle.usb_xfer.specs.declared.transfer.Completion.{Completion}
use Rattle.usb_xfer.specs.declared.transfer.TransferData.{TransferData}
use Rattle.usb_error.specs.Errors.{interface_in_use_error}
use Rattle.usb_enum.specs.Buses.{buses}
use Rattle.usb_enum.specs.Listing.{devices}
use Rattle.usb_enum.specs.Probing.{probe}
use Rattle.usb_session_tree.specs.Selecting.{matched}
use Rattle.usb_script_words.specs.declared.control.ControlTarget.{ControlTarget}
use Rattle.usb_script_words.specs.EndpointKinds.{transfer_type_of, direction_of}
use Rattle.usb_device_endpoint.specs.Waits.{waited}
use Rattle.usb_device_host.specs.Owners.{is_shared}
use Rattle.usb_device_host.specs.Opens.{host_opened, open_key}
use Rattle.usb_device_host.specs.InterfaceClaims.{claim_tried, claimed_key, host_claimed}
use Rattle.usb_device_host.specs.EndpointOpens.{host_asked, host_tries}
use Rattle.usb_device_host.specs.HostCalls.{host_calls}
use Rattle.usb_device.specs.Futures.{future_answer}
use Rattle.usb_kernel.specs.TransferCompletions.{transfer_completion}
use Rattle.usb_session_text.specs.Completions.{polled_line, waited_line}
use Rattle.usb_session_calls.specs.Names.{named, is_free}
use Rattle.usb_session_calls.specs.declared.call.Call.{Call}
use Rattle.usb_session_calls.specs.declared.call.Call.TheVariants as families
use Rattle.usb_session_calls.specs.declared.call.TreeCall.{TreeCall}
use Rattle.usb_session_calls.specs.declared.call.TreeCall.TheVariants as trees
use Rattle.usb_session_calls.specs.declared.call.OpenCall.{OpenCall}
use Rattle.usb_session_calls.specs.declared.call.OpenCall.TheVariants as opens
use Rattle.usb_session_calls.specs.declared.call.CloseCall.{CloseCall}
use Rattle.usb_session_calls.specs.declared.call.CloseCall.TheVariants as closes
use Rattle.usb_session_calls.specs.declared.call.DeviceCall.{DeviceCall}
use Rattle.usb_session_calls.specs.declared.call.InterfaceCall.{InterfaceCall}
use Rattle.usb_session_calls.specs.declared.call.EndpointCall.{EndpointCall}
use Rattle.usb_session_calls.specs.declared.call.EndpointCall.TheVariants as endpoints
use Rattle.usb_session_calls.specs.declared.call.ControlCall.{ControlCall}
use Rattle.usb_session_calls.specs.declared.call.FutureCall.{FutureCall}
use Rattle.usb_session_calls.specs.declared.call.FutureCall.TheVariants as futures
use Rattle.usb_session_calls.specs.State.{State, Endpoint, with_host}
use Rattle.usb_session_calls.specs.Answer.{Answer, condition_answer, ok_answer, error_answer, if_open}
use Rattle.usb_session_calls.specs.OpenAt.{DeviceAt, InterfaceAt, device_at, interface_at}
use Rattle.usb_session.specs.Opens.{opened_as, opened_at, opened_probed, open_answer, open_path_answer}
use Rattle.usb_session.specs.Listings.{listed, list_answer, listed_buses, buses_answer}
use Rattle.usb_session.specs.Probes.{probed, probe_answer, looked_for, match_answer}
use Rattle.usb_session.specs.Hotplugs.{hotplug_answer}
use Rattle.usb_session.specs.Claims.{claimed_as, claim_on, claim_answer}
use Rattle.usb_session_calls.specs.Clones.{clone_device_answer, clone_interface_answer}
use Rattle.usb_session_calls.specs.Endpoints.{endpoint_as, endpoint_on, endpoint_answer}
use Rattle.usb_session_calls.specs.Polls.{took, poll_on}
use Rattle.usb_session_calls.specs.Waits.{wait_on}
use Rattle.usb_session_calls.specs.Closes.{close_answer, close_future_answer, close_device_answer, without_interface, close_interface_answer, release_on, release_answer}
use Rattle.usb_session_calls.specs.Controls.{device_of_target, bars_control, target_of, control_on, on_control, request_for, request_with}
use Rattle.usb_session.specs.Futures.{with_future, start_on, start_answer, future_polled, future_waited, on_future}
use Rattle.usb_session_calls.specs.Steps.{with_steps, stepped_all}
use Rattle.usb_session.specs.TreeCalls.{on_tree}
use Rattle.usb_session.specs.NameCalls.{on_open, on_close}
use Rattle.usb_session_calls.specs.DeviceCalls.{on_device}
use Rattle.usb_session_calls.specs.InterfaceCalls.{on_interface}
use Rattle.usb_session_calls.specs.EndpointCalls.{endpoint_called, on_endpoint}
use Rattle.usb_session.specs.CallAnswers.{call_answer}
use Rattle.usb_session.proofs.Barred.{bar-keeps, free-keeps, open-keeps}

-- the calls on readers, and those that open or close one
abbrev pub is_of_reader : Call → Bool
is_of_reader (families.Reader r call steps) = true
is_of_reader (families.Open (opens.Reader r e size)) = true
is_of_reader (families.Open (opens.ReaderInner e r)) = true
is_of_reader (families.Close (closes.Reader r)) = true
is_of_reader call = false

-- and so those of writers
abbrev pub is_of_writer : Call → Bool
is_of_writer (families.Writer w call steps) = true
is_of_writer (families.Open (opens.Writer w e size)) = true
is_of_writer (families.Open (opens.WriterInner e w)) = true
is_of_writer (families.Close (closes.Writer w)) = true
is_of_writer call = false

-- and of clients
abbrev pub is_of_client : Call → Bool
is_of_client (families.Client m call steps) = true
is_of_client (families.Open (opens.Client m out inp)) = true
is_of_client (families.Close (closes.Client m)) = true
is_of_client call = false

abbrev pub is_streamed : Call → Bool
is_streamed call = is_of_reader call || (is_of_writer call || is_of_client call)

-- the readers, the writers and the clients are left as they were
abbrev pub Leaves : State → State → Type 0
Leaves old new = (new.readers ≡ old.readers) × (new.writers ≡ old.writers) × (new.clients ≡ old.clients)

-- a call on what is open under a name
on-leaves : {X : Type 0} (state : State) (o : Option X) (call : X → Answer) → ((x : X) → Leaves state (call x).state) → Leaves state (if_open o call (condition_answer state)).state
on-leaves state o call leaves = open-keeps (Leaves state) state (refl, refl, refl) o call (λ x is. leaves x)

-- one that is barred where a name is not free, or for another reason
free-leaves : (state : State) (free : Bool) (call : Answer) → Leaves state call.state → Leaves state (if free then call else condition_answer state).state
free-leaves state free call leaves = free-keeps (Leaves state) state (refl, refl, refl) free call (λ is. leaves)

bar-leaves : (state : State) (bars : Bool) (call : Answer) → Leaves state call.state → Leaves state (if bars then condition_answer state else call).state
bar-leaves state bars call leaves = bar-keeps (Leaves state) state (refl, refl, refl) bars call leaves

-- one whose answer depends on a result, and one on what there may be
result-leaves : {X E : Type 0} (state : State) (r : Result X E) (call : Result X E → Answer) → ((x : X) → Leaves state (call (Ok x)).state) → ((error : E) → Leaves state (call (Err error)).state) → Leaves state (call r).state
result-leaves state (Ok x) call done refused = done x
result-leaves state (Err error) call done refused = refused error

option-leaves : {X : Type 0} (state : State) (o : Option X) (call : Option X → Answer) → Leaves state (call None).state → ((x : X) → Leaves state (call (Some x)).state) → Leaves state (call o).state
option-leaves state None call none some = none
option-leaves state (Some x) call none some = some x

-- what is asked of the tree of attributes and of the packets of udev
tree-leaves : (state : State) (call : TreeCall) → Leaves state (on_tree state call).state
unfolding list_answer buses_answer probe_answer match_answer hotplug_answer
tree-leaves state trees.List = result-leaves state (devices state.tree) (listed state) (λ found. (refl, refl, refl)) (λ error. (refl, refl, refl))
tree-leaves state trees.Buses = result-leaves state (buses state.tree) (listed_buses state) (λ found. (refl, refl, refl)) (λ error. (refl, refl, refl))
tree-leaves state (trees.Probe path) = result-leaves state (probe state.tree path) (probed state) (λ device. (refl, refl, refl)) (λ error. (refl, refl, refl))
tree-leaves state (trees.Match path selector) = result-leaves state (matched state.tree path selector) (looked_for state) (λ is_match. (refl, refl, refl)) (λ error. (refl, refl, refl))
tree-leaves state trees.Hotplug = (refl, refl, refl)

-- what is opened
opened_at-leaves : (state : State) (d bus address : ℕ) → Leaves state (opened_at state d bus address).state
opened_at-leaves state d bus address =
    result-leaves state (open_key state.host bus address) (opened_as (with_host state (host_opened state.host bus address)) d) (λ key. (refl, refl, refl)) (λ error. (refl, refl, refl))

claim-leaves : (state : State) (number i : ℕ) (reattach : Bool) (x : DeviceAt) → Leaves state (claim_on state number i reattach x).state
claim-leaves state number i reattach x =
    let host = host_claimed state.host x.key number reattach in
    let tried = claimed_key (length state.host.interfaces) (claim_tried state.host x.opened number reattach) in
    free-leaves state _ _ (result-leaves state tried (claimed_as (with_host state host) number i) (λ key. (refl, refl, refl)) (λ error. (refl, refl, refl)))

endpoint_on-leaves : (state : State) (e address : ℕ) (kind : TransferType) (direction : Direction) (x : InterfaceAt) → Leaves state (endpoint_on state e address kind direction x).state
endpoint_on-leaves state e address kind direction x =
    let host = host_asked state.host x.claimed.opened in
    let tried = host_tries host x.handle.key x.claimed address kind direction in
    free-leaves state _ _ (result-leaves state tried (endpoint_as (with_host state host) e address kind x) (λ maximum. (refl, refl, refl)) (λ error. (refl, refl, refl)))

start-leaves : (state : State) (n : ℕ) (target : ControlTarget) (request : TransferData) (timeout : ℕ) → Leaves state (start_answer state n target request timeout).state
unfolding start_answer
start-leaves state n target request timeout =
    on-leaves state (device_of_target state target) _ (λ device.
    free-leaves state (is_free state.futures n) (start_on state n request timeout device)
    (bar-leaves state (bars_control state.host.kernel.past) (ok_answer (with_future state n request timeout device)) (refl, refl, refl)))

open-leaves : (state : State) (call : OpenCall) → is_streamed (families.Open call) ≡ false → Leaves state (on_open state call).state
unfolding open_answer open_path_answer clone_device_answer claim_answer clone_interface_answer endpoint_answer
open-leaves state (opens.Device d bus address) is = free-leaves state _ _ (opened_at-leaves state d bus address)
open-leaves state (opens.Path d path) is =
    free-leaves state _ _ (result-leaves state (probe state.tree path) (opened_probed state d) (λ device. opened_at-leaves state d device.numbers.busnum device.numbers.address) (λ error. (refl, refl, refl)))
open-leaves state (opens.CloneDevice name d) is = on-leaves state (named state.devices d) _ (λ key. free-leaves state _ _ (refl, refl, refl))
open-leaves state (opens.Claim d number i detach) is = on-leaves state (device_at state d) (claim_on state number i detach) (claim-leaves state number i detach)
open-leaves state (opens.CloneInterface name i) is = on-leaves state (named state.interfaces i) _ (λ f. free-leaves state _ _ (refl, refl, refl))
open-leaves state (opens.Endpoint e i address kind) is =
    let type = transfer_type_of kind in
    let direction = direction_of kind in
    on-leaves state (interface_at state i) (endpoint_on state e address type direction) (endpoint_on-leaves state e address type direction)
open-leaves state (opens.ControlIn n target setup wanted timeout) is = start-leaves state n target (request_for setup wanted) timeout
open-leaves state (opens.ControlOut n target setup bytes timeout) is = start-leaves state n target (request_with setup bytes) timeout
open-leaves state call is = absurd (true≢false is)

-- what is closed
close-leaves : (state : State) (call : CloseCall) → is_streamed (families.Close call) ≡ false → Leaves state (on_close state call).state
unfolding close_device_answer close_interface_answer release_answer close_answer close_future_answer
close-leaves state (closes.Device d) is = on-leaves state (named state.devices d) _ (λ key. (refl, refl, refl))
close-leaves state (closes.Interface i) is = on-leaves state (named state.interfaces i) _ (λ f. (refl, refl, refl))
close-leaves state (closes.Release i) is =
    on-leaves state (interface_at state i) (release_on state i) (λ x.
    cond_both (is_shared state.host x.handle.key x.claimed) (error_answer state interface_in_use_error) (ok_answer (without_interface state i x.handle)) (λ (a : Answer). Leaves state a.state) (λ yes_. (refl, refl, refl)) (λ no_. (refl, refl, refl)))
close-leaves state (closes.Endpoint e) is = on-leaves state (named state.endpoints e) _ (λ h. (refl, refl, refl))
close-leaves state (closes.Future n) is = on-leaves state (named state.futures n) _ (λ f. (refl, refl, refl))
close-leaves state call is = absurd (true≢false is)

-- calls on devices and interfaces change only the host
device-leaves : (state : State) (d : ℕ) (call : DeviceCall) → Leaves state (on_device state d call).state
unfolding on_device
device-leaves state d call = on-leaves state (device_at state d) _ (λ x. (refl, refl, refl))

interface-leaves : (state : State) (i : ℕ) (call : InterfaceCall) → Leaves state (on_interface state i call).state
unfolding on_interface
interface-leaves state i call = on-leaves state (interface_at state i) _ (λ x. (refl, refl, refl))

-- calls on endpoints
took-leaves : (line : Option Completion → List ℕ) (state : State) (e t : ℕ) → Leaves state (took line state e t (transfer_completion state.host.kernel.past t)).state
took-leaves line state e t = option-leaves state (transfer_completion state.host.kernel.past t) (took line state e t) (refl, refl, refl) (λ c. (refl, refl, refl))

called-leaves : (call : EndpointCall) (state : State) (e : ℕ) (h : Endpoint) → Leaves state (endpoint_called call state e h).state
called-leaves endpoints.Pending state e h = (refl, refl, refl)
called-leaves endpoints.Poll state e h = option-leaves state (slice_get h.state.pending 0) (poll_on state e) (refl, refl, refl) (took-leaves polled_line state e)
called-leaves (endpoints.Wait timeout) state e h =
    option-leaves state (slice_get h.state.pending 0) (wait_on state e timeout) (refl, refl, refl) (λ t. took-leaves waited_line (with_host state (waited host_calls t timeout state.host)) e t)
called-leaves endpoints.Cancel state e h = (refl, refl, refl)
called-leaves endpoints.ClearHalt state e h = (refl, refl, refl)
called-leaves call state e h = bar-leaves state _ _ (refl, refl, refl)

endpoint-leaves : (state : State) (e : ℕ) (call : EndpointCall) → Leaves state (on_endpoint state e call).state
unfolding on_endpoint
endpoint-leaves state e call = on-leaves state (named state.endpoints e) (endpoint_called call state e) (called-leaves call state e)

-- control transfers
control-leaves : (state : State) (call : ControlCall) → Leaves state (on_control state call).state
unfolding on_control
control-leaves state call = on-leaves state (device_of_target state (target_of call)) (control_on call state) (λ n. bar-leaves state _ _ (refl, refl, refl))

future-leaves : (state : State) (n : ℕ) (call : FutureCall) → Leaves state (on_future state n call).state
unfolding on_future
future-leaves state n futures.Poll = on-leaves state (named state.futures n) _ (λ f. option-leaves state (future_answer state.host f) (future_polled state n f) (refl, refl, refl) (λ r. (refl, refl, refl)))
future-leaves state n (futures.Wait steps) = let now = with_steps state steps in on-leaves now (named now.futures n) (future_waited now n) (λ f. (refl, refl, refl))

-- each call that is neither a reader's nor a writer's
pub other-leaves : (state : State) (call : Call) → is_streamed call ≡ false → Leaves state (call_answer state call).state
unfolding call_answer stepped_all
other-leaves state families.Setup is = (refl, refl, refl)
other-leaves state (families.Steps steps) is = (refl, refl, refl)
other-leaves state families.Now is = (refl, refl, refl)
other-leaves state (families.Tree call) is = tree-leaves state call
other-leaves state (families.Open call) is = open-leaves state call is
other-leaves state (families.Close call) is = close-leaves state call is
other-leaves state (families.Device d call) is = device-leaves state d call
other-leaves state (families.Interface i call) is = interface-leaves state i call
other-leaves state (families.Endpoint e call steps) is = endpoint-leaves (with_steps state steps) e call
other-leaves state (families.Control call steps) is = control-leaves (with_steps state steps) call
other-leaves state (families.Future n call) is = future-leaves state n call
other-leaves state call is = absurd (true≢false is)
