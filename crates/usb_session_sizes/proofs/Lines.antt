-- A session stays bounded over each line whose sizes are those of a script, and over its end.
use Rattle.std.proofs.Common.{ℕ, zero, suc, ◌≤◌, arith, Bool, true, false, List, [], ◌∷◌, length, Option, Some, None, Result}
use Rattle.std.specs.Prelude.{if◌then◌else◌}
use Rattle.usb_xfer.specs.declared.error.TransferError.{TransferError}
use Rattle.usb_xfer.specs.Transfers.{request_in}
use Rattle.usb_device.specs.ControlCalls.{controlled}
use Rattle.usb_device.specs.DescriptorCalls.{descriptor_request}
use Rattle.usb_device.specs.Futures.{FutureState, future_answer, future_awaited}
use Rattle.usb_device_host.specs.HandleStates.{InterfaceState}
use Rattle.usb_device_host.specs.HostState.{HostState}
use Rattle.usb_script_lines.specs.declared.item.Item.{Item}
use Rattle.usb_script_lines.specs.ItemKinds.{steps_in}
use Rattle.usb_session_calls.specs.declared.call.Call.{Call}
use Rattle.usb_session_calls.specs.declared.call.Call.TheVariants as calls
use Rattle.usb_session_calls.specs.declared.call.ControlCall.{ControlCall}
use Rattle.usb_session_calls.specs.declared.call.ControlCall.TheVariants as controls
use Rattle.usb_session_calls.specs.declared.call.FutureCall.{FutureCall}
use Rattle.usb_session_calls.specs.declared.call.FutureCall.TheVariants as futures
use Rattle.usb_session_calls.specs.Names.{named}
use Rattle.usb_session_calls.specs.State.{State, Endpoint, Reader, Writer, Client}
use Rattle.usb_session_calls.specs.Answer.{condition_answer, at_host, if_open}
use Rattle.usb_session_calls.specs.Calls.{call_of}
use Rattle.usb_session_calls.specs.Closes.{closed_at, closed}
use Rattle.usb_session_calls.specs.Readers.{reader_closed_at, reader_closed}
use Rattle.usb_session_calls.specs.Writers.{writer_closed_at, writer_closed}
use Rattle.usb_session_calls.specs.Clients.{client_closed_at, client_closed}
use Rattle.usb_session_calls.specs.Controls.{device_of_target, bars_control, request_for, request_with, target_of, control_called, control_on, on_control}
use Rattle.usb_session_calls.specs.EndpointCalls.{on_endpoint}
use Rattle.usb_session_calls.specs.CalledReaders.{on_reader}
use Rattle.usb_session_calls.specs.CalledWriters.{on_writer}
use Rattle.usb_session_calls.specs.CalledClients.{on_client}
use Rattle.usb_session_calls.specs.Steps.{stepped_all}
use Rattle.usb_session.specs.Answers.{answer}
use Rattle.usb_session.specs.Below.{below}
use Rattle.usb_session.specs.CallAnswers.{call_answer, line_answer}
use Rattle.usb_session.specs.Crowded.{bars_line}
use Rattle.usb_session.specs.Ends.{future_closed_at, future_closed_under, interface_closed_at, interface_closed, device_closed_at, name_closed, clients_closed, readers_closed, writers_closed, endpoints_closed, futures_closed, interfaces_closed, all_closed, ended}
use Rattle.usb_session.specs.Futures.{future_polled, future_waited, on_future}
use Rattle.usb_session.specs.Output.{behind, last_host}
use Rattle.usb_session_sizes.proofs.CallSizes.{IsControlSized, IsFutureSized, IsCallSized, IsItemSized, AreItemsSized}
use Rattle.usb_session_sizes.proofs.Controls.{controlled-bounded, future_taken-bounded, future_awaited-bounded}
use Rattle.usb_session_sizes.proofs.Endpoints.{on_endpoint-bounded, on_reader-bounded, on_writer-bounded, on_client-bounded}
use Rattle.usb_session_sizes.proofs.Hosts.{IsHostBounded, finished-bounded}
use Rattle.usb_session_sizes.proofs.Handles.{handle_closed-bounded}
use Rattle.usb_session_sizes.proofs.Opens.{for-sized, with-sized, at-most, on_tree-bounded, on_open-bounded, on_close-bounded, on_device-bounded, on_interface-bounded, endpoint_closed-bounded, reader_closed-bounded, writer_closed-bounded, client_closed-bounded, future_gone-bounded}
use Rattle.usb_session_sizes.proofs.States.{IsStateBounded, IsAnswerBounded, any-bounded, bar-bounded, stepped_all-bounded, along-bounded}

-- control transfers that are waited for. One of a descriptor asks for 4096 bytes
few-asked : 4096 ≤ 65535
few-asked = omega arith

descriptor-bounded : (h : HostState) (n type index language timeout : ℕ) → IsHostBounded h → IsHostBounded (controlled h n (request_in (descriptor_request type index language)) timeout)
descriptor-bounded h n type index language timeout is = controlled-bounded h n (request_in (descriptor_request type index language)) timeout (at-most 4096 few-asked) (for-sized 4096 few-asked) is

control_called-bounded : (call : ControlCall) (h : HostState) (n : ℕ) → IsControlSized call → IsHostBounded h → IsHostBounded (control_called call h n).host
control_called-bounded (controls.In target setup wanted timeout) h n sized is = controlled-bounded h n (request_for setup wanted) timeout (at-most wanted sized) (for-sized wanted sized) is
control_called-bounded (controls.Out target setup bytes timeout) h n sized is = controlled-bounded h n (request_with setup bytes) timeout (at-most (length bytes) sized) (with-sized bytes sized) is
control_called-bounded (controls.Descriptor d kind index language timeout) h n sized is = descriptor-bounded h n kind index language timeout is
control_called-bounded (controls.Languages d timeout) h n sized is = descriptor-bounded h n 3 0 0 timeout is
control_called-bounded (controls.Text d index language timeout) h n sized is = descriptor-bounded h n 3 index language timeout is

on_control-bounded : (state : State) (call : ControlCall) → IsControlSized call → IsStateBounded state → IsAnswerBounded (on_control state call)
unfolding on_control
on_control-bounded state call sized is =
    any-bounded state (device_of_target state (target_of call)) (control_on call state)
    (λ n. bar-bounded state (bars_control state.host.kernel.past) (at_host state (control_called call state.host n)) (control_called-bounded call state.host n sized is.0, is.1) is) is

-- and those on their way
polled-bounded : (state : State) (n : ℕ) (f : FutureState) (r : Option (Result (List ℕ) TransferError)) → IsStateBounded state → IsAnswerBounded (future_polled state n f r)
polled-bounded state n f None is = is
polled-bounded state n f (Some r) is = (future_taken-bounded state.host f is.0, is.1)

waited-bounded : (state : State) (n : ℕ) (f : FutureState) → IsStateBounded state → IsAnswerBounded (future_waited state n f)
waited-bounded state n f is = (future_taken-bounded (future_awaited state.host f) f (future_awaited-bounded state.host f is.0), is.1)

on_future-bounded : (state : State) (n : ℕ) (call : FutureCall) → IsFutureSized call → IsStateBounded state → IsAnswerBounded (on_future state n call)
unfolding on_future
on_future-bounded state n futures.Poll sized is =
    any-bounded state (named state.futures n) (λ f. future_polled state n f (future_answer state.host f)) (λ f. polled-bounded state n f (future_answer state.host f) is) is
on_future-bounded state n (futures.Wait steps) sized is =
    along-bounded state steps (λ s. if_open (named s.futures n) (future_waited s n) (condition_answer s)) sized
    (λ s lent. any-bounded s (named s.futures n) (future_waited s n) (λ f. waited-bounded s n f lent) lent) is

-- each call
call-bounded : (state : State) (call : Call) → IsCallSized call → IsStateBounded state → IsAnswerBounded (call_answer state call)
unfolding call_answer
call-bounded state calls.Setup sized is = is
call-bounded state (calls.Steps steps) sized is = stepped_all-bounded state steps sized is
call-bounded state calls.Now sized is = is
call-bounded state (calls.Tree call) sized is = on_tree-bounded state call is
call-bounded state (calls.Open call) sized is = on_open-bounded state call sized is
call-bounded state (calls.Close call) sized is = on_close-bounded state call is
call-bounded state (calls.Device d call) sized is = on_device-bounded state d call is
call-bounded state (calls.Interface i call) sized is = on_interface-bounded state i call is
call-bounded state (calls.Endpoint e call steps) sized is = along-bounded state steps (λ s. on_endpoint s e call) sized.1 (λ s lent. on_endpoint-bounded s e call sized.0 lent) is
call-bounded state (calls.Reader r call steps) sized is = along-bounded state steps (λ s. on_reader s r call) sized (λ s lent. on_reader-bounded s r call lent) is
call-bounded state (calls.Writer w call steps) sized is = along-bounded state steps (λ s. on_writer s w call) sized (λ s lent. on_writer-bounded s w call lent) is
call-bounded state (calls.Client m call steps) sized is = along-bounded state steps (λ s. on_client s m call) sized (λ s lent. on_client-bounded s m call lent) is
call-bounded state (calls.Control call steps) sized is = along-bounded state steps (λ s. on_control s call) sized.1 (λ s lent. on_control-bounded s call sized.0 lent) is
call-bounded state (calls.Future n call) sized is = on_future-bounded state n call sized is

-- and so each line
either-line : (state : State) (item : Item) (b : Bool) → IsItemSized item → IsStateBounded state → IsAnswerBounded (if b then condition_answer (stepped_all state (steps_in item)) else line_answer state item)
either-line state item true sized is = stepped_all-bounded state (steps_in item) sized.1 is
either-line state item false sized is = call-bounded state (call_of item) sized.0 is

pub line-bounded : (state : State) (item : Item) → IsItemSized item → IsStateBounded state → IsAnswerBounded (answer state item)
unfolding answer
line-bounded state item sized is = either-line state item (bars_line state item) sized is

-- what is open under a name is closed, if anything is
endpoint_at : (state : State) (e : ℕ) (o : Option Endpoint) → IsStateBounded state → IsStateBounded (closed_at state e o)
endpoint_at state e None is = is
endpoint_at state e (Some h) is = endpoint_closed-bounded state e h is

reader_at : (state : State) (r : ℕ) (o : Option Reader) → IsStateBounded state → IsStateBounded (reader_closed_at state r o)
reader_at state r None is = is
reader_at state r (Some x) is = reader_closed-bounded state r x is

writer_at : (state : State) (w : ℕ) (o : Option Writer) → IsStateBounded state → IsStateBounded (writer_closed_at state w o)
writer_at state w None is = is
writer_at state w (Some x) is = writer_closed-bounded state w x is

client_at : (state : State) (m : ℕ) (o : Option Client) → IsStateBounded state → IsStateBounded (client_closed_at state m o)
client_at state m None is = is
client_at state m (Some x) is = client_closed-bounded state m x is

future_at : (state : State) (n : ℕ) (o : Option FutureState) → IsStateBounded state → IsStateBounded (future_closed_at state n o)
future_at state n None is = is
future_at state n (Some f) is = future_gone-bounded state n f is

interface_at : (state : State) (i : ℕ) (o : Option InterfaceState) → IsStateBounded state → IsStateBounded (interface_closed_at state i o)
interface_at state i None is = is
interface_at state i (Some f) is = (handle_closed-bounded state.host f.key is.0, is.1)

device_at : (state : State) (d : ℕ) (o : Option ℕ) → IsStateBounded state → IsStateBounded (device_closed_at state d o)
device_at state d None is = is
device_at state d (Some key) is = is

-- an act that keeps a state bounded, for the names of a kind
abbrev Closes : (State → ℕ → State) → Type 0
Closes act = (state : State) (n : ℕ) → IsStateBounded state → IsStateBounded (act state n)

below-bounded : (act : State → ℕ → State) → Closes act → (state : State) (k : ℕ) → IsStateBounded state → IsStateBounded (below act state k)
below-bounded act closes state zero is = is
below-bounded act closes state (suc k) is = closes (below act state k) k (below-bounded act closes state k is)

clients-close : Closes client_closed
unfolding client_closed
clients-close state m is = client_at state m (named state.clients m) is

readers-close : Closes reader_closed
unfolding reader_closed
readers-close state r is = reader_at state r (named state.readers r) is

writers-close : Closes writer_closed
unfolding writer_closed
writers-close state w is = writer_at state w (named state.writers w) is

endpoints-close : Closes closed
unfolding closed
endpoints-close state e is = endpoint_at state e (named state.endpoints e) is

futures-close : Closes future_closed_under
unfolding future_closed_under
futures-close state n is = future_at state n (named state.futures n) is

interfaces-close : Closes interface_closed
unfolding interface_closed
interfaces-close state i is = interface_at state i (named state.interfaces i) is

devices-close : Closes name_closed
unfolding name_closed
devices-close state d is = device_at state d (named state.devices d) is

all_closed-bounded : (state : State) → IsStateBounded state → IsStateBounded (all_closed state)
unfolding all_closed
all_closed-bounded state is =
    let messaged = clients_closed state 64 in
    let read = readers_closed messaged 64 in
    let written = writers_closed read 64 in
    let apart = endpoints_closed written 64 in
    let parted = futures_closed apart 64 in
    let released = interfaces_closed parted 64 in
    below-bounded name_closed devices-close released 64
    (below-bounded interface_closed interfaces-close parted 64
    (below-bounded future_closed_under futures-close apart 64
    (below-bounded closed endpoints-close written 64
    (below-bounded writer_closed writers-close read 64
    (below-bounded reader_closed readers-close messaged 64
    (below-bounded client_closed clients-close state 64 is))))))

-- the end of a session
ended-bounded : (state : State) → IsStateBounded state → IsHostBounded (ended state)
unfolding ended
ended-bounded state is = finished-bounded (all_closed state).host (all_closed-bounded state is).0

-- several lines, and the end behind them
pub behind-bounded : (state : State) (items : List Item) → AreItemsSized items → IsStateBounded state → IsStateBounded (behind state items)
behind-bounded state [] sized is = is
behind-bounded state (item ∷ items) sized is = behind-bounded (answer state item).state items sized.1 (line-bounded state item sized.0 is)

pub last-bounded : (state : State) (items : List Item) → AreItemsSized items → IsStateBounded state → IsHostBounded (last_host state items)
last-bounded state [] sized is = ended-bounded state is
last-bounded state (item ∷ items) sized is = last-bounded (answer state item).state items sized.1 (line-bounded state item sized.0 is)
