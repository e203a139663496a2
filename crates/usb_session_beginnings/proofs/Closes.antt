-- The lines that close something, and the end of a session, see no place of the kernel.
use Rattle.std.proofs.Common.{Bool, None, Option, Some, ap, false, refl, suc, true, zero, ℕ, ◌∙◌, ◌≡◌}
use Rattle.std.specs.Prelude.{if◌then◌else◌}
use Rattle.usb_device.specs.Futures.{FutureState}
use Rattle.usb_device_endpoint.specs.Closes.{after_close}
use Rattle.usb_device_host.specs.Finishes.{finished}
use Rattle.usb_device_host.specs.HandleStates.{InterfaceState}
use Rattle.usb_device_host.specs.HostCalls.{host_calls}
use Rattle.usb_device_host.specs.Owners.{is_shared}
use Rattle.usb_error.specs.Errors.{interface_in_use_error}
use Rattle.usb_session.specs.Below.{below}
use Rattle.usb_session.specs.Ends.{all_closed, clients_closed, device_closed_at, devices_closed, ended, endpoints_closed, future_closed_at, future_closed_under, futures_closed, interface_closed, interface_closed_at, interfaces_closed, name_closed, readers_closed, streams_closed, writers_closed}
use Rattle.usb_session.specs.NameCalls.{on_close}
use Rattle.usb_session_beginnings.proofs.Controls.{future_closed-blind}
use Rattle.usb_session_beginnings.proofs.Handles.{handle_closed-blind}
use Rattle.usb_session_beginnings.proofs.Hosts.{bare, close-blind, finished-blind}
use Rattle.usb_session_beginnings.proofs.States.{AnswersBlind, bare_answer, bare_state, open-blind}
use Rattle.usb_session_calls.specs.Answer.{condition_answer, error_answer, if_open, ok_answer}
use Rattle.usb_session_calls.specs.Clients.{client_closed, client_closed_at, close_client_answer, closed_client}
use Rattle.usb_session_calls.specs.Closes.{close_answer, close_device_answer, close_future_answer, close_interface_answer, closed, closed_at, release_answer, release_on, without_device, without_endpoint, without_future, without_interface}
use Rattle.usb_session_calls.specs.Names.{freed, named}
use Rattle.usb_session_calls.specs.OpenAt.{InterfaceAt, interface_at}
use Rattle.usb_session_calls.specs.Readers.{close_reader_answer, closed_reader, reader_closed, reader_closed_at}
use Rattle.usb_session_calls.specs.State.{Client, Endpoint, Reader, State, Writer}
use Rattle.usb_session_calls.specs.Writers.{close_writer_answer, closed_writer, writer_closed, writer_closed_at}
use Rattle.usb_session_calls.specs.declared.call.CloseCall.{CloseCall}
use Rattle.usb_session_calls.specs.declared.call.CloseCall.TheVariants as closes

-- an act that leaves the same of a session with no place left, but for the places
abbrev pub LeavesBlind : (State → State) → Type 0
LeavesBlind act = (s : State) → act (bare_state s) ≡ bare_state (act s)

endpoint_gone-blind : (e : ℕ) (h : Endpoint) → LeavesBlind (λ s. without_endpoint s e h)
endpoint_gone-blind e h s = ap (λ g. record s { host = g; endpoints = freed s.endpoints e }) (close-blind h.state s.host)

reader_gone-blind : (r : ℕ) (x : Reader) → LeavesBlind (λ s. closed_reader s r x)
reader_gone-blind r x s = ap (λ g. record s { host = g; readers = freed s.readers r }) (close-blind x.state.endpoint s.host)

writer_gone-blind : (w : ℕ) (x : Writer) → LeavesBlind (λ s. closed_writer s w x)
writer_gone-blind w x s = ap (λ g. record s { host = g; writers = freed s.writers w }) (close-blind x.state.endpoint s.host)

client_gone-blind : (m : ℕ) (x : Client) → LeavesBlind (λ s. closed_client s m x)
client_gone-blind m x s =
    ap (λ g. record s { host = g; clients = freed s.clients m })
    (ap (λ g. after_close host_calls g x.state.reader.endpoint) (close-blind x.state.writer.endpoint s.host)
    ∙ close-blind x.state.reader.endpoint (after_close host_calls s.host x.state.writer.endpoint))

future_gone-blind : (n : ℕ) (f : FutureState) → LeavesBlind (λ s. without_future s n f)
future_gone-blind n f s = ap (λ g. record s { host = g; futures = freed s.futures n }) (future_closed-blind f s.host)

interface_gone-blind : (i : ℕ) (f : InterfaceState) → LeavesBlind (λ s. without_interface s i f)
interface_gone-blind i f s = ap (λ g. record s { host = g; interfaces = freed s.interfaces i }) (handle_closed-blind f.key s.host)

-- closes
done-blind : {X : Type 0} (s : State) (o : Option X) (act : State → X → State) → ((x : X) → act (bare_state s) x ≡ bare_state (act s x))
    → if_open o (λ x. ok_answer (act (bare_state s) x)) (condition_answer (bare_state s))
    ≡ bare_answer (if_open o (λ x. ok_answer (act s x)) (condition_answer s))
done-blind s o act leaves = open-blind s o (λ s x. ok_answer (act s x)) (λ x. ap ok_answer (leaves x))

release-blind : (i : ℕ) (x : InterfaceAt) (shared : Bool)
    → AnswersBlind (λ s. if shared then error_answer s interface_in_use_error else ok_answer (without_interface s i x.handle))
release-blind i x true s = refl
release-blind i x false s = ap ok_answer (interface_gone-blind i x.handle s)

pub on_close-blind : (call : CloseCall) → AnswersBlind (λ s. on_close s call)
unfolding close_answer close_future_answer close_device_answer close_interface_answer release_answer close_reader_answer close_writer_answer close_client_answer
on_close-blind (closes.Device d) s = done-blind s (named s.devices d) (λ s key. without_device s d key) (λ key. refl)
on_close-blind (closes.Interface i) s = done-blind s (named s.interfaces i) (λ s. without_interface s i) (λ f. interface_gone-blind i f s)
on_close-blind (closes.Release i) s =
    open-blind s (interface_at s i) (λ s. release_on s i) (λ x. release-blind i x (is_shared s.host x.handle.key x.claimed) s)
on_close-blind (closes.Endpoint e) s = done-blind s (named s.endpoints e) (λ s. without_endpoint s e) (λ h. endpoint_gone-blind e h s)
on_close-blind (closes.Reader r) s = done-blind s (named s.readers r) (λ s. closed_reader s r) (λ x. reader_gone-blind r x s)
on_close-blind (closes.Writer w) s = done-blind s (named s.writers w) (λ s. closed_writer s w) (λ x. writer_gone-blind w x s)
on_close-blind (closes.Client m) s = done-blind s (named s.clients m) (λ s. closed_client s m) (λ x. client_gone-blind m x s)
on_close-blind (closes.Future n) s = done-blind s (named s.futures n) (λ s. without_future s n) (λ f. future_gone-blind n f s)

-- what is open under a name is closed, if anything is
endpoint_at-blind : (e : ℕ) (o : Option Endpoint) → LeavesBlind (λ s. closed_at s e o)
endpoint_at-blind e None s = refl
endpoint_at-blind e (Some h) s = endpoint_gone-blind e h s

reader_at-blind : (r : ℕ) (o : Option Reader) → LeavesBlind (λ s. reader_closed_at s r o)
reader_at-blind r None s = refl
reader_at-blind r (Some x) s = reader_gone-blind r x s

writer_at-blind : (w : ℕ) (o : Option Writer) → LeavesBlind (λ s. writer_closed_at s w o)
writer_at-blind w None s = refl
writer_at-blind w (Some x) s = writer_gone-blind w x s

client_at-blind : (m : ℕ) (o : Option Client) → LeavesBlind (λ s. client_closed_at s m o)
client_at-blind m None s = refl
client_at-blind m (Some x) s = client_gone-blind m x s

future_at-blind : (n : ℕ) (o : Option FutureState) → LeavesBlind (λ s. future_closed_at s n o)
future_at-blind n None s = refl
future_at-blind n (Some f) s = future_gone-blind n f s

interface_at-blind : (i : ℕ) (o : Option InterfaceState) → LeavesBlind (λ s. interface_closed_at s i o)
interface_at-blind i None s = refl
interface_at-blind i (Some f) s = interface_gone-blind i f s

device_at-blind : (d : ℕ) (o : Option ℕ) → LeavesBlind (λ s. device_closed_at s d o)
device_at-blind d None s = refl
device_at-blind d (Some key) s = refl

-- an act for the names of a kind
abbrev ClosesBlind : (State → ℕ → State) → Type 0
ClosesBlind act = (n : ℕ) → LeavesBlind (λ s. act s n)

below-blind : (act : State → ℕ → State) → ClosesBlind act → (k : ℕ) → LeavesBlind (λ s. below act s k)
below-blind act closes zero s = refl
below-blind act closes (suc k) s = ap (λ t. act t k) (below-blind act closes k s) ∙ closes k (below act s k)

clients-close : ClosesBlind client_closed
unfolding client_closed
clients-close m s = client_at-blind m (named s.clients m) s

readers-close : ClosesBlind reader_closed
unfolding reader_closed
readers-close r s = reader_at-blind r (named s.readers r) s

writers-close : ClosesBlind writer_closed
unfolding writer_closed
writers-close w s = writer_at-blind w (named s.writers w) s

endpoints-close : ClosesBlind closed
unfolding closed
endpoints-close e s = endpoint_at-blind e (named s.endpoints e) s

futures-close : ClosesBlind future_closed_under
unfolding future_closed_under
futures-close n s = future_at-blind n (named s.futures n) s

interfaces-close : ClosesBlind interface_closed
unfolding interface_closed
interfaces-close i s = interface_at-blind i (named s.interfaces i) s

devices-close : ClosesBlind name_closed
unfolding name_closed
devices-close d s = device_at-blind d (named s.devices d) s

-- one act behind another
both-blind : (first second : State → State) → LeavesBlind first → LeavesBlind second → LeavesBlind (λ s. second (first s))
both-blind first second leaves then_leaves s = ap second (leaves s) ∙ then_leaves (first s)

streams-close : LeavesBlind streams_closed
streams-close =
    both-blind (λ s. readers_closed (clients_closed s 64) 64) (λ s. writers_closed s 64)
    (both-blind (λ s. clients_closed s 64) (λ s. readers_closed s 64) (below-blind client_closed clients-close 64)
    (below-blind reader_closed readers-close 64))
    (below-blind writer_closed writers-close 64)

all_closed-blind : LeavesBlind all_closed
unfolding all_closed
all_closed-blind =
    both-blind (λ s. interfaces_closed (futures_closed (endpoints_closed (streams_closed s) 64) 64) 64) (λ s. devices_closed s 64)
    (both-blind (λ s. futures_closed (endpoints_closed (streams_closed s) 64) 64) (λ s. interfaces_closed s 64)
    (both-blind (λ s. endpoints_closed (streams_closed s) 64) (λ s. futures_closed s 64)
    (both-blind streams_closed (λ s. endpoints_closed s 64) streams-close (below-blind closed endpoints-close 64))
    (below-blind future_closed_under futures-close 64))
    (below-blind interface_closed interfaces-close 64))
    (below-blind name_closed devices-close 64)

pub ended-blind : (s : State) → ended (bare_state s) ≡ bare (ended s)
unfolding ended
ended-blind s = ap (λ (t : State). finished t.host) (all_closed-blind s) ∙ finished-blind (all_closed s).host
