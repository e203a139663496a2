-- The journal goes on over each call of a session, whatever it answers, and over its end.
use Rattle.std.proofs.Common.{◌≡◌, ℕ, zero, suc, List, [], ◌∷◌, map, false, Option, Some, None, refl, ap, sym, ◌∙◌, subst}
use Rattle.std.specs.Option.{option_map}
use Rattle.usb_device_tables.specs.History.{value_at}
use Rattle.usb_kernel_devices.specs.declared.step.KernelStep.{KernelStep}
use Rattle.usb_kernel.specs.declared.event.Event.{Event}
use Rattle.usb_kernel.specs.Extends.{Extends}
use Rattle.usb_kernel.proofs.Extends.{extends-same, extends-trans}
use Rattle.usb_device_endpoint.specs.BusState.{BusState}
use Rattle.usb_device_endpoint.specs.EndpointState.{EndpointState}
use Rattle.usb_device_ledger.specs.Entries.{ClaimedInterface}
use Rattle.usb_device_host.specs.HostState.{HostState}
use Rattle.usb_device_host.specs.HostTurns.{host_rest}
use Rattle.usb_device_host.specs.Finishes.{finished}
use Rattle.usb_device_host.specs.EndpointOpens.{host_asked, with_endpoint}
use Rattle.usb_device_host.specs.OnInterfaces.{alt_setting_set}
use Rattle.usb_device_host.proofs.FollowLemmas.{on-finished, on-handle_closed}
use Rattle.usb_device_host.proofs.WaitFrames.{went-rest}
use Rattle.usb_device_host.specs.HandleStates.{InterfaceState}
use Rattle.usb_device.specs.Futures.{FutureState}
use Rattle.usb_device.proofs.FutureFrames.{stays-closed}
use Rattle.usb_io.specs.Readers.{ReaderState}
use Rattle.usb_io.specs.Writers.{WriterState}
use Rattle.usb_msg.specs.Clients.{ClientState}
use Rattle.usb_device_endpoint.specs.Closes.{after_close}
use Rattle.usb_device_host.specs.HostCalls.{host_calls}
use Rattle.usb_session_calls.specs.declared.call.DeviceCall.{DeviceCall}
use Rattle.usb_session_calls.specs.declared.call.DeviceCall.TheVariants.{Descriptor, Descriptors, ActiveConfiguration, Speed, SetConfiguration, Reset, DetachDriver, AttachDriver}
use Rattle.usb_session_calls.specs.declared.call.InterfaceCall.{InterfaceCall}
use Rattle.usb_session_calls.specs.declared.call.InterfaceCall.TheVariants as on
use Rattle.usb_session_calls.specs.Names.{named}
use Rattle.usb_session_calls.specs.State.{State, Endpoint, Reader, Writer, Client}
use Rattle.usb_session_calls.specs.OpenAt.{DeviceAt, interface_with}
use Rattle.usb_session_calls.specs.DeviceCalls.{device_called}
use Rattle.usb_session_calls.specs.InterfaceCalls.{interface_called}
use Rattle.usb_session_calls.specs.Closes.{closed, closed_at}
use Rattle.usb_session_calls.specs.Readers.{reader_closed, reader_closed_at}
use Rattle.usb_session_calls.specs.Writers.{writer_closed, writer_closed_at}
use Rattle.usb_session_calls.specs.Clients.{client_closed, client_closed_at}
use Rattle.usb_session_calls.specs.Steps.{stepped_all}
use Rattle.usb_session_calls.specs.SessionState.{SessionState}
use Rattle.usb_session_calls.specs.Relation.{Represents}
use Rattle.usb_session.specs.Below.{below}
use Rattle.usb_session.specs.Ends.{future_closed_at, future_closed_under, interface_closed_at, interface_closed, device_closed_at, name_closed, clients_closed, readers_closed, writers_closed, endpoints_closed, futures_closed, interfaces_closed, devices_closed, all_closed, ended}
use Rattle.usb_session_calls.proofs.Answering.{host_is}
use Rattle.usb_session_calls.proofs.DeviceHosts.{asked-aside, speed-aside, configured-aside, reset-handles, detached-aside, attached-aside}
use Rattle.usb_session_calls.proofs.HandleHosts.{KeepsBeside, setting-keeps}
use Rattle.usb_session.proofs.Does.{quiet-stepped}
use Rattle.usb_session.proofs.OrderLemmas.{left-past}

-- what the parts of a session (s) tell of its journal, its value (whole) tells
pub later-by : {s whole : SessionState} (now : List Event) → s ≡ whole → Extends s.host.kernel.past now → Extends whole.host.kernel.past now
later-by now view goes = subst (λ (v : SessionState). Extends v.host.kernel.past now) view goes

pub later-past : {s whole : SessionState} (now : List Event) → s ≡ whole → now ≡ s.host.kernel.past → Extends whole.host.kernel.past now
later-past now view is = later-by now view (record { more = []; is = is })

pub later-same : {s whole : SessionState} → s ≡ whole → Extends whole.host.kernel.past s.host.kernel.past
later-same {s = s} view = later-past s.host.kernel.past view refl

-- beside interfaces a host is as it was
pub past-beside : (h now host : HostState) → now ≡ host → KeepsBeside h host → now.kernel.past ≡ h.kernel.past
past-beside h now host is keeps = ap (λ (g : HostState). g.kernel.past) is ∙ ap (λ (b : BusState). b.past) keeps.bus

-- the kernel is asked for a configuration, and an endpoint is opened
pub asked-past : (h now : HostState) (key : ℕ) → now ≡ host_asked h key → now.kernel.past ≡ h.kernel.past
asked-past h now key is = ap (λ (g : HostState). g.kernel.past) is ∙ (asked-aside h key).past

pub opened-past : (h now : HostState) (key i address : ℕ) → now ≡ with_endpoint (host_asked h key) i address → now.kernel.past ≡ h.kernel.past
opened-past h now key i address is = ap (λ (g : HostState). g.kernel.past) is ∙ (asked-aside h key).past

-- calls on an open device
called-goes : (call : DeviceCall) (h : HostState) (x : DeviceAt) → Extends h.kernel.past (device_called call h x).host.kernel.past
called-goes Descriptor h x = extends-same h.kernel.past
called-goes Descriptors h x = extends-same h.kernel.past
called-goes ActiveConfiguration h x = (asked-aside h x.key).handles.goes
called-goes Speed h x = (speed-aside h x.key).handles.goes
called-goes (SetConfiguration value) h x = (configured-aside h x.key value).handles.goes
called-goes Reset h x = (reset-handles h x.key).goes
called-goes (DetachDriver number) h x = (detached-aside h x.key number).handles.goes
called-goes (AttachDriver number) h x = (attached-aside h x.key number).handles.goes

pub device-later : {s whole : SessionState} (now : HostState) (call : DeviceCall) (x : DeviceAt) → s ≡ whole → now ≡ (device_called call s.host x).host → Extends whole.host.kernel.past now.kernel.past
device-later {s = s} now call x view is =
    later-by now.kernel.past view (subst (λ (h : HostState). Extends s.host.kernel.past h.kernel.past) (sym is) (called-goes call s.host x))

-- and on a claimed interface
pub interface-past : (h now : HostState) (call : InterfaceCall) (f : InterfaceState) (c : ClaimedInterface) → value_at h.interfaces f.key ≡ Some c → now ≡ (interface_called call h (interface_with f c)).host → now.kernel.past ≡ h.kernel.past
interface-past h now (on.SetAltSetting setting) f c at is = past-beside h now (alt_setting_set h f.key setting) is (setting-keeps h f.key setting c at)
interface-past h now on.GetAltSetting f c at is = ap (λ (g : HostState). g.kernel.past) is
interface-past h now on.Descriptor f c at is = asked-past h now c.opened is

-- the steps of a line are lent, a call is made, and the rest of them is applied
pub later-lent : {s whole : SessionState} (steps : List KernelStep) (at now last : HostState) → s ≡ whole → at ≡ record s.host { steps = steps } → Extends at.kernel.past now.kernel.past → last ≡ host_rest now → Extends whole.host.kernel.past last.kernel.past
later-lent {s = s} steps at now last view is goes rest =
    let lent : Extends s.host.kernel.past now.kernel.past = subst (λ (h : HostState). Extends h.kernel.past now.kernel.past) is goes in
    let all = extends-trans s.host.kernel.past now.kernel.past (host_rest now).kernel.past lent (went-rest now).later.past in
    later-by last.kernel.past view (subst (λ (h : HostState). Extends s.host.kernel.past h.kernel.past) (sym rest) all)

-- a state for which a session stands: one in which nothing was taken, and no stream tells what it did
fresh_endpoint : EndpointState → Endpoint
fresh_endpoint x = record { state = x; taken = []; was_streamed = false }

fresh_reader : ReaderState → Reader
fresh_reader x = record { state = x; before = []; taken = []; given = []; consumed = None }

fresh_writer : WriterState → Writer
fresh_writer x = record { state = x; taken = []; calls = None }

fresh_client : ClientState → Client
fresh_client x = record { state = x; before_out = []; sent = []; before_in = []; received = []; requests = []; responses = [] }

seen-back : {X Y : Type 0} (see : X → Y) (make : Y → X) → ((y : Y) → see (make y) ≡ y) → (o : Option Y) → option_map see (option_map make o) ≡ o
seen-back see make back None = refl
seen-back see make back (Some y) = ap (λ z. Some z) (back y)

all-back : {X Y : Type 0} (see : X → Y) (make : Y → X) → ((y : Y) → see (make y) ≡ y) → (ys : List (Option Y)) → map (option_map see) (map (option_map make) ys) ≡ ys
all-back see make back [] = refl
all-back see make back (o ∷ ys) = ap (λ p. p ∷ map (option_map see) (map (option_map make) ys)) (seen-back see make back o) ∙ ap (λ l. o ∷ l) (all-back see make back ys)

state_behind : SessionState → State
state_behind s =
    record {
      host = s.host;
      devices = s.devices;
      interfaces = s.interfaces;
      endpoints = map (option_map fresh_endpoint) s.endpoints;
      readers = map (option_map fresh_reader) s.readers;
      writers = map (option_map fresh_writer) s.writers;
      clients = map (option_map fresh_client) s.clients;
      futures = s.futures;
      tree = s.tree;
      packets = s.packets;
    }

same-parts : (s : SessionState) (es : List (Option EndpointState)) (rs : List (Option ReaderState)) (ws : List (Option WriterState)) (cs : List (Option ClientState)) → es ≡ s.endpoints → rs ≡ s.readers → ws ≡ s.writers → cs ≡ s.clients → s ≡ record s { endpoints = es; readers = rs; writers = ws; clients = cs }
same-parts s es rs ws cs endpoints readers writers clients = rw (endpoints, readers, writers, clients) refl

stands-behind : (s : SessionState) → Represents s (state_behind s)
unfolding state_behind fresh_endpoint fresh_reader fresh_writer fresh_client
stands-behind s =
    same-parts s _ _ _ _ (all-back (λ (x : Endpoint). x.state) fresh_endpoint (λ y. refl) s.endpoints)
    (all-back (λ (x : Reader). x.state) fresh_reader (λ y. refl) s.readers)
    (all-back (λ (x : Writer). x.state) fresh_writer (λ y. refl) s.writers)
    (all-back (λ (x : Client). x.state) fresh_client (λ y. refl) s.clients)

-- so what takes each such state to one whose journal goes on has the session's journal go on
abbrev pub GoesOn : (State → State) → Type 0
GoesOn act = (state : State) → Extends state.host.kernel.past (act state).host.kernel.past

pub later-stands : (old new : SessionState) (act : State → State) → GoesOn act → ((state : State) → Represents old state → Represents new (act state)) → Extends old.host.kernel.past new.host.kernel.past
later-stands old new act goes stands =
    let state = state_behind old in
    let r = stands-behind old in
    let here : old.host ≡ state.host = host_is old state r in
    let there : new.host ≡ (act state).host = host_is new (act state) (stands state r) in
    subst (λ (h : HostState). Extends h.kernel.past new.host.kernel.past) (sym here)
    (subst (λ (h : HostState). Extends state.host.kernel.past h.kernel.past) (sym there) (goes state))

-- the steps of a line
pub stepped-goes : (steps : List KernelStep) → GoesOn (λ state. stepped_all state steps)
stepped-goes steps state = (quiet-stepped state steps).keeps.past

-- what is open under a name is closed, if anything is
closed_at-goes : (state : State) (e : ℕ) (o : Option Endpoint) → Extends state.host.kernel.past (closed_at state e o).host.kernel.past
closed_at-goes state e None = extends-same state.host.kernel.past
closed_at-goes state e (Some h) = left-past state.host h.state

pub closed-goes : (e : ℕ) → GoesOn (λ state. closed state e)
unfolding closed
closed-goes e state = closed_at-goes state e (named state.endpoints e)

reader_closed_at-goes : (state : State) (r : ℕ) (o : Option Reader) → Extends state.host.kernel.past (reader_closed_at state r o).host.kernel.past
reader_closed_at-goes state r None = extends-same state.host.kernel.past
reader_closed_at-goes state r (Some x) = left-past state.host x.state.endpoint

pub reader_closed-goes : (r : ℕ) → GoesOn (λ state. reader_closed state r)
unfolding reader_closed
reader_closed-goes r state = reader_closed_at-goes state r (named state.readers r)

writer_closed_at-goes : (state : State) (w : ℕ) (o : Option Writer) → Extends state.host.kernel.past (writer_closed_at state w o).host.kernel.past
writer_closed_at-goes state w None = extends-same state.host.kernel.past
writer_closed_at-goes state w (Some x) = left-past state.host x.state.endpoint

pub writer_closed-goes : (w : ℕ) → GoesOn (λ state. writer_closed state w)
unfolding writer_closed
writer_closed-goes w state = writer_closed_at-goes state w (named state.writers w)

client_closed_at-goes : (state : State) (m : ℕ) (o : Option Client) → Extends state.host.kernel.past (client_closed_at state m o).host.kernel.past
client_closed_at-goes state m None = extends-same state.host.kernel.past
client_closed_at-goes state m (Some x) =
    let mid = after_close host_calls state.host x.state.writer.endpoint in
    extends-trans state.host.kernel.past mid.kernel.past (after_close host_calls mid x.state.reader.endpoint).kernel.past (left-past state.host x.state.writer.endpoint) (left-past mid x.state.reader.endpoint)

pub client_closed-goes : (m : ℕ) → GoesOn (λ state. client_closed state m)
unfolding client_closed
client_closed-goes m state = client_closed_at-goes state m (named state.clients m)

future_closed_at-goes : (state : State) (n : ℕ) (o : Option FutureState) → Extends state.host.kernel.past (future_closed_at state n o).host.kernel.past
future_closed_at-goes state n None = extends-same state.host.kernel.past
future_closed_at-goes state n (Some f) = (stays-closed state.host f).past

pub future_closed-goes : (n : ℕ) → GoesOn (λ state. future_closed_under state n)
unfolding future_closed_under
future_closed-goes n state = future_closed_at-goes state n (named state.futures n)

interface_closed_at-goes : (state : State) (i : ℕ) (o : Option InterfaceState) → Extends state.host.kernel.past (interface_closed_at state i o).host.kernel.past
interface_closed_at-goes state i None = extends-same state.host.kernel.past
interface_closed_at-goes state i (Some f) = (on-handle_closed state.host f.key).past

pub interface_closed-goes : (i : ℕ) → GoesOn (λ state. interface_closed state i)
unfolding interface_closed
interface_closed-goes i state = interface_closed_at-goes state i (named state.interfaces i)

device_closed_at-goes : (state : State) (d : ℕ) (o : Option ℕ) → Extends state.host.kernel.past (device_closed_at state d o).host.kernel.past
device_closed_at-goes state d None = extends-same state.host.kernel.past
device_closed_at-goes state d (Some key) = extends-same state.host.kernel.past

pub name_closed-goes : (d : ℕ) → GoesOn (λ state. name_closed state d)
unfolding name_closed
name_closed-goes d state = device_closed_at-goes state d (named state.devices d)

-- one act after another
below-goes : (act : State → ℕ → State) → ((n : ℕ) → GoesOn (λ state. act state n)) → (k : ℕ) → GoesOn (λ state. below act state k)
below-goes act goes zero state = extends-same state.host.kernel.past
below-goes act goes (suc k) state =
    let before = below act state k in
    extends-trans state.host.kernel.past before.host.kernel.past (act before k).host.kernel.past (below-goes act goes k state) (goes k before)

-- the end of a session
all_closed-goes : GoesOn all_closed
unfolding all_closed
all_closed-goes state =
    let messaged = clients_closed state 64 in
    let read = readers_closed messaged 64 in
    let written = writers_closed read 64 in
    let closed_ = endpoints_closed written 64 in
    let parted = futures_closed closed_ 64 in
    let released = interfaces_closed parted 64 in
    let last = devices_closed released 64 in
    extends-trans state.host.kernel.past messaged.host.kernel.past last.host.kernel.past (below-goes client_closed client_closed-goes 64 state)
    (extends-trans messaged.host.kernel.past read.host.kernel.past last.host.kernel.past (below-goes reader_closed reader_closed-goes 64 messaged)
    (extends-trans read.host.kernel.past written.host.kernel.past last.host.kernel.past (below-goes writer_closed writer_closed-goes 64 read)
    (extends-trans written.host.kernel.past closed_.host.kernel.past last.host.kernel.past (below-goes closed closed-goes 64 written)
    (extends-trans closed_.host.kernel.past parted.host.kernel.past last.host.kernel.past (below-goes future_closed_under future_closed-goes 64 closed_)
    (extends-trans parted.host.kernel.past released.host.kernel.past last.host.kernel.past (below-goes interface_closed interface_closed-goes 64 parted)
    (below-goes name_closed name_closed-goes 64 released))))))

ended-goes : (state : State) → Extends state.host.kernel.past (ended state).kernel.past
unfolding ended
ended-goes state =
    extends-trans state.host.kernel.past (all_closed state).host.kernel.past (finished (all_closed state).host).kernel.past (all_closed-goes state) (on-finished (all_closed state).host).past

pub later-ended : (s : SessionState) (last : HostState) → ((state : State) → Represents s state → last ≡ ended state) → Extends s.host.kernel.past last.kernel.past
later-ended s last ends =
    let state = state_behind s in
    let r = stands-behind s in
    subst (λ (h : HostState). Extends h.kernel.past last.kernel.past) (sym (host_is s state r))
    (subst (λ (h : HostState). Extends state.host.kernel.past h.kernel.past) (sym (ends state r)) (ended-goes state))
