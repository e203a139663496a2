-- What reading a packet answers, step by step.
use Rattle.std.proofs.Common.{ℕ, ◌≡◌, ◌∙◌, false, length, ap, sym, refl, List, [], ◌∷◌, ◌++◌, Option, None, Ok, Err}
use Rattle.usb_desc.specs.declared.error.Fail.{Fail}
use Rattle.usb_desc.specs.declared.error.Fail.TheVariants.{Cause, Memory}
use Rattle.usb_desc.specs.declared.types.Direction.TheVariants.{In}
use Rattle.usb_desc.specs.declared.types.TransferType.TheVariants.{Bulk}
use Rattle.usb_error.specs.ErrorState.{ErrorState}
use Rattle.usb_error.specs.Outcomes.{Tried}
use Rattle.usb_device_tables.specs.History.{value_at}
use Rattle.usb_xfer.specs.BufferState.{BufferState}
use Rattle.usb_xfer.specs.declared.transfer.Completion.{Completion}
use Rattle.usb_kernel.specs.Tickets.{tickets}
use Rattle.usb_device_endpoint.specs.EndpointState.{EndpointState}
use Rattle.usb_device_endpoint.specs.Submits.{entered}
use Rattle.usb_device_endpoint.specs.Waits.{front_found, wait_next}
use Rattle.usb_device_endpoint.specs.Closes.{after_close}
use Rattle.usb_device_host.specs.HostState.{HostState}
use Rattle.usb_device_host.specs.HostCalls.{host_calls}
use Rattle.usb_device_host.specs.Handles.{handle_closed}
use Rattle.usb_device_host.specs.EndpointOpens.{fresh_endpoint, host_asked, with_endpoint}
use Rattle.usb_device.specs.HandleCalls.{OpensAndCloses}
use Rattle.usb_device.specs.InterfaceAnswers.{interface_answer}
use Rattle.example_echo.specs.Packets.{packet_read, read_on, read_at, read_by, PacketRead, ReadsPacket}
use Rattle.example_echo.proofs.ClaimLemmas.{Claims}

-- the device or its interface is refused
pub packet-refused : (h new : HostState) (error : Fail ErrorState) →
    Tried {A = Unit {0}} (Err error) (interface_answer h 1 6 0 false) → ReadsPacket h new (Err error)
unfolding packet_read
packet-refused h new (Cause error) tried = rw tried refl
packet-refused h new Memory tried = tt

-- behind the claim
packet-claimed : (h mid : HostState) (key : ℕ) → Claims h mid 1 6 key →
    packet_read h ≡ read_on mid key (value_at mid.interfaces key)
unfolding packet_read
packet-claimed h mid key claims = rw (claims.answer, ← claims.host, ← claims.key_is) refl

-- the endpoint is refused
pub endpoint-refused : (h mid new : HostState) (key : ℕ) (error : Fail ErrorState) → Claims h mid 1 6 key →
    OpensAndCloses mid new key 129 Bulk In (Err error) → ReadsPacket h new (Err error)
endpoint-refused h mid new key (Cause error) claims both =
    packet-claimed h mid key claims ∙ rw (both.opens.at, both.opens.tried) refl
endpoint-refused h mid new key Memory claims both = tt

read-same : (a b : HostState) (x y : EndpointState) → a ≡ b → x ≡ y → read_at a x ≡ read_at b y
read-same a b x y host endpoint = ap (λ (h : HostState). read_at h x) host ∙ ap (read_at b) endpoint

-- it is opened
pub endpoint-opened : (h mid new : HostState) (key : ℕ) (e : EndpointState) → Claims h mid 1 6 key →
    OpensAndCloses mid new key 129 Bulk In (Ok e) → packet_read h ≡ Ok (read_at new e)
endpoint-opened h mid new key e claims both =
    let c = both.opens.interface in
    let opened = with_endpoint (host_asked mid c.opened) key 129 in
    let host : handle_closed opened key ≡ new = sym (both.closed ∙ ap (λ (h : HostState). handle_closed h key) both.opens.ok) in
    packet-claimed h mid key claims
    ∙ rw (both.opens.at, both.opens.tried)
    (ap Ok (read-same (handle_closed opened key) new (fresh_endpoint c 129 Bulk e.maximum (length mid.endpoints)) e host (sym both.opens.endpoint)))

read-in : Option Completion → HostState → PacketRead
read-in found h = record { completion = found; host = h }

-- and a buffer is handed in there, and waited for
pub packet-came : (h1 h2 h3 h4 : HostState) (e e1 e2 : EndpointState) (b : BufferState) (found : Option Completion) →
    b ≡ record { bytes = []; requested = 64; room = 64 } → e.pending ≡ [] →
    e1 ≡ record e { pending = e.pending ++ length (tickets h1.kernel.past) ∷ [] } → h2 ≡ entered host_calls h1 e None b →
    wait_next host_calls 1000000000 h2 e1 ≡ front_found found h3 e2 → h4 ≡ after_close host_calls h3 e2 →
    read_at h1 e ≡ record { completion = found; host = h4 }
unfolding read_at read-in
packet-came h1 h2 h3 h4 e e1 e2 b found buffer none pending entered_is came closed =
    let first : EndpointState = record e { pending = length (tickets h1.kernel.past) ∷ [] } in
    let e1_is : e1 ≡ first = pending ∙ ap (λ (ts : List ℕ). record e { pending = ts ++ length (tickets h1.kernel.past) ∷ [] }) none in
    let h2_is = entered_is ∙ ap (entered host_calls h1 e None) buffer in
    let polled : wait_next host_calls 1000000000 (entered host_calls h1 e None (record { bytes = []; requested = 64; room = 64 })) first ≡ front_found found h3 e2 =
    ap (λ (h : HostState). wait_next host_calls 1000000000 h first) (sym h2_is) ∙ (ap (wait_next host_calls 1000000000 h2) (sym e1_is) ∙ came) in
    ap read_by polled ∙ ap (λ (h : HostState). read-in found h) (sym closed)
