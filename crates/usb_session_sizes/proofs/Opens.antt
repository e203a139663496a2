-- A session stays bounded over what is opened and closed, over the calls on handles, and over what is asked of the tree.
use Rattle.std.proofs.Common.{ℕ, ◌≤◌, ◌<◌, ◌%◌, arith, Bool, List, [], length, Option, Some, None, Result, Ok, Err}
use Rattle.std.specs.Prelude.{◌&&◌, ◌==◌, not, if◌then◌else◌}
use Rattle.std.proofs.lemmas.Bool.{cond_both}
use Rattle.std.proofs.lemmas.Nat.{mod_below}
use Rattle.usb_desc.specs.Fields.{direction_of_address, transfer_type, max_packet_size, max_packet_size_raw}
use Rattle.usb_desc.specs.declared.types.Direction.{Direction}
use Rattle.usb_desc.specs.declared.types.Direction.TheVariants.{In, Out}
use Rattle.usb_desc.specs.declared.types.TransferType.{TransferType}
use Rattle.usb_xfer.specs.Transfers.{data_held}
use Rattle.usb_xfer.specs.declared.transfer.TransferData.{TransferData}
use Rattle.usb_error.specs.ErrorState.{ErrorState}
use Rattle.usb_error.specs.Errors.{wrong_direction_error, wrong_type_error, no_packet_size_error, endpoint_in_use_error, interface_in_use_error}
use Rattle.usb_device_tables.specs.History.{value_at}
use Rattle.usb_device_endpoint.specs.Closes.{after_close}
use Rattle.usb_device_host.specs.EndpointOpens.{endpoint_in, host_asked, host_tries}
use Rattle.usb_device_host.specs.EndpointRefusals.{same_direction, is_type, endpoint_tried}
use Rattle.usb_device_host.specs.HostCalls.{host_calls}
use Rattle.usb_device_host.specs.HostState.{HostState}
use Rattle.usb_device_host.specs.InterfaceClaims.{claim_tried, claimed_key, host_claimed}
use Rattle.usb_device_host.specs.Opens.{host_opened, open_key}
use Rattle.usb_device_host.specs.Owners.{is_in_use, is_shared}
use Rattle.usb_device.specs.Futures.{FutureState}
use Rattle.usb_enum.specs.Buses.{BusFacts, buses}
use Rattle.usb_enum.specs.Devices.{DeviceFacts}
use Rattle.usb_enum.specs.Listing.{devices}
use Rattle.usb_enum.specs.Probing.{probe}
use Rattle.usb_enum_sysfs.specs.declared.sysfs.SysfsError.{SysfsError}
use Rattle.usb_script_words.specs.EndpointKinds.{transfer_type_of, direction_of}
use Rattle.usb_script_words.specs.declared.control.ControlTarget.{ControlTarget}
use Rattle.usb_session_tree.specs.Selecting.{matched}
use Rattle.usb_session_calls.specs.declared.call.TreeCall.{TreeCall}
use Rattle.usb_session_calls.specs.declared.call.TreeCall.TheVariants as trees
use Rattle.usb_session_calls.specs.declared.call.OpenCall.{OpenCall}
use Rattle.usb_session_calls.specs.declared.call.OpenCall.TheVariants as opens
use Rattle.usb_session_calls.specs.declared.call.CloseCall.{CloseCall}
use Rattle.usb_session_calls.specs.declared.call.CloseCall.TheVariants as closes
use Rattle.usb_session_calls.specs.declared.call.DeviceCall.{DeviceCall}
use Rattle.usb_session_calls.specs.declared.call.DeviceCall.TheVariants as asks
use Rattle.usb_session_calls.specs.declared.call.InterfaceCall.{InterfaceCall}
use Rattle.usb_session_calls.specs.declared.call.InterfaceCall.TheVariants as settings
use Rattle.usb_session_calls.specs.Names.{named, is_free}
use Rattle.usb_session_calls.specs.State.{State, Endpoint, Reader, Writer, Client, endpoint_of_reader, endpoint_of_writer, with_host}
use Rattle.usb_session_calls.specs.Answer.{ok_answer, error_answer, condition_answer, at_host, if_open}
use Rattle.usb_session_calls.specs.OpenAt.{DeviceAt, InterfaceAt, device_at, interface_at}
use Rattle.usb_session_calls.specs.Clones.{with_handle, clone_device_answer, with_clone, clone_interface_answer}
use Rattle.usb_session_calls.specs.Closes.{without_endpoint, close_answer, without_future, close_future_answer, without_device, close_device_answer, without_interface, close_interface_answer, release_on, release_answer}
use Rattle.usb_session_calls.specs.Controls.{device_of_target, bars_control, request_for, request_with}
use Rattle.usb_session_calls.specs.DeviceCalls.{device_called, on_device}
use Rattle.usb_session_calls.specs.InterfaceCalls.{interface_called, on_interface}
use Rattle.usb_session_calls.specs.Endpoints.{endpoint_as, endpoint_asked, endpoint_on, endpoint_answer}
use Rattle.usb_session_calls.specs.Submits.{has_direction}
use Rattle.usb_session_calls.specs.Readers.{with_reader, reader_on, reader_answer, without_reader, inner_answer, closed_reader, close_reader_answer}
use Rattle.usb_session_calls.specs.Writers.{with_writer, writer_on, writer_answer, without_writer, writer_inner_answer, closed_writer, close_writer_answer}
use Rattle.usb_session_calls.specs.Clients.{is_idle, with_client, client_on, client_answer, closed_client, close_client_answer}
use Rattle.usb_session.specs.Claims.{claimed_as, claim_on, claim_answer}
use Rattle.usb_session.specs.Futures.{with_future, start_on, start_answer}
use Rattle.usb_session.specs.Hotplugs.{hotplug_answer}
use Rattle.usb_session.specs.Listings.{listed, list_answer, listed_buses, buses_answer}
use Rattle.usb_session.specs.NameCalls.{on_open, on_close}
use Rattle.usb_session.specs.Opens.{opened_as, opened_at, open_answer, opened_probed, open_path_answer}
use Rattle.usb_session.specs.Probes.{probed, probe_answer, looked_for, match_answer}
use Rattle.usb_session.specs.TreeCalls.{on_tree}
use Rattle.usb_session_sizes.proofs.CallSizes.{IsOpenSized}
use Rattle.usb_session_sizes.proofs.Controls.{future_closed-bounded}
use Rattle.usb_session_sizes.proofs.Fits.{named-fits, freed-fits, set-fits}
use Rattle.usb_session_sizes.proofs.Handles.{asked-bounded, opened-bounded, claimed-bounded, handle_closed-bounded, handle_cloned-bounded, speed-bounded, configured-bounded, detached-bounded, attached-bounded, setting-bounded}
use Rattle.usb_session_sizes.proofs.Hosts.{IsHostBounded, close-bounded, reset-bounded, started-bounded}
use Rattle.usb_session_sizes.proofs.Journals.{IsBufferSized}
use Rattle.usb_session_sizes.proofs.Sizes.{rounded-sized}
use Rattle.usb_session_sizes.proofs.States.{EndpointFits, ReaderFits, WriterFits, ClientFits, IsStateBounded, IsAnswerBounded, named-bounded, any-bounded, free-bounded, bar-bounded, either-bounded}

-- what is asked of the tree
listed-bounded : (state : State) (r : Result (List DeviceFacts) ErrorState) → IsStateBounded state → IsAnswerBounded (listed state r)
listed-bounded state (Ok found) is = is
listed-bounded state (Err error) is = is

listed_buses-bounded : (state : State) (r : Result (List BusFacts) ErrorState) → IsStateBounded state → IsAnswerBounded (listed_buses state r)
listed_buses-bounded state (Ok found) is = is
listed_buses-bounded state (Err error) is = is

probed-bounded : (state : State) (r : Result DeviceFacts SysfsError) → IsStateBounded state → IsAnswerBounded (probed state r)
probed-bounded state (Ok device) is = is
probed-bounded state (Err error) is = is

looked_for-bounded : (state : State) (r : Result Bool SysfsError) → IsStateBounded state → IsAnswerBounded (looked_for state r)
looked_for-bounded state (Ok is_match) is = is
looked_for-bounded state (Err error) is = is

pub on_tree-bounded : (state : State) (call : TreeCall) → IsStateBounded state → IsAnswerBounded (on_tree state call)
unfolding list_answer buses_answer probe_answer match_answer hotplug_answer
on_tree-bounded state trees.List is = listed-bounded state (devices state.tree) is
on_tree-bounded state trees.Buses is = listed_buses-bounded state (buses state.tree) is
on_tree-bounded state (trees.Probe path) is = probed-bounded state (probe state.tree path) is
on_tree-bounded state (trees.Match path selector) is = looked_for-bounded state (matched state.tree path selector) is
on_tree-bounded state trees.Hotplug is = is

-- a maximum packet size has 11 bits
abbrev IsSmall : Result ℕ ErrorState → Type 0
IsSmall (Ok maximum) = maximum ≤ 2047
IsSmall (Err error) = Unit {0}

tried-small : (found : Option (List ℕ)) (address : ℕ) (kind : TransferType) (direction : Direction) (used : Bool) → IsSmall (endpoint_tried found address kind direction used)
tried-small None address kind direction used = tt
tried-small (Some e) address kind direction used =
    let below : max_packet_size_raw e % 2048 < 2048 = mod_below (max_packet_size_raw e) 2048 (omega arith) in
    let fourth : Result ℕ ErrorState = if used then Err endpoint_in_use_error else Ok (max_packet_size e) in
    let third : Result ℕ ErrorState = if max_packet_size e == 0 then Err no_packet_size_error else fourth in
    let second : Result ℕ ErrorState = if not (is_type (transfer_type e) kind) then Err wrong_type_error else third in
    cond_both (not (same_direction (direction_of_address address) direction)) (Err wrong_direction_error) second IsSmall (λ wrong. tt)
    (λ right. cond_both (not (is_type (transfer_type e) kind)) (Err wrong_type_error) third IsSmall (λ other. tt)
    (λ same. cond_both (max_packet_size e == 0) (Err no_packet_size_error) fourth IsSmall (λ none. tt)
    (λ some. cond_both used (Err endpoint_in_use_error) (Ok (max_packet_size e)) IsSmall (λ in_use. tt) (λ free. omega (arith, below)))))

-- what is opened
opened_as-bounded : (state : State) (d : ℕ) (r : Result ℕ ErrorState) → IsStateBounded state → IsAnswerBounded (opened_as state d r)
opened_as-bounded state d (Ok key) is = is
opened_as-bounded state d (Err error) is = is

opened_at-bounded : (state : State) (d bus address : ℕ) → IsStateBounded state → IsAnswerBounded (opened_at state d bus address)
opened_at-bounded state d bus address is =
    opened_as-bounded (with_host state (host_opened state.host bus address)) d (open_key state.host bus address) (opened-bounded state.host bus address is.0, is.1)

opened_probed-bounded : (state : State) (d : ℕ) (r : Result DeviceFacts SysfsError) → IsStateBounded state → IsAnswerBounded (opened_probed state d r)
opened_probed-bounded state d (Ok device) is = opened_at-bounded state d device.numbers.busnum device.numbers.address is
opened_probed-bounded state d (Err error) is = is

claimed_as-bounded : (state : State) (number i : ℕ) (r : Result ℕ ErrorState) → IsStateBounded state → IsAnswerBounded (claimed_as state number i r)
claimed_as-bounded state number i (Ok key) is = is
claimed_as-bounded state number i (Err error) is = is

claim_on-bounded : (state : State) (number i : ℕ) (reattach : Bool) (x : DeviceAt) → IsStateBounded state → IsAnswerBounded (claim_on state number i reattach x)
claim_on-bounded state number i reattach x is =
    let host = host_claimed state.host x.key number reattach in
    let tried = claimed_key (length state.host.interfaces) (claim_tried state.host x.opened number reattach) in
    free-bounded state (is_free state.interfaces i) (claimed_as (with_host state host) number i tried)
    (claimed_as-bounded (with_host state host) number i tried (claimed-bounded state.host x.key number reattach is.0, is.1)) is

endpoint_as-bounded : (state : State) (e address : ℕ) (kind : TransferType) (x : InterfaceAt) (r : Result ℕ ErrorState) → IsSmall r → IsStateBounded state → IsAnswerBounded (endpoint_as state e address kind x r)
endpoint_as-bounded state e address kind x (Ok maximum) small is = (is.0, (set-fits EndpointFits state.endpoints e _ small is.1.0, is.1.1, is.1.2, is.1.3))
endpoint_as-bounded state e address kind x (Err error) small is = is

endpoint_asked-bounded : (state : State) (e address : ℕ) (kind : TransferType) (direction : Direction) (x : InterfaceAt) (host : HostState) → IsHostBounded host → IsStateBounded state → IsAnswerBounded (endpoint_asked state e address kind direction x host)
unfolding host_tries
endpoint_asked-bounded state e address kind direction x host bounded is =
    endpoint_as-bounded (with_host state host) e address kind x (host_tries host x.handle.key x.claimed address kind direction)
    (tried-small (endpoint_in x.claimed address (value_at host.devices x.claimed.opened)) address kind direction (is_in_use host x.handle.key address)) (bounded, is.1)

endpoint_on-bounded : (state : State) (e address : ℕ) (kind : TransferType) (direction : Direction) (x : InterfaceAt) → IsStateBounded state → IsAnswerBounded (endpoint_on state e address kind direction x)
endpoint_on-bounded state e address kind direction x is =
    let host = host_asked state.host x.claimed.opened in
    free-bounded state (is_free state.endpoints e) (endpoint_asked state e address kind direction x host)
    (endpoint_asked-bounded state e address kind direction x host (asked-bounded state.host x.claimed.opened is.0) is) is

reader_on-bounded : (state : State) (r e size : ℕ) (h : Endpoint) → size ≤ 65536 → EndpointFits h → IsStateBounded state → IsAnswerBounded (reader_on state r e size h)
reader_on-bounded state r e size h few fits is =
    free-bounded state (is_free state.readers r) (if has_direction In h.state then ok_answer (with_reader state r e size h) else condition_answer state)
    (free-bounded state (has_direction In h.state) (ok_answer (with_reader state r e size h))
    (is.0, (freed-fits EndpointFits state.endpoints e is.1.0, set-fits ReaderFits state.readers r _ (fits, rounded-sized h.state.maximum size fits few) is.1.1, is.1.2, is.1.3)) is) is

writer_on-bounded : (state : State) (w e size : ℕ) (h : Endpoint) → size ≤ 65536 → EndpointFits h → IsStateBounded state → IsAnswerBounded (writer_on state w e size h)
writer_on-bounded state w e size h few fits is =
    free-bounded state (is_free state.writers w) (if has_direction Out h.state then ok_answer (with_writer state w e size h) else condition_answer state)
    (free-bounded state (has_direction Out h.state) (ok_answer (with_writer state w e size h))
    (is.0, (freed-fits EndpointFits state.endpoints e is.1.0, is.1.1, set-fits WriterFits state.writers w _ (fits, rounded-sized h.state.maximum size fits few, tt) is.1.2, is.1.3)) is) is

client_on-bounded : (state : State) (m a b : ℕ) (out inp : Endpoint) → EndpointFits out → EndpointFits inp → IsStateBounded state → IsAnswerBounded (client_on state m a b out inp)
client_on-bounded state m a b out inp fits fit is =
    free-bounded state (is_free state.clients m && (is_idle Out out.state && is_idle In inp.state)) (ok_answer (with_client state m a b out inp)) (
      is.0,
      (
        freed-fits EndpointFits _ b (freed-fits EndpointFits state.endpoints a is.1.0),
        is.1.1,
        is.1.2,
        set-fits ClientFits state.clients m _ ((fits, rounded-sized out.state.maximum 4160 fits (omega arith), tt), (fit, rounded-sized inp.state.maximum 512 fit (omega arith))) is.1.3,
      ),
    ) is

start-bounded : (state : State) (n : ℕ) (target : ControlTarget) (request : TransferData) (timeout : ℕ) → (data_held request.held).requested ≤ 65536 → IsBufferSized (data_held request.held) → IsStateBounded state → IsAnswerBounded (start_answer state n target request timeout)
unfolding start_answer
start-bounded state n target request timeout maximum sized is =
    any-bounded state (device_of_target state target) (λ device. if is_free state.futures n then start_on state n request timeout device else condition_answer state)
    (λ device. free-bounded state (is_free state.futures n) (start_on state n request timeout device)
    (bar-bounded state (bars_control state.host.kernel.past) (ok_answer (with_future state n request timeout device)) (started-bounded state.host device request timeout maximum sized is.0, is.1) is) is) is

-- the requests of a script
pub for-sized : (wanted : ℕ) → wanted ≤ 65535 → IsBufferSized (record { bytes = []; requested = wanted; room = wanted })
for-sized wanted few = record { requested = omega (arith, few); bytes = omega arith }

pub with-sized : (bytes : List ℕ) → length bytes ≤ 65535 → IsBufferSized (record { bytes = bytes; requested = length bytes; room = length bytes })
with-sized bytes few = record { requested = omega (arith, few); bytes = omega (arith, few) }

pub at-most : (n : ℕ) → n ≤ 65535 → n ≤ 65536
at-most n few = omega (arith, few)

pub on_open-bounded : (state : State) (call : OpenCall) → IsOpenSized call → IsStateBounded state → IsAnswerBounded (on_open state call)
unfolding open_answer open_path_answer clone_device_answer claim_answer clone_interface_answer endpoint_answer reader_answer inner_answer writer_answer writer_inner_answer client_answer
on_open-bounded state (opens.Device d bus address) sized is = free-bounded state (is_free state.devices d) (opened_at state d bus address) (opened_at-bounded state d bus address is) is
on_open-bounded state (opens.Path d path) sized is =
    free-bounded state (is_free state.devices d) (opened_probed state d (probe state.tree path)) (opened_probed-bounded state d (probe state.tree path) is) is
on_open-bounded state (opens.CloneDevice name d) sized is =
    any-bounded state (named state.devices d) (λ key. if is_free state.devices name then ok_answer (with_handle state name key) else condition_answer state)
    (λ key. free-bounded state (is_free state.devices name) (ok_answer (with_handle state name key)) is is) is
on_open-bounded state (opens.Claim d number i detach) sized is = any-bounded state (device_at state d) (claim_on state number i detach) (λ x. claim_on-bounded state number i detach x is) is
on_open-bounded state (opens.CloneInterface name i) sized is =
    any-bounded state (named state.interfaces i) (λ f. if is_free state.interfaces name then ok_answer (with_clone state name f) else condition_answer state)
    (λ f. free-bounded state (is_free state.interfaces name) (ok_answer (with_clone state name f)) (handle_cloned-bounded state.host f.key is.0, is.1) is) is
on_open-bounded state (opens.Endpoint e i address kind) sized is =
    any-bounded state (interface_at state i) (endpoint_on state e address (transfer_type_of kind) (direction_of kind)) (λ x. endpoint_on-bounded state e address (transfer_type_of kind) (direction_of kind) x is) is
on_open-bounded state (opens.Reader r e size) sized is =
    named-bounded EndpointFits state (named state.endpoints e) (reader_on state r e size) (named-fits EndpointFits state.endpoints e is.1.0) (λ h fits. reader_on-bounded state r e size h sized fits is) is
on_open-bounded state (opens.ReaderInner e r) sized is =
    named-bounded ReaderFits state (named state.readers r) (λ x. if is_free state.endpoints e then ok_answer (without_reader state e r x) else condition_answer state) (named-fits ReaderFits state.readers r is.1.1)
    (λ x fits. free-bounded state (is_free state.endpoints e) (ok_answer (without_reader state e r x))
    (is.0, (set-fits EndpointFits state.endpoints e (endpoint_of_reader x) fits.0 is.1.0, freed-fits ReaderFits state.readers r is.1.1, is.1.2, is.1.3)) is) is
on_open-bounded state (opens.Writer w e size) sized is =
    named-bounded EndpointFits state (named state.endpoints e) (writer_on state w e size) (named-fits EndpointFits state.endpoints e is.1.0) (λ h fits. writer_on-bounded state w e size h sized fits is) is
on_open-bounded state (opens.WriterInner e w) sized is =
    named-bounded WriterFits state (named state.writers w) (λ x. if is_free state.endpoints e then ok_answer (without_writer state e w x) else condition_answer state) (named-fits WriterFits state.writers w is.1.2)
    (λ x fits. free-bounded state (is_free state.endpoints e) (ok_answer (without_writer state e w x))
    (is.0, (set-fits EndpointFits state.endpoints e (endpoint_of_writer x) fits.0 is.1.0, is.1.1, freed-fits WriterFits state.writers w is.1.2, is.1.3)) is) is
on_open-bounded state (opens.Client m a b) sized is =
    named-bounded EndpointFits state (named state.endpoints a) (λ out. if_open (named state.endpoints b) (client_on state m a b out) (condition_answer state)) (named-fits EndpointFits state.endpoints a is.1.0)
    (λ out fits. named-bounded EndpointFits state (named state.endpoints b) (client_on state m a b out) (named-fits EndpointFits state.endpoints b is.1.0) (λ inp fit. client_on-bounded state m a b out inp fits fit is) is) is
on_open-bounded state (opens.ControlIn n target setup wanted timeout) sized is = start-bounded state n target (request_for setup wanted) timeout (at-most wanted sized) (for-sized wanted sized) is
on_open-bounded state (opens.ControlOut n target setup bytes timeout) sized is = start-bounded state n target (request_with setup bytes) timeout (at-most (length bytes) sized) (with-sized bytes sized) is

-- what is closed
pub endpoint_closed-bounded : (state : State) (e : ℕ) (h : Endpoint) → IsStateBounded state → IsStateBounded (without_endpoint state e h)
endpoint_closed-bounded state e h is = (close-bounded state.host h.state is.0, (freed-fits EndpointFits state.endpoints e is.1.0, is.1.1, is.1.2, is.1.3))

pub reader_closed-bounded : (state : State) (r : ℕ) (x : Reader) → IsStateBounded state → IsStateBounded (closed_reader state r x)
reader_closed-bounded state r x is = (close-bounded state.host x.state.endpoint is.0, (is.1.0, freed-fits ReaderFits state.readers r is.1.1, is.1.2, is.1.3))

pub writer_closed-bounded : (state : State) (w : ℕ) (x : Writer) → IsStateBounded state → IsStateBounded (closed_writer state w x)
writer_closed-bounded state w x is = (close-bounded state.host x.state.endpoint is.0, (is.1.0, is.1.1, freed-fits WriterFits state.writers w is.1.2, is.1.3))

pub client_closed-bounded : (state : State) (m : ℕ) (x : Client) → IsStateBounded state → IsStateBounded (closed_client state m x)
client_closed-bounded state m x is =
    let mid = after_close host_calls state.host x.state.writer.endpoint in
    (close-bounded mid x.state.reader.endpoint (close-bounded state.host x.state.writer.endpoint is.0), (is.1.0, is.1.1, is.1.2, freed-fits ClientFits state.clients m is.1.3))

pub future_gone-bounded : (state : State) (n : ℕ) (f : FutureState) → IsStateBounded state → IsStateBounded (without_future state n f)
future_gone-bounded state n f is = (future_closed-bounded state.host f is.0, is.1)

release_on-bounded : (state : State) (i : ℕ) (x : InterfaceAt) → IsStateBounded state → IsAnswerBounded (release_on state i x)
release_on-bounded state i x is =
    either-bounded (is_shared state.host x.handle.key x.claimed) (error_answer state interface_in_use_error) (ok_answer (without_interface state i x.handle)) is (handle_closed-bounded state.host x.handle.key is.0, is.1)

pub on_close-bounded : (state : State) (call : CloseCall) → IsStateBounded state → IsAnswerBounded (on_close state call)
unfolding close_device_answer close_interface_answer release_answer close_answer close_reader_answer close_writer_answer close_client_answer close_future_answer
on_close-bounded state (closes.Device d) is = any-bounded state (named state.devices d) (λ key. ok_answer (without_device state d key)) (λ key. is) is
on_close-bounded state (closes.Interface i) is = any-bounded state (named state.interfaces i) (λ f. ok_answer (without_interface state i f)) (λ f. (handle_closed-bounded state.host f.key is.0, is.1)) is
on_close-bounded state (closes.Release i) is = any-bounded state (interface_at state i) (release_on state i) (λ x. release_on-bounded state i x is) is
on_close-bounded state (closes.Endpoint e) is = any-bounded state (named state.endpoints e) (λ h. ok_answer (without_endpoint state e h)) (λ h. endpoint_closed-bounded state e h is) is
on_close-bounded state (closes.Reader r) is = any-bounded state (named state.readers r) (λ x. ok_answer (closed_reader state r x)) (λ x. reader_closed-bounded state r x is) is
on_close-bounded state (closes.Writer w) is = any-bounded state (named state.writers w) (λ x. ok_answer (closed_writer state w x)) (λ x. writer_closed-bounded state w x is) is
on_close-bounded state (closes.Client m) is = any-bounded state (named state.clients m) (λ x. ok_answer (closed_client state m x)) (λ x. client_closed-bounded state m x is) is
on_close-bounded state (closes.Future n) is = any-bounded state (named state.futures n) (λ f. ok_answer (without_future state n f)) (λ f. future_gone-bounded state n f is) is

-- calls on open devices and on claimed interfaces
device_called-bounded : (h : HostState) (call : DeviceCall) (x : DeviceAt) → IsHostBounded h → IsHostBounded (device_called call h x).host
device_called-bounded h asks.Descriptor x is = is
device_called-bounded h asks.Descriptors x is = is
device_called-bounded h asks.ActiveConfiguration x is = asked-bounded h x.key is
device_called-bounded h asks.Speed x is = speed-bounded h x.key is
device_called-bounded h (asks.SetConfiguration value) x is = configured-bounded h x.key value is
device_called-bounded h asks.Reset x is = reset-bounded h x.key is
device_called-bounded h (asks.DetachDriver number) x is = detached-bounded h x.key number is
device_called-bounded h (asks.AttachDriver number) x is = attached-bounded h x.key number is

pub on_device-bounded : (state : State) (d : ℕ) (call : DeviceCall) → IsStateBounded state → IsAnswerBounded (on_device state d call)
unfolding on_device
on_device-bounded state d call is = any-bounded state (device_at state d) (λ x. at_host state (device_called call state.host x)) (λ x. (device_called-bounded state.host call x is.0, is.1)) is

interface_called-bounded : (h : HostState) (call : InterfaceCall) (x : InterfaceAt) → IsHostBounded h → IsHostBounded (interface_called call h x).host
interface_called-bounded h (settings.SetAltSetting setting) x is = setting-bounded h x.handle.key setting is
interface_called-bounded h settings.GetAltSetting x is = is
interface_called-bounded h settings.Descriptor x is = asked-bounded h x.claimed.opened is

pub on_interface-bounded : (state : State) (i : ℕ) (call : InterfaceCall) → IsStateBounded state → IsAnswerBounded (on_interface state i call)
unfolding on_interface
on_interface-bounded state i call is = any-bounded state (interface_at state i) (λ x. at_host state (interface_called call state.host x)) (λ x. (interface_called-bounded state.host call x is.0, is.1)) is
