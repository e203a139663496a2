-- The lines that open something, those of devices and interfaces, and those of the tree see no place of the kernel.
use Rattle.std.proofs.Common.{Bool, Err, List, Ok, Result, ap, length, refl, ℕ, ◌∙◌, ◌≡◌}
use Rattle.std.specs.Prelude.{if◌then◌else◌, ◌&&◌}
use Rattle.usb_desc.specs.declared.types.Direction.{Direction}
use Rattle.usb_desc.specs.declared.types.Direction.TheVariants.{In, Out}
use Rattle.usb_desc.specs.declared.types.TransferType.{TransferType}
use Rattle.usb_device.specs.Futures.{fresh_future}
use Rattle.usb_device_host.specs.EndpointOpens.{as_asked, host_asked, host_tries}
use Rattle.usb_device_host.specs.HostState.{HostState}
use Rattle.usb_device_host.specs.InterfaceClaims.{claim_tried, claimed_key, host_claimed}
use Rattle.usb_device_host.specs.OnDevices.{active_of, attach_tried, detach_tried, reset_tried, set_configuration_tried, speed_tried}
use Rattle.usb_device_host.specs.OnInterfaces.{alt_setting_tried}
use Rattle.usb_device_host.specs.Opens.{host_opened, open_key}
use Rattle.usb_enum.specs.Buses.{BusFacts, buses}
use Rattle.usb_enum.specs.Devices.{DeviceFacts}
use Rattle.usb_enum.specs.Listing.{devices}
use Rattle.usb_enum.specs.Probing.{probe}
use Rattle.usb_enum_sysfs.specs.declared.sysfs.SysfsError.{SysfsError}
use Rattle.usb_error.specs.ErrorState.{ErrorState}
use Rattle.usb_script_words.specs.EndpointKinds.{direction_of, transfer_type_of}
use Rattle.usb_script_words.specs.declared.control.ControlTarget.{ControlTarget}
use Rattle.usb_session.specs.Claims.{claim_answer, claim_on, claimed_as}
use Rattle.usb_session.specs.Futures.{start_answer, start_on, with_future}
use Rattle.usb_session.specs.Hotplugs.{hotplug_answer}
use Rattle.usb_session.specs.Listings.{buses_answer, list_answer, listed, listed_buses}
use Rattle.usb_session.specs.NameCalls.{on_open}
use Rattle.usb_session.specs.Opens.{open_answer, open_path_answer, opened_as, opened_at, opened_probed}
use Rattle.usb_session.specs.Probes.{looked_for, match_answer, probe_answer, probed}
use Rattle.usb_session.specs.TreeCalls.{on_tree}
use Rattle.usb_session_beginnings.proofs.Controls.{started-blind}
use Rattle.usb_session_beginnings.proofs.Handles.{asked-blind, attached-blind, claimed-blind, configured-blind, detached-blind, handle_cloned-blind, key-blind, opened-blind, reset-blind, setting-blind, speed-blind, tried-blind}
use Rattle.usb_session_beginnings.proofs.Hosts.{bare}
use Rattle.usb_session_beginnings.proofs.States.{AnswersBlind, bar-blind, bare_answer, bare_state, free-blind, open-blind}
use Rattle.usb_session_calls.specs.Answer.{Answer, HostAnswer, at_host, condition_answer, if_open, left, ok_answer}
use Rattle.usb_session_calls.specs.Clients.{client_answer, client_on, is_idle, with_client}
use Rattle.usb_session_calls.specs.Clones.{clone_device_answer, clone_interface_answer, with_clone, with_handle}
use Rattle.usb_session_calls.specs.Controls.{bars_control, device_of_target, request_for, request_with}
use Rattle.usb_session_calls.specs.DeviceCalls.{active_line, device_called, on_device}
use Rattle.usb_session_calls.specs.Endpoints.{endpoint_answer, endpoint_as, endpoint_asked, endpoint_on}
use Rattle.usb_session_calls.specs.InterfaceCalls.{interface_called, on_interface, setting_told}
use Rattle.usb_session_calls.specs.Names.{is_free, named, set_name}
use Rattle.usb_session_calls.specs.OpenAt.{DeviceAt, InterfaceAt, device_at, interface_at}
use Rattle.usb_session_calls.specs.Readers.{inner_answer, reader_answer, reader_on, with_reader, without_reader}
use Rattle.usb_session_calls.specs.State.{Endpoint, State, with_host}
use Rattle.usb_session_calls.specs.Submits.{has_direction}
use Rattle.usb_session_calls.specs.Writers.{with_writer, without_writer, writer_answer, writer_inner_answer, writer_on}
use Rattle.usb_session_calls.specs.declared.call.DeviceCall.{DeviceCall}
use Rattle.usb_session_calls.specs.declared.call.InterfaceCall.{InterfaceCall}
use Rattle.usb_session_calls.specs.declared.call.OpenCall.{OpenCall}
use Rattle.usb_session_calls.specs.declared.call.TreeCall.{TreeCall}
use Rattle.usb_session_text.specs.Calls.{result_line}
use Rattle.usb_session_text.specs.Settings.{speed_line}
use Rattle.usb_session_tree.specs.Selecting.{matched}
use Rattle.usb_xfer.specs.declared.transfer.TransferData.{TransferData}
use Rattle.usb_session_calls.specs.declared.call.TreeCall.TheVariants as trees
use Rattle.usb_session_calls.specs.declared.call.OpenCall.TheVariants as opens
use Rattle.usb_session_calls.specs.declared.call.DeviceCall.TheVariants as device_calls
use Rattle.usb_session_calls.specs.declared.call.InterfaceCall.TheVariants as interface_calls
use Rattle.usb_script_words.specs.declared.control.ControlTarget.TheVariants as targets

-- what is asked of the tree
listed-blind : (r : Result (List DeviceFacts) ErrorState) → AnswersBlind (λ s. listed s r)
listed-blind (Ok found) s = refl
listed-blind (Err error) s = refl

listed_buses-blind : (r : Result (List BusFacts) ErrorState) → AnswersBlind (λ s. listed_buses s r)
listed_buses-blind (Ok found) s = refl
listed_buses-blind (Err error) s = refl

probed-blind : (r : Result DeviceFacts SysfsError) → AnswersBlind (λ s. probed s r)
probed-blind (Ok device) s = refl
probed-blind (Err error) s = refl

looked_for-blind : (r : Result Bool SysfsError) → AnswersBlind (λ s. looked_for s r)
looked_for-blind (Ok is_match) s = refl
looked_for-blind (Err error) s = refl

pub on_tree-blind : (call : TreeCall) → AnswersBlind (λ s. on_tree s call)
unfolding list_answer buses_answer probe_answer match_answer hotplug_answer
on_tree-blind trees.List s = listed-blind (devices s.tree) s
on_tree-blind trees.Buses s = listed_buses-blind (buses s.tree) s
on_tree-blind (trees.Probe path) s = probed-blind (probe s.tree path) s
on_tree-blind (trees.Match path selector) s = looked_for-blind (matched s.tree path selector) s
on_tree-blind trees.Hotplug s = refl

-- devices and interfaces are opened
opened_as-blind : (d : ℕ) (r : Result ℕ ErrorState) → AnswersBlind (λ s. opened_as s d r)
opened_as-blind d (Ok key) s = refl
opened_as-blind d (Err error) s = refl

opened_at-blind : (d bus address : ℕ) → AnswersBlind (λ s. opened_at s d bus address)
opened_at-blind d bus address s =
    let host = host_opened s.host bus address in
    ap (λ g. opened_as (with_host s g) d (open_key (bare s.host) bus address)) (opened-blind bus address s.host)
    ∙ (ap (opened_as (with_host s (bare host)) d) (key-blind s.host bus address)
    ∙ opened_as-blind d (open_key s.host bus address) (with_host s host))

opened_probed-blind : (d : ℕ) (r : Result DeviceFacts SysfsError) → AnswersBlind (λ s. opened_probed s d r)
opened_probed-blind d (Ok device) s = opened_at-blind d device.numbers.busnum device.numbers.address s
opened_probed-blind d (Err error) s = refl

claimed_as-blind : (number i : ℕ) (r : Result ℕ ErrorState) → AnswersBlind (λ s. claimed_as s number i r)
claimed_as-blind number i (Ok key) s = refl
claimed_as-blind number i (Err error) s = refl

claim_made-blind : (number i : ℕ) (reattach : Bool) (x : DeviceAt)
    → AnswersBlind (λ s. claimed_as (with_host s (host_claimed s.host x.key number reattach)) number i
    (claimed_key (length s.host.interfaces) (claim_tried s.host x.opened number reattach)))
claim_made-blind number i reattach x s =
    let host = host_claimed s.host x.key number reattach in
    let key = length s.host.interfaces in
    ap (λ g. claimed_as (with_host s g) number i (claimed_key key (claim_tried (bare s.host) x.opened number reattach)))
    (claimed-blind x.key number reattach s.host)
    ∙ (ap (λ r. claimed_as (with_host s (bare host)) number i (claimed_key key r)) (tried-blind s.host x.opened number reattach)
    ∙ claimed_as-blind number i (claimed_key key (claim_tried s.host x.opened number reattach)) (with_host s host))

claim_on-blind : (number i : ℕ) (reattach : Bool) (x : DeviceAt) → AnswersBlind (λ s. claim_on s number i reattach x)
claim_on-blind number i reattach x s =
    free-blind s (is_free s.interfaces i)
    (λ s. claimed_as (with_host s (host_claimed s.host x.key number reattach)) number i
    (claimed_key (length s.host.interfaces) (claim_tried s.host x.opened number reattach)))
    (claim_made-blind number i reattach x s)

-- so are endpoints
endpoint_as-blind : (e address : ℕ) (kind : TransferType) (x : InterfaceAt) (r : Result ℕ ErrorState)
    → AnswersBlind (λ s. endpoint_as s e address kind x r)
endpoint_as-blind e address kind x (Ok maximum) s = refl
endpoint_as-blind e address kind x (Err error) s = refl

endpoint_asked-blind : (s : State) (e address : ℕ) (kind : TransferType) (direction : Direction) (x : InterfaceAt) (host : HostState)
    → endpoint_asked s e address kind direction x (bare host) ≡ bare_answer (endpoint_asked s e address kind direction x host)
unfolding host_tries
endpoint_asked-blind s e address kind direction x host =
    endpoint_as-blind e address kind x (host_tries host x.handle.key x.claimed address kind direction) (with_host s host)

endpoint_on-blind : (e address : ℕ) (kind : TransferType) (direction : Direction) (x : InterfaceAt)
    → AnswersBlind (λ s. endpoint_on s e address kind direction x)
endpoint_on-blind e address kind direction x s =
    free-blind s (is_free s.endpoints e) (λ s. endpoint_asked s e address kind direction x (host_asked s.host x.claimed.opened))
    (ap (endpoint_asked s e address kind direction x) (asked-blind x.claimed.opened s.host)
    ∙ endpoint_asked-blind s e address kind direction x (host_asked s.host x.claimed.opened))

-- readers, writers and clients are made of them
reader_on-blind : (r e size : ℕ) (h : Endpoint) → AnswersBlind (λ s. reader_on s r e size h)
reader_on-blind r e size h s =
    free-blind s (is_free s.readers r) (λ s. if has_direction In h.state then ok_answer (with_reader s r e size h) else condition_answer s)
    (free-blind s (has_direction In h.state) (λ s. ok_answer (with_reader s r e size h)) refl)

writer_on-blind : (w e size : ℕ) (h : Endpoint) → AnswersBlind (λ s. writer_on s w e size h)
writer_on-blind w e size h s =
    free-blind s (is_free s.writers w) (λ s. if has_direction Out h.state then ok_answer (with_writer s w e size h) else condition_answer s)
    (free-blind s (has_direction Out h.state) (λ s. ok_answer (with_writer s w e size h)) refl)

client_on-blind : (m a b : ℕ) (out inp : Endpoint) → AnswersBlind (λ s. client_on s m a b out inp)
client_on-blind m a b out inp s =
    free-blind s (is_free s.clients m && (is_idle Out out.state && is_idle In inp.state)) (λ s. ok_answer (with_client s m a b out inp)) refl

-- control transfers are started
start_on-blind : (n : ℕ) (request : TransferData) (timeout device : ℕ) → AnswersBlind (λ s. start_on s n request timeout device)
start_on-blind n request timeout device s =
    bar-blind s (bars_control s.host.kernel.past) (λ s. ok_answer (with_future s n request timeout device))
    (ap (λ g. ok_answer (record s { host = g; futures = set_name s.futures n (fresh_future s.host request timeout) }))
    (started-blind device request timeout s.host))

pub target-blind : (s : State) (target : ControlTarget) → device_of_target (bare_state s) target ≡ device_of_target s target
target-blind s (targets.Device d) = refl
target-blind s (targets.Interface i) = refl

pub on_target-blind : (target : ControlTarget) (call : State → ℕ → Answer) → ((n : ℕ) → AnswersBlind (λ s. call s n))
    → AnswersBlind (λ s. if_open (device_of_target s target) (call s) (condition_answer s))
on_target-blind target call blind s =
    ap (λ o. if_open o (call (bare_state s)) (condition_answer (bare_state s))) (target-blind s target)
    ∙ open-blind s (device_of_target s target) call (λ n. blind n s)

start-blind : (n : ℕ) (target : ControlTarget) (request : TransferData) (timeout : ℕ) → AnswersBlind (λ s. start_answer s n target request timeout)
unfolding start_answer
start-blind n target request timeout =
    on_target-blind target (λ s device. if is_free s.futures n then start_on s n request timeout device else condition_answer s)
    (λ device s. free-blind s (is_free s.futures n) (λ s. start_on s n request timeout device) (start_on-blind n request timeout device s))

pub on_open-blind : (call : OpenCall) → AnswersBlind (λ s. on_open s call)
unfolding open_answer open_path_answer clone_device_answer claim_answer clone_interface_answer endpoint_answer reader_answer inner_answer writer_answer writer_inner_answer client_answer
on_open-blind (opens.Device d bus address) s =
    free-blind s (is_free s.devices d) (λ s. opened_at s d bus address) (opened_at-blind d bus address s)
on_open-blind (opens.Path d path) s =
    free-blind s (is_free s.devices d) (λ s. opened_probed s d (probe s.tree path)) (opened_probed-blind d (probe s.tree path) s)
on_open-blind (opens.CloneDevice name d) s =
    open-blind s (named s.devices d) (λ s key. if is_free s.devices name then ok_answer (with_handle s name key) else condition_answer s)
    (λ key. free-blind s (is_free s.devices name) (λ s. ok_answer (with_handle s name key)) refl)
on_open-blind (opens.Claim d number i detach) s =
    open-blind s (device_at s d) (λ s. claim_on s number i detach) (λ x. claim_on-blind number i detach x s)
on_open-blind (opens.CloneInterface name i) s =
    open-blind s (named s.interfaces i) (λ s f. if is_free s.interfaces name then ok_answer (with_clone s name f) else condition_answer s)
    (λ f. free-blind s (is_free s.interfaces name) (λ s. ok_answer (with_clone s name f))
    (ap (λ g. ok_answer (record s { host = g; interfaces = set_name s.interfaces name f })) (handle_cloned-blind f.key s.host)))
on_open-blind (opens.Endpoint e i address kind) s =
    open-blind s (interface_at s i) (λ s. endpoint_on s e address (transfer_type_of kind) (direction_of kind))
    (λ x. endpoint_on-blind e address (transfer_type_of kind) (direction_of kind) x s)
on_open-blind (opens.Reader r e size) s = open-blind s (named s.endpoints e) (λ s. reader_on s r e size) (λ h. reader_on-blind r e size h s)
on_open-blind (opens.ReaderInner e r) s =
    open-blind s (named s.readers r) (λ s x. if is_free s.endpoints e then ok_answer (without_reader s e r x) else condition_answer s)
    (λ x. free-blind s (is_free s.endpoints e) (λ s. ok_answer (without_reader s e r x)) refl)
on_open-blind (opens.Writer w e size) s = open-blind s (named s.endpoints e) (λ s. writer_on s w e size) (λ h. writer_on-blind w e size h s)
on_open-blind (opens.WriterInner e w) s =
    open-blind s (named s.writers w) (λ s x. if is_free s.endpoints e then ok_answer (without_writer s e w x) else condition_answer s)
    (λ x. free-blind s (is_free s.endpoints e) (λ s. ok_answer (without_writer s e w x)) refl)
on_open-blind (opens.Client m a b) s =
    open-blind s (named s.endpoints a) (λ s out. if_open (named s.endpoints b) (client_on s m a b out) (condition_answer s))
    (λ out. open-blind s (named s.endpoints b) (λ s. client_on s m a b out) (λ inp. client_on-blind m a b out inp s))
on_open-blind (opens.ControlIn n target setup wanted timeout) s = start-blind n target (request_for setup wanted) timeout s
on_open-blind (opens.ControlOut n target setup bytes timeout) s = start-blind n target (request_with setup bytes) timeout s

-- the calls on devices and interfaces
abbrev bare_left : HostAnswer → HostAnswer
bare_left a = record a { host = bare a.host }

device_called-blind : (call : DeviceCall) (h : HostState) (x : DeviceAt) → device_called call (bare h) x ≡ bare_left (device_called call h x)
device_called-blind device_calls.Descriptor h x = refl
device_called-blind device_calls.Descriptors h x = refl
device_called-blind device_calls.ActiveConfiguration h x =
    ap (λ g. left g (active_line (active_of (as_asked h.kernel x.opened)))) (asked-blind x.key h)
device_called-blind device_calls.Speed h x = ap (λ g. left g (speed_line (speed_tried h x.opened))) (speed-blind x.key h)
device_called-blind device_calls.Reset h x = ap (λ g. left g (result_line (reset_tried h x.opened))) (reset-blind x.key h)
device_called-blind (device_calls.SetConfiguration value) h x =
    ap (λ g. left g (result_line (set_configuration_tried h x.opened value))) (configured-blind x.key value h)
device_called-blind (device_calls.DetachDriver number) h x =
    ap (λ g. left g (result_line (detach_tried h x.opened number))) (detached-blind x.key number h)
device_called-blind (device_calls.AttachDriver number) h x =
    ap (λ g. left g (result_line (attach_tried h x.opened number))) (attached-blind x.key number h)

pub on_device-blind : (d : ℕ) (call : DeviceCall) → AnswersBlind (λ s. on_device s d call)
unfolding on_device
on_device-blind d call s =
    open-blind s (device_at s d) (λ s x. at_host s (device_called call s.host x)) (λ x. ap (at_host s) (device_called-blind call s.host x))

interface_called-blind : (call : InterfaceCall) (h : HostState) (x : InterfaceAt)
    → interface_called call (bare h) x ≡ bare_left (interface_called call h x)
interface_called-blind (interface_calls.SetAltSetting setting) h x =
    ap (λ g. left g (result_line (alt_setting_tried h x.handle.key x.claimed setting))) (setting-blind x.handle.key setting h)
interface_called-blind interface_calls.GetAltSetting h x = refl
interface_called-blind interface_calls.Descriptor h x = ap (setting_told x) (asked-blind x.claimed.opened h)

pub on_interface-blind : (i : ℕ) (call : InterfaceCall) → AnswersBlind (λ s. on_interface s i call)
unfolding on_interface
on_interface-blind i call s =
    open-blind s (interface_at s i) (λ s x. at_host s (interface_called call s.host x)) (λ x. ap (at_host s) (interface_called-blind call s.host x))
