-- What calls on devices and interfaces do: they change no ticket.
use Rattle.std.proofs.Common.{◌≡◌, ℕ, zero, suc, length, List, Bool, false, Option, Some, None, Result, Ok, Err, refl, ap}
use Rattle.std.proofs.lemmas.Bool.{cond_both}
use Rattle.usb_device_tables.specs.History.{value_at}
use Rattle.usb_error.specs.Errors.{interface_in_use_error}
use Rattle.usb_error.specs.declared.active.ActiveConfigurationError.{ActiveConfigurationError}
use Rattle.usb_session_text.specs.Devices.{device_line}
use Rattle.usb_session_text.specs.Descriptors.{descriptors_line, setting_words, class_words}
use Rattle.usb_session_text.specs.Settings.{configuration_line, no_configuration_line, speed_line, alt_setting_line, interface_line}
use Rattle.usb_kernel.specs.Calls.{called}
use Rattle.usb_device_host.specs.HandleStates.{InterfaceState}
use Rattle.usb_device_ledger.specs.Entries.{ClaimedInterface}
use Rattle.usb_device_host.specs.HostState.{HostState}
use Rattle.usb_device_host.specs.Opens.{host_opened, open_key}
use Rattle.usb_device_host.specs.InterfaceClaims.{claim_tried, claimed_key, host_claimed}
use Rattle.usb_device_ledger.specs.Owners.{has_living}
use Rattle.usb_device_host.specs.Owners.{is_shared}
use Rattle.usb_device_host.specs.Handles.{handle_added, handle_cloned}
use Rattle.usb_device_host.specs.EndpointOpens.{as_asked, host_asked}
use Rattle.usb_device_host.specs.OnDevices.{active_of, host_speed_asked, set_configuration_tried, host_configured, reset_tried, detach_tried, host_detached, attach_tried, host_attached}
use Rattle.usb_device_host.specs.OnInterfaces.{alt_setting_tried, alt_setting_asked, alt_setting_on, alt_setting_set, current_setting}
use Rattle.usb_device_host.proofs.InterfaceFrames.{opened-is}
use Rattle.usb_device_host.proofs.CountLemmas.{claimed-count, handle_closed-count}
use Rattle.usb_device_host.proofs.FollowLemmas.{on-claimed, on-handle_closed}
use Rattle.usb_session_calls.specs.Names.{named, is_free}
use Rattle.usb_session_calls.specs.State.{State, with_host}
use Rattle.usb_session_calls.specs.declared.call.DeviceCall.{DeviceCall}
use Rattle.usb_session_calls.specs.declared.call.DeviceCall.TheVariants.{Descriptor, Descriptors, ActiveConfiguration, Speed, SetConfiguration, Reset, DetachDriver, AttachDriver}
use Rattle.usb_session_calls.specs.declared.call.InterfaceCall.{InterfaceCall}
use Rattle.usb_session_calls.specs.declared.call.InterfaceCall.TheVariants as settings
use Rattle.usb_session_calls.specs.OpenAt.{DeviceAt, InterfaceAt, device_at, interface_at}
use Rattle.usb_session_calls.specs.Answer.{at_host, ok_answer, error_answer}
use Rattle.usb_session_calls.specs.DeviceCalls.{active_line, device_called, on_device}
use Rattle.usb_session_calls.specs.InterfaceCalls.{interface_called, on_interface}
use Rattle.usb_session.specs.Opens.{opened_as, opened_at, open_answer}
use Rattle.usb_session.specs.Claims.{claimed_as, claim_answer}
use Rattle.usb_session_calls.specs.Clones.{with_handle, clone_device_answer, with_clone, clone_interface_answer}
use Rattle.usb_session_calls.specs.Closes.{close_device_answer, without_device, without_interface, close_interface_answer, release_answer}
use Rattle.usb_session.specs.Below.{below}
use Rattle.usb_session.specs.Ends.{interface_closed_at, interface_closed, interfaces_closed, device_closed_at, name_closed, devices_closed}
use Rattle.usb_session.proofs.Views.{view_of}
use Rattle.usb_session.proofs.Does.{Quiet, Does, says_done, goes, ends, free-does, try-does, quiet-aside, quiet-beside, quiet-same, quiet-then, told-does, error-does, named-does, result-other}
use Rattle.usb_session_calls.proofs.DeviceHosts.{KeepsAside, asked-aside, speed-aside, configured-aside, reset-follows, reset-count, detached-aside, attached-aside}

pub opened_at-does : (state : State) (d bus address : ℕ) → Does state (opened_at state d bus address)
opened_at-does state d bus address =
    let is = opened-is state.host bus address in
    let host = host_opened state.host bus address in
    goes (quiet-aside state (with_host state host) (ap (λ (h : HostState). h.kernel.past) is) (ap (λ (h : HostState). h.tickets) is) (λ d. refl) refl refl)
    (try-does (with_host state host) (opened_as (with_host state host) d) (open_key state.host bus address) (λ error. refl) (λ key. ends refl (quiet-beside _ _ refl refl (λ d. refl) refl refl)))

pub open-does : (state : State) (d bus address : ℕ) → Does state (open_answer state d bus address)
unfolding open_answer
open-does state d bus address = free-does state (λ free. opened_at-does state d bus address)

pub claim-does : (state : State) (d number i : ℕ) (reattach : Bool) → Does state (claim_answer state d number i reattach)
unfolding claim_answer
claim-does state d number i reattach =
    named-does state (device_at state d) _ (λ x is.
    free-does state (λ free.
    let host = host_claimed state.host x.key number reattach in
    goes (record { keeps = on-claimed state.host x.key number reattach; count = claimed-count state.host x.key number reattach; endpoints = λ d. refl; names = refl; futures = refl })
    (try-does (with_host state host) (claimed_as (with_host state host) number i) (claimed_key (length state.host.interfaces) (claim_tried state.host x.opened number reattach)) (λ error. refl)
    (λ key. ends refl (quiet-beside _ _ refl refl (λ d. refl) refl refl)))))

-- handles of devices
pub clone_device-does : (state : State) (name d : ℕ) → Does state (clone_device_answer state name d)
unfolding clone_device_answer
clone_device-does state name d =
    named-does state (named state.devices d) _ (λ key is. free-does state {free = is_free state.devices name} {call = ok_answer (with_handle state name key)} (λ free. ends refl (quiet-aside state (with_handle state name key) refl refl (λ d. refl) refl refl)))

pub close_device-does : (state : State) (d : ℕ) → Does state (close_device_answer state d)
unfolding close_device_answer
close_device-does state d = named-does state (named state.devices d) _ (λ key is. ends refl (quiet-beside _ _ refl refl (λ d. refl) refl refl))

-- calls on open devices
aside-quiet : (state : State) (host : HostState) → KeepsAside state.host host → Quiet (view_of state) (view_of (with_host state host))
aside-quiet state host keeps = quiet-aside state (with_host state host) keeps.past keeps.handles.tickets (λ e. refl) refl refl

active-other : (r : Result (List ℕ) ActiveConfigurationError) → says_done (active_line r) ≡ false
unfolding configuration_line no_configuration_line
active-other (Ok configuration) = refl
active-other (Err error) = refl

device_called-does : (state : State) (call : DeviceCall) (x : DeviceAt) → Does state (at_host state (device_called call state.host x))
unfolding device_line descriptors_line speed_line
device_called-does state Descriptor x = told-does state (device_line x.opened.device_descriptor) refl
device_called-does state Descriptors x = told-does state (descriptors_line x.opened.descriptors) refl
device_called-does state ActiveConfiguration x =
    ends (active-other (active_of (as_asked state.host.kernel x.opened))) (aside-quiet state (host_asked state.host x.key) (asked-aside state.host x.key))
device_called-does state Speed x = ends refl (aside-quiet state (host_speed_asked state.host x.key) (speed-aside state.host x.key))
device_called-does state (SetConfiguration value) x =
    ends (result-other (set_configuration_tried state.host x.opened value)) (aside-quiet state (host_configured state.host x.key value) (configured-aside state.host x.key value))
device_called-does state Reset x =
    ends (result-other (reset_tried state.host x.opened)) (record { keeps = reset-follows state.host x.key; count = reset-count state.host x.key; endpoints = λ d. refl; names = refl; futures = refl })
device_called-does state (DetachDriver number) x =
    ends (result-other (detach_tried state.host x.opened number)) (aside-quiet state (host_detached state.host x.key number) (detached-aside state.host x.key number))
device_called-does state (AttachDriver number) x =
    ends (result-other (attach_tried state.host x.opened number)) (aside-quiet state (host_attached state.host x.key number) (attached-aside state.host x.key number))

pub on_device-does : (state : State) (d : ℕ) (call : DeviceCall) → Does state (on_device state d call)
unfolding on_device
on_device-does state d call = named-does state (device_at state d) (λ x. at_host state (device_called call state.host x)) (λ x is. device_called-does state call x)

-- one more handle of an interface
cloned-quiet : (state : State) (i : ℕ) (o : Option ClaimedInterface) → Quiet (view_of state) (view_of (with_host state (handle_added state.host i o)))
cloned-quiet state i None = quiet-same state
cloned-quiet state i (Some c) = quiet-beside _ _ refl refl (λ d. refl) refl refl

pub clone_interface-does : (state : State) (name i : ℕ) → Does state (clone_interface_answer state name i)
unfolding clone_interface_answer handle_cloned
clone_interface-does state name i =
    named-does state (named state.interfaces i) _ (λ f is.
    free-does state {free = is_free state.interfaces name} {call = ok_answer (with_clone state name f)} (λ free.
    let mid = with_host state (handle_cloned state.host f.key) in
    ends refl (quiet-then (cloned-quiet state f.key (value_at state.host.interfaces f.key)) (quiet-aside mid (with_clone state name f) refl refl (λ d. refl) refl refl))))

-- a handle of an interface is closed
without_interface-quiet : (state : State) (i : ℕ) (f : InterfaceState) → Quiet (view_of state) (view_of (without_interface state i f))
without_interface-quiet state i f = record { keeps = on-handle_closed state.host f.key; count = handle_closed-count state.host f.key; endpoints = λ d. refl; names = refl; futures = refl }

pub close_interface-does : (state : State) (i : ℕ) → Does state (close_interface_answer state i)
unfolding close_interface_answer
close_interface-does state i = named-does state (named state.interfaces i) _ (λ f is. ends refl (without_interface-quiet state i f))

pub release-does : (state : State) (i : ℕ) → Does state (release_answer state i)
unfolding release_answer
release-does state i =
    named-does state (interface_at state i) _ (λ x is.
    cond_both (is_shared state.host x.handle.key x.claimed) (error_answer state interface_in_use_error) (ok_answer (without_interface state i x.handle)) (Does state)
    (λ yes_. error-does state interface_in_use_error)
    (λ no_. ends refl (without_interface-quiet state i x.handle)))

-- the alternate setting of an interface
set-quiet : (state : State) (i setting : ℕ) (o : Option ClaimedInterface) → Quiet (view_of state) (view_of (with_host state (alt_setting_on state.host i setting o)))
unfolding called
set-quiet state i setting None = quiet-same state
set-quiet state i setting (Some c) =
    cond_both (has_living state.host.tickets state.host.endpoints i) state.host (alt_setting_asked state.host i setting c) (λ (h : HostState). Quiet (view_of state) (view_of (with_host state h)))
    (λ yes_. quiet-same state)
    (λ no_. quiet-aside state (with_host state (alt_setting_asked state.host i setting c)) refl refl (λ d. refl) refl refl)

interface-other : (o : Option (List ℕ)) → says_done (interface_line o) ≡ false
unfolding setting_words class_words
interface-other None = refl
interface-other (Some setting) = refl

-- calls on claimed interfaces
interface_called-does : (state : State) (call : InterfaceCall) (x : InterfaceAt) → Does state (at_host state (interface_called call state.host x))
unfolding alt_setting_line alt_setting_set
interface_called-does state (settings.SetAltSetting setting) x =
    ends (result-other (alt_setting_tried state.host x.handle.key x.claimed setting)) (set-quiet state x.handle.key setting (value_at state.host.interfaces x.handle.key))
interface_called-does state settings.GetAltSetting x = told-does state (alt_setting_line x.claimed.setting) refl
interface_called-does state settings.Descriptor x =
    let host = host_asked state.host x.claimed.opened in
    ends (interface-other (current_setting host x.claimed)) (aside-quiet state host (asked-aside state.host x.claimed.opened))

pub on_interface-does : (state : State) (i : ℕ) (call : InterfaceCall) → Does state (on_interface state i call)
unfolding on_interface
on_interface-does state i call = named-does state (interface_at state i) (λ x. at_host state (interface_called call state.host x)) (λ x is. interface_called-does state call x)

-- interfaces and devices are closed at the end
interface_closed_at-quiet : (state : State) (i : ℕ) (o : Option InterfaceState) → Quiet (view_of state) (view_of (interface_closed_at state i o))
interface_closed_at-quiet state i None = quiet-same state
interface_closed_at-quiet state i (Some f) = without_interface-quiet state i f

device_closed_at-quiet : (state : State) (d : ℕ) (o : Option ℕ) → Quiet (view_of state) (view_of (device_closed_at state d o))
device_closed_at-quiet state d None = quiet-same state
device_closed_at-quiet state d (Some key) = quiet-aside state (without_device state d key) refl refl (λ e. refl) refl refl

below-quiet : (act : State → ℕ → State) → ((s : State) (n : ℕ) → Quiet (view_of s) (view_of (act s n))) → (state : State) (k : ℕ) → Quiet (view_of state) (view_of (below act state k))
below-quiet act quiet state zero = quiet-same state
below-quiet act quiet state (suc k) = quiet-then (below-quiet act quiet state k) (quiet (below act state k) k)

pub handles-quiet : (state : State) → Quiet (view_of state) (view_of (devices_closed (interfaces_closed state 64) 64))
unfolding interface_closed name_closed
handles-quiet state =
    quiet-then (below-quiet interface_closed (λ s i. interface_closed_at-quiet s i (named s.interfaces i)) state 64)
    (below-quiet name_closed (λ s d. device_closed_at-quiet s d (named s.devices d)) (interfaces_closed state 64) 64)
