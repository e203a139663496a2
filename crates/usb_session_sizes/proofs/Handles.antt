-- A host stays bounded over the calls on open devices and on claimed interfaces.
use Rattle.std.proofs.Common.{ℕ, Bool, Option, Some, None, ap}
use Rattle.std.proofs.lemmas.Bool.{cond_both}
use Rattle.usb_kernel.specs.Calls.{called}
use Rattle.usb_device_tables.specs.History.{value_at}
use Rattle.usb_device_ledger.specs.declared.opened.OpenDevice.{OpenDevice}
use Rattle.usb_device_ledger.specs.Entries.{ClaimedInterface}
use Rattle.usb_device_host.specs.HostState.{HostState}
use Rattle.usb_device_host.specs.Handles.{handle_added, handle_cloned, handle_closed}
use Rattle.usb_device_host.specs.InterfaceClaims.{host_claimed}
use Rattle.usb_device_host.specs.EndpointOpens.{host_asked}
use Rattle.usb_device_host.specs.Opens.{host_opened}
use Rattle.usb_device_host.specs.OnDevices.{detached_on, host_detached, attached_on, host_attached, configured_on, host_configured, speed_asked_on, host_speed_asked}
use Rattle.usb_device_host.specs.OnInterfaces.{alt_setting_asked, alt_setting_on, alt_setting_set}
use Rattle.usb_device_ledger.specs.Owners.{has_living}
use Rattle.usb_device_host.proofs.InterfaceFrames.{bus-handle_closed, line-handle_closed, bus-claimed, line-claimed, asked-is, opened-is}
use Rattle.usb_session_sizes.proofs.Hosts.{IsHostBounded, StaysBounded, aside, past-of}

pub asked-bounded : (h : HostState) (key : ℕ) → StaysBounded h (host_asked h key)
asked-bounded h key = aside h (host_asked h key) (ap (λ (g : HostState). g.kernel.past) (asked-is h key)) (ap (λ (g : HostState). g.steps) (asked-is h key))

pub opened-bounded : (h : HostState) (bus address : ℕ) → StaysBounded h (host_opened h bus address)
opened-bounded h bus address = aside h (host_opened h bus address) (ap (λ (g : HostState). g.kernel.past) (opened-is h bus address)) (ap (λ (g : HostState). g.steps) (opened-is h bus address))

pub claimed-bounded : (h : HostState) (key number : ℕ) (reattach : Bool) → StaysBounded h (host_claimed h key number reattach)
claimed-bounded h key number reattach = aside h (host_claimed h key number reattach) (past-of (bus-claimed h key number reattach)) (line-claimed h key number reattach).steps

pub handle_closed-bounded : (h : HostState) (i : ℕ) → StaysBounded h (handle_closed h i)
handle_closed-bounded h i = aside h (handle_closed h i) (past-of (bus-handle_closed h i)) (line-handle_closed h i).steps

added-bounded : (h : HostState) (i : ℕ) (o : Option ClaimedInterface) → StaysBounded h (handle_added h i o)
added-bounded h i None is = is
added-bounded h i (Some c) is = is

pub handle_cloned-bounded : (h : HostState) (i : ℕ) → StaysBounded h (handle_cloned h i)
unfolding handle_cloned
handle_cloned-bounded h i = added-bounded h i (value_at h.interfaces i)

speed_on-bounded : (h : HostState) (o : Option OpenDevice) → StaysBounded h (speed_asked_on h o)
unfolding called
speed_on-bounded h None is = is
speed_on-bounded h (Some o) is = is

pub speed-bounded : (h : HostState) (key : ℕ) → StaysBounded h (host_speed_asked h key)
unfolding host_speed_asked
speed-bounded h key = speed_on-bounded h (value_at h.devices key)

configured_on-bounded : (h : HostState) (key value : ℕ) (o : Option OpenDevice) → StaysBounded h (configured_on h key value o)
unfolding called
configured_on-bounded h key value None is = is
configured_on-bounded h key value (Some o) is = is

pub configured-bounded : (h : HostState) (key value : ℕ) → StaysBounded h (host_configured h key value)
unfolding host_configured
configured-bounded h key value = configured_on-bounded h key value (value_at h.devices key)

detached_on-bounded : (h : HostState) (number : ℕ) (o : Option OpenDevice) → StaysBounded h (detached_on h number o)
unfolding called
detached_on-bounded h number None is = is
detached_on-bounded h number (Some o) is = is

pub detached-bounded : (h : HostState) (key number : ℕ) → StaysBounded h (host_detached h key number)
unfolding host_detached
detached-bounded h key number = detached_on-bounded h number (value_at h.devices key)

attached_on-bounded : (h : HostState) (number : ℕ) (o : Option OpenDevice) → StaysBounded h (attached_on h number o)
unfolding called
attached_on-bounded h number None is = is
attached_on-bounded h number (Some o) is = is

pub attached-bounded : (h : HostState) (key number : ℕ) → StaysBounded h (host_attached h key number)
unfolding host_attached
attached-bounded h key number = attached_on-bounded h number (value_at h.devices key)

setting_asked-bounded : (h : HostState) (i setting : ℕ) (c : ClaimedInterface) → StaysBounded h (alt_setting_asked h i setting c)
unfolding called
setting_asked-bounded h i setting c is = is

setting_on-bounded : (h : HostState) (i setting : ℕ) (o : Option ClaimedInterface) → StaysBounded h (alt_setting_on h i setting o)
setting_on-bounded h i setting None is = is
setting_on-bounded h i setting (Some c) is =
    cond_both (has_living h.tickets h.endpoints i) h (alt_setting_asked h i setting c) IsHostBounded (λ yes_. is) (λ no_. setting_asked-bounded h i setting c is)

pub setting-bounded : (h : HostState) (i setting : ℕ) → StaysBounded h (alt_setting_set h i setting)
unfolding alt_setting_set
setting-bounded h i setting = setting_on-bounded h i setting (value_at h.interfaces i)
