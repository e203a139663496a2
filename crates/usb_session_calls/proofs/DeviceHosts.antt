-- What calls on open devices leave of the host, and what is printed of them.
use Rattle.std.proofs.Common.{◌≡◌, ◌∙◌, ◌≤◌, ◌+◌, ℕ, arith, length, List, [], Option, Some, None, refl, ap, sym, subst, set}
use Rattle.usb_device_tables.specs.History.{value_at}
use Rattle.usb_device_ledger.proofs.DeviceLemmas.{KeepsCounts, counts_of, counts-set}
use Rattle.usb_device_host.specs.EndpointOpens.{as_asked}
use Rattle.usb_kernel.specs.Tickets.{tickets}
use Rattle.usb_kernel_devices.specs.declared.step.KernelCall.TheVariants as call
use Rattle.usb_kernel.specs.Value.{KernelState}
use Rattle.usb_kernel_devices.specs.Claims.{no_rules}
use Rattle.usb_kernel_devices.specs.Devices.{unplugged}
use Rattle.usb_kernel.specs.Calls.{errno_of, called, reset_by, after_reset}
use Rattle.usb_kernel.specs.Extends.{Extends}
use Rattle.usb_kernel.proofs.Extends.{extends-same, extends-reset}
use Rattle.usb_device_endpoint.specs.EndpointState.{EndpointState}
use Rattle.usb_device_endpoint.specs.Handles.{Stands, AreHeld}
use Rattle.usb_device_ledger.specs.declared.opened.OpenDevice.{OpenDevice}
use Rattle.usb_device_ledger.specs.Entries.{HostTicket, HostEndpoint}
use Rattle.usb_device_host.specs.HostState.{HostState}
use Rattle.usb_device_host.specs.HostBus.{bus_of, owner_at, key_at}
use Rattle.usb_device_host.specs.HostCalls.{host_halt_cleared}
use Rattle.usb_device_host.specs.EndpointOpens.{asked_on, host_asked}
use Rattle.usb_device_host.specs.OnDevices.{detached_on, host_detached, attached_on, host_attached, reset_on, host_reset, set_configuration_errno, configured_unless, configured_on, host_configured, speed_asked_on, host_speed_asked}
use Rattle.usb_device_host.proofs.CalledHosts.{reset-spare}
use Rattle.usb_device_host.proofs.CountLemmas.{KeepsCount}
use Rattle.usb_device_host.proofs.FollowLemmas.{KeepsTickets, on-same}

-- what handles stand on is as it was, but for what an open device keeps of its configuration; and the journal goes on
pub record KeepsHandles (old new : HostState) : Type 0 where
  pub steps : new.steps ≡ old.steps
  pub devices : KeepsCounts old.devices new.devices
  pub interfaces : new.interfaces ≡ old.interfaces
  pub endpoints : new.endpoints ≡ old.endpoints
  pub tickets : new.tickets ≡ old.tickets
  pub goes : Extends old.kernel.past new.kernel.past

-- and so is the journal, with its places
pub record KeepsAside (old new : HostState) : Type 0 where
  pub handles : KeepsHandles old new
  pub past : new.kernel.past ≡ old.kernel.past
  pub spare : new.kernel.spare ≡ old.kernel.spare

pub handles-same : (h : HostState) → KeepsHandles h h
handles-same h = record { steps = refl; devices = λ k. refl; interfaces = refl; endpoints = refl; tickets = refl; goes = extends-same h.kernel.past }

aside-same : (h : HostState) → KeepsAside h h
aside-same h = record { handles = handles-same h; past = refl; spare = refl }

-- an endpoint stands in the host as before
pub stands-handles : (old new : HostState) → KeepsHandles old new → (e : EndpointState) → Stands (bus_of old) e → Stands (bus_of new) e
stands-handles old new keeps e stands =
    record {
      key_is_open = ap (λ (es : List (Option HostEndpoint)). key_at es e.key) keeps.endpoints ∙ stands.key_is_open;
      held = subst (λ (ts : List HostTicket). AreHeld (owner_at ts) e.key e.pending) (sym keeps.tickets) stands.held;
    }

-- a call whose kernel is left so
called-aside : (h : HostState) (k : KernelState) → k.past ≡ h.kernel.past → k.spare ≡ h.kernel.spare → KeepsAside h (record h { kernel = k })
called-aside h k past spare =
    record { handles = record { steps = refl; devices = λ k. refl; interfaces = refl; endpoints = refl; tickets = refl; goes = record { more = []; is = past } }; past = past; spare = spare }

detached_on-aside : (h : HostState) (i : ℕ) (o : Option OpenDevice) → KeepsAside h (detached_on h i o)
unfolding called
detached_on-aside h i None = aside-same h
detached_on-aside h i (Some o) = called-aside h _ refl refl

pub detached-aside : (h : HostState) (key i : ℕ) → KeepsAside h (host_detached h key i)
unfolding host_detached
detached-aside h key i = detached_on-aside h i (value_at h.devices key)

attached_on-aside : (h : HostState) (i : ℕ) (o : Option OpenDevice) → KeepsAside h (attached_on h i o)
unfolding called
attached_on-aside h i None = aside-same h
attached_on-aside h i (Some o) = called-aside h _ refl refl

pub attached-aside : (h : HostState) (key i : ℕ) → KeepsAside h (host_attached h key i)
unfolding host_attached
attached-aside h key i = attached_on-aside h i (value_at h.devices key)

speed_asked_on-aside : (h : HostState) (o : Option OpenDevice) → KeepsAside h (speed_asked_on h o)
unfolding called
speed_asked_on-aside h None = aside-same h
speed_asked_on-aside h (Some o) = called-aside h _ refl refl

pub speed-aside : (h : HostState) (key : ℕ) → KeepsAside h (host_speed_asked h key)
unfolding host_speed_asked
speed-aside h key = speed_asked_on-aside h (value_at h.devices key)

-- a call that changes what an open device keeps
changed-aside : (h : HostState) (k : KernelState) (key : ℕ) (o p : OpenDevice) → value_at h.devices key ≡ Some o → counts_of p ≡ counts_of o → k.past ≡ h.kernel.past → k.spare ≡ h.kernel.spare → KeepsAside h (record h { kernel = k; devices = set h.devices key (Some p) })
changed-aside h k key o p at same past spare =
    record { handles = record { steps = refl; devices = counts-set h.devices key o p at same; interfaces = refl; endpoints = refl; tickets = refl; goes = record { more = []; is = past } }; past = past; spare = spare }

configured-counts : (o : OpenDevice) (value : ℕ) (errno : Option ℕ) → counts_of (configured_unless o value errno) ≡ counts_of o
configured-counts o value None = refl
configured-counts o value (Some errno) = refl

configured_on-aside : (h : HostState) (key value : ℕ) (o : Option OpenDevice) → value_at h.devices key ≡ o → KeepsAside h (configured_on h key value o)
unfolding called
configured_on-aside h key value None at = aside-same h
configured_on-aside h key value (Some o) at = changed-aside h _ key o (configured_unless o value (set_configuration_errno h o value)) at (configured-counts o value (set_configuration_errno h o value)) refl refl

pub configured-aside : (h : HostState) (key value : ℕ) → KeepsAside h (host_configured h key value)
unfolding host_configured
configured-aside h key value = configured_on-aside h key value (value_at h.devices key) refl

asked_on-aside : (h : HostState) (key : ℕ) (o : Option OpenDevice) → value_at h.devices key ≡ o → KeepsAside h (asked_on h key o)
unfolding called
asked_on-aside h key None at = aside-same h
asked_on-aside h key (Some o) at = changed-aside h _ key o (as_asked h.kernel o) at refl refl refl

pub asked-aside : (h : HostState) (key : ℕ) → KeepsAside h (host_asked h key)
unfolding host_asked
asked-aside h key = asked_on-aside h key (value_at h.devices key) refl

-- a reset leaves what handles stand on, and uses a place at most
reset_on-handles : (h : HostState) (o : Option OpenDevice) → KeepsHandles h (reset_on h o)
reset_on-handles h None = handles-same h
reset_on-handles h (Some o) = record { steps = refl; devices = λ k. refl; interfaces = refl; endpoints = refl; tickets = refl; goes = extends-reset h.kernel o.device }

pub reset-handles : (h : HostState) (key : ℕ) → KeepsHandles h (host_reset h key)
unfolding host_reset
reset-handles h key = reset_on-handles h (value_at h.devices key)

reset_on-places : (h : HostState) (o : Option OpenDevice) → h.kernel.spare ≤ (reset_on h o).kernel.spare + 1
reset_on-places h None = omega arith
reset_on-places h (Some o) = let less = reset-spare h.kernel o.device in omega (arith, less)

pub reset-places : (h : HostState) (key : ℕ) → h.kernel.spare ≤ (host_reset h key).kernel.spare + 1
unfolding host_reset
reset-places h key = reset_on-places h (value_at h.devices key)

-- it submits no ticket and ends none: the journal has one more unplug at most
reset_on-follows : (h : HostState) (o : Option OpenDevice) → KeepsTickets h (reset_on h o)
reset_on-follows h None = on-same h
reset_on-follows h (Some o) = record { past = extends-reset h.kernel o.device; tickets = (on-same h).tickets }

pub reset-follows : (h : HostState) (key : ℕ) → KeepsTickets h (host_reset h key)
unfolding host_reset
reset-follows h key = reset_on-follows h (value_at h.devices key)

kernel-count : (k : KernelState) (d : ℕ) → length (tickets (after_reset k d).past) ≡ length (tickets k.past)
unfolding after_reset called
kernel-count k d =
    elim (errno_of k d call.Reset no_rules) as (λ e. length (tickets (reset_by (called k d call.Reset no_rules unplugged) d e).past) ≡ length (tickets k.past)) [
      | Some errno ↦ refl
      | None ↦ refl
    ]

reset_on-count : (h : HostState) (o : Option OpenDevice) → KeepsCount h (reset_on h o)
reset_on-count h None = record { count = refl; past = refl }
reset_on-count h (Some o) = record { count = refl; past = kernel-count h.kernel o.device }

pub reset-count : (h : HostState) (key : ℕ) → KeepsCount h (host_reset h key)
unfolding host_reset
reset-count h key = reset_on-count h (value_at h.devices key)

-- a halt that is cleared
pub halt-aside : (h : HostState) (device endpoint : ℕ) → KeepsAside h (host_halt_cleared h device endpoint)
unfolding called
halt-aside h device endpoint = called-aside h _ refl refl
