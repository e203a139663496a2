-- The claims of interfaces, and who owns them.
use Rattle.std.specs.Prelude.{ℕ, ◌≡◌, ◌≢◌, ◌<◌, ◌≤◌, ◌==◌, ◌&&◌, Bool, true, false, List, length, map, Option, Some, None}
use Rattle.std.specs.List.{list_any, enumerate_from}
use Rattle.std.specs.Option.{ForSome, option_map_or}
use Rattle.usb_xfer.specs.declared.transfer.TransferData.{TransferData}
use Rattle.usb_kernel_devices.specs.declared.devices.SimDevice.{SimDevice}
use Rattle.usb_kernel_devices.specs.declared.step.KernelStep.{KernelStep}
use Rattle.usb_kernel_devices.specs.Devices.{fresh_device}
use Rattle.usb_kernel.specs.ClaimLaws.{is_claimed}
use Rattle.usb_kernel.specs.declared.submission.Submission.{Submission}
use Rattle.usb_kernel.specs.Value.{KernelState}
use Rattle.usb_device_endpoint.specs.declared.route.Route.{Route}
use Rattle.usb_device_endpoint.specs.Waits.{waited}
use Rattle.usb_device_endpoint.specs.Blocking.{blocked}
use Rattle.usb_device_tables.specs.History.{value_at}
use Rattle.usb_device_ledger.specs.declared.ends.TicketEnd.{TicketEnd}
use Rattle.usb_device_ledger.specs.Entries.{ClaimedInterface, HostEndpoint}
use Rattle.usb_device_host.specs.HostState.{HostState, host_of}
use Rattle.usb_device_ledger.specs.Owners.{lives, is_owned_among}
use Rattle.usb_device_host.specs.HostBus.{key_at}
use Rattle.usb_device_host.specs.HostTurns.{host_stepped, host_reaped, host_turned, host_rest}
use Rattle.usb_device_host.specs.HostCalls.{host_submitted, host_refused, host_discarded, host_left, host_timed, host_idled, host_halt_cleared, host_calls}
use Rattle.usb_device_host.specs.HostAwaits.{host_awaited}
use Rattle.usb_device_host.specs.Controls.{host_started}
use Rattle.usb_device_host.specs.TicketEnds.{host_ended, host_taken, host_abandoned}
use Rattle.usb_device_host.specs.Finishes.{finished}
use Rattle.usb_device_host.specs.HandleStates.{InterfaceState, StandsInterface}
use Rattle.usb_device_host.specs.Handles.{device_cloned, device_closed, handle_cloned, handle_closed}
use Rattle.usb_device_host.specs.Opens.{host_opened}
use Rattle.usb_device_host.specs.InterfaceClaims.{host_claimed}
use Rattle.usb_device_host.specs.EndpointOpens.{host_asked, with_endpoint}
use Rattle.usb_device_host.specs.OnDevices.{host_detached, host_attached, host_reset, host_configured, host_speed_asked}
use Rattle.usb_device_host.specs.OnInterfaces.{alt_setting_set}

-- whether a claimed interface, with its key, is there, is interface n of device d and has an owner
abbrev pub is_owned_claim : HostState → ℕ → ℕ → ℕ × Option ClaimedInterface → Bool
is_owned_claim h d n p =
    option_map_or
    (λ (c : ClaimedInterface).
    (c.device == d && c.number == n) && is_owned_among h.tickets h.endpoints p.0 c)
    p.1 false

-- whether interface n of device d has an owner
abbrev pub has_owner : HostState → ℕ → ℕ → Bool
has_owner h d n = list_any (is_owned_claim h d n) (enumerate_from 0 h.interfaces)

-- an interface is claimed at the kernel exactly while there is an entry of it that has an owner, and
-- no two have one
pub record ClaimsAreOwned (h : HostState) : Type 0 where
  pub claimed : (d n : ℕ) → is_claimed h.kernel.devices d n ≡ has_owner h d n
  pub apart : (d n i j : ℕ) (a b : ClaimedInterface) → value_at h.interfaces i ≡ Some a →
      value_at h.interfaces j ≡ Some b → is_owned_claim h d n (i, Some a) ≡ true →
      is_owned_claim h d n (j, Some b) ≡ true → i ≡ j

-- the claimed interface of a key, if it is there, has an owner
abbrev pub IsOwned : HostState → ℕ → Type 0
IsOwned h i =
    ForSome (value_at h.interfaces i) (λ c. is_owned_among h.tickets h.endpoints i c ≡ true)

-- nothing is kept that has gone: each interface that is there has an owner
abbrev pub InterfacesAreOwned : HostState → Type 0
InterfacesAreOwned h = (i : ℕ) → IsOwned h i

-- and each endpoint that is there lives
abbrev pub EndpointsLive : HostState → Type 0
EndpointsLive h =
    (k : ℕ) (e : HostEndpoint) → value_at h.endpoints k ≡ Some e → lives h.tickets (k, e) ≡ true

-- the claim of this key has ended: the key was given, and its entry is gone
pub record HasEnded (h : HostState) (i : ℕ) : Type 0 where
  pub given : i < length h.interfaces
  pub gone : value_at h.interfaces i ≡ None

-- where it was so it stays so, nothing is kept that has gone, and a claim that has ended never has
-- an owner again
pub record KeepsOwned (old new : HostState) : Type 0 where
  pub owned : ClaimsAreOwned old → ClaimsAreOwned new
  pub tidy : InterfacesAreOwned old → InterfacesAreOwned new
  pub ended : (i : ℕ) → HasEnded old i → HasEnded new i

-- an interface with an open handle stays, with at least its handles, and a key that was given stays
-- so
pub record KeepsHandles (interfaces : List (Option ClaimedInterface)) (i handles : ℕ) : Type 0 where
  pub claim : ClaimedInterface
  pub at : value_at interfaces i ≡ Some claim
  pub more : handles ≤ claim.handles

pub record KeepsClaimed (old new : List (Option ClaimedInterface)) : Type 0 where
  pub given : length old ≤ length new
  pub stays : (i : ℕ) (c : ClaimedInterface) → value_at old i ≡ Some c → 0 < c.handles →
      KeepsHandles new i c.handles

-- the same of all but one
abbrev pub KeepsOthers : List (Option ClaimedInterface) → List (Option ClaimedInterface) → ℕ →
    Type 0
KeepsOthers old new key =
    (i : ℕ) (c : ClaimedInterface) → i ≢ key → value_at old i ≡ Some c → 0 < c.handles →
    KeepsHandles new i c.handles

pub record KeepsClaims (old new : HostState) : Type 0 where
  pub kept : KeepsOwned old new
  pub claimed : KeepsClaimed old.interfaces new.interfaces
  pub alive : EndpointsLive old → EndpointsLive new

-- so it is at the start, where no interface is claimed, and so it stays over each call. A handle
-- that is cloned or closed stands, an endpoint is opened on an interface with an owner, and an
-- endpoint that submits or is closed is open
pub record ClaimsStayOwned : Type 0 where
  pub fresh : (devices : List (ℕ × SimDevice)) (d n : ℕ) →
      is_claimed (map fresh_device devices) d n ≡ false
  pub start : (k : KernelState) → ((d n : ℕ) → is_claimed k.devices d n ≡ false) →
      ClaimsAreOwned (host_of k)
  pub tidy : (k : KernelState) → InterfacesAreOwned (host_of k)
  pub none_dead : (k : KernelState) → EndpointsLive (host_of k)
  pub step : (h : HostState) (s : KernelStep) → KeepsClaims h (host_stepped h s)
  pub reap : (h : HostState) (t : ℕ) → KeepsClaims h (host_reaped h t)
  pub rest : (h : HostState) → KeepsClaims h (host_rest h)
  pub turn : (h : HostState) → KeepsClaims h (host_turned h)
  pub timer : (h : HostState) → KeepsClaims h (host_timed h)
  pub idle : (h : HostState) (until : ℕ) → KeepsClaims h (host_idled h until)
  pub wait : (h : HostState) (t timeout : ℕ) → KeepsClaims h (waited host_calls t timeout h)
  pub block : (h : HostState) (t timeout : ℕ) → KeepsClaims h (blocked host_calls t timeout h)
  pub await_ticket : (h : HostState) (t deadline : ℕ) → KeepsClaims h (host_awaited h t deadline)
  pub submit : (h : HostState) (to : Route) (deadline : Option ℕ) (t : TransferData) →
      key_at h.endpoints to.key ≡ true → KeepsClaims h (host_submitted h to deadline t)
  pub refuse : (h : HostState) (to : Route) (t : TransferData) (errno : ℕ) →
      key_at h.endpoints to.key ≡ true → KeepsClaims h (host_refused h to t errno)
  pub start_control : (h : HostState) (s : Submission) → KeepsClaims h (host_started h s)
  pub discard : (h : HostState) (t : ℕ) → KeepsClaims h (host_discarded h t)
  pub end_ticket : (h : HostState) (t : ℕ) (end : TicketEnd) → KeepsClaims h (host_ended h t end)
  pub take : (h : HostState) (t : ℕ) → KeepsClaims h (host_taken h t)
  pub abandon : (h : HostState) (t : ℕ) → KeepsClaims h (host_abandoned h t)
  pub leave : (h : HostState) (key : ℕ) → key_at h.endpoints key ≡ true →
      KeepsClaims h (host_left h key)
  pub open_device : (h : HostState) (bus address : ℕ) → KeepsClaims h (host_opened h bus address)
  pub clone_device : (h : HostState) (device : ℕ) → KeepsClaims h (device_cloned h device)
  pub close_device : (h : HostState) (device : ℕ) → KeepsClaims h (device_closed h device)
  pub claim : (h : HostState) (device number : ℕ) (reattach : Bool) →
      KeepsClaims h (host_claimed h device number reattach)
  pub clone_handle : (h : HostState) (handle : InterfaceState) → StandsInterface h handle →
      KeepsClaims h (handle_cloned h handle.key)
  pub close_handle : (h : HostState) (handle : InterfaceState) → StandsInterface h handle →
      KeepsOwned h (handle_closed h handle.key)
  pub close_others : (h : HostState) (handle : InterfaceState) → StandsInterface h handle →
      KeepsOthers h.interfaces (handle_closed h handle.key).interfaces handle.key
  pub close_alive : (h : HostState) (handle : InterfaceState) → StandsInterface h handle →
      EndpointsLive h → EndpointsLive (handle_closed h handle.key)
  pub set_alt_setting : (h : HostState) (interface setting : ℕ) →
      KeepsClaims h (alt_setting_set h interface setting)
  pub ask : (h : HostState) (device : ℕ) → KeepsClaims h (host_asked h device)
  pub open_endpoint : (h : HostState) (interface address : ℕ) → IsOwned h interface →
      KeepsClaims h (with_endpoint h interface address)
  pub set_configuration : (h : HostState) (device value : ℕ) →
      KeepsClaims h (host_configured h device value)
  pub reset : (h : HostState) (device : ℕ) → KeepsClaims h (host_reset h device)
  pub detach : (h : HostState) (device number : ℕ) → KeepsClaims h (host_detached h device number)
  pub attach : (h : HostState) (device number : ℕ) → KeepsClaims h (host_attached h device number)
  pub ask_speed : (h : HostState) (device : ℕ) → KeepsClaims h (host_speed_asked h device)
  pub clear_halt : (h : HostState) (device endpoint : ℕ) →
      KeepsClaims h (host_halt_cleared h device endpoint)
  pub finish : (h : HostState) → KeepsClaims h (finished h)
