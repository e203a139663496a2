-- Which open devices a host keeps over each call.
use Rattle.std.specs.Prelude.{ℕ, ◌≡◌, ◌≢◌, ◌<◌, ◌≤◌, Bool, List, Option, Some}
use Rattle.usb_xfer.specs.declared.transfer.TransferData.{TransferData}
use Rattle.usb_kernel_devices.specs.declared.step.KernelStep.{KernelStep}
use Rattle.usb_kernel.specs.declared.submission.Submission.{Submission}
use Rattle.usb_kernel.specs.Value.{KernelState}
use Rattle.usb_device_endpoint.specs.declared.route.Route.{Route}
use Rattle.usb_device_endpoint.specs.Waits.{waited}
use Rattle.usb_device_endpoint.specs.Blocking.{blocked}
use Rattle.usb_device_tables.specs.History.{value_at}
use Rattle.usb_device_ledger.specs.declared.ends.TicketEnd.{TicketEnd}
use Rattle.usb_device_ledger.specs.declared.opened.OpenDevice.{OpenDevice}
use Rattle.usb_device_host.specs.HostState.{HostState, host_of}
use Rattle.usb_device_host.specs.HostTurns.{host_stepped, host_reaped, host_turned, host_rest}
use Rattle.usb_device_host.specs.HostCalls.{host_submitted, host_refused, host_discarded, host_left, host_timed, host_idled, host_halt_cleared, host_calls}
use Rattle.usb_device_host.specs.HostAwaits.{host_awaited}
use Rattle.usb_device_host.specs.Controls.{host_started}
use Rattle.usb_device_host.specs.TicketEnds.{host_ended, host_taken, host_abandoned}
use Rattle.usb_device_host.specs.Finishes.{finished}
use Rattle.usb_device_host.specs.HandleStates.{InterfaceState, StandsDevice, StandsInterface}
use Rattle.usb_device_host.specs.Handles.{device_cloned, device_closed, handle_cloned, handle_closed}
use Rattle.usb_device_host.specs.Opens.{host_opened}
use Rattle.usb_device_host.specs.InterfaceClaims.{host_claimed}
use Rattle.usb_device_host.specs.EndpointOpens.{host_asked, with_endpoint}
use Rattle.usb_device_host.specs.OnDevices.{host_detached, host_attached, host_reset, host_configured, host_speed_asked}
use Rattle.usb_device_host.specs.OnInterfaces.{alt_setting_set}
use Rattle.usb_device_host.specs.DeviceLaws.{DevicesAreHeld}

-- an open device with an open handle stays, with at least its handles
pub record KeepsDevice (devices : List (Option OpenDevice)) (key handles : ℕ) : Type 0 where
  pub device : OpenDevice
  pub at : value_at devices key ≡ Some device
  pub more : handles ≤ device.handles

abbrev pub KeepsDevices : List (Option OpenDevice) → List (Option OpenDevice) → Type 0
KeepsDevices old new =
    (key : ℕ) (o : OpenDevice) → value_at old key ≡ Some o → 0 < o.handles →
    KeepsDevice new key o.handles

-- the same of all but one
abbrev pub KeepsOtherDevices : List (Option OpenDevice) → List (Option OpenDevice) → ℕ → Type 0
KeepsOtherDevices old new one =
    (key : ℕ) (o : OpenDevice) → one ≢ key → value_at old key ≡ Some o → 0 < o.handles →
    KeepsDevice new key o.handles

-- nothing is kept that has gone, as before, and what has an open handle stays
pub record KeepsHeld (old new : HostState) : Type 0 where
  pub held : DevicesAreHeld old → DevicesAreHeld new
  pub devices : KeepsDevices old.devices new.devices

-- so it is at the start, where nothing is open, and so it stays over each call. A handle that is
-- cloned or closed stands
pub record DevicesStayHeld : Type 0 where
  pub start : (k : KernelState) → DevicesAreHeld (host_of k)
  pub step : (h : HostState) (s : KernelStep) → KeepsHeld h (host_stepped h s)
  pub reap : (h : HostState) (t : ℕ) → KeepsHeld h (host_reaped h t)
  pub rest : (h : HostState) → KeepsHeld h (host_rest h)
  pub turn : (h : HostState) → KeepsHeld h (host_turned h)
  pub timer : (h : HostState) → KeepsHeld h (host_timed h)
  pub idle : (h : HostState) (until : ℕ) → KeepsHeld h (host_idled h until)
  pub wait : (h : HostState) (t timeout : ℕ) → KeepsHeld h (waited host_calls t timeout h)
  pub block : (h : HostState) (t timeout : ℕ) → KeepsHeld h (blocked host_calls t timeout h)
  pub await_ticket : (h : HostState) (t deadline : ℕ) → KeepsHeld h (host_awaited h t deadline)
  pub submit : (h : HostState) (to : Route) (deadline : Option ℕ) (t : TransferData) →
      KeepsHeld h (host_submitted h to deadline t)
  pub refuse : (h : HostState) (to : Route) (t : TransferData) (errno : ℕ) →
      KeepsHeld h (host_refused h to t errno)
  pub start_control : (h : HostState) (s : Submission) → KeepsHeld h (host_started h s)
  pub discard : (h : HostState) (t : ℕ) → KeepsHeld h (host_discarded h t)
  pub end_ticket : (h : HostState) (t : ℕ) (end : TicketEnd) → KeepsHeld h (host_ended h t end)
  pub take : (h : HostState) (t : ℕ) → KeepsHeld h (host_taken h t)
  pub abandon : (h : HostState) (t : ℕ) → KeepsHeld h (host_abandoned h t)
  pub leave : (h : HostState) (key : ℕ) → KeepsHeld h (host_left h key)
  pub open_device : (h : HostState) (bus address : ℕ) → KeepsHeld h (host_opened h bus address)
  pub clone_device : (h : HostState) (key : ℕ) → StandsDevice h key →
      KeepsHeld h (device_cloned h key)
  pub close_device : (h : HostState) (key : ℕ) → StandsDevice h key →
      DevicesAreHeld h → DevicesAreHeld (device_closed h key)
  pub close_other_devices : (h : HostState) (key : ℕ) →
      KeepsOtherDevices h.devices (device_closed h key).devices key
  pub claim : (h : HostState) (device number : ℕ) (reattach : Bool) →
      KeepsHeld h (host_claimed h device number reattach)
  pub clone_handle : (h : HostState) (handle : InterfaceState) → StandsInterface h handle →
      KeepsHeld h (handle_cloned h handle.key)
  pub close_handle : (h : HostState) (handle : InterfaceState) → StandsInterface h handle →
      KeepsHeld h (handle_closed h handle.key)
  pub set_alt_setting : (h : HostState) (interface setting : ℕ) →
      KeepsHeld h (alt_setting_set h interface setting)
  pub ask : (h : HostState) (device : ℕ) → KeepsHeld h (host_asked h device)
  pub open_endpoint : (h : HostState) (interface address : ℕ) →
      KeepsHeld h (with_endpoint h interface address)
  pub set_configuration : (h : HostState) (device value : ℕ) →
      KeepsHeld h (host_configured h device value)
  pub reset : (h : HostState) (device : ℕ) → KeepsHeld h (host_reset h device)
  pub detach : (h : HostState) (device number : ℕ) → KeepsHeld h (host_detached h device number)
  pub attach : (h : HostState) (device number : ℕ) → KeepsHeld h (host_attached h device number)
  pub ask_speed : (h : HostState) (device : ℕ) → KeepsHeld h (host_speed_asked h device)
  pub clear_halt : (h : HostState) (device endpoint : ℕ) →
      KeepsHeld h (host_halt_cleared h device endpoint)
  pub finish : (h : HostState) → KeepsHeld h (finished h)
