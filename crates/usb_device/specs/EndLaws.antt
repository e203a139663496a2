-- The ends of tickets.
use Rattle.std.specs.Prelude.{ℕ, ◌≡◌, Bool, Option, Some, None, is_some, slice_get, if◌then◌else◌}
use Rattle.usb_kernel_devices.specs.declared.step.KernelStep.{KernelStep}
use Rattle.usb_xfer.specs.declared.transfer.TransferData.{TransferData}
use Rattle.usb_device_endpoint.specs.declared.route.Route.{Route}
use Rattle.usb_kernel.specs.declared.submission.Submission.{Submission}
use Rattle.usb_kernel.specs.Completions.{completion}
use Rattle.usb_device_endpoint.specs.EndpointState.{EndpointState}
use Rattle.usb_device_endpoint.specs.Handles.{Stands}
use Rattle.usb_device_endpoint.specs.Closes.{after_close}
use Rattle.usb_device_ledger.specs.declared.ends.TicketEnd.{TicketEnd}
use Rattle.usb_device_ledger.specs.declared.ends.TicketEnd.TheVariants.{Dropped}
use Rattle.usb_device_host.specs.HostState.{HostState}
use Rattle.usb_device_ledger.specs.EndedTickets.{end_at}
use Rattle.usb_device_host.specs.HostBus.{bus_of}
use Rattle.usb_device_host.specs.HostTurns.{host_stepped, host_turned, host_reaped, host_rest}
use Rattle.usb_device_host.specs.HostCalls.{host_submitted, host_refused, host_discarded, host_left, host_timed, host_idled, host_halt_cleared, host_calls}
use Rattle.usb_device_host.specs.TicketEnds.{host_taken, host_abandoned}
use Rattle.usb_device_host.specs.HostAwaits.{host_awaited}
use Rattle.usb_device_host.specs.Controls.{host_started}
use Rattle.usb_device.specs.Futures.{FutureState, StandsFuture, future_closed}
use Rattle.usb_device_host.specs.Finishes.{finished}
use Rattle.usb_device_host.specs.Handles.{device_cloned, device_closed, handle_cloned, handle_closed}
use Rattle.usb_device_host.specs.Opens.{host_opened}
use Rattle.usb_device_host.specs.InterfaceClaims.{host_claimed}
use Rattle.usb_device_host.specs.EndpointOpens.{host_asked, with_endpoint}
use Rattle.usb_device_host.specs.OnDevices.{host_detached, host_attached, host_reset, host_configured, host_speed_asked}
use Rattle.usb_device_host.specs.OnInterfaces.{alt_setting_set}

-- a ticket that has an end keeps it
abbrev pub KeepsEnds : HostState → HostState → Type 0
KeepsEnds old new =
    (t : ℕ) (end : TicketEnd) → end_at old.tickets t ≡ Some end → end_at new.tickets t ≡ Some end

-- over each call (a wait and a blocking transfer are made of these): so a ticket has at most one end
pub record EndsStay : Type 0 where
  pub step : (h : HostState) (s : KernelStep) → KeepsEnds h (host_stepped h s)
  pub rest : (h : HostState) → KeepsEnds h (host_rest h)
  pub turn : (h : HostState) → KeepsEnds h (host_turned h)
  pub reap : (h : HostState) (t : ℕ) → KeepsEnds h (host_reaped h t)
  pub timer : (h : HostState) → KeepsEnds h (host_timed h)
  pub idle : (h : HostState) (until : ℕ) → KeepsEnds h (host_idled h until)
  pub submit : (h : HostState) (to : Route) (deadline : Option ℕ) (t : TransferData) →
      KeepsEnds h (host_submitted h to deadline t)
  pub refuse : (h : HostState) (to : Route) (t : TransferData) (errno : ℕ) →
      KeepsEnds h (host_refused h to t errno)
  pub start_control : (h : HostState) (s : Submission) → KeepsEnds h (host_started h s)
  pub await_ticket : (h : HostState) (t deadline : ℕ) → KeepsEnds h (host_awaited h t deadline)
  pub discard : (h : HostState) (t : ℕ) → KeepsEnds h (host_discarded h t)
  pub take : (h : HostState) (t : ℕ) → KeepsEnds h (host_taken h t)
  pub abandon : (h : HostState) (t : ℕ) → KeepsEnds h (host_abandoned h t)
  pub leave : (h : HostState) (key : ℕ) → KeepsEnds h (host_left h key)
  pub open_device : (h : HostState) (bus address : ℕ) → KeepsEnds h (host_opened h bus address)
  pub clone_device : (h : HostState) (device : ℕ) → KeepsEnds h (device_cloned h device)
  pub close_device : (h : HostState) (device : ℕ) → KeepsEnds h (device_closed h device)
  pub claim : (h : HostState) (device number : ℕ) (reattach : Bool) →
      KeepsEnds h (host_claimed h device number reattach)
  pub clone_handle : (h : HostState) (interface : ℕ) → KeepsEnds h (handle_cloned h interface)
  pub close_handle : (h : HostState) (interface : ℕ) → KeepsEnds h (handle_closed h interface)
  pub set_alt_setting : (h : HostState) (interface setting : ℕ) →
      KeepsEnds h (alt_setting_set h interface setting)
  pub set_configuration : (h : HostState) (device value : ℕ) →
      KeepsEnds h (host_configured h device value)
  pub reset : (h : HostState) (device : ℕ) → KeepsEnds h (host_reset h device)
  pub detach : (h : HostState) (device number : ℕ) → KeepsEnds h (host_detached h device number)
  pub attach : (h : HostState) (device number : ℕ) → KeepsEnds h (host_attached h device number)
  pub ask_speed : (h : HostState) (device : ℕ) → KeepsEnds h (host_speed_asked h device)
  pub clear_halt : (h : HostState) (device endpoint : ℕ) →
      KeepsEnds h (host_halt_cleared h device endpoint)
  pub ask : (h : HostState) (device : ℕ) → KeepsEnds h (host_asked h device)
  pub open_endpoint : (h : HostState) (interface address : ℕ) →
      KeepsEnds h (with_endpoint h interface address)
  pub finish : (h : HostState) → KeepsEnds h (finished h)

-- of an endpoint that is closed a pending ticket is dropped exactly where it was reaped, and else
-- has no end yet
abbrev pub DroppedWhereReaped : Type 0
DroppedWhereReaped =
    (h : HostState) (e : EndpointState) (i t : ℕ) → Stands (bus_of h) e →
    slice_get e.pending i ≡ Some t →
    end_at (after_close host_calls h e).tickets t ≡
    (if is_some (completion h.kernel.past t) then Some Dropped else None)

-- and so is that of a future that is closed
abbrev pub FutureDroppedWhereReaped : Type 0
FutureDroppedWhereReaped =
    (h : HostState) (f : FutureState) (t : ℕ) → StandsFuture h f → f.ticket ≡ Some t →
    end_at (future_closed h f).tickets t ≡
    (if is_some (completion h.kernel.past t) then Some Dropped else None)
