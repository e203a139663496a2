-- The handles of devices and of interfaces over the calls of endpoints, and while a host goes on.
use Rattle.std.proofs.Common.{ℕ, ◌≡◌, slice_get, Option, Some, None, refl, ap, ◌∙◌}
use Rattle.std.specs.Prelude.{is_some}
use Rattle.std.proofs.lemmas.Bool.{cond_both}
use Rattle.usb_kernel_devices.specs.declared.step.KernelStep.{KernelStep}
use Rattle.usb_kernel.specs.declared.submission.Done.{Done}
use Rattle.usb_kernel.specs.Completions.{completion, reapable}
use Rattle.usb_kernel.specs.Steps.{after_step, step_done, after_reap}
use Rattle.usb_device_endpoint.specs.BusHandles.{KeepsHandles}
use Rattle.usb_device_ledger.specs.Entries.{HostTicket, HeldBy, Abandoned, Ended}
use Rattle.usb_device_ledger.specs.declared.ends.TicketEnd.{TicketEnd}
use Rattle.usb_device_ledger.specs.declared.ends.TicketEnd.TheVariants.{Taken, Dropped}
use Rattle.usb_device_ledger.proofs.DeviceLemmas.{KeepsThere, counts-same, there-same, opened-same}
use Rattle.usb_device_host.specs.HostState.{HostState}
use Rattle.usb_device_host.specs.HostFrames.{ClaimsGoOn, LineGoesOn}
use Rattle.usb_device_host.specs.HandleStates.{InterfaceState, StandsDevice, StandsInterface}
use Rattle.usb_device_host.specs.DeviceHandles.{DeviceHandlesStand}
use Rattle.usb_device_host.specs.TicketEnds.{ended_as, host_ended, host_taken, given_up, host_abandoned, came}
use Rattle.usb_device_host.specs.HostTurns.{with_past, host_stepped, host_reaped, host_turned}
use Rattle.usb_device_host.specs.HostCalls.{host_submitted, host_refused, host_discarded, host_left, host_timed, host_idled, host_halt_cleared, host_calls}
use Rattle.usb_device_host.proofs.HostFrames.{ended_as-is, ended_as-goes, came-is, came-goes}
use Rattle.usb_device_host.proofs.ClaimFrames.{goes-refl, goes-trans}
use Rattle.usb_device_host.proofs.CallFrames.{keeps-submitted, keeps-refused, line-left, interfaces-left}
use Rattle.usb_device_host.proofs.WaitFrames.{went-turned}
use Rattle.usb_device_host.proofs.HostKeeps.{KeepsOpen}
use Rattle.usb_device_host.proofs.DeviceLemmas.{kept-stands}
use Rattle.usb_device_host.proofs.HeldDevices.{held-goes}

-- what a host does by itself, and most calls: no open device changes, and claimed interfaces go on
pub record LeavesDevices (old new : HostState) : Type 0 where
  pub devices : new.devices ≡ old.devices
  pub interfaces : ClaimsGoOn old.interfaces new.interfaces

pub leaves-refl : (h : HostState) → LeavesDevices h h
leaves-refl h = record { devices = refl; interfaces = goes-refl h.interfaces }

pub leaves-trans : (a b c : HostState) → LeavesDevices a b → LeavesDevices b c → LeavesDevices a c
leaves-trans a b c first second = record { devices = second.devices ∙ first.devices; interfaces = goes-trans a.interfaces b.interfaces c.interfaces first.interfaces second.interfaces }

pub leaves-open : (old new : HostState) → KeepsOpen old new → LeavesDevices old new
leaves-open old new keeps = record { devices = keeps.line.devices; interfaces = keeps.interfaces }

-- steps, reaps and ends of tickets
pub came-leaves : (h : HostState) (o : Option Done) → LeavesDevices h (came h o)
came-leaves h o = record { devices = ap (λ (g : HostState). g.devices) (came-is h o); interfaces = (came-goes h o).interfaces }

pub stepped-leaves : (h : HostState) (s : KernelStep) → LeavesDevices h (host_stepped h s)
unfolding host_stepped
stepped-leaves h s = let came_ = came-leaves (record h { kernel = after_step h.kernel s }) (step_done h.kernel.past s) in record { devices = came_.devices; interfaces = came_.interfaces }

pub reaped-leaves : (h : HostState) (t : ℕ) → LeavesDevices h (host_reaped h t)
unfolding host_reaped
reaped-leaves h t = let came_ = came-leaves (with_past h (after_reap h.kernel.past t)) (reapable h.kernel.past t) in record { devices = came_.devices; interfaces = came_.interfaces }

pub discarded-leaves : (h : HostState) (t : ℕ) → LeavesDevices h (host_discarded h t)
unfolding host_discarded
discarded-leaves h t = record { devices = refl; interfaces = goes-refl h.interfaces }

ended_as-leaves : (h : HostState) (t : ℕ) (end : TicketEnd) (o : Option HostTicket) → LeavesDevices h (ended_as h t end o)
ended_as-leaves h t end o = record { devices = ap (λ (g : HostState). g.devices) (ended_as-is h t end o); interfaces = (ended_as-goes h t end o).interfaces }

pub ended-leaves : (h : HostState) (t : ℕ) (end : TicketEnd) → LeavesDevices h (host_ended h t end)
unfolding host_ended
ended-leaves h t end = ended_as-leaves h t end (slice_get h.tickets t)

pub taken-leaves : (h : HostState) (t : ℕ) → LeavesDevices h (host_taken h t)
unfolding host_taken
taken-leaves h t = ended-leaves h t Taken

given_up-leaves : (h : HostState) (t : ℕ) (o : Option HostTicket) → LeavesDevices h (given_up h t o)
given_up-leaves h t None = leaves-refl h
given_up-leaves h t (Some (HeldBy hold)) = record { devices = refl; interfaces = goes-refl h.interfaces }
given_up-leaves h t (Some (Abandoned key)) = leaves-refl h
given_up-leaves h t (Some (Ended end)) = leaves-refl h

pub abandoned-leaves : (h : HostState) (t : ℕ) → LeavesDevices h (host_abandoned h t)
unfolding host_abandoned
abandoned-leaves h t =
    let given = given_up h t (slice_get h.tickets t) in
    cond_both (is_some (completion h.kernel.past t)) (host_ended h t Dropped) given (LeavesDevices h) (λ yes_. ended-leaves h t Dropped) (λ no_. given_up-leaves h t (slice_get h.tickets t))

pub left-leaves : (h : HostState) (key : ℕ) → LeavesDevices h (host_left h key)
left-leaves h key = record { devices = (line-left h key).devices; interfaces = interfaces-left h key }

pub timed-leaves : (h : HostState) → LeavesDevices h (host_timed h)
timed-leaves h = record { devices = refl; interfaces = goes-refl h.interfaces }

pub idled-leaves : (h : HostState) (until : ℕ) → LeavesDevices h (host_idled h until)
idled-leaves h until = record { devices = refl; interfaces = goes-refl h.interfaces }

-- turns and waits
pub line-leaves : (old new : HostState) → LineGoesOn old new → LeavesDevices old new
line-leaves old new line = record { devices = line.devices; interfaces = line.interfaces }

-- a handle stands while claimed interfaces go on
pub StandsInterface-same : (h g : HostState) (f : InterfaceState) → ClaimsGoOn h.interfaces g.interfaces → KeepsThere h.devices g.devices → StandsInterface h f → StandsInterface g f
StandsInterface-same h g f goes there stands =
    record {
      claim = stands.claim;
      at = goes.stays f.key stands.claim stands.at stands.open_handle;
      number = stands.number;
      open_handle = stands.open_handle;
      device = there stands.claim.opened stands.device;
    }

-- handles stand while the open devices stay
pub device-stays : (h g : HostState) (key : ℕ) → g.devices ≡ h.devices → StandsDevice h key → StandsDevice g key
device-stays h g key same stands = kept-stands h g key (opened-same h.devices g.devices same) stands

pub interface-stays : (h g : HostState) (i : InterfaceState) → ClaimsGoOn h.interfaces g.interfaces → g.devices ≡ h.devices → StandsInterface h i → StandsInterface g i
interface-stays h g i goes same stands = StandsInterface-same h g i goes (there-same h.devices g.devices same) stands

-- so handles stand that are not endpoints
pub leaves-stand : (old new : HostState) → LeavesDevices old new → DeviceHandlesStand old new
leaves-stand old new leaves =
    record {
      devices = λ d stands. device-stays old new d leaves.devices stands;
      interfaces = λ i stands. interface-stays old new i leaves.interfaces leaves.devices stands;
      held = held-goes old new (counts-same old.devices new.devices leaves.devices) leaves.interfaces;
    }

pub calls-keep_handles : KeepsHandles host_calls DeviceHandlesStand
calls-keep_handles =
    record {
      submitted = λ h to deadline t. leaves-stand h (host_submitted h to deadline t) (leaves-open h (host_submitted h to deadline t) (keeps-submitted h to deadline t));
      refused = λ h to t errno. leaves-stand h (host_refused h to t errno) (leaves-open h (host_refused h to t errno) (keeps-refused h to t errno));
      discarded = λ h t. leaves-stand h (host_discarded h t) (discarded-leaves h t);
      abandoned = λ h t. leaves-stand h (host_abandoned h t) (abandoned-leaves h t);
      taken = λ h t. leaves-stand h (host_taken h t) (taken-leaves h t);
      closed = λ h key. leaves-stand h (host_left h key) (left-leaves h key);
      turned = λ h. leaves-stand h (host_turned h) (line-leaves h (host_turned h) (went-turned h).line);
      idled = λ h until. leaves-stand h (host_idled h until) (idled-leaves h until);
      halt_cleared = λ h device endpoint. leaves-stand h (host_halt_cleared h device endpoint) (record { devices = refl; interfaces = goes-refl h.interfaces });
    }
