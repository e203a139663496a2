-- What a host keeps while it goes on.
use Rattle.std.specs.Prelude.{ℕ, ◌≡◌, ◌-◌, ◌<◌, true, List, ◌++◌, length, Option, Some}
use Rattle.usb_device_tables.specs.History.{value_at}
use Rattle.usb_kernel_devices.specs.declared.step.KernelStep.{KernelStep}
use Rattle.usb_device_endpoint.specs.Later.{IsLater}
use Rattle.usb_device_ledger.specs.Entries.{ClaimedInterface, HostEndpoint}
use Rattle.usb_device_host.specs.HostState.{HostState}
use Rattle.usb_device_host.specs.HostBus.{bus_of}

-- entries may go, and none comes: each that is open is as it was
pub record EntriesGoOn {T : Type 0} (IsOpen : T → Type 0) (old new : List (Option T)) : Type 0 where
  pub count : length new ≡ length old
  pub stays : (i : ℕ) (x : T) → value_at old i ≡ Some x → IsOpen x → value_at new i ≡ Some x
  pub was : (i : ℕ) (x : T) → value_at new i ≡ Some x → value_at old i ≡ Some x

-- so it is of claimed interfaces, where those with an open handle stay
abbrev pub ClaimsGoOn : List (Option ClaimedInterface) → List (Option ClaimedInterface) → Type 0
ClaimsGoOn old new = EntriesGoOn (λ (c : ClaimedInterface). 0 < c.handles) old new

-- and of endpoints
abbrev pub EndpointsGoOn : List (Option HostEndpoint) → List (Option HostEndpoint) → Type 0
EndpointsGoOn old new = EntriesGoOn (λ (e : HostEndpoint). e.is_open ≡ true) old new

-- steps were taken from the front of the line, each of which used a place of the kernel, and what
-- is open stays open
pub record LineGoesOn (old new : HostState) : Type 0 where
  pub front : List KernelStep
  pub steps : old.steps ≡ front ++ new.steps
  pub spare : new.kernel.spare ≡ old.kernel.spare - length front
  pub devices : new.devices ≡ old.devices
  pub interfaces : ClaimsGoOn old.interfaces new.interfaces
  pub endpoints : EndpointsGoOn old.endpoints new.endpoints

-- a host went on by itself: its line did, and nothing that endpoints hold has ended
pub record HostGoesOn (old new : HostState) : Type 0 where
  pub line : LineGoesOn old new
  pub later : IsLater (bus_of old) (bus_of new)
