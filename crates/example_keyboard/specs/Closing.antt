-- Which handles a call leaves open.
use Rattle.std.specs.Prelude.{ℕ, ◌≡◌, ◌≢◌, ◌≤◌, true, List, Option}
use Rattle.std.specs.Option.{option_map_or}
use Rattle.usb_device_tables.specs.History.{value_at}
use Rattle.usb_device_ledger.specs.declared.opened.OpenDevice.{OpenDevice}
use Rattle.usb_device_ledger.specs.Entries.{ClaimedInterface}
use Rattle.usb_device_host.specs.HostState.{HostState}
use Rattle.usb_device_host.specs.HostBus.{key_at}

-- how many handles are open of what has a key: none where it is gone
abbrev pub handles_at : {T : Type 0} → (T → ℕ) → List (Option T) → ℕ → ℕ
handles_at handles entries key = option_map_or handles (value_at entries key) 0

-- of nothing more handles are open than before
abbrev pub NoMoreOpen : {T : Type 0} → (T → ℕ) → List (Option T) → List (Option T) → Type 0
NoMoreOpen handles old new = (key : ℕ) → handles_at handles new key ≤ handles_at handles old key

abbrev pub NoMoreDevices : HostState → HostState → Type 0
NoMoreDevices old new = NoMoreOpen (λ (o : OpenDevice). o.handles) old.devices new.devices

abbrev pub NoMoreInterfaces : HostState → HostState → Type 0
NoMoreInterfaces old new =
    NoMoreOpen (λ (c : ClaimedInterface). c.handles) old.interfaces new.interfaces

-- a call leaves no handle open that it opened
pub record LeavesNoneOpen (old new : HostState) : Type 0 where
  pub devices : NoMoreDevices old new
  pub interfaces : NoMoreInterfaces old new
  pub endpoints : (key : ℕ) → key_at new.endpoints key ≡ true → key_at old.endpoints key ≡ true

-- or only that of the endpoint of this key
pub record LeavesOneOpen (old new : HostState) (one : ℕ) : Type 0 where
  pub devices : NoMoreDevices old new
  pub interfaces : NoMoreInterfaces old new
  pub endpoints : (key : ℕ) → one ≢ key → key_at new.endpoints key ≡ true →
      key_at old.endpoints key ≡ true
