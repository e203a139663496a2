-- The calls on a device: the rules by which each is refused, and what one that is not refused makes of the device.
use Rattle.std.specs.Prelude.{ℕ, ◌==◌, ◌&&◌, ◌||◌, not, false, List, Option, Some, None, Result, Ok, Err, if◌then◌else◌}
use Rattle.std.specs.List.{list_any}
use Rattle.std.specs.Option.{option_map_or}
use Rattle.usb_desc.specs.Configurations.{configurations, alt_settings}
use Rattle.usb_desc.specs.Lookups.{has_value, has_setting}
use Rattle.usb_kernel_devices.specs.declared.devices.DeviceState.{DeviceState}
use Rattle.usb_kernel_devices.specs.Interfaces.{contains, is_empty, insert, remove}
use Rattle.usb_kernel_devices.specs.Devices.{change_device}
use Rattle.usb_kernel_devices.specs.Claims.{active_configuration, has_interface}

-- the first errno of two
infixr 20 ◌or_else◌
abbrev pub ◌or_else◌ : Option ℕ → Option ℕ → Option ℕ
Some errno or_else later = Some errno
None or_else later = later

-- the errno of the rules, where there is a device
abbrev pub rules_of : (DeviceState → Option ℕ) → Option DeviceState → Option ℕ
rules_of rules None = None
rules_of rules (Some d) = rules d

-- the answer of a call that gives something of the device
abbrev pub answer_of : {X : Type 0} → (DeviceState → X) → Option ℕ → Option DeviceState → Result X ℕ
answer_of give (Some errno) d = Err errno
answer_of give None None = Err 19
answer_of give None (Some d) = Ok (give d)

-- the devices behind a call: the device is changed where the call was not refused
abbrev pub devices_called : List DeviceState → ℕ → (DeviceState → DeviceState) → Option ℕ → List DeviceState
devices_called devices d change None = change_device change d devices
devices_called devices d change (Some errno) = devices

-- no change
abbrev pub same : DeviceState → DeviceState
same d = d

-- set_configuration: 22 where the value is not 0 and no configuration has it; 16 where an interface
-- is claimed
abbrev pub set_configuration_rules : ℕ → DeviceState → Option ℕ
set_configuration_rules value d =
    if not (value == 0) && not (list_any (has_value value) (configurations d.bytes)) then Some 22
    else if is_empty d.claimed then None
    else Some 16

-- this configuration is the active one, or none for 0
abbrev pub with_configuration : ℕ → DeviceState → DeviceState
with_configuration value d = record d { configuration = value }

-- claim: its rules and its change are those of Claims.antt

-- detach_and_claim: 2 where the interface is not in the active configuration, 16 where it is
-- claimed
abbrev pub detach_and_claim_rules : ℕ → DeviceState → Option ℕ
detach_and_claim_rules i d = if not (has_interface i d) then Some 2 else if contains d.claimed i then Some 16 else None

-- the interface is claimed, and no kernel driver is bound to it any more
abbrev pub with_claimed_only : ℕ → DeviceState → DeviceState
with_claimed_only i d = record d { claimed = insert d.claimed i; bound = remove d.bound i }

-- detach: 22 where the interface is not in the active configuration, 61 where no driver is bound
abbrev pub detach_rules : ℕ → DeviceState → Option ℕ
detach_rules i d = if not (has_interface i d) then Some 22 else if contains d.bound i then None else Some 61

-- no kernel driver is bound to the interface
abbrev pub without_driver : ℕ → DeviceState → DeviceState
without_driver i d = record d { bound = remove d.bound i }

-- attach: 22 where the interface is not in the active configuration, 16 where a driver is bound to
-- it or it is claimed
abbrev pub attach_rules : ℕ → DeviceState → Option ℕ
attach_rules i d = if not (has_interface i d) then Some 22 else if contains d.bound i || contains d.claimed i then Some 16 else None

-- a kernel driver is bound to the interface
abbrev pub with_driver : ℕ → DeviceState → DeviceState
with_driver i d = record d { bound = insert d.bound i }

-- set_interface: 22 where the interface has no such setting in the active configuration
abbrev pub set_interface_rules : ℕ → ℕ → DeviceState → Option ℕ
set_interface_rules i setting d =
    if option_map_or (λ c. list_any (has_setting i setting) (alt_settings c)) (active_configuration d) false then None else Some 22
