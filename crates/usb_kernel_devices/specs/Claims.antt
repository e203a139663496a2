-- Claims of interfaces, and what the calls on devices ask of a device.
use Rattle.std.specs.Prelude.{ℕ, Bool, false, List, Option, Some, None, find, Result, Ok, Err, ◌==◌, ◌&&◌, ◌||◌, not, if◌then◌else◌}
use Rattle.std.specs.List.{list_any}
use Rattle.std.specs.Option.{option_map_or}
use Rattle.usb_desc.specs.Configurations.{configurations, alt_settings}
use Rattle.usb_desc.specs.Lookups.{has_value, has_number}
use Rattle.usb_kernel_devices.specs.declared.devices.DeviceState.{DeviceState}
use Rattle.usb_kernel_devices.specs.Interfaces.{contains, insert, remove}
use Rattle.usb_kernel_devices.specs.Devices.{plugged_device, change_device}

-- a plugged device at the address of a bus
abbrev pub is_at : ℕ → ℕ → DeviceState → Bool
is_at bus address d = d.plugged && (d.bus == bus && d.address == address)

-- the answer of a call: refused where there is an errno, and else done
abbrev pub ok_unless : Option ℕ → Result (Unit {0}) ℕ
ok_unless None = Ok tt
ok_unless (Some errno) = Err errno

-- with 19 (ENODEV) where the device is not plugged, and else by its rules
abbrev pub result_by : (DeviceState → Option ℕ) → Option DeviceState → Result (Unit {0}) ℕ
result_by rules None = Err 19
result_by rules (Some d) = ok_unless (rules d)

-- the interfaces of a device are those of its active configuration (USB 2.0, 9.2.3)
abbrev pub active_configuration : DeviceState → Option (List ℕ)
active_configuration d = find (has_value d.configuration) (configurations d.bytes)

-- whether a device has an interface of this number
abbrev pub has_interface : ℕ → DeviceState → Bool
has_interface i d = option_map_or (λ c. list_any (has_number i) (alt_settings c)) (active_configuration d) false

-- claim: 2 (ENOENT) where the interface is not in the active configuration, 16 (EBUSY) where it is claimed or a kernel driver is bound
abbrev pub claim_rules : ℕ → DeviceState → Option ℕ
claim_rules i d = if not (has_interface i d) then Some 2 else if contains d.claimed i || contains d.bound i then Some 16 else None

-- a claim that is not refused makes the interface claimed
abbrev pub with_claim : ℕ → DeviceState → DeviceState
with_claim i d = record d { claimed = insert d.claimed i }

-- release: no rule of refusal. The claim always ends, also on an unplugged device
abbrev pub no_rules : DeviceState → Option ℕ
no_rules d = None

-- the answer of a release: errno 19 on an unplugged device, whose claim ends all the same
abbrev pub release_result : List DeviceState → ℕ → Result (Unit {0}) ℕ
release_result devices k = result_by no_rules (plugged_device devices k)

-- a device of which the interface is not claimed
abbrev pub without_claim : ℕ → DeviceState → DeviceState
without_claim i d = record d { claimed = remove d.claimed i }

-- the devices after a release
abbrev pub after_release : List DeviceState → ℕ → ℕ → List DeviceState
after_release devices k i = change_device (without_claim i) k devices
