-- The simulated devices, and which of them a number names.
use Rattle.std.specs.Prelude.{ℕ, Bool, true, false, List, [], ◌∷◌, Option, Some, None, find, option_and_then, ◌==◌, if◌then◌else◌}
use Rattle.usb_kernel_devices.specs.declared.devices.SimDevice.{SimDevice}
use Rattle.usb_kernel_devices.specs.declared.devices.DeviceState.{DeviceState}
use Rattle.usb_kernel_devices.specs.Interfaces.{set_of}

-- a device at the start: plugged, with no interface claimed; kernel drivers are bound to the interfaces that were named
abbrev pub fresh_device : (ℕ × SimDevice) → DeviceState
fresh_device p =
    record {
      number = p.0;
      bus = p.1.bus;
      address = p.1.address;
      speed = p.1.speed;
      configuration = p.1.config;
      bytes = p.1.bytes;
      plugged = true;
      claimed = [];
      bound = set_of p.1.drivers;
    }

-- whether a device has this number
abbrev pub has_device_number : ℕ → DeviceState → Bool
has_device_number k d = d.number == k

-- the device of a number: the first that has it
abbrev pub device_of : List DeviceState → ℕ → Option DeviceState
device_of devices k = find (has_device_number k) devices

-- a device, while it is plugged
abbrev pub if_plugged : DeviceState → Option DeviceState
if_plugged d = if d.plugged then Some d else None

-- the device of a number while it is plugged; none also where no device has the number
abbrev pub plugged_device : List DeviceState → ℕ → Option DeviceState
plugged_device devices k = option_and_then if_plugged (device_of devices k)

-- the devices after a change of the one that a number names
abbrev pub change_device : (DeviceState → DeviceState) → ℕ → List DeviceState → List DeviceState
change_device change k [] = []
change_device change k (d ∷ ds) = if d.number == k then change d ∷ ds else d ∷ change_device change k ds

-- a device that is pulled out: the rest of what is kept of it stays
abbrev pub unplugged : DeviceState → DeviceState
unplugged d = record d { plugged = false }

-- the devices after one was pulled out
abbrev pub devices_unplugged : List DeviceState → ℕ → List DeviceState
devices_unplugged devices k = change_device unplugged k devices
