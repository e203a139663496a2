-- The line of a poll for devices that came or went.
use Rattle.std.specs.Prelude.{ℕ, List, [], ◌∷◌, codes}
use Rattle.std.specs.Fmt.{decimal}
use Rattle.futures.specs.declared.task.Poll.{Poll}
use Rattle.futures.specs.declared.task.Poll.TheVariants.{Ready, Pending}
use Rattle.usb_enum.specs.declared.device.DeviceId.{DeviceId}
use Rattle.usb_enum.specs.declared.hotplug.HotplugEvent.{HotplugEvent}
use Rattle.usb_enum.specs.declared.hotplug.HotplugEvent.TheVariants.{Connected, Disconnected}
use Rattle.usb_enum.specs.Devices.{DeviceFacts}
use Rattle.usb_session_text.specs.Words.{line_of}
use Rattle.usb_session_tree.specs.Devices.{device_words}

-- a device that came
unfoldable pub connected_line : DeviceFacts → List ℕ
connected_line device = line_of (codes "connected") (device_words device ∷ [])

-- a device that went: its bus and its address
unfoldable pub disconnected_line : DeviceId → List ℕ
disconnected_line id = line_of (codes "disconnected") (decimal id.bus ∷ decimal id.address ∷ [])

abbrev pub event_line : HotplugEvent → List ℕ
event_line (Connected device) = connected_line device
event_line (Disconnected id) = disconnected_line id

-- what a poll gave
abbrev pub hotplug_line : Poll HotplugEvent → List ℕ
hotplug_line Pending = line_of (codes "pending") []
hotplug_line (Ready event) = event_line event
