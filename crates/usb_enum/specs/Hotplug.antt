-- Devices that come and go, as packets of udev tell.
use Rattle.std.specs.Prelude.{ℕ, ◌==◌, List, [], ◌∷◌, ◌++◌, codes, Option, Some, None, if◌then◌else◌}
use Rattle.futures.specs.declared.task.Poll.{Poll}
use Rattle.futures.specs.declared.task.Poll.TheVariants.{Ready, Pending}
use Rattle.std.specs.Option.{option_and_then, option_map}
use Rattle.std.specs.Result.{result_ok}
use Rattle.usb_enum.specs.Probing.{probe}
use Rattle.usb_enum_sysfs.specs.Tree.{Tree}
use Rattle.usb_enum.specs.Udev.{Notice, notice_in}
use Rattle.usb_enum.specs.declared.hotplug.HotplugEvent.{HotplugEvent}
use Rattle.usb_enum.specs.declared.hotplug.HotplugEvent.TheVariants.{Connected, Disconnected}
use Rattle.usb_enum.specs.declared.hotplug.UdevPacket.{UdevPacket}

-- the text without the slashes at its start
abbrev pub without_slashes : List ℕ → List ℕ
without_slashes [] = []
without_slashes (b ∷ bytes) = if b == 47 then without_slashes bytes else b ∷ bytes

abbrev pub folder_below_sys : List ℕ → List ℕ
folder_below_sys path = codes "/sys/" ++ without_slashes path

-- the device that came, where probing it succeeds
abbrev pub connected : Tree → List ℕ → Option HotplugEvent
connected t path = option_map (λ d. Connected d) (result_ok (probe t (folder_below_sys path)))

abbrev pub event_with : Tree → Notice → Option HotplugEvent
event_with t n = if n.added then connected t n.path else Some (Disconnected (record { bus = n.busnum; address = n.address }))

-- the event of a packet, which counts only where its groups are 2
abbrev pub event_of : Tree → UdevPacket → Option HotplugEvent
event_of t packet = if packet.groups == 2 then option_and_then (event_with t) (notice_in packet.bytes) else None

abbrev pub polled_event : Option HotplugEvent → Poll HotplugEvent
polled_event None = Pending
polled_event (Some event) = Ready event

-- a poll looks at one packet
abbrev pub hotplug_polled : Tree → List UdevPacket → Poll HotplugEvent
hotplug_polled t [] = Pending
hotplug_polled t (packet ∷ packets) = polled_event (event_of t packet)
