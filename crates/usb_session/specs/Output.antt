-- What is written for a script: the answers in order, and then the fate of each ticket.
use Rattle.std.specs.Prelude.{ℕ, ◌==◌, List, [], ◌∷◌, ◌++◌, map, replicate, Option, Some, None, if◌then◌else◌}
use Rattle.std.specs.List.{filter_map}
use Rattle.usb_kernel_devices.specs.declared.devices.SimDevice.{SimDevice}
use Rattle.usb_kernel_devices.specs.Devices.{fresh_device}
use Rattle.usb_script_lines.specs.declared.item.Item.{Item}
use Rattle.usb_script_lines.specs.declared.item.Item.TheVariants.{Device, Driver}
use Rattle.usb_script_lines.specs.ItemKinds.{place_count}
use Rattle.usb_session_tree.specs.Packets.{packets_of}
use Rattle.usb_session_tree.specs.Trees.{tree_of}
use Rattle.usb_device_host.specs.HostState.{HostState, host_of}
use Rattle.usb_session_calls.specs.State.{State}
use Rattle.usb_session.specs.Answers.{answer}
use Rattle.usb_session.specs.Ends.{ended}
use Rattle.usb_session.specs.Fates.{fate_lines}

-- the interface to which a `driver` line binds a kernel driver, where it is one of this device
abbrev pub driver_of_item : ℕ → Item → Option ℕ
driver_of_item k (Driver j number) = if j == k then Some number else None
driver_of_item k item = None

-- the simulated device of a `device` line, with the drivers that the lines behind it bind
abbrev pub device_of_item : Item → List Item → Option (ℕ × SimDevice)
device_of_item (Device k bus address speed configuration descriptors) rest =
    Some (
      k,
      record {
        bus = bus;
        address = address;
        speed = speed;
        config = configuration;
        bytes = descriptors;
        drivers = filter_map (driver_of_item k) rest;
      },
    )
device_of_item item rest = None

-- with one more device, if there is one
abbrev pub with_device : Option (ℕ × SimDevice) → List (ℕ × SimDevice) → List (ℕ × SimDevice)
with_device None devices = devices
with_device (Some device) devices = device ∷ devices

-- the simulated devices that these items declare, each in a pair behind its number
abbrev pub devices_of : List Item → List (ℕ × SimDevice)
devices_of [] = []
devices_of (item ∷ rest) = with_device (device_of_item item rest) (devices_of rest)

-- before the first call: the kernel has the script's devices and room for all steps and resets of the script, nothing is open, and
-- the tree and the packets are those of the script
unfoldable pub start : List Item → State
start items =
    record {
      host = host_of (record { past = []; devices = map fresh_device (devices_of items); clock = 0; armed = []; spare = place_count items });
      devices = replicate 64 None;
      interfaces = replicate 64 None;
      endpoints = replicate 64 None;
      readers = replicate 64 None;
      writers = replicate 64 None;
      clients = replicate 64 None;
      futures = replicate 64 None;
      tree = tree_of items;
      packets = packets_of items;
    }

-- the answers to these items, and then the fate lines of the host at the end
abbrev pub output_from : State → List Item → List ℕ
output_from state [] = fate_lines (ended state)
output_from state (item ∷ items) = (answer state item).line ++ output_from (answer state item).state items

-- the state behind these items
abbrev pub behind : State → List Item → State
behind state [] = state
behind state (item ∷ items) = behind (answer state item).state items

-- the host after these items and the end of the session
abbrev pub last_host : State → List Item → HostState
last_host state [] = ended state
last_host state (item ∷ items) = last_host (answer state item).state items

-- what is written for a script of these items: the answers, and then the fate lines
unfoldable pub output : List Item → List ℕ
output items = output_from (start items) items

-- the last host of a script of these items
unfoldable pub final_host : List Item → HostState
final_host items = last_host (start items) items
