-- What is asked of the tree of attributes and of packets of udev changes no ticket, and neither does the opening of a device by
-- its folder.
use Rattle.std.proofs.Common.{◌≡◌, ℕ, Bool, false, List, drop, Result, Ok, Err, refl}
use Rattle.futures.specs.declared.task.Poll.{Poll}
use Rattle.futures.specs.declared.task.Poll.TheVariants.{Ready, Pending}
use Rattle.usb_error.specs.ErrorState.{ErrorState}
use Rattle.usb_enum_sysfs.specs.declared.sysfs.SysfsError.{SysfsError}
use Rattle.usb_enum.specs.Buses.{BusFacts, buses}
use Rattle.usb_enum.specs.Devices.{DeviceFacts}
use Rattle.usb_enum.specs.Hotplug.{hotplug_polled}
use Rattle.usb_enum.specs.Listing.{devices}
use Rattle.usb_enum.specs.Probing.{probe}
use Rattle.usb_enum.specs.declared.hotplug.HotplugEvent.{HotplugEvent}
use Rattle.usb_enum.specs.declared.hotplug.HotplugEvent.TheVariants.{Connected, Disconnected}
use Rattle.usb_session_tree.specs.Selecting.{matched}
use Rattle.usb_session_tree.specs.Attributes.{match_line, sysfs_line}
use Rattle.usb_session_tree.specs.Buses.{buses_line}
use Rattle.usb_session_tree.specs.Devices.{info_line}
use Rattle.usb_session_tree.specs.Events.{connected_line, disconnected_line, hotplug_line}
use Rattle.usb_session_tree.specs.Listings.{devices_line}
use Rattle.usb_session_calls.specs.declared.call.TreeCall.{TreeCall}
use Rattle.usb_session_calls.specs.declared.call.TreeCall.TheVariants as trees
use Rattle.usb_session_calls.specs.State.{State}
use Rattle.usb_session.specs.Listings.{listed, list_answer, listed_buses, buses_answer}
use Rattle.usb_session.specs.Probes.{probed, probe_answer, looked_for, match_answer}
use Rattle.usb_session.specs.Hotplugs.{hotplug_answer}
use Rattle.usb_session.specs.TreeCalls.{on_tree}
use Rattle.usb_session.specs.Opens.{opened_probed, open_path_answer}
use Rattle.usb_session.proofs.Does.{Does, says_done, ends, free-does, quiet-aside, told-does, error-does}
use Rattle.usb_session.proofs.DeviceLines.{opened_at-does}

info-other : (device : DeviceFacts) → says_done (info_line device) ≡ false
unfolding info_line
info-other device = refl

sysfs-other : (error : SysfsError) → says_done (sysfs_line error) ≡ false
unfolding sysfs_line
sysfs-other error = refl

listed-does : (state : State) (r : Result (List DeviceFacts) ErrorState) → Does state (listed state r)
unfolding devices_line
listed-does state (Ok found) = told-does state (devices_line found) refl
listed-does state (Err error) = error-does state error

listed_buses-does : (state : State) (r : Result (List BusFacts) ErrorState) → Does state (listed_buses state r)
unfolding buses_line
listed_buses-does state (Ok found) = told-does state (buses_line found) refl
listed_buses-does state (Err error) = error-does state error

probed-does : (state : State) (r : Result DeviceFacts SysfsError) → Does state (probed state r)
probed-does state (Ok device) = told-does state (info_line device) (info-other device)
probed-does state (Err error) = told-does state (sysfs_line error) (sysfs-other error)

looked_for-does : (state : State) (r : Result Bool SysfsError) → Does state (looked_for state r)
unfolding match_line
looked_for-does state (Ok is_match) = told-does state (match_line is_match) refl
looked_for-does state (Err error) = told-does state (sysfs_line error) (sysfs-other error)

event-other : (p : Poll HotplugEvent) → says_done (hotplug_line p) ≡ false
unfolding connected_line disconnected_line
event-other Pending = refl
event-other (Ready (Connected device)) = refl
event-other (Ready (Disconnected id)) = refl

pub on_tree-does : (state : State) (call : TreeCall) → Does state (on_tree state call)
unfolding list_answer buses_answer probe_answer match_answer hotplug_answer
on_tree-does state trees.List = listed-does state (devices state.tree)
on_tree-does state trees.Buses = listed_buses-does state (buses state.tree)
on_tree-does state (trees.Probe path) = probed-does state (probe state.tree path)
on_tree-does state (trees.Match path selector) = looked_for-does state (matched state.tree path selector)
on_tree-does state trees.Hotplug = ends (event-other (hotplug_polled state.tree state.packets)) (quiet-aside state (record state { packets = drop 1 state.packets }) refl refl (λ d. refl) refl refl)

opened_probed-does : (state : State) (d : ℕ) (r : Result DeviceFacts SysfsError) → Does state (opened_probed state d r)
opened_probed-does state d (Ok device) = opened_at-does state d device.numbers.busnum device.numbers.address
opened_probed-does state d (Err error) = told-does state (sysfs_line error) (sysfs-other error)

pub open_path-does : (state : State) (d : ℕ) (path : List ℕ) → Does state (open_path_answer state d path)
unfolding open_path_answer
open_path-does state d path = free-does state (λ free. opened_probed-does state d (probe state.tree path))
