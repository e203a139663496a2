-- What is asked of the tree of attributes, or of the packets of udev.
use Rattle.usb_session_calls.specs.declared.call.TreeCall.{TreeCall}
use Rattle.usb_session_calls.specs.declared.call.TreeCall.TheVariants.{List, Buses, Probe, Match, Hotplug}
use Rattle.usb_session_calls.specs.State.{State}
use Rattle.usb_session_calls.specs.Answer.{Answer}
use Rattle.usb_session.specs.Listings.{list_answer, buses_answer}
use Rattle.usb_session.specs.Probes.{probe_answer, match_answer}
use Rattle.usb_session.specs.Hotplugs.{hotplug_answer}

abbrev pub on_tree : State → TreeCall → Answer
on_tree state List = list_answer state
on_tree state Buses = buses_answer state
on_tree state (Probe path) = probe_answer state path
on_tree state (Match path selector) = match_answer state path selector
on_tree state Hotplug = hotplug_answer state
