-- What events that are done again, one after another, come to.
use Rattle.std.specs.Prelude.{List}
use Rattle.usb_kernel.specs.declared.event.Event.{Event}
use Rattle.usb_trace.specs.declared.replay.Replay.{Replay}
use Rattle.usb_trace.specs.declared.replay.Replay.TheVariants.{Going, Stopped}
use Rattle.usb_trace.specs.Replays.{IsReplaying, IsReplay, StopsAt}

-- either each of them acts, and a kernel's journal has them, or one is the first that doesn't act
abbrev pub IsReplayed : List Event → Replay → Type 0
IsReplayed events (Going kernel) = IsReplaying kernel × IsReplay events kernel.past
IsReplayed events (Stopped place) = StopsAt events place
