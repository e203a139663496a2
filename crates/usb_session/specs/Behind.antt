-- How a script goes on.
use Rattle.std.specs.Prelude.{List}
use Rattle.usb_kernel.specs.Extends.{Extends}
use Rattle.usb_script_lines.specs.declared.item.Item.{Item}
use Rattle.usb_device_host.specs.HostState.{HostState}
use Rattle.usb_device.specs.EndLaws.{KeepsEnds}
use Rattle.usb_session.specs.Answers.{answer}
use Rattle.usb_session.specs.Ends.{ended}
use Rattle.usb_session.specs.Output.{start, behind}

-- the journal goes on, and a ticket that has its end keeps it
pub record GoesOnTo (old new : HostState) : Type 0 where
  pub journal : Extends old.kernel.past new.kernel.past
  pub ends : KeepsEnds old new

-- so it is over each line of a script, whatever lines came before, and over the end of the session
pub record ScriptsGoOn : Type 0 where
  pub line : (items before : List Item) (item : Item) → GoesOnTo (behind (start items) before).host (answer (behind (start items) before) item).state.host
  pub end : (items before : List Item) → GoesOnTo (behind (start items) before).host (ended (behind (start items) before))
