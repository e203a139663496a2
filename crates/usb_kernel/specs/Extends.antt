-- How a journal goes on.
use Rattle.std.specs.Prelude.{◌≡◌, List, ◌++◌}
use Rattle.usb_kernel.specs.declared.event.Event.{Event}

-- the new journal is the old one, with more events after it
pub record Extends (old new : List Event) : Type 0 where
  pub more : List Event
  pub is : new ≡ more ++ old
