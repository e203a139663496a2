-- Events whose bodies go with the direction of their endpoints, whatever the bytes.
use Rattle.std.specs.Prelude.{ℕ, ◌<◌, ◌≤◌}
use Rattle.usb_kernel.specs.declared.event.Event.{Event}
use Rattle.usb_kernel.specs.declared.event.Event.TheVariants.{Submit, Refuse}
use Rattle.usb_kernel.specs.declared.event.Body.{Body}
use Rattle.usb_kernel.specs.declared.event.Body.TheVariants.{Wanted, Sent}

-- bytes are wanted at an IN endpoint, whose address has bit 7, and sent at an OUT endpoint
abbrev pub IsBodyDirected : ℕ → Body → Type 0
IsBodyDirected e (Wanted n) = 128 ≤ e
IsBodyDirected e (Sent bytes) = e < 128

-- so it is of a submission, refused or not
abbrev pub IsDirected : Event → Type 0
IsDirected (Submit t d e m body room deadline) = IsBodyDirected e body
IsDirected (Refuse t d e m body room errno) = IsBodyDirected e body
IsDirected _ = Unit {0}
