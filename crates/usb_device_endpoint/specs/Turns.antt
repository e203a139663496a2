-- What a turn of a bus can be, and how often a bus can go on by itself.
use Rattle.std.specs.Prelude.{ℕ, ◌<◌, ◌≤◌, Option, Some, None}
use Rattle.usb_device_endpoint.specs.declared.route.Turn.{Turn}
use Rattle.usb_device_endpoint.specs.declared.route.Turn.TheVariants.{Stepped, Reaped, TimeUp}

-- a turn with no step left reaps the ticket that waits; where none does, no turn is left
abbrev pub reap_turn : Option ℕ → Turn
reap_turn None = TimeUp
reap_turn (Some t) = Reaped

-- the number of a bus falls at each turn at which time is not up, and never rises at a turn
abbrev pub Falls : Turn → ℕ → ℕ → Type 0
Falls Stepped old new = new < old
Falls Reaped old new = new < old
Falls TimeUp old new = new ≤ old
