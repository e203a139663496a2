-- The open tickets of an endpoint after an event.
use Rattle.std.specs.Prelude.{ℕ, Bool, false, List, ◌∷◌, drop, is_some, ◌≡◌, ◌≢◌, if◌then◌else◌}
use Rattle.std.specs.Option.{option_map_or}
use Rattle.usb_kernel.specs.declared.event.Event.{Event}
use Rattle.usb_kernel.specs.Journal.{fate, oldest, open_tickets}

-- the second endpoint, of device d' and address e', is not the first
abbrev pub IsOtherEndpoint : ℕ → ℕ → ℕ → ℕ → Type 0
IsOtherEndpoint d e d' e' = d ≡ d' → e ≢ e'

-- whether an event finishes the oldest open ticket of an endpoint
abbrev pub finishes_oldest : List Event → Event → ℕ → ℕ → Bool
finishes_oldest past event d e = option_map_or (λ t. is_some (fate (event ∷ past) t).status) (oldest past d e) false

-- the open tickets of an endpoint, without the oldest where an event finishes it
abbrev pub open_after_service : List Event → Event → ℕ → ℕ → List ℕ
open_after_service past event d e = if finishes_oldest past event d e then drop 1 (open_tickets past d e) else open_tickets past d e
