-- How pending tickets are discarded and given up.
use Rattle.std.specs.Prelude.{ℕ, List, [], ◌∷◌}
use Rattle.usb_device_endpoint.specs.BusCalls.{BusCalls}
use Rattle.usb_device_endpoint.specs.EndpointState.{EndpointState}

-- the discards of a list of tickets, from the last to the first
abbrev pub all_discarded : {S : Type 0} → (S → ℕ → S) → S → List ℕ → S
all_discarded discarded s [] = s
all_discarded discarded s (t ∷ ts) = discarded (all_discarded discarded s ts) t

-- the tickets are given up, from the first on
abbrev pub all_abandoned : {S : Type 0} → (S → ℕ → S) → S → List ℕ → S
all_abandoned abandoned s [] = s
all_abandoned abandoned s (t ∷ ts) = all_abandoned abandoned (abandoned s t) ts

-- a closed endpoint has discarded its tickets, given them up, and left the bus
abbrev pub after_close : {S : Type 0} → BusCalls S → S → EndpointState → S
after_close k s e =
    k.closed (all_abandoned k.abandoned (all_discarded k.discarded s e.pending) e.pending) e.key
