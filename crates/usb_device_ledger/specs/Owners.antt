-- Who owns a claimed interface, and which of its endpoints are in use.
use Rattle.std.specs.Prelude.{ℕ, ◌%◌, ◌/◌, ◌==◌, ◌&&◌, ◌||◌, Bool, false, List, nat_lt, Option, Some, None}
use Rattle.std.specs.List.{list_any, enumerate_from}
use Rattle.std.specs.Option.{option_map_or}
use Rattle.usb_device_ledger.specs.Entries.{HostTicket, HostEndpoint, ClaimedInterface, HeldBy, Abandoned, Ended}

-- whether a ticket is one of the endpoint of a key, and has no end
abbrev pub is_ticket_of : ℕ → HostTicket → Bool
is_ticket_of key (HeldBy hold) = hold.key == key
is_ticket_of key (Abandoned k) = k == key
is_ticket_of key (Ended end) = false

-- an endpoint lives while its handle is open, or a ticket of it has no end (once an endpoint
-- gave its tickets up at its close, a ticket has none exactly until it is reaped)
abbrev pub lives : List HostTicket → ℕ × HostEndpoint → Bool
lives tickets p = p.1.is_open || list_any (is_ticket_of p.0) tickets

-- whether an endpoint is of the interface of a key
abbrev pub is_of : ℕ → Option ℕ → Bool
is_of i None = false
is_of i (Some j) = j == i

-- whether it is an endpoint of the interface of a key, and lives
abbrev pub lives_on : List HostTicket → ℕ → ℕ × HostEndpoint → Bool
lives_on tickets i p = is_of i p.1.interface && lives tickets p

-- two addresses share a bit where they have the same endpoint number (bits 0 to 3) and the same
-- direction (bit 7): USB 2.0, table 9-13
abbrev pub shares_bit : ℕ → ℕ → Bool
shares_bit a b = a % 16 == b % 16 && a / 128 == b / 128

-- a test of an endpoint that is there, with its key
abbrev pub if_there : {T : Type 0} → (ℕ × T → Bool) → ℕ × Option T → Bool
if_there {T} test p = option_map_or (λ (e : T). test (p.0, e)) p.1 false

-- a bit of an interface is in use while an endpoint with it lives
abbrev pub uses_bit : List HostTicket → ℕ → ℕ → ℕ × HostEndpoint → Bool
uses_bit tickets i address p = lives_on tickets i p && shares_bit p.1.address address

-- whether the bit of an address is in use, on the interface i
unfoldable pub is_used_among : List HostTicket → List (Option HostEndpoint) → ℕ → ℕ → Bool
is_used_among tickets endpoints i address =
    list_any (if_there (uses_bit tickets i address)) (enumerate_from 0 endpoints)

-- whether an endpoint of an interface lives
abbrev pub has_living : List HostTicket → List (Option HostEndpoint) → ℕ → Bool
has_living tickets endpoints i = list_any (if_there (lives_on tickets i)) (enumerate_from 0 endpoints)

-- an interface has an owner while a handle of it is open or an endpoint of it lives
unfoldable pub is_owned_among : List HostTicket → List (Option HostEndpoint) → ℕ →
    ClaimedInterface → Bool
is_owned_among tickets endpoints i c = nat_lt 0 c.handles || has_living tickets endpoints i
