-- Which claim ends when an owner of an interface goes (`EndedClaim`: src/owners.rt), and what is
-- kept of its interface and of an endpoint then.
use Rattle.std.specs.Prelude.{ℕ, List, set, Option, Some, None, option_and_then, if◌then◌else◌}
use Rattle.usb_device_tables.specs.History.{value_at}
use Rattle.usb_device_ledger.specs.declared.owners.EndedClaim.{EndedClaim}
use Rattle.usb_device_ledger.specs.Entries.{ClaimedInterface, HostEndpoint, HostTicket}
use Rattle.usb_device_ledger.specs.Owners.{if_there, lives, is_owned_among}

-- the claim that ends when an owner of an interface goes: that of the interface, if it has no owner
-- any more
unfoldable pub claim_ended : List (Option ClaimedInterface) → List HostTicket →
    List (Option HostEndpoint) → ℕ → Option EndedClaim
claim_ended interfaces tickets endpoints i =
    option_and_then
    (λ (c : ClaimedInterface).
    if is_owned_among tickets endpoints i c then None
    else Some (record { device = c.device; number = c.number; reattach = c.reattach }))
    (value_at interfaces i)

-- the key of the interface of an endpoint. A control endpoint has none
abbrev pub interface_at : List (Option HostEndpoint) → ℕ → Option ℕ
interface_at endpoints k =
    option_and_then (λ (e : HostEndpoint). e.interface) (value_at endpoints k)

-- the claim that ends where an endpoint may live no more: that of its interface, if nothing owns it
unfoldable pub claim_of : List (Option ClaimedInterface) → List HostTicket →
    List (Option HostEndpoint) → ℕ → Option EndedClaim
claim_of interfaces tickets endpoints k =
    option_and_then (claim_ended interfaces tickets endpoints) (interface_at endpoints k)

-- the entries when the claim of an interface ends, if one does: its entry goes
abbrev pub without_key : {T : Type 0} → List (Option T) → Option ℕ → List (Option T)
without_key entries None = entries
without_key entries (Some i) = set entries i None

abbrev pub without_claim : {T : Type 0} → List (Option T) → Option ℕ → Option EndedClaim →
    List (Option T)
without_claim entries i None = entries
without_claim entries i (Some claim) = without_key entries i

-- the endpoints where the one of a key may live no more: its entry goes if it doesn't live
unfoldable pub endpoints_left : List HostTicket → List (Option HostEndpoint) → ℕ →
    List (Option HostEndpoint)
endpoints_left tickets endpoints k =
    if if_there (lives tickets) (k, value_at endpoints k) then endpoints else set endpoints k None
