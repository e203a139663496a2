-- How the owners of interfaces are counted.
use Rattle.std.specs.Prelude.{ℕ, ◌≡◌, ◌<◌, ◌==◌, ◌&&◌, ◌||◌, Bool, true, false, List, set, Option, Some, None, IsSome, option_and_then, nat_lt, if◌then◌else◌}
use Rattle.std.specs.List.{All, count_by}
use Rattle.std.specs.Option.{option_map, option_map_or}
use Rattle.std.specs.FinSet as bits
use Rattle.usb_desc.specs.BitSet.{bit_of, members}
use Rattle.usb_device_tables.specs.History.{value_at}
use Rattle.usb_device_tables.specs.declared.registry.Key.{Key}
use Rattle.usb_device_ledger.specs.declared.owners.Claim.{Claim}
use Rattle.usb_device_ledger.specs.declared.owners.EndpointRow.{EndpointRow}
use Rattle.usb_device_ledger.specs.declared.owners.EndedClaim.{EndedClaim}
use Rattle.usb_device_ledger.specs.Entries.{ClaimedInterface, HostEndpoint}
use Rattle.usb_device_ledger.specs.Owners.{shares_bit, is_of}

-- the key of the interface of a row (`serial`, of usb_device_tables)
abbrev pub row_interface : EndpointRow → Option ℕ
row_interface e = option_map (λ (key : Key). key.serial) e.interface

-- the endpoint of a row, without its count of tickets
abbrev pub endpoint_of : EndpointRow → HostEndpoint
endpoint_of e = record { interface = row_interface e; address = e.address; is_open = e.is_open }

abbrev pub is_alive : EndpointRow → Bool
is_alive e = e.is_open || nat_lt 0 e.tickets

abbrev pub is_alive_on : ℕ → Option EndpointRow → Bool
is_alive_on i None = false
is_alive_on i (Some e) = is_of i (row_interface e) && is_alive e

abbrev pub is_alive_with : ℕ → ℕ → Option EndpointRow → Bool
is_alive_with i bit None = false
is_alive_with i bit (Some e) = is_alive_on i (Some e) && bit_of e.address == bit

-- whether a row lives and has the bit of an address
abbrev pub uses_row : ℕ → ℕ → Option EndpointRow → Bool
uses_row i address None = false
uses_row i address (Some e) = is_alive_on i (Some e) && shares_bit e.address address

abbrev pub one_if : Bool → ℕ
one_if b = if b then 1 else 0

abbrev pub claim_state : Claim → ClaimedInterface
claim_state c =
    record {
      opened = c.opened.serial;
      device = c.device;
      number = c.number;
      setting = c.setting;
      reattach = c.reattach;
      handles = c.handles;
    }

-- what a value of the type `Owners` (src/owners.rt) is. claim_capacity: how many interfaces there is
-- memory for at once
pub record OwnersState : Type 0 where
  pub interfaces : List (Option ClaimedInterface)
  pub rows : List (Option EndpointRow)
  pub claim_capacity : ℕ

-- the rows when one has another count or is closed
abbrev pub rows_by : List (Option EndpointRow) → ℕ → Bool → ℕ → Option EndpointRow →
    List (Option EndpointRow)
rows_by rows k is_open tickets None = rows
rows_by rows k is_open tickets (Some e) =
    set rows k (Some (record e { is_open = is_open; tickets = tickets }))

unfoldable pub with_row : List (Option EndpointRow) → ℕ → Bool → ℕ → List (Option EndpointRow)
with_row rows k is_open tickets = rows_by rows k is_open tickets (value_at rows k)

-- the rows where one may live no more: it goes if it doesn't live
unfoldable pub rows_left : List (Option EndpointRow) → ℕ → List (Option EndpointRow)
rows_left rows k = if option_map_or is_alive (value_at rows k) false then rows else set rows k None

-- the interface of the row of a key
abbrev pub interface_of_row : List (Option EndpointRow) → ℕ → Option ℕ
interface_of_row rows k = option_and_then row_interface (value_at rows k)

-- the claim that ends where an owner of an interface has gone, by the counts
abbrev pub is_counted : List (Option EndpointRow) → ℕ → ClaimedInterface → Bool
is_counted rows i c = nat_lt 0 c.handles || nat_lt 0 (count_by (is_alive_on i) rows)

unfoldable pub claim_gone : List (Option ClaimedInterface) → List (Option EndpointRow) → ℕ →
    Option EndedClaim
claim_gone interfaces rows i =
    option_and_then
    (λ (c : ClaimedInterface).
    if is_counted rows i c then None
    else Some (record { device = c.device; number = c.number; reattach = c.reattach }))
    (value_at interfaces i)

-- and where an endpoint may have gone
unfoldable pub row_gone : List (Option ClaimedInterface) → List (Option EndpointRow) → ℕ →
    Option EndedClaim
row_gone interfaces rows k =
    option_and_then (claim_gone interfaces rows) (interface_of_row rows k)

-- whether a claim has an owner, by what it counts, and the claim that ends if it has none
abbrev pub has_owners : Claim → Bool
has_owners c = nat_lt 0 c.handles || nat_lt 0 c.living

abbrev pub claim_if : Claim → Option EndedClaim
claim_if c =
    if has_owners c then None
    else Some (record { device = c.device; number = c.number; reattach = c.reattach })

-- an address is a byte
abbrev pub IsSmall : Option EndpointRow → Type 0
IsSmall None = Unit {0}
IsSmall (Some e) = e.address < 256

-- the counts and the bits of each interface are those of its endpoints that live, of which no two
-- share a bit; and the interface of each endpoint that lives is there
pub record CountsOf (claims : List (Option Claim)) (rows : List (Option EndpointRow)) : Type 0 where
  pub living : (i : ℕ) (c : Claim) → value_at claims i ≡ Some c →
      c.living ≡ count_by (is_alive_on i) rows
  pub used : (i : ℕ) (c : Claim) (bit : ℕ) → value_at claims i ≡ Some c →
      count_by (is_alive_with i bit) rows ≡ one_if (bits.contains (members c.bits) bit)
  pub placed : (k i : ℕ) (e : EndpointRow) → value_at rows k ≡ Some e → is_alive e ≡ true →
      row_interface e ≡ Some i → IsSome (value_at claims i)
  pub small : All IsSmall rows

-- nothing is kept that has gone: each interface that is there has an owner
abbrev pub AreOwned : List (Option Claim) → Type 0
AreOwned claims = (i : ℕ) (c : Claim) → value_at claims i ≡ Some c → has_owners c ≡ true

-- and each row that is there lives
abbrev pub AreAlive : List (Option EndpointRow) → Type 0
AreAlive rows = (k : ℕ) (e : EndpointRow) → value_at rows k ≡ Some e → is_alive e ≡ true
