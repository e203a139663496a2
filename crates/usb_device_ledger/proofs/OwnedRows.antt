-- The endpoints of an interface that live, by the rows.
use Rattle.std.proofs.Common.{ℕ, ◌≡◌, List, map, Option, refl, ◌∙◌}
use Rattle.std.specs.Prelude.{nat_lt}
use Rattle.std.specs.List.{count_by}
use Rattle.std.specs.Option.{option_map}
use Rattle.usb_device_ledger.specs.declared.owners.EndpointRow.{EndpointRow}
use Rattle.usb_device_ledger.specs.Entries.{HostTicket}
use Rattle.usb_device_ledger.specs.Owners.{lives_on, has_living}
use Rattle.usb_device_ledger.specs.OwnerRows.{endpoint_of, is_alive_on}
use Rattle.usb_device_ledger.specs.LedgerState.{Tied}
use Rattle.usb_device_ledger.proofs.ListLemmas.{any-count}
use Rattle.usb_device_ledger.proofs.LedgerLemmas.{any-rows, lives_on-row}

-- an endpoint of an interface lives where a row of it does
pub has_living-rows : (rows : List (Option EndpointRow)) (tickets : List HostTicket) → Tied rows tickets → (i : ℕ) → has_living tickets (map (option_map endpoint_of) rows) i ≡ nat_lt 0 (count_by (is_alive_on i) rows)
has_living-rows rows tickets tied i = any-rows rows tickets tied (lives_on tickets i) (is_alive_on i) refl (lives_on-row rows tickets tied i) ∙ any-count (is_alive_on i) rows
