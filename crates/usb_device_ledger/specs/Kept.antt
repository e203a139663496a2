-- Nothing is kept that has gone.
use Rattle.std.specs.Prelude.{ℕ, ◌≡◌, true, List, Option, Some}
use Rattle.usb_device_tables.specs.History.{value_at}
use Rattle.usb_device_ledger.specs.Entries.{HostTicket, HostEndpoint, ClaimedInterface}
use Rattle.usb_device_ledger.specs.Owners.{lives, is_owned_among}

-- each interface that is there has an owner
abbrev pub EachIsOwned : List HostTicket → List (Option HostEndpoint) →
    List (Option ClaimedInterface) → Type 0
EachIsOwned tickets endpoints interfaces =
    (i : ℕ) (c : ClaimedInterface) → value_at interfaces i ≡ Some c →
    is_owned_among tickets endpoints i c ≡ true

-- and each endpoint that is there lives
abbrev pub EachLives : List HostTicket → List (Option HostEndpoint) → Type 0
EachLives tickets endpoints =
    (k : ℕ) (e : HostEndpoint) → value_at endpoints k ≡ Some e → lives tickets (k, e) ≡ true
