-- What endpoints hold is pending at an endpoint that is open under a name, or is the ticket of a future that is.
use Rattle.std.specs.Prelude.{ℕ, ◌≡◌, ◌⊎◌, List, Option, Some}
use Rattle.std.specs.List.{Contains}
use Rattle.usb_device_endpoint.specs.EndpointState.{EndpointState}
use Rattle.usb_device_ledger.specs.Entries.{HostTicket}
use Rattle.usb_device_host.specs.HostBus.{owner_at}
use Rattle.usb_device.specs.Futures.{FutureState}
use Rattle.usb_session_calls.specs.Names.{named}
use Rattle.usb_session_calls.specs.EndpointNames.{EndpointName}

-- a ticket is pending at the endpoint of a key, which is open under a name. `seen` is what the calls see of an endpoint
pub record Covered {X : Type 0} (seen : X → EndpointState) (opened : EndpointName → Option X) (t key : ℕ) : Type 0 where
  pub name : EndpointName
  pub entry : X
  pub at : opened name ≡ Some entry
  pub key_is : (seen entry).key ≡ key
  pub in_pending : Contains (seen entry).pending t

-- a ticket is that of a future of a key, which is open under a name
pub record IsAwaited (futures : List (Option FutureState)) (t key : ℕ) : Type 0 where
  pub name : ℕ
  pub future : FutureState
  pub at : named futures name ≡ Some future
  pub key_is : future.key ≡ key
  pub ticket_is : future.ticket ≡ Some t

-- each ticket that an endpoint holds is one of these
abbrev pub TicketsAreNamed : {X : Type 0} → (X → EndpointState) → List HostTicket → (EndpointName → Option X) → List (Option FutureState) → Type 0
TicketsAreNamed seen tickets opened futures =
    (t key : ℕ) → owner_at tickets t ≡ Some key → Covered seen opened t key ⊎ IsAwaited futures t key
