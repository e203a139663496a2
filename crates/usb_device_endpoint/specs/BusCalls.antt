-- What calls leave of a bus.
use Rattle.std.specs.Prelude.{ℕ, Option, Result}
use Rattle.usb_xfer.specs.declared.transfer.TransferData.{TransferData}
use Rattle.usb_device_endpoint.specs.declared.route.Route.{Route}
use Rattle.usb_device_endpoint.specs.declared.route.Turn.{Turn}
use Rattle.usb_device_endpoint.specs.BusState.{BusState}

-- what a bus is to the endpoints on it, and what is left of the whole bus (S) after each call, so
-- that whoever knows the bus itself loses nothing by a call through an endpoint
pub record BusCalls (S : Type 0) : Type 0 where
  pub state : S → BusState
  -- with a deadline or none
  pub submitted : S → Route → Option ℕ → TransferData → S
  pub refused : S → Route → TransferData → ℕ → S
  pub discarded : S → ℕ → S
  pub abandoned : S → ℕ → S
  pub taken : S → ℕ → S
  pub closed : S → ℕ → S
  pub turned : S → S
  -- what the turn was
  pub turn_of : S → Turn
  pub idled : S → ℕ → S
  pub halt_cleared : S → ℕ → ℕ → S
  -- and what it answered
  pub halt_result : S → ℕ → ℕ → Result (Unit {0}) ℕ
