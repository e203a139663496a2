-- The two endpoints of a device that sends back what it is sent.
use Rattle.std.specs.Prelude.{◌≡◌, ◌≢◌, []}
use Rattle.usb_device_endpoint.specs.BusState.{BusState}
use Rattle.usb_device_endpoint.specs.EndpointState.{EndpointState}
use Rattle.usb_device_endpoint.specs.Handles.{Stands}

pub record EchoState : Type 0 where
  pub input : EndpointState
  pub output : EndpointState

-- both stand in a bus, each by a key of its own, and nothing is pending at either
pub record BothStand (b : BusState) (e : EchoState) : Type 0 where
  pub input : Stands b e.input
  pub output : Stands b e.output
  pub apart : e.input.key ≢ e.output.key
  pub none_in : e.input.pending ≡ []
  pub none_out : e.output.pending ≡ []
