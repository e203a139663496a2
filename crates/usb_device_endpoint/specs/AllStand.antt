-- Many endpoints on one bus.
use Rattle.std.specs.Prelude.{ℕ, ◌≡◌, ◌≢◌, List, Some, slice_get}
use Rattle.usb_device_endpoint.specs.BusState.{BusState}
use Rattle.usb_device_endpoint.specs.EndpointState.{EndpointState}
use Rattle.usb_device_endpoint.specs.Handles.{Stands}

-- each endpoint stands in the bus, and no two have one key
pub record AllStand (b : BusState) (es : List EndpointState) : Type 0 where
  pub each : (j : ℕ) (e : EndpointState) → slice_get es j ≡ Some e → Stands b e
  pub apart : (j k : ℕ) (e f : EndpointState) → slice_get es j ≡ Some e → slice_get es k ≡ Some f →
      j ≢ k → e.key ≢ f.key
