-- What an endpoint is to its users.
use Rattle.std.specs.Prelude.{ℕ, ◌<◌, ◌^◌, List}
use Rattle.usb_desc.specs.Fields.{direction_of_address}
use Rattle.usb_desc.specs.declared.types.Direction.{Direction}
use Rattle.usb_desc.specs.declared.types.TransferType.{TransferType}
use Rattle.usb_device_endpoint.specs.declared.route.Route.{Route}

-- the device's number at the kernel, the address, the transfer type and the maximum packet size of
-- the endpoint, the key by which a bus knows it, and its pending tickets in the order of their
-- submission
pub record EndpointState : Type 0 where
  pub device : ℕ
  pub address : ℕ
  pub kind : TransferType
  pub maximum : ℕ
  pub key : ℕ
  pub pending : List ℕ

-- where its submissions go
abbrev pub route_of : EndpointState → Route
route_of e =
    record {
      device = e.device;
      endpoint = e.address;
      kind = e.kind;
      maximum = e.maximum;
      key = e.key;
    }

-- an endpoint of these types and directions: its type and the direction of its address are among
-- them, and packets have a size, of 11 bits
pub record IsOf (types : TransferType → Type 0) (directions : Direction → Type 0)
    (kind : TransferType) (address maximum : ℕ) : Type 0 where
  pub some : 0 < maximum
  pub small : maximum < 2 ^ 11
  pub direction : directions (direction_of_address address)
  pub type : types kind
