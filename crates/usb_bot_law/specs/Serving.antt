-- A bus whose disk serves a client.
use Rattle.std.specs.Prelude.{ℕ, ◌≡◌, ◌<◌, ◌≤◌, ◌^◌, ◌%◌, List, [], Some, None}
use Rattle.usb_kernel.specs.Journal.{open_tickets}
use Rattle.usb_kernel.specs.Submits.{submit_refusal}
use Rattle.usb_device_endpoint.specs.EndpointState.{EndpointState}
use Rattle.usb_device_host.specs.HostState.{HostState}
use Rattle.usb_bot.specs.declared.error.BotError.TheVariants as error
use Rattle.usb_bot.specs.Clients.{ClientState}
use Rattle.usb_bot_disk.specs.declared.stage.Stage.TheVariants.{Listening}
use Rattle.usb_bot_disk.specs.DiskState.{DiskState}

-- a host takes submissions to a device (d): no step of a line is left, the device is plugged, with
-- no refusal armed for its submissions, and no ticket of its OUT and its IN endpoint is unfinished
pub record IsReady (h : HostState) (d out inp : ℕ) : Type 0 where
  pub no_steps : h.steps ≡ []
  pub accepts : submit_refusal h.kernel.devices h.kernel.armed d ≡ None
  pub out_idle : open_tickets h.kernel.past d out ≡ []
  pub in_idle : open_tickets h.kernel.past d inp ≡ []

-- an endpoint is the one of a device with this address, and its packets have a size
pub record IsAt (d address : ℕ) (e : EndpointState) : Type 0 where
  pub device : e.device ≡ d
  pub address_is : e.address ≡ address
  pub some : 0 < e.maximum

-- a client is of an OUT and an IN endpoint of a device, and a block is whole packets of the latter
pub record IsOver (d out inp : ℕ) (k : ClientState) : Type 0 where
  pub out_at : IsAt d out k.out
  pub in_at : IsAt d inp k.inp
  pub low : out < 128
  pub high : 128 ≤ inp
  pub whole_blocks : 512 % k.inp.maximum ≡ 0

-- a disk with these bytes waits for the next wrapper of a client that is not broken
pub record Serves (b : DiskState) (k : ClientState) (blocks : List ℕ) : Type 0 where
  pub ready : IsReady b.host b.device b.out b.inp
  pub over : IsOver b.device b.out b.inp k
  pub disk : b.machine.disk ≡ blocks
  pub heard : b.machine.got ≡ []
  pub listens : b.machine.stage ≡ Listening
  pub goes : k.ended ≡ None
  pub tag : k.next_tag < 2 ^ 32

-- the client of a disk with these bytes is broken, by want of memory
pub record Spoiled (b : DiskState) (k : ClientState) (blocks : List ℕ) : Type 0 where
  pub disk : b.machine.disk ≡ blocks
  pub ended : k.ended ≡ Some error.Memory
