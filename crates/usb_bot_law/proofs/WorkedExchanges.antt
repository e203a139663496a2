-- Exchanges of a client with a small disk, and the journals that they leave, worked out by hand.
use Rattle.std.proofs.Common.{◌≡◌, ℕ, List, [], ◌∷◌, replicate, Some, None, true, Ok, Err, refl, arith}
use Rattle.usb_desc.specs.declared.types.TransferType.TheVariants.{Bulk}
use Rattle.usb_kernel.specs.declared.event.Event.{Event}
use Rattle.usb_kernel.specs.declared.event.Event.TheVariants.{Submit, Packet, Ack, Reap}
use Rattle.usb_kernel.specs.declared.event.Body.TheVariants.{Wanted, Sent}
use Rattle.usb_kernel_devices.specs.declared.devices.DeviceState.{DeviceState}
use Rattle.usb_kernel.specs.Completions.{completion}
use Rattle.usb_kernel.specs.TransferCompletions.{transfer_completion}
use Rattle.usb_device_endpoint.specs.EndpointState.{EndpointState}
use Rattle.usb_device_endpoint.specs.Waits.{waited}
use Rattle.usb_device_host.specs.HostState.{HostState}
use Rattle.usb_device_host.specs.Releases.{endpoint_left, settled}
use Rattle.usb_device_host.specs.TicketEnds.{host_ended, host_taken, came}
use Rattle.usb_device_host.specs.HostTurns.{host_stepped, host_reaped, host_turned, host_turn}
use Rattle.usb_device_host.specs.HostCalls.{host_submitted}
use Rattle.usb_device_ledger.specs.Releases.{claim_ended, claim_of, endpoints_left}
use Rattle.usb_bot.specs.declared.error.BotError.TheVariants as error
use Rattle.usb_bot.specs.Clients.{fresh_client}
use Rattle.usb_bot.specs.Commands.{Commanding, commanding, Outcome, blocks_read, blocks_written}
use Rattle.usb_bot_disk.specs.DiskState.{DiskState, disk_made}
use Rattle.usb_bot_disk.specs.DiskTurns.{disk_turned, disk_turn}
use Rattle.usb_bot_disk.specs.DiskCalls.{disk_submitted, disk_calls}
use Rattle.usb_bot_law.specs.Serving.{Serves}
use Rattle.usb_bot_law.proofs.LawLemmas.{new_serves}

-- device 0 is plugged
abbrev device : DeviceState
device =
    record {
      number = 0;
      bus = 1;
      address = 1;
      speed = 3;
      configuration = 1;
      bytes = [];
      plugged = true;
      claimed = [];
      bound = [];
    }

-- a host with its endpoints 02 and 81 open, with the keys 0 and 1
abbrev host : HostState
host =
    record {
      kernel = record { past = []; devices = device ∷ []; clock = 0; armed = []; spare = 0 };
      devices = [];
      interfaces = [];
      endpoints =
          Some (record { interface = None; address = 2; is_open = true })
          ∷ Some (record { interface = None; address = 129; is_open = true }) ∷ [];
      tickets = [];
      steps = [];
      slot_count = 0;
    }

abbrev endpoint : ℕ → ℕ → EndpointState
endpoint address key =
    record { device = 0; address = address; kind = Bulk; maximum = 512; key = key; pending = [] }

-- a disk of one block, and a client of it
abbrev new : Commanding DiskState
new = commanding (disk_made host (replicate 512 0) 0 2 129) (fresh_client (endpoint 2 0) (endpoint 129 1))

-- the block that is written
abbrev sevens : List ℕ
sevens = replicate 512 7

-- wrappers for one block: of a write of block 0 with the tag 0, of a read of it with the tag 1, and
-- of a read of block 1, which is not there, with the tag 0
abbrev write_0 : List ℕ
write_0 =
    85 ∷ 83 ∷ 66 ∷ 67 ∷ 0 ∷ 0 ∷ 0 ∷ 0 ∷ 0 ∷ 2 ∷ 0 ∷ 0 ∷ 0 ∷ 0 ∷ 10 ∷ 42 ∷ 0 ∷ 0 ∷ 0 ∷ 0 ∷ 0 ∷ 0 ∷ 0 ∷ 1 ∷ replicate 7 0

abbrev read_0 : List ℕ
read_0 =
    85 ∷ 83 ∷ 66 ∷ 67 ∷ 1 ∷ 0 ∷ 0 ∷ 0 ∷ 0 ∷ 2 ∷ 0 ∷ 0 ∷ 128 ∷ 0 ∷ 10 ∷ 40 ∷ 0 ∷ 0 ∷ 0 ∷ 0 ∷ 0 ∷ 0 ∷ 0 ∷ 1 ∷ replicate 7 0

abbrev read_1 : List ℕ
read_1 =
    85 ∷ 83 ∷ 66 ∷ 67 ∷ 0 ∷ 0 ∷ 0 ∷ 0 ∷ 0 ∷ 2 ∷ 0 ∷ 0 ∷ 128 ∷ 0 ∷ 10 ∷ 40 ∷ 0 ∷ 0 ∷ 0 ∷ 0 ∷ 1 ∷ 0 ∷ 0 ∷ 1 ∷ replicate 7 0

-- statuses: that the command with this tag passed, and that the one with the tag 0 failed, with 512
-- bytes that did not move
abbrev passed : ℕ → List ℕ
passed tag = 85 ∷ 83 ∷ 66 ∷ 83 ∷ tag ∷ 0 ∷ 0 ∷ 0 ∷ 0 ∷ 0 ∷ 0 ∷ 0 ∷ 0 ∷ []

abbrev failed : List ℕ
failed = 85 ∷ 83 ∷ 66 ∷ 83 ∷ 0 ∷ 0 ∷ 0 ∷ 0 ∷ 0 ∷ 2 ∷ 0 ∷ 0 ∷ 1 ∷ []

-- a transfer of a stage, with the events of its ticket: bytes go out in one packet, or one packet
-- comes in, and then the ticket is reaped. (The latest event comes first)
abbrev went_out : ℕ → List ℕ → ℕ → List Event → List Event
went_out t bytes room past = Reap t ∷ Ack 0 2 ∷ Submit t 0 2 512 (Sent bytes) room None ∷ past

abbrev came_in : ℕ → List ℕ → List Event → List Event
came_in t packet past = Reap t ∷ Packet 0 129 packet ∷ Submit t 0 129 512 (Wanted 512) 512 None ∷ past

abbrev after_write : List Event
after_write = came_in 2 (passed 0) (went_out 1 sevens 512 (went_out 0 write_0 31 []))

-- one block is written
abbrev write : Outcome (Unit {0}) (Commanding DiskState)
write = blocks_written disk_calls 0 sevens new

pub written : write.answer ≡ Ok tt
unfolding waited disk_turned disk_turn disk_submitted host_submitted host_stepped host_reaped host_turned host_turn host_taken host_ended settled endpoint_left claim_of claim_ended endpoints_left came completion transfer_completion
written = refl

pub written_past : write.left.bus.host.kernel.past ≡ after_write
unfolding waited disk_turned disk_turn disk_submitted host_submitted host_stepped host_reaped host_turned host_turn host_taken host_ended settled endpoint_left claim_of claim_ended endpoints_left came completion transfer_completion
written_past = refl

pub written_disk : write.left.bus.machine.disk ≡ sevens
unfolding waited disk_turned disk_turn disk_submitted host_submitted host_stepped host_reaped host_turned host_turn host_taken host_ended settled endpoint_left claim_of claim_ended endpoints_left came completion transfer_completion
written_disk = refl

-- and read
abbrev read : Outcome (List ℕ) (Commanding DiskState)
read = blocks_read disk_calls 0 1 write.left

pub read_back : read.answer ≡ Ok sevens
unfolding waited disk_turned disk_turn disk_submitted host_submitted host_stepped host_reaped host_turned host_turn host_taken host_ended settled endpoint_left claim_of claim_ended endpoints_left came completion transfer_completion
read_back = refl

pub read_past : read.left.bus.host.kernel.past ≡ came_in 5 (passed 1) (came_in 4 sevens (went_out 3 read_0 31 after_write))
unfolding waited disk_turned disk_turn disk_submitted host_submitted host_stepped host_reaped host_turned host_turn host_taken host_ended settled endpoint_left claim_of claim_ended endpoints_left came completion transfer_completion
read_past = refl

-- a read of a block that is not there: an empty packet comes, and the status says that no byte moved
abbrev beyond : Outcome (List ℕ) (Commanding DiskState)
beyond = blocks_read disk_calls 1 1 new

pub beyond_fails : beyond.answer ≡ Err (error.Failed 512)
unfolding waited disk_turned disk_turn disk_submitted host_submitted host_stepped host_reaped host_turned host_turn host_taken host_ended settled endpoint_left claim_of claim_ended endpoints_left came completion transfer_completion
beyond_fails = refl

pub beyond_past : beyond.left.bus.host.kernel.past ≡ came_in 2 failed (came_in 1 [] (went_out 0 read_1 31 []))
unfolding waited disk_turned disk_turn disk_submitted host_submitted host_stepped host_reaped host_turned host_turn host_taken host_ended settled endpoint_left claim_of claim_ended endpoints_left came completion transfer_completion
beyond_past = refl

pub beyond_disk : beyond.left.bus.machine.disk ≡ replicate 512 0
unfolding waited disk_turned disk_turn disk_submitted host_submitted host_stepped host_reaped host_turned host_turn host_taken host_ended settled endpoint_left claim_of claim_ended endpoints_left came completion transfer_completion
beyond_disk = refl

-- the law of disks is about this bus and this client
pub is_served : Serves new.bus new.client (replicate 512 0)
is_served =
    new_serves host (replicate 512 0) 0 2 129 (endpoint 2 0) (endpoint 129 1)
    (record { no_steps = refl; accepts = refl; out_idle = refl; in_idle = refl })
    (record {
      out_at = record { device = refl; address_is = refl; some = omega arith };
      in_at = record { device = refl; address_is = refl; some = omega arith };
      low = omega arith;
      high = omega arith;
      whole_blocks = refl;
    })
