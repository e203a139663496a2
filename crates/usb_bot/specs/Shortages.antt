-- What a command leaves that lacked memory.
use Rattle.std.specs.Prelude.{ℕ, ◌≡◌, ◌⊎◌, ◌*◌, ◌/◌, List, length, Some, None, Err}
use Rattle.usb_xfer.specs.BufferState.{BufferState}
use Rattle.usb_device_endpoint.specs.BusCalls.{BusCalls}
use Rattle.usb_device_endpoint.specs.EndpointState.{EndpointState}
use Rattle.usb_bot.specs.declared.error.BotError.{BotError}
use Rattle.usb_bot.specs.declared.error.BotError.TheVariants as error
use Rattle.usb_bot.specs.declared.wrapper.Command.{Command}
use Rattle.usb_bot.specs.declared.wrapper.Operation.TheVariants.{Read, Write}
use Rattle.usb_bot.specs.Clients.{ClientState}
use Rattle.usb_bot.specs.Commands.{Commanding, Outcome, outcome, asks, sends, staged, status_staged, data_staged, wrapper_staged, counted, behind, next_command, commanded, blocks_read, blocks_written}

-- why a stage failed: its transfer did, or there was no memory to submit it, and nothing has changed
abbrev pub StageFails : {S : Type 0} → BusCalls S → EndpointState → BufferState → S → S → BotError → Type 0
StageFails k e b old new (error.Transfer why) = staged k e b old ≡ outcome (Err (error.Transfer why)) new
StageFails k e b old new error.Memory = new ≡ old
StageFails k e b old new _ = ⊥

-- so did the first stage, which counts the command and breaks the client, but not by want of memory
abbrev pub WrapperFails : {S : Type 0} → BusCalls S → BufferState → Commanding S → Commanding S → BotError → Type 0
WrapperFails k b old new (error.Transfer why) =
    (staged k old.client.out b old.bus ≡ outcome (Err (error.Transfer why)) new.bus) × (new.client ≡ counted (Some (error.Transfer why)) old.client)
WrapperFails k b old new error.Memory = new ≡ old
WrapperFails k b old new _ = ⊥

-- a stage that finds no memory, which leaves the bus
abbrev pub unstaged : {S : Type 0} → S → Outcome (List ℕ) S
unstaged s = outcome (Err error.Memory) s

-- the wrapper went over, and the data were not submitted
abbrev pub without_data : {S : Type 0} → BusCalls S → Command → Commanding S → Outcome (List ℕ) (Commanding S)
without_data k c w = behind w.client (wrapper_staged k w.client c unstaged w.bus)

-- the wrapper and the data went over, and the status was not submitted
abbrev pub without_status : {S : Type 0} → BusCalls S → Command → BufferState → Commanding S → Outcome (List ℕ) (Commanding S)
without_status k c buffer w = behind w.client (wrapper_staged k w.client c (data_staged k w.client c buffer (λ d s. unstaged s)) w.bus)

-- why the two later stages failed: as they say, or there was no memory for one of them
abbrev pub LaterFails : {S : Type 0} → BusCalls S → ClientState → Command → BufferState → S → S → BotError → Type 0
LaterFails k client c buffer old new e =
    (data_staged k client c buffer (status_staged k client c) old ≡ outcome (Err e) new)
    ⊎ ((e ≡ error.Memory) × ((new ≡ old) ⊎ (data_staged k client c buffer (λ d s. unstaged s) old ≡ unstaged new)))

-- a command lacked memory: before its wrapper was submitted, and nothing has changed, or behind it,
-- and that has broken the client
abbrev pub LacksMemory : {S : Type 0} → BusCalls S → Command → BufferState → Commanding S → Commanding S → Type 0
LacksMemory k c buffer old new =
    (old.client.ended ≡ None) × ((new ≡ old) ⊎ ((without_data k c old ≡ outcome (Err error.Memory) new) ⊎ (without_status k c buffer old ≡ outcome (Err error.Memory) new)))

-- why a call failed: as its outcome says, or memory was lacking
abbrev pub FailsAs : {A S : Type 0} → Outcome A (Commanding S) → Type 0 → Commanding S → BotError → Type 0
FailsAs o lacks new e = (o ≡ outcome (Err e) new) ⊎ ((e ≡ error.Memory) × lacks)

abbrev pub CommandFails : {S : Type 0} → BusCalls S → Command → BufferState → Commanding S → Commanding S → BotError → Type 0
CommandFails k c buffer old new e = FailsAs (commanded k c buffer old) (LacksMemory k c buffer old new) new e

abbrev pub ReadFails : {S : Type 0} → BusCalls S → ℕ → ℕ → Commanding S → Commanding S → BotError → Type 0
ReadFails k block count old new e = FailsAs (blocks_read k block count old) (LacksMemory k (next_command Read block count old.client) (asks (512 * count)) old new) new e

abbrev pub WriteFails : {S : Type 0} → BusCalls S → ℕ → List ℕ → Commanding S → Commanding S → BotError → Type 0
WriteFails k block bytes old new e = FailsAs (blocks_written k block bytes old) (LacksMemory k (next_command Write block (length bytes / 512) old.client) (sends bytes) old new) new e
