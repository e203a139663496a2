-- How a command goes over a bus: a wrapper, its data and a status, each by one blocking transfer
-- (Bulk-Only Transport, section 5).
use Rattle.std.specs.Prelude.{ℕ, ◌+◌, ◌-◌, ◌*◌, ◌/◌, ◌%◌, ◌^◌, List, [], length, Option, Some, None, Result, Ok, Err}
use Rattle.usb_xfer.specs.BufferState.{BufferState}
use Rattle.usb_xfer.specs.declared.error.TransferError.{TransferError}
use Rattle.usb_xfer.specs.declared.transfer.Completion.{Completion}
use Rattle.usb_device_endpoint.specs.BusCalls.{BusCalls}
use Rattle.usb_device_endpoint.specs.EndpointState.{EndpointState}
use Rattle.usb_device_endpoint.specs.Blocking.{transferred}
use Rattle.usb_bot.specs.declared.error.BotError.{BotError}
use Rattle.usb_bot.specs.declared.error.BotError.TheVariants as error
use Rattle.usb_bot.specs.declared.wrapper.Command.{Command}
use Rattle.usb_bot.specs.declared.wrapper.Operation.{Operation}
use Rattle.usb_bot.specs.declared.wrapper.Operation.TheVariants.{Read, Write}
use Rattle.usb_bot.specs.Wrappers.{command_bytes}
use Rattle.usb_bot.specs.Errors.{breaks}
use Rattle.usb_bot.specs.Statuses.{status_error}
use Rattle.usb_bot.specs.Clients.{ClientState}

-- a client on its bus
pub record Commanding (S : Type 0) : Type 0 where
  pub bus : S
  pub client : ClientState

abbrev pub commanding : {S : Type 0} → S → ClientState → Commanding S
commanding bus client = record { bus = bus; client = client }

-- what a stage or a command came to (A) or its error, and what is left of the bus, or of bus and
-- client (W)
pub record Outcome (A W : Type 0) : Type 0 where
  pub answer : Result A BotError
  pub left : W

abbrev pub outcome : {A W : Type 0} → Result A BotError → W → Outcome A W
outcome answer left = record { answer = answer; left = left }

-- behind a stage that went well comes the next one
abbrev pub next_if : {A B W : Type 0} → Result A BotError → W → (A → W → Outcome B W) → Outcome B W
next_if (Ok done) w next = next done w
next_if (Err e) w next = outcome (Err e) w

abbrev pub and_then : {A B W : Type 0} → Outcome A W → (A → W → Outcome B W) → Outcome B W
and_then o next = next_if o.answer o.left next

-- the greatest timeout, in nanoseconds
abbrev pub longest : ℕ
longest = 2 ^ 64 - 1

-- a buffer that asks for so many bytes, and one that sends bytes
abbrev pub asks : ℕ → BufferState
asks n = record { bytes = []; requested = n; room = n }

abbrev pub sends : List ℕ → BufferState
sends bytes = record { bytes = bytes; requested = length bytes; room = length bytes }

-- the 13 bytes of a status, rounded up to whole packets of this maximum
abbrev pub status_length : ℕ → ℕ
status_length maximum = (12 / maximum + 1) * maximum

-- a completion, where its transfer went well
abbrev pub passed : Completion → Result (Unit {0}) TransferError → Result Completion BotError
passed c (Ok u) = Ok c
passed c (Err e) = Err (error.Transfer e)

-- (there is no completion only where nothing was submitted)
abbrev pub stage_of : Option Completion → Result Completion BotError
stage_of None = Err error.Memory
stage_of (Some c) = passed c c.status

-- a stage: one blocking transfer of a buffer at an endpoint
abbrev pub staged : {S : Type 0} → BusCalls S → EndpointState → BufferState → S → Outcome Completion S
staged k e b s = outcome (stage_of (transferred k longest s e b).completion) (transferred k longest s e b).bus

-- the endpoint over which the data of a command go
abbrev pub data_endpoint : Operation → ClientState → EndpointState
data_endpoint Read client = client.inp
data_endpoint Write client = client.out

-- the bytes of the data stage, where the status is no error
abbrev pub unless_error : Option BotError → List ℕ → Result (List ℕ) BotError
unless_error None bytes = Ok bytes
unless_error (Some e) bytes = Err e

-- a command whose data stage came to d and whose status stage came to t
abbrev pub judged : Command → Completion → Completion → Result (List ℕ) BotError
judged c d t = unless_error (status_error c d.actual_len t.buffer.bytes) d.buffer.bytes

-- the last stage, behind a data stage that came to d
abbrev pub status_staged : {S : Type 0} → BusCalls S → ClientState → Command → Completion → S → Outcome (List ℕ) S
status_staged k client c d s = and_then (staged k client.inp (asks (status_length client.inp.maximum)) s) (λ t s. outcome (judged c d t) s)

-- the data stage, and what comes next
abbrev pub data_staged : {S : Type 0} → BusCalls S → ClientState → Command → BufferState → (Completion → S → Outcome (List ℕ) S) → S → Outcome (List ℕ) S
data_staged k client c buffer next s = and_then (staged k (data_endpoint c.operation client) buffer s) next

-- the first stage, and what comes next
abbrev pub wrapper_staged : {S : Type 0} → BusCalls S → ClientState → Command → (S → Outcome (List ℕ) S) → S → Outcome (List ℕ) S
wrapper_staged k client c next s = and_then (staged k client.out (sends (command_bytes c)) s) (λ w s. next s)

-- the client behind a command whose wrapper was submitted: the next tag comes, from 2^32 - 1 to 0,
-- and this has broken it, if anything did
abbrev pub counted : Option BotError → ClientState → ClientState
counted ended client = record client { next_tag = (client.next_tag + 1) % 2 ^ 32; ended = ended }

abbrev pub behind : {S : Type 0} → ClientState → Outcome (List ℕ) S → Outcome (List ℕ) (Commanding S)
behind client o = outcome o.answer (commanding o.left (counted (breaks o.answer) client))

-- a command that asks for so many blocks from one on, under the tag that is next
abbrev pub next_command : Operation → ℕ → ℕ → ClientState → Command
next_command operation block count client = record { tag = client.next_tag; operation = operation; block = block; count = count }

-- all three stages
abbrev pub all_staged : {S : Type 0} → BusCalls S → Command → BufferState → Commanding S → Outcome (List ℕ) (Commanding S)
all_staged k c buffer w = behind w.client (wrapper_staged k w.client c (data_staged k w.client c buffer (status_staged k w.client c)) w.bus)

-- a broken client answers its error, and nothing changes
abbrev pub unless_broken : {S : Type 0} → Option BotError → Commanding S → Outcome (List ℕ) (Commanding S) → Outcome (List ℕ) (Commanding S)
unless_broken None w done = done
unless_broken (Some e) w done = outcome (Err e) w

-- a command: its answer, with the bytes of its data stage, and what it leaves of bus and client
abbrev pub commanded : {S : Type 0} → BusCalls S → Command → BufferState → Commanding S → Outcome (List ℕ) (Commanding S)
commanded k c buffer w = unless_broken w.client.ended w (all_staged k c buffer w)

-- a read of so many blocks from one on, which answers their bytes
abbrev pub blocks_read : {S : Type 0} → BusCalls S → ℕ → ℕ → Commanding S → Outcome (List ℕ) (Commanding S)
blocks_read k block count w = commanded k (next_command Read block count w.client) (asks (512 * count)) w

-- a write answers no bytes
abbrev pub without_bytes : Result (List ℕ) BotError → Result (Unit {0}) BotError
without_bytes (Ok bytes) = Ok tt
without_bytes (Err e) = Err e

abbrev pub written : {W : Type 0} → Outcome (List ℕ) W → Outcome (Unit {0}) W
written o = outcome (without_bytes o.answer) o.left

-- a write of bytes to the blocks from one on
abbrev pub blocks_written : {S : Type 0} → BusCalls S → ℕ → List ℕ → Commanding S → Outcome (Unit {0}) (Commanding S)
blocks_written k block bytes w = written (commanded k (next_command Write block (length bytes / 512) w.client) (sends bytes) w)
