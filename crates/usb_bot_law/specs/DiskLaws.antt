-- To its client a disk is a plain list of blocks.
use Rattle.std.specs.Prelude.{ℕ, ◌≡◌, ◌*◌, List, Result, Err, replicate}
use Rattle.usb_bot.specs.declared.error.BotError.{BotError}
use Rattle.usb_bot.specs.declared.error.BotError.TheVariants as error
use Rattle.usb_device_endpoint.specs.EndpointState.{EndpointState}
use Rattle.usb_device_host.specs.HostState.{HostState}
use Rattle.usb_bot.specs.Clients.{ClientState, fresh_client}
use Rattle.usb_bot.specs.Commands.{Commanding, commanding}
use Rattle.usb_bot_disk.specs.DiskState.{DiskState, disk_made}
use Rattle.usb_bot_law.specs.Serving.{IsReady, IsOver, Serves, Spoiled}
use Rattle.usb_bot_law.specs.Steps.{CanRead, CanWrite, HasRead, HasWritten, ReadLeaves, WriteLeaves}
use Rattle.usb_bot_law.specs.Lists.{Answered, HaveGone, AreOfList, list_after_all, HoldsList}

-- a new bus serves a new client
abbrev pub NewDiskServes : Type 0
NewDiskServes =
    (h : HostState) (blocks : List ℕ) (d out inp : ℕ) (e f : EndpointState) →
    IsReady h d out inp → IsOver d out inp (fresh_client e f) →
    Serves (disk_made h blocks d out inp) (fresh_client e f) blocks

-- a read of a client that is served
abbrev pub ReadsAnswerBlocks : Type 0
ReadsAnswerBlocks =
    (b b' : DiskState) (k k' : ClientState) (blocks : List ℕ) (block count : ℕ)
    (answer : Result (List ℕ) BotError) → Serves b k blocks → CanRead block count →
    HasRead block count (commanding b k) answer (commanding b' k') →
    ReadLeaves blocks block count answer b' k'

-- a write
abbrev pub WritesChangeBlocks : Type 0
WritesChangeBlocks =
    (b b' : DiskState) (k k' : ClientState) (blocks : List ℕ) (block : ℕ) (bytes : List ℕ)
    (answer : Result (Unit {0}) BotError) → Serves b k blocks → CanWrite block bytes →
    HasWritten block bytes (commanding b k) answer (commanding b' k') →
    WriteLeaves blocks block bytes answer b' k'

-- a broken client answers that memory was lacking, and nothing changes
abbrev pub BrokenClientsReadNothing : Type 0
BrokenClientsReadNothing =
    (b : DiskState) (k : ClientState) (blocks : List ℕ) (block count : ℕ)
    (answer : Result (List ℕ) BotError) (left : Commanding DiskState) → Spoiled b k blocks →
    HasRead block count (commanding b k) answer left →
    (answer ≡ Err error.Memory) × (left ≡ commanding b k)

abbrev pub BrokenClientsWriteNothing : Type 0
BrokenClientsWriteNothing =
    (b : DiskState) (k : ClientState) (blocks : List ℕ) (block : ℕ) (bytes : List ℕ)
    (answer : Result (Unit {0}) BotError) (left : Commanding DiskState) → Spoiled b k blocks →
    HasWritten block bytes (commanding b k) answer left →
    (answer ≡ Err error.Memory) × (left ≡ commanding b k)

-- so many blocks that hold zeros
abbrev pub zeros : ℕ → List ℕ
zeros n = replicate (512 * n) 0

-- a new disk of so many blocks, and a new client of two endpoints
abbrev pub new_disk : HostState → ℕ → ℕ → ℕ → ℕ → EndpointState → EndpointState →
    Commanding DiskState
new_disk h n d out inp e f = commanding (disk_made h (zeros n) d out inp) (fresh_client e f)

-- whatever calls are made of a new client at a new disk of so many blocks, each has the answer of a
-- plain list of blocks that holds zeros at first, and the disk holds this list
abbrev pub DiskIsList : Type 0
DiskIsList =
    (h : HostState) (n d out inp : ℕ) (e f : EndpointState) (calls : List Answered)
    (left : Commanding DiskState) → IsReady h d out inp → IsOver d out inp (fresh_client e f) →
    HaveGone calls (new_disk h n d out inp e f) left →
    AreOfList (zeros n) calls ×
    HoldsList calls (new_disk h n d out inp e f) (list_after_all (zeros n) calls) left
