-- The simulated disk by itself: what it makes of the packets that come to it, and which it sends.
use Rattle.std.specs.Prelude.{ℕ, ◌+◌, ◌-◌, ◌*◌, Bool, true, false, List, [], ◌++◌, length, take, drop, Option, Some, None, nat_lt, nat_le, ◌==◌, ◌||◌, if◌then◌else◌}
use Rattle.std.specs.Option.{option_map}
use Rattle.usb_bot.specs.declared.wrapper.Operation.{Operation}
use Rattle.usb_bot.specs.declared.wrapper.Operation.TheVariants.{Read, Write}
use Rattle.usb_bot.specs.declared.wrapper.Command.{Command}
use Rattle.usb_bot.specs.declared.wrapper.Status.{Status}
use Rattle.usb_bot_disk.specs.declared.stage.Stage.{Stage}
use Rattle.usb_bot_disk.specs.declared.stage.Stage.TheVariants.{Listening, Taking, Sending, Refusing, Answering}
use Rattle.usb_bot.specs.Wrappers.{data_length, command_in, status_bytes}
use Rattle.usb_bot_disk.specs.Blocks.{overwritten}

-- the bytes of all blocks; the bytes that have come, of a wrapper or of the data of a write whose
-- blocks are there; and the stage
pub record Machine : Type 0 where
  pub disk : List ℕ
  pub got : List ℕ
  pub stage : Stage

-- the place behind the last byte of a command's blocks
abbrev pub end_of : Command → ℕ
end_of c = 512 * (c.block + c.count)

-- whether a command asks for blocks that are not there
abbrev pub passes_end : List ℕ → Command → Bool
passes_end disk c = nat_lt (length disk) (end_of c)

-- the status of a command, where so many bytes of its data did not move
abbrev pub status_for : List ℕ → Command → ℕ → Status
status_for disk c left =
    record {
      tag = c.tag;
      residue = if passes_end disk c then data_length c else left;
      outcome = if passes_end disk c then 1 else 0;
    }

-- how a command begins; one with no data is answered at once
abbrev pub begun_as : List ℕ → Command → Operation → Stage
begun_as disk c Write = Taking c (data_length c)
begun_as disk c Read = if passes_end disk c then Refusing c else Sending c (data_length c)

abbrev pub begun : List ℕ → Command → Stage
begun disk c =
    if c.count == 0 then Answering (status_for disk c 0) 0 else begun_as disk c c.operation

-- whether a wrapper is over: with 31 bytes, or with a packet that is shorter than the maximum
abbrev pub is_over : List ℕ → List ℕ → ℕ → Bool
is_over joined packet maximum = nat_le 31 (length joined) || nat_lt (length packet) maximum

-- a disk that listens has got these bytes of a wrapper: none where they are over and no wrapper
abbrev pub heard : Machine → List ℕ → List ℕ → ℕ → Option Machine
heard k joined packet maximum =
    if is_over joined packet maximum
    then option_map (λ c. record k { got = []; stage = begun k.disk c }) (command_in joined)
    else Some (record k { got = joined })

-- data came, where so many bytes were still to come. They are gathered, if the blocks are there
abbrev pub data_came : Machine → Command → ℕ → List ℕ → Machine
data_came k c left bytes =
    record k {
      got = if passes_end k.disk c then k.got else k.got ++ bytes;
      stage = Taking c (left - length bytes);
    }

-- the blocks with the data that have come
abbrev pub stored : Machine → Command → List ℕ
stored k c = if passes_end k.disk c then k.disk else overwritten k.disk (512 * c.block) k.got

-- the data are over, where so many bytes did not come: what came is stored
abbrev pub data_over : Machine → Command → ℕ → Machine
data_over k c left =
    record { disk = stored k c; got = []; stage = Answering (status_for k.disk c left) 0 }

abbrev pub taken_data : Machine → Command → ℕ → List ℕ → ℕ → Machine
taken_data k c left packet maximum =
    if nat_le left (length packet) || nat_lt (length packet) maximum
    then data_over (data_came k c left (take left packet)) c (left - length (take left packet))
    else data_came k c left (take left packet)

-- the machine with a packet that it took, where the endpoint has this maximum packet size. None
-- where what came was no wrapper; and a disk that sends takes none
abbrev pub taken_at : Machine → Stage → List ℕ → ℕ → Option Machine
taken_at k Listening packet maximum = heard k (k.got ++ packet) packet maximum
taken_at k (Taking c left) packet maximum = Some (taken_data k c left packet maximum)
taken_at k (Sending c left) packet maximum = Some k
taken_at k (Refusing c) packet maximum = Some k
taken_at k (Answering s gone) packet maximum = Some k

abbrev pub taken : Machine → List ℕ → ℕ → Option Machine
taken k packet maximum = taken_at k k.stage packet maximum

-- the machine after it: where what came was no wrapper, the bytes are forgotten
abbrev pub machine_or : Machine → Option Machine → Machine
machine_or k (Some next) = next
machine_or k None = record k { got = [] }

-- whether it waits for a packet
abbrev pub listens : Stage → Bool
listens Listening = true
listens (Taking c left) = true
listens (Sending c left) = false
listens (Refusing c) = false
listens (Answering s gone) = false

-- what it has to send in this stage
abbrev pub to_send : List ℕ → Stage → List ℕ
to_send disk Listening = []
to_send disk (Taking c left) = []
to_send disk (Sending c left) = take left (drop (end_of c - left) disk)
to_send disk (Refusing c) = []
to_send disk (Answering s gone) = drop gone (status_bytes s)

-- the next packet, where the endpoint has this maximum packet size
abbrev pub next_packet : Machine → ℕ → List ℕ
next_packet k maximum = take maximum (to_send k.disk k.stage)

-- the stage once a packet of n bytes has gone
abbrev pub sent_at : List ℕ → Stage → ℕ → Stage
sent_at disk Listening n = Listening
sent_at disk (Taking c left) n = Taking c left
sent_at disk (Sending c left) n =
    if nat_le left n then Answering (status_for disk c 0) 0 else Sending c (left - n)
sent_at disk (Refusing c) n = Answering (status_for disk c (data_length c)) 0
sent_at disk (Answering s gone) n = if nat_le 13 (gone + n) then Listening else Answering s (gone + n)

abbrev pub sent : Machine → ℕ → Machine
sent k n = record k { stage = sent_at k.disk k.stage n }

-- the weight of what a stage makes the disk send: one for each byte, of the status too, and one for
-- each of the two stages that may send an empty packet
abbrev pub weight : Stage → ℕ
weight Listening = 0
weight (Taking c left) = 15
weight (Sending c left) = left + 15
weight (Refusing c) = 15
weight (Answering s gone) = 14 - gone
