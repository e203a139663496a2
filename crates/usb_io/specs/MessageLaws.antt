-- Laws of messages that are echoed.
use Rattle.std.specs.Prelude.{ℕ, ◌+◌, ◌*◌, ◌<◌, List}
use Rattle.usb_kernel.specs.declared.event.Event.{Event}
use Rattle.usb_io.specs.Streams.{Mark, stream_of, delivered, IsAscending, Each}
use Rattle.usb_io.specs.Following.{IsMine, IsPrefixOf}
use Rattle.usb_io.specs.Writes.{Call, written, packets_of, marks_of, NoMidFlush}
use Rattle.usb_io.specs.Carried.{AllCarry}
use Rattle.usb_io.specs.Messages.{messages, AreFirstOf}
use Rattle.usb_io.specs.Exchange.{Exchange, OnlyEchoes}

-- the packets that came to the IN handle are the first of those of the OUT handle's transfers
abbrev pub EchoesComeInOrder : Type 0
EchoesComeInOrder =
    (x : Exchange) (past : List Event) (m : ℕ) (transfers : List (List ℕ)) → 0 < m →
    OnlyEchoes x past → AllCarry past x.device x.output m x.outs transfers → IsAscending x.outs →
    Each (IsMine past x.device x.input m) x.ins →
    AreFirstOf (delivered x.ins past) (packets_of m transfers)

-- so the messages that a framed reader ended are the first of those that the writer ended, where no
-- flush found unsubmitted bytes
abbrev pub MessagesAreFirst : Type 0
MessagesAreFirst =
    (x : Exchange) (past : List Event) (m more : ℕ) (calls : List Call) (consumed : List Mark) →
    OnlyEchoes x past → NoMidFlush m ((more + 1) * m) calls →
    AllCarry past x.device x.output m x.outs (written m ((more + 1) * m) calls).transfers →
    IsAscending x.outs → Each (IsMine past x.device x.input m) x.ins →
    IsPrefixOf consumed (stream_of m (delivered x.ins past)) →
    AreFirstOf (messages consumed) (messages (marks_of calls))
