use Rattle.std.proofs.Common.{rules, true, false, length, take}
use Rattle.usb_io.specs.declared.fault.ReadFault.TheVariants.{TimedOut}
use Rattle.usb_io.specs.Answered.{as_wait}
use Rattle.usb_io.specs.Reads.{reading}
use Rattle.usb_session_streams.specs.ReaderCalls.{ReaderGoesOn}
use Rattle.usb_session_streams.proofs.ReadsGoOn.{read-goes}
use Rattle.usb_session_calls.proofs.reading.poll_bytes.Goals as goal

pub returns-in-Plain-clause-goes_on : goal.returns-in-Plain-clause-goes_on
returns-in-Plain-clause-goes_on c =
    read-goes false (reading c.args.host.now c.args.reader.now) (reading c.poll_read.new.bus c.poll_read.new.self) 0 (length c.args.dest.now) (λ n. take n c.poll_read.new.dest) (as_wait TimedOut c.poll_read.result)
    c.poll_read.ensures.read c.poll_read.ensures.failed

pub returns-in-UntilShort-clause-goes_on : goal.returns-in-UntilShort-clause-goes_on
returns-in-UntilShort-clause-goes_on c =
    let on : ReaderGoesOn (reading c.args.host.now c.until_short_packet.result.reader.now) (reading c.poll_read-in-UntilShort.new.bus c.poll_read-in-UntilShort.new.self.reader.now) =
    read-goes true (reading c.args.host.now c.until_short_packet.result.reader.now) (reading c.poll_read-in-UntilShort.new.bus c.poll_read-in-UntilShort.new.self.reader.now) 0 (length c.args.dest.now) (λ n. take n c.poll_read-in-UntilShort.new.dest) (as_wait TimedOut c.poll_read-in-UntilShort.result)
    c.poll_read-in-UntilShort.ensures.read c.poll_read-in-UntilShort.ensures.failed in
    search rules
