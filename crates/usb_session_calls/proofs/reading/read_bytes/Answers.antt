use Rattle.std.proofs.Common.{true, false, length, take}
use Rattle.usb_io.specs.Reads.{reading}
use Rattle.usb_session_streams.proofs.ReadsGoOn.{read-goes}
use Rattle.usb_session_calls.proofs.reading.read_bytes.Goals as goal

pub returns-in-Plain-clause-goes_on : goal.returns-in-Plain-clause-goes_on
returns-in-Plain-clause-goes_on c =
    read-goes false (reading c.args.host.now c.args.reader.now) (reading c.read.new.bus c.read.new.self) c.args.reader.now.timeout (length c.args.dest.now) (λ n. take n c.read.new.dest) c.read.result
    c.read.ensures.read c.read.ensures.failed

pub returns-in-UntilShort-clause-goes_on : goal.returns-in-UntilShort-clause-goes_on
returns-in-UntilShort-clause-goes_on c =
    read-goes true (reading c.args.host.now c.args.reader.now) (reading c.read_message.new.host c.read_message.new.reader)
    c.args.reader.now.timeout (length c.args.dest.now) (λ n. take n c.read_message.new.dest) c.read_message.result
    c.read_message.ensures.read c.read_message.ensures.failed
