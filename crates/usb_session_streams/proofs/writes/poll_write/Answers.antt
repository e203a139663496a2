use Rattle.usb_io.specs.Answered.{as_wait}
use Rattle.usb_io.specs.Writers.{writing}
use Rattle.usb_io.specs.declared.fault.WriteFault.TheVariants.{TimedOut}
use Rattle.usb_session_streams.proofs.WritesLeave.{write-goes}
use Rattle.usb_session_streams.proofs.Keeps.{call_keeps}
use Rattle.usb_session_streams.proofs.writes.poll_write.Goals as goal

pub returns-in-Ready-Ok-clause-keeps : goal.returns-in-Ready-Ok-clause-keeps
returns-in-Ready-Ok-clause-keeps c = call_keeps _ _ c.requires.stands (write-goes 0 c.args.bytes.now (writing c.args.host.now c.args.writer.now) (writing c.poll_write.new.bus c.poll_write.new.self) (as_wait TimedOut c.poll_write.result) c.poll_write.ensures.wrote c.poll_write.ensures.failed) c.poll_write.ensures.goes

pub returns-in-Ready-Err-Cause-clause-keeps : goal.returns-in-Ready-Err-Cause-clause-keeps
returns-in-Ready-Err-Cause-clause-keeps c = call_keeps _ _ c.requires.stands (write-goes 0 c.args.bytes.now (writing c.args.host.now c.args.writer.now) (writing c.poll_write.new.bus c.poll_write.new.self) (as_wait TimedOut c.poll_write.result) c.poll_write.ensures.wrote c.poll_write.ensures.failed) c.poll_write.ensures.goes

pub returns-in-Ready-Err-Memory-clause-keeps : goal.returns-in-Ready-Err-Memory-clause-keeps
returns-in-Ready-Err-Memory-clause-keeps c = call_keeps _ _ c.requires.stands (write-goes 0 c.args.bytes.now (writing c.args.host.now c.args.writer.now) (writing c.poll_write.new.bus c.poll_write.new.self) (as_wait TimedOut c.poll_write.result) c.poll_write.ensures.wrote c.poll_write.ensures.failed) c.poll_write.ensures.goes

pub returns-in-Pending-clause-keeps : goal.returns-in-Pending-clause-keeps
returns-in-Pending-clause-keeps c = call_keeps _ _ c.requires.stands (write-goes 0 c.args.bytes.now (writing c.args.host.now c.args.writer.now) (writing c.poll_write.new.bus c.poll_write.new.self) (as_wait TimedOut c.poll_write.result) c.poll_write.ensures.wrote c.poll_write.ensures.failed) c.poll_write.ensures.goes
