use Rattle.usb_io.specs.Answered.{as_wait}
use Rattle.usb_io.specs.Writers.{writing}
use Rattle.usb_io.specs.declared.fault.WriteFault.TheVariants.{TimedOut}
use Rattle.usb_session_streams.proofs.WritesLeave.{flush-goes}
use Rattle.usb_session_streams.proofs.Keeps.{call_keeps}
use Rattle.usb_session_streams.proofs.flushes.poll_flush.Goals as goal

pub returns-in-Ready-Ok-clause-keeps : goal.returns-in-Ready-Ok-clause-keeps
returns-in-Ready-Ok-clause-keeps c = call_keeps _ _ c.requires.stands (flush-goes 0 (writing c.args.host.now c.args.writer.now) (writing c.poll_flush.new.bus c.poll_flush.new.self) (as_wait TimedOut c.poll_flush.result) c.poll_flush.ensures.ok c.poll_flush.ensures.failed) c.poll_flush.ensures.goes

pub returns-in-Ready-Err-Cause-clause-keeps : goal.returns-in-Ready-Err-Cause-clause-keeps
returns-in-Ready-Err-Cause-clause-keeps c = call_keeps _ _ c.requires.stands (flush-goes 0 (writing c.args.host.now c.args.writer.now) (writing c.poll_flush.new.bus c.poll_flush.new.self) (as_wait TimedOut c.poll_flush.result) c.poll_flush.ensures.ok c.poll_flush.ensures.failed) c.poll_flush.ensures.goes

pub returns-in-Ready-Err-Memory-clause-keeps : goal.returns-in-Ready-Err-Memory-clause-keeps
returns-in-Ready-Err-Memory-clause-keeps c = call_keeps _ _ c.requires.stands (flush-goes 0 (writing c.args.host.now c.args.writer.now) (writing c.poll_flush.new.bus c.poll_flush.new.self) (as_wait TimedOut c.poll_flush.result) c.poll_flush.ensures.ok c.poll_flush.ensures.failed) c.poll_flush.ensures.goes

pub returns-in-Pending-clause-keeps : goal.returns-in-Pending-clause-keeps
returns-in-Pending-clause-keeps c = call_keeps _ _ c.requires.stands (flush-goes 0 (writing c.args.host.now c.args.writer.now) (writing c.poll_flush.new.bus c.poll_flush.new.self) (as_wait TimedOut c.poll_flush.result) c.poll_flush.ensures.ok c.poll_flush.ensures.failed) c.poll_flush.ensures.goes
