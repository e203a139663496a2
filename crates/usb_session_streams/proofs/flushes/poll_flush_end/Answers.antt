use Rattle.usb_io.specs.Answered.{as_wait}
use Rattle.usb_io.specs.Writers.{writing}
use Rattle.usb_io.specs.declared.fault.WriteFault.TheVariants.{TimedOut}
use Rattle.usb_session_streams.proofs.WritesLeave.{poll_flush_end-goes}
use Rattle.usb_session_streams.proofs.Keeps.{call_keeps}
use Rattle.usb_session_streams.proofs.flushes.poll_flush_end.Goals as goal

pub returns-in-Ready-Ok-clause-keeps : goal.returns-in-Ready-Ok-clause-keeps
returns-in-Ready-Ok-clause-keeps c = call_keeps _ _ c.requires.stands (poll_flush_end-goes (writing c.args.host.now c.args.writer.now) (writing c.poll_flush_end.new.bus c.poll_flush_end.new.self) (as_wait TimedOut c.poll_flush_end.result) c.poll_flush_end.ensures.ok c.poll_flush_end.ensures.failed) c.poll_flush_end.ensures.goes

pub returns-in-Ready-Err-Cause-clause-keeps : goal.returns-in-Ready-Err-Cause-clause-keeps
returns-in-Ready-Err-Cause-clause-keeps c = call_keeps _ _ c.requires.stands (poll_flush_end-goes (writing c.args.host.now c.args.writer.now) (writing c.poll_flush_end.new.bus c.poll_flush_end.new.self) (as_wait TimedOut c.poll_flush_end.result) c.poll_flush_end.ensures.ok c.poll_flush_end.ensures.failed) c.poll_flush_end.ensures.goes

pub returns-in-Ready-Err-Memory-clause-keeps : goal.returns-in-Ready-Err-Memory-clause-keeps
returns-in-Ready-Err-Memory-clause-keeps c = call_keeps _ _ c.requires.stands (poll_flush_end-goes (writing c.args.host.now c.args.writer.now) (writing c.poll_flush_end.new.bus c.poll_flush_end.new.self) (as_wait TimedOut c.poll_flush_end.result) c.poll_flush_end.ensures.ok c.poll_flush_end.ensures.failed) c.poll_flush_end.ensures.goes

pub returns-in-Pending-clause-keeps : goal.returns-in-Pending-clause-keeps
returns-in-Pending-clause-keeps c = call_keeps _ _ c.requires.stands (poll_flush_end-goes (writing c.args.host.now c.args.writer.now) (writing c.poll_flush_end.new.bus c.poll_flush_end.new.self) (as_wait TimedOut c.poll_flush_end.result) c.poll_flush_end.ensures.ok c.poll_flush_end.ensures.failed) c.poll_flush_end.ensures.goes
