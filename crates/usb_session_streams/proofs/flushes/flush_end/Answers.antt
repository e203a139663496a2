use Rattle.usb_io.specs.Writers.{writing}
use Rattle.usb_session_streams.proofs.WritesLeave.{flush_end-goes}
use Rattle.usb_session_streams.proofs.Keeps.{call_keeps}
use Rattle.usb_session_streams.proofs.flushes.flush_end.Goals as goal

pub returns-in-Ok-clause-keeps : goal.returns-in-Ok-clause-keeps
returns-in-Ok-clause-keeps c = call_keeps _ _ c.requires.stands (flush_end-goes c.args.writer.now.timeout (writing c.args.host.now c.args.writer.now) (writing c.flush_end.new.bus c.flush_end.new.self) c.flush_end.result c.flush_end.ensures.ok c.flush_end.ensures.failed) c.flush_end.ensures.goes

pub returns-in-Err-Cause-clause-keeps : goal.returns-in-Err-Cause-clause-keeps
returns-in-Err-Cause-clause-keeps c = call_keeps _ _ c.requires.stands (flush_end-goes c.args.writer.now.timeout (writing c.args.host.now c.args.writer.now) (writing c.flush_end.new.bus c.flush_end.new.self) c.flush_end.result c.flush_end.ensures.ok c.flush_end.ensures.failed) c.flush_end.ensures.goes

pub returns-in-Err-Memory-clause-keeps : goal.returns-in-Err-Memory-clause-keeps
returns-in-Err-Memory-clause-keeps c = call_keeps _ _ c.requires.stands (flush_end-goes c.args.writer.now.timeout (writing c.args.host.now c.args.writer.now) (writing c.flush_end.new.bus c.flush_end.new.self) c.flush_end.result c.flush_end.ensures.ok c.flush_end.ensures.failed) c.flush_end.ensures.goes
