use Rattle.usb_io.specs.Writers.{writing}
use Rattle.usb_session_streams.proofs.WritesLeave.{write-goes}
use Rattle.usb_session_streams.proofs.Keeps.{call_keeps}
use Rattle.usb_session_streams.proofs.writes.write.Goals as goal

pub returns-in-Ok-clause-keeps : goal.returns-in-Ok-clause-keeps
returns-in-Ok-clause-keeps c = call_keeps _ _ c.requires.stands (write-goes c.args.writer.now.timeout c.args.bytes.now (writing c.args.host.now c.args.writer.now) (writing c.write.new.bus c.write.new.self) c.write.result c.write.ensures.wrote c.write.ensures.failed) c.write.ensures.goes

pub returns-in-Err-Cause-clause-keeps : goal.returns-in-Err-Cause-clause-keeps
returns-in-Err-Cause-clause-keeps c = call_keeps _ _ c.requires.stands (write-goes c.args.writer.now.timeout c.args.bytes.now (writing c.args.host.now c.args.writer.now) (writing c.write.new.bus c.write.new.self) c.write.result c.write.ensures.wrote c.write.ensures.failed) c.write.ensures.goes

pub returns-in-Err-Memory-clause-keeps : goal.returns-in-Err-Memory-clause-keeps
returns-in-Err-Memory-clause-keeps c = call_keeps _ _ c.requires.stands (write-goes c.args.writer.now.timeout c.args.bytes.now (writing c.args.host.now c.args.writer.now) (writing c.write.new.bus c.write.new.self) c.write.result c.write.ensures.wrote c.write.ensures.failed) c.write.ensures.goes
