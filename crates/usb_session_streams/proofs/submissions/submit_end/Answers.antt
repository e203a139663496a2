use Rattle.usb_io.specs.Writers.{writing}
use Rattle.usb_session_streams.proofs.WritesLeave.{submit_end-goes}
use Rattle.usb_session_streams.proofs.Keeps.{call_keeps}
use Rattle.usb_session_streams.proofs.submissions.submit_end.Goals as goal

pub returns-in_err-submit_end-clause-keeps : goal.returns-in_err-submit_end-clause-keeps
returns-in_err-submit_end-clause-keeps c = call_keeps _ _ c.requires.stands (submit_end-goes c.submit_end.result (writing c.args.host.now c.args.writer.now) (writing c.submit_end.new.bus c.submit_end.new.self) c.submit_end.ensures.ok c.submit_end.ensures.err) c.submit_end.ensures.goes

pub returns-clause-keeps : goal.returns-clause-keeps
returns-clause-keeps c = call_keeps _ _ c.requires.stands (submit_end-goes c.submit_end.result (writing c.args.host.now c.args.writer.now) (writing c.submit_end.new.bus c.submit_end.new.self) c.submit_end.ensures.ok c.submit_end.ensures.err) c.submit_end.ensures.goes
