use Rattle.usb_io.specs.Writers.{writing}
use Rattle.usb_session_streams.proofs.WritesLeave.{submit-goes}
use Rattle.usb_session_streams.proofs.Keeps.{call_keeps}
use Rattle.usb_session_streams.proofs.submissions.submit.Goals as goal

pub returns-in_err-submit-clause-keeps : goal.returns-in_err-submit-clause-keeps
returns-in_err-submit-clause-keeps c = call_keeps _ _ c.requires.stands (submit-goes c.submit.result (writing c.args.host.now c.args.writer.now) (writing c.submit.new.bus c.submit.new.self) c.submit.ensures.ok c.submit.ensures.err) c.submit.ensures.goes

pub returns-clause-keeps : goal.returns-clause-keeps
returns-clause-keeps c = call_keeps _ _ c.requires.stands (submit-goes c.submit.result (writing c.args.host.now c.args.writer.now) (writing c.submit.new.bus c.submit.new.self) c.submit.ensures.ok c.submit.ensures.err) c.submit.ensures.goes
