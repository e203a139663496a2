use Rattle.usb_session_streams.proofs.Tells.{calls-tell}
use Rattle.usb_session_streams.proofs.writer_laws.calls_tell.Goals as goal

pub returns : goal.returns
returns c = record { law = calls-tell }
