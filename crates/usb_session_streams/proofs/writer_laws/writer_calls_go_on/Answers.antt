use Rattle.usb_session_streams.proofs.WritesGoOn.{writer_calls-go_on}
use Rattle.usb_session_streams.proofs.writer_laws.writer_calls_go_on.Goals as goal

pub returns : goal.returns
returns c = record { law = writer_calls-go_on }
