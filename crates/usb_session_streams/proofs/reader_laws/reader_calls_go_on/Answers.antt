use Rattle.usb_session_streams.proofs.ReadsGoOn.{reader_calls-go_on}
use Rattle.usb_session_streams.proofs.reader_laws.reader_calls_go_on.Goals as goal

pub returns : goal.returns
returns c = record { law = reader_calls-go_on }
