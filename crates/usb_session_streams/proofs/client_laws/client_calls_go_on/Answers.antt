use Rattle.usb_session_streams.proofs.ClientsGoOn.{client_calls-go_on}
use Rattle.usb_session_streams.proofs.client_laws.client_calls_go_on.Goals as goal

pub returns : goal.returns
returns c = record { law = client_calls-go_on }
