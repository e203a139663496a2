use Rattle.usb_session_streams.proofs.HandedCalls.{calls-hand_over}
use Rattle.usb_session_streams.proofs.reader_laws.calls_hand_over.Goals as goal

pub returns : goal.returns
returns c = record { law = calls-hand_over }
