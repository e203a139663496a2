use Rattle.usb_session_streams.proofs.FramedCalls.{framed_calls-follow, empty_calls-leave_end}
use Rattle.usb_session_streams.proofs.reader_laws.framed_calls_follow.Goals as goal

pub returns-clause-law : goal.returns-clause-law
returns-clause-law c = framed_calls-follow

pub returns-clause-empty : goal.returns-clause-empty
returns-clause-empty c = empty_calls-leave_end
