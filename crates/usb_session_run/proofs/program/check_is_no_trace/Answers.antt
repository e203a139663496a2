use Rattle.std.proofs.Common.{map, string_bytes}
use Rattle.usb_session_run.proofs.TraceLemmas.{check-no-trace}
use Rattle.usb_session_run.proofs.program.check_is_no_trace.Goals as goal

pub returns : goal.returns
returns c = record { law = check-no-trace (map string_bytes c.args.words.now) }
