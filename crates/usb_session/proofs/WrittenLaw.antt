-- The tickets of writers' endpoints tell of their calls over each script.
use Rattle.usb_session.specs.WrittenScripts.{ScriptsAreWritten}
use Rattle.usb_session.proofs.HandleLemmas.{scripts-go_on}
use Rattle.usb_session.proofs.WrittenWriters.{tell-by}

pub written-scripts : ScriptsAreWritten
written-scripts = tell-by scripts-go_on
