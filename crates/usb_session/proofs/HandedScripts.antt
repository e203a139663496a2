-- Readers hand over the bytes of their tickets over each script.
use Rattle.usb_session.specs.Handed.{ScriptsHandOver}
use Rattle.usb_session.proofs.HandleLemmas.{scripts-go_on}
use Rattle.usb_session.proofs.HandedReaders.{hand-by}

pub handed-scripts : ScriptsHandOver
handed-scripts = hand-by scripts-go_on
