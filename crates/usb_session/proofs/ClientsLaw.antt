-- The tickets of clients of messages tell of their requests and responses over each script.
use Rattle.usb_session.specs.ClientsServed.{ScriptsServeClients}
use Rattle.usb_session.proofs.HandleLemmas.{scripts-go_on}
use Rattle.usb_session.proofs.ServedClients.{serve-by}

pub served-clients : ScriptsServeClients
served-clients = serve-by scripts-go_on
