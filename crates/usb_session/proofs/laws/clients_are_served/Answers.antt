use Rattle.usb_session.proofs.ClientsLaw.{served-clients}
use Rattle.usb_session.proofs.laws.clients_are_served.Goals as goal

pub returns : goal.returns
returns c = record { clients = served-clients }
