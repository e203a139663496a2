use Rattle.usb_device_endpoint.proofs.Frames.{Stands-other}
use Rattle.usb_device_endpoint.proofs.AllStandLemmas.{AllStand-call, AllStand-later, AllStand-opened, AllStand-closed}
use Rattle.usb_device_endpoint.proofs.laws.calls_keep_other_endpoints.Goals as goal

pub returns-clause-other : goal.returns-clause-other
returns-clause-other c = Stands-other

pub returns-clause-call : goal.returns-clause-call
returns-clause-call c = AllStand-call

pub returns-clause-later : goal.returns-clause-later
returns-clause-later c = AllStand-later

pub returns-clause-opened : goal.returns-clause-opened
returns-clause-opened c = AllStand-opened

pub returns-clause-closed : goal.returns-clause-closed
returns-clause-closed c = AllStand-closed
