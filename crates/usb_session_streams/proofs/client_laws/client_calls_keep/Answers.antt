use Rattle.usb_session_streams.proofs.ClientsKeep.{fresh_clients-keep, later_clients-keep, client_calls-keep}
use Rattle.usb_session_streams.proofs.client_laws.client_calls_keep.Goals as goal

pub returns-clause-fresh : goal.returns-clause-fresh
returns-clause-fresh c = fresh_clients-keep

pub returns-clause-later : goal.returns-clause-later
returns-clause-later c = later_clients-keep

pub returns-clause-law : goal.returns-clause-law
returns-clause-law c = client_calls-keep
