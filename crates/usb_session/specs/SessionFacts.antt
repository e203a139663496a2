-- What is true of all sessions.
use Rattle.usb_session.specs.declared.session.Session.TheInside.{Inside}
use Rattle.usb_session_calls.specs.SessionState.{SessionState, IsSound}
use Rattle.usb_session_calls.specs.SessionParts.{session_made}

abbrev pub made_of : Inside → SessionState
made_of s = session_made s.tree s.watch s.host s.devices.items s.interfaces.items s.endpoints.items s.readers.items s.writers.items s.clients.items s.futures.items

abbrev pub IsSoundInside : Inside → Type 0
IsSoundInside s = IsSound (made_of s)
