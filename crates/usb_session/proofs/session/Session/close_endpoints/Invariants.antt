use Rattle.std.proofs.Common.{◌≡◌, ◌<◌, ℕ, None}
use Rattle.usb_session_calls.specs.State.{State}
use Rattle.usb_session_calls.specs.Names.{named}
use Rattle.usb_session.specs.Ends.{endpoints_closed}
use Rattle.usb_session_calls.specs.Relation.{Represents}
use Rattle.usb_session.proofs.session.Session.close_endpoints.Given as goal

abbrev pub invariant-loop-name : goal.invariant-loop-name
invariant-loop-name l = record {
  stands : (state : State) → Represents l.initial.self state → Represents l.self (endpoints_closed state l.name);
  none : (n : ℕ) → n < l.name → named l.self.endpoints n ≡ None;
  readers : l.self.readers ≡ l.initial.self.readers;
  writers : l.self.writers ≡ l.initial.self.writers;
  clients : l.self.clients ≡ l.initial.self.clients;
}
