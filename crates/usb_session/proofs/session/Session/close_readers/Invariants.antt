use Rattle.std.proofs.Common.{◌≡◌, ◌<◌, ℕ, None}
use Rattle.usb_session_calls.specs.State.{State}
use Rattle.usb_session_calls.specs.Names.{named}
use Rattle.usb_session.specs.Ends.{readers_closed}
use Rattle.usb_session_calls.specs.Relation.{Represents}
use Rattle.usb_session.proofs.session.Session.close_readers.Given as goal

abbrev pub invariant-loop-number : goal.invariant-loop-number
invariant-loop-number l = record {
  stands : (state : State) → Represents l.initial.self state → Represents l.self (readers_closed state l.number);
  none : (n : ℕ) → n < l.number → named l.self.readers n ≡ None;
  clients : l.self.clients ≡ l.initial.self.clients;
}
