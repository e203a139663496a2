use Rattle.std.proofs.Common.{◌≡◌, ◌<◌, ℕ, None}
use Rattle.usb_session_calls.specs.State.{State}
use Rattle.usb_session_calls.specs.Names.{named}
use Rattle.usb_session.specs.Ends.{futures_closed}
use Rattle.usb_session_calls.specs.Relation.{Represents}
use Rattle.usb_session_calls.specs.SessionState.{open_under}
use Rattle.usb_session.proofs.session.Session.close_futures.Given as goal

abbrev pub invariant-loop-name : goal.invariant-loop-name
invariant-loop-name l = record {
  stands : (state : State) → Represents l.initial.self state → Represents l.self (futures_closed state l.name);
  none : (n : ℕ) → n < l.name → named l.self.futures n ≡ None;
  endpoints : open_under l.self ≡ open_under l.initial.self;
}
