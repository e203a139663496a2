use Rattle.std.proofs.Common.{◌≡◌, ◌<◌, ℕ, None}
use Rattle.usb_session_calls.specs.State.{State}
use Rattle.usb_session_calls.specs.Names.{named}
use Rattle.usb_session.specs.Ends.{devices_closed}
use Rattle.usb_session_calls.specs.Relation.{Represents}
use Rattle.usb_session_calls.specs.SessionState.{open_under}
use Rattle.usb_session.proofs.session.Session.close_devices.Given as goal

abbrev pub invariant-loop-name : goal.invariant-loop-name
invariant-loop-name l = record {
  stands : (state : State) → Represents l.initial.self state → Represents l.self (devices_closed state l.name);
  none : (d : ℕ) → d < l.name → named l.self.devices d ≡ None;
  interfaces : l.self.interfaces ≡ l.initial.self.interfaces;
  endpoints : open_under l.self ≡ open_under l.initial.self;
  futures : l.self.futures ≡ l.initial.self.futures;
}
