use Rattle.std.proofs.Common.{◌≡◌}
use Rattle.usb_live.proofs.endpoint.LiveEndpoint.wait_next_complete.Given as goal

abbrev pub invariant-rounds : goal.invariant-rounds
invariant-rounds g l = record {
  rest : l.self ≡ record l.initial.self { seat = l.self.seat };
  row : l.self.seat.row ≡ l.initial.self.seat.row;
  source : l.self.seat.source ≡ l.initial.self.seat.source;
  owner : l.self.seat.view.owner ≡ l.initial.self.seat.view.owner;
}
