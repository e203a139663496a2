use Rattle.std.proofs.Common.{◌≡◌, length}
use Rattle.usb_live.specs.Live.{Orderly, Queued}
use Rattle.usb_live.specs.Calls.{with_dropped}
use Rattle.usb_live.proofs.endpoint.LiveEndpoint.shut.Given as goal

abbrev pub invariant-entries : goal.invariant-entries
invariant-entries l = record {
  route : l.self-inside.to ≡ l.initial.self-inside.to;
  row : l.self-inside.seat.row ≡ l.initial.self-inside.seat.row;
  source : l.self-inside.seat.source ≡ l.initial.self-inside.seat.source;
  orderly : Orderly l.self-inside.seat.view l.self-inside.queue.items l.self-inside.used;
  began : Queued l.initial.self-inside.seat.view.owner l.self-inside.queue.items;
  wide : length l.initial.self-inside.seat.view.owner ≡ 64;
  tally : l.self-inside.tally ≡ with_dropped l.initial.self-inside.tally l.initial.self-inside.seat.view.owner l.self-inside.seat.view.owner;
}

abbrev pub decreases-entries : goal.decreases-entries
decreases-entries l = length l.self-inside.queue.items
