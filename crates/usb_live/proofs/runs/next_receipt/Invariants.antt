use Rattle.std.proofs.Common.{◌≡◌, ◌≤◌, ◌+◌, max}
use Rattle.usb_live.specs.Runs.{OnlyLooked}
use Rattle.usb_live.proofs.runs.next_receipt.Given as goal

abbrev pub invariant-polls : goal.invariant-polls
invariant-polls g l = record {
  looked : OnlyLooked l.initial.endpoint l.endpoint;
  polled : l.endpoint.seat.view.looks ≡ l.fn.endpoint.seat.view.looks + l._poll;
  few : l._poll ≤ max l.polls 1;
}
