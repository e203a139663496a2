use Rattle.std.proofs.Common.{◌≡◌, length}
use Rattle.usb_live.specs.Runs.{IsIdle}
use Rattle.usb_live.proofs.runs.transfers.Given as goal

abbrev pub invariant-transfers : goal.invariant-transfers
invariant-transfers g l = record {
  idle : IsIdle l.endpoint;
  submitted : l.endpoint.tally.submitted ≡ l.j;
  taken : l.endpoint.tally.taken ≡ l.j;
  receipts : length l.receipts.items ≡ l.j;
}
