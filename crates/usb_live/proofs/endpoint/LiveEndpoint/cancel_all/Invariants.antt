use Rattle.std.proofs.Common.{◌≡◌, drop}
use Rattle.usb_live.specs.Calls.{cancelled}
use Rattle.usb_live.proofs.endpoint.LiveEndpoint.cancel_all.Given as goal

abbrev pub invariant-tickets : goal.invariant-tickets
invariant-tickets l = l.kernel ≡ cancelled (drop l.i l.queue.items) l.initial.kernel
