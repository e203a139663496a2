use Rattle.std.proofs.Common.{◌≡◌}
use Rattle.usb_device_host.specs.Finishes.{discarded_below, reaped_below}
use Rattle.usb_device_host.proofs.host.Host.finish.Given as goal

abbrev pub invariant-loop-ticket : goal.invariant-loop-ticket
invariant-loop-ticket l = l.self ≡ discarded_below l.initial.self l.ticket

abbrev pub invariant-loop-ticket-2 : goal.invariant-loop-ticket-2
invariant-loop-ticket-2 l = l.self ≡ reaped_below l.initial.self l.ticket
