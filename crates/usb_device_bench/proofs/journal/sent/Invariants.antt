use Rattle.std.proofs.Common.{◌≡◌, take, reverse, option_map}
use Rattle.usb_device_bench.specs.Sent.{last_sent}
use Rattle.usb_device_bench.proofs.journal.sent.Given as goal

abbrev pub invariant-loop-event : goal.invariant-loop-event
invariant-loop-event l =
    option_map (λ b. b.now) l.found ≡ last_sent l.fn.endpoint (reverse (take l.event-index l.journal))
