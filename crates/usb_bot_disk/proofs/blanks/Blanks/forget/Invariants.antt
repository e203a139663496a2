use Rattle.std.proofs.Common.{◌≡◌, drop}
use Rattle.usb_bot_disk.proofs.blanks.Blanks.forget.Given as goal

abbrev pub invariant-loop : goal.invariant-loop
invariant-loop l = l.self-inside.queue.items ≡ drop l.counter l.initial.self-inside.queue.items
