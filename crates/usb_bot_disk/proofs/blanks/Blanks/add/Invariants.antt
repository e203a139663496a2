use Rattle.std.proofs.Common.{◌≡◌, ◌++◌, replicate}
use Rattle.usb_bot_disk.proofs.blanks.Blanks.add.Given as goal

abbrev pub invariant-loop : goal.invariant-loop
invariant-loop l = l.self-inside.queue.items ≡ l.initial.self-inside.queue.items ++ replicate l.counter l.size
