use Rattle.std.specs.List.{All}
use Rattle.usb_kernel.specs.Steps.{HasErrno}
use Rattle.test_hosts.proofs.hosts.new_lines.Given as goal

abbrev pub invariant-packets : goal.invariant-packets
invariant-packets l = All HasErrno l.steps.items
