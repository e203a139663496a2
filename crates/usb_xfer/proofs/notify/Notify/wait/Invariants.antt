use Rattle.std.proofs.Common.{◌≡◌}
use denote.Param.Always.{always_mut}
use Rattle.std.specs.Iterator.Runs.{CallKeepsClosure}
use Rattle.usb_xfer.proofs.notify.Notify.wait.Given as goal

abbrev pub invariant-loop : goal.invariant-loop
invariant-loop g l =
    (goal.iterator-loop g).can_next l.iterator' ×
    (goal.iterator-loop g).is_finite l.iterator' ×
    (always_mut g.F.FnMut l.initial.check → always_mut g.F.FnMut l.check) ×
    (CallKeepsClosure g.F.FnMut l.initial.check → l.check ≡ l.initial.check)
