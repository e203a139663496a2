use Rattle.usb_trace.proofs.Appended.{replaying-step}
use Rattle.usb_trace.proofs.event.step_again.Goals as goal

pub returns-clause-replaying : goal.returns-clause-replaying
returns-clause-replaying c = λ acted.
    replaying-step c.args.kernel.now c.acts.new.kernel c.args.event c.step_for.result c.acts.result c.requires.replaying c.requires.done c.requires.below c.step_for.ensures.step
    c.acts.ensures.past c.acts.ensures.devices c.acts.ensures.armed c.acts.ensures.grew acted
