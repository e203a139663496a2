use Rattle.usb_trace.proofs.text.keep.Goals as goal

pub returns-in-Ok-clause-events : goal.returns-in-Ok-clause-events
returns-in-Ok-clause-events c = λ events replayed. rw c.in-Event.is (c.in-Ok.ensures.more events replayed)
