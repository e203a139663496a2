use Rattle.std.proofs.Common.{sym, ◌∙◌}
use Rattle.usb_trace.proofs.Whole.{whole-wants}
use Rattle.usb_trace.proofs.event.wants_whole.Goals as goal

pub returns-clause-whole : goal.returns-clause-whole
returns-clause-whole c = λ acted. whole-wants c.args.maximum c.args.body.now (sym c.asks_whole.ensures.value ∙ acted)
