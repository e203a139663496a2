use Rattle.std.proofs.Common.{sym, ◌∙◌}
use Rattle.usb_trace.proofs.Reading.{lines-next}
use Rattle.usb_trace.proofs.text.LinesRead.add.Goals as goal

pub returns-clause-more : goal.returns-clause-more
returns-clause-more c = λ before lines.
    lines-next before c.args.told c.args.self.now _ lines (sym c.behind.ensures.phase ∙ c.in-Some.is) c.in_ok-keep.ensures.fates c.in_ok-keep.ensures.events
