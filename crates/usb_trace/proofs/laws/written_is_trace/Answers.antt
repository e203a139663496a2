use Rattle.usb_trace.proofs.laws.written_is_trace.Goals as goal

pub returns : goal.returns
returns c = record { law = c.typed_is_trace.ensures.law c.journal_is_typed.ensures.typed }
