use Rattle.std.proofs.Common.{sym, ◌∙◌}
use Rattle.usb_live.proofs.Whole.{IsWhole-valid}
use Rattle.usb_live.proofs.endpoint.enter.Goals as goal

pub submit-requires : goal.submit-requires
submit-requires c = record { whole = IsWhole-valid c.args.s (sym c.is_valid.ensures.valid ∙ c.if-is_valid.true) }
