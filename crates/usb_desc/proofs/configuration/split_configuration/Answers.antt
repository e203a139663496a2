use Rattle.usb_desc.proofs.ConfigurationLemmas.{concatenated_first, concatenated_none, total_at_some, none_at_none}
use Rattle.usb_desc.proofs.configuration.split_configuration.Goals as goal

pub returns-in_err-total-clause-items : goal.returns-in_err-total-clause-items
returns-in_err-total-clause-items c =
    rw c.from_residual.ensures (concatenated_none c.args.bytes.now (none_at_none c.args.bytes.now c.in_err-total.ensures.value))

pub returns-clause-items : goal.returns-clause-items
returns-clause-items c =
    let e = total_at_some c.args.bytes.now c.in_ok-total.total c.in_ok-total.ensures.value in
    rw (c.split_at.ensures.front, c.split_at.ensures.back, e.1) (concatenated_first c.args.bytes.now e.0)
