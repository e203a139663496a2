use Rattle.std.proofs.Common.{sym}
use Rattle.usb_desc.proofs.ConfigurationLemmas.{configuration_form, total_at_some, none_at_none, total_taken, configuration_some, configuration_none}
use Rattle.usb_desc.proofs.configuration.ConfigurationDescriptor.new.Goals as goal

pub returns-in_err-total : goal.returns-in_err-total
returns-in_err-total c = record { value = rw c.from_residual.ensures (sym (configuration_none c.args.buf.now (none_at_none c.args.buf.now c.in_err-total.ensures.value))) }

pub slice_bounds-result-end : goal.slice_bounds-result-end
slice_bounds-result-end c =
    let e = total_at_some c.args.buf.now c.in_ok-total.total c.in_ok-total.ensures.value in
    total_taken c.args.buf.now c.in_ok-total.total e.0 e.1

pub invariant_of-result : goal.invariant_of-result
invariant_of-result c =
    let e = total_at_some c.args.buf.now c.in_ok-total.total c.in_ok-total.ensures.value in
    rw e.1 (configuration_form c.args.buf.now e.0)

pub returns : goal.returns
returns c =
    let e = total_at_some c.args.buf.now c.in_ok-total.total c.in_ok-total.ensures.value in
    record { value = rw e.1 (sym (configuration_some c.args.buf.now e.0)) }
