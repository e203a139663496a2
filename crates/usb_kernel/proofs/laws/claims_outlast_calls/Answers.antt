use Rattle.usb_kernel.proofs.CallsKept.{claimed-refused, calls-keep, resets-keep}
use Rattle.usb_kernel.proofs.laws.claims_outlast_calls.Goals as goal

pub returns : goal.returns
returns c = record {
  refused = claimed-refused;
  calls = calls-keep;
  resets = resets-keep;
}
