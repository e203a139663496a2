use Rattle.usb_kernel.proofs.CallsKept.{start-exclusive, calls-exclusive, resets-exclusive, releases-exclusive, steps-exclusive}
use Rattle.usb_kernel.proofs.laws.claims_and_drivers_exclude_each_other.Goals as goal

pub returns : goal.returns
returns c = record {
  start = start-exclusive;
  calls = calls-exclusive;
  resets = resets-exclusive;
  releases = releases-exclusive;
  steps = steps-exclusive;
}
