use Rattle.usb_kernel.proofs.ClaimLemmas.{releases-keep, steps-keep, release-ends}
use Rattle.usb_kernel.proofs.ClaimCalls.{claimed-busy, claim-claims, second-busy, claims-keep, release-undoes, claim-refused}
use Rattle.usb_kernel.proofs.laws.claimed_once.Goals as goal

pub returns : goal.returns
returns c = record {
  busy = claimed-busy;
  claimed = claim-claims;
  second = second-busy;
  claims = claims-keep;
  releases = releases-keep;
  steps = steps-keep;
  ends = release-ends;
  undoes = release-undoes;
  refused = claim-refused;
}
