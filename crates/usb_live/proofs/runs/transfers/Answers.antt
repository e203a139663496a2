use Rattle.std.proofs.Common.{◌<◌, refl, ◌∙◌, rules}
use Rattle.usb_live.proofs.Turns.{idle_again, counts_one}
use Rattle.usb_live.proofs.runs.transfers.Goals as goal

pub transfers-preserved : goal.transfers-preserved
transfers-preserved g c = let so_far = c.transfers.invariant in let one = c.in_ok-feed.ensures.one in
    let again = idle_again _ _ _ c.in-Some.receipt one c.in-Some.ensures.told in
    let below : c.transfers.j < c.args.n = search rules in
    let small : c.args.n < 4294967296 = search rules in
    record {
      idle = again.idle;
      submitted = counts_one _ _ _ _ _ again.submitted one.submitted so_far.submitted below small;
      taken = counts_one _ _ _ _ _ again.taken refl (one.taken ∙ so_far.taken) below small;
      receipts = search rules;
    }
