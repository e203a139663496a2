use Rattle.std.proofs.Common.{◌≡◌, true, false, arith}
use Rattle.std.proofs.lemmas.Bool.Decides.{nat_tests}
use Rattle.std.proofs.lemmas.Grind.{common_steps}
use Rattle.usb_desc.specs.Chain.{begins_descriptor}
use Rattle.usb_desc.proofs.ChainLemmas.{none_in_few, chain_none, chain_first}
use Rattle.usb_desc.proofs.chain.split_first.Goals as goal

pub returns-in_default-clause-walks : goal.returns-in_default-clause-walks
returns-in_default-clause-walks c = chain_none c.args.bytes.now (none_in_few c.args.bytes.now (omega arith))

pub returns-then-len-lt2-clause-walks : goal.returns-then-len-lt2-clause-walks
returns-then-len-lt2-clause-walks c =
    let ends : begins_descriptor c.args.bytes.now ≡ false = grind (arith, nat_tests, common_steps) in
    chain_none c.args.bytes.now ends

pub returns-clause-walks : goal.returns-clause-walks
returns-clause-walks c =
    let begins : begins_descriptor c.args.bytes.now ≡ true = grind (arith, nat_tests, common_steps) in
    rw (c.split_at.ensures.front, c.split_at.ensures.back) (chain_first c.args.bytes.now begins)
