use Rattle.usb_desc.proofs.ChainLemmas.{walk_loses_nothing}
use Rattle.usb_desc.proofs.chain.DescriptorIter.over.Goals as goal

pub returns-clause-loses_nothing : goal.returns-clause-loses_nothing
returns-clause-loses_nothing c = walk_loses_nothing c.args.bytes.now
