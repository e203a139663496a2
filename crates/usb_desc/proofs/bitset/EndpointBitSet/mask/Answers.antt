use Rattle.std.proofs.Common.{◌∙◌, arith}
use Rattle.usb_desc.proofs.BitSetLemmas.{masks_apart, shifted_mask}
use Rattle.usb_desc.proofs.bitset.EndpointBitSet.mask.Goals as goal

pub returns-clause-apart : goal.returns-clause-apart
returns-clause-apart c = λ other is_ep is_other same.
    masks_apart other c.args.ep is_other is_ep (same ∙ shifted_mask c.args.ep (omega arith))
