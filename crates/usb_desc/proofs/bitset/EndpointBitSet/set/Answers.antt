use Rattle.std.proofs.Common.{ap, ◌∙◌, arith, bit_or}
use Rattle.std.specs.FinSet as set
use Rattle.usb_desc.specs.BitSet.{bit_of, members}
use Rattle.usb_desc.proofs.BitSetLemmas.{members_set, bit_within}
use Rattle.usb_desc.proofs.bitset.EndpointBitSet.set.Goals as goal

pub returns : goal.returns
returns c =
    let bits = c.self.inside.bits in
    let place = bit_of c.args.ep in
    record {
      added = ap (λ mask. members (bit_or bits mask)) c.mask.ensures.value
          ∙ members_set bits place (bit_within c.args.ep (omega arith))
          ∙ ap (λ number. set.insert (members number) place) c.self.view_is;
    }
