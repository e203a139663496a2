use Rattle.std.proofs.Common.{ap, ◌∙◌, arith, bit_and, ◌-◌}
use Rattle.std.specs.FinSet as set
use Rattle.usb_desc.specs.BitSet.{bit_of, members}
use Rattle.usb_desc.proofs.BitSetLemmas.{members_clear, bit_within}
use Rattle.usb_desc.proofs.bitset.EndpointBitSet.clear.Goals as goal

pub returns : goal.returns
returns c =
    let bits = c.self.inside.bits in
    let place = bit_of c.args.ep in
    record {
      removed = ap (λ mask. members (bit_and bits (4294967295 - mask))) c.mask.ensures.value
          ∙ members_clear bits place (bit_within c.args.ep (omega arith))
          ∙ ap (λ number. set.remove (members number) place) c.self.view_is;
    }
