use Rattle.std.proofs.Common.{ap, ◌∙◌, sym, arith, bit_and, eqb, not}
use Rattle.usb_desc.specs.BitSet.{bit_of, members}
use Rattle.usb_desc.proofs.BitSetLemmas.{has, bit_held, bit_within}
use Rattle.usb_desc.proofs.bitset.EndpointBitSet.is_set.Goals as goal

pub returns : goal.returns
returns c =
    let bits = c.self.inside.bits in
    let place = bit_of c.args.ep in
    record {
      member = ap (λ mask. not (eqb (bit_and bits mask) 0)) c.mask.ensures.value
          ∙ sym (bit_held bits place (bit_within c.args.ep (omega arith)))
          ∙ ap (λ number. has (members number) place) c.self.view_is;
    }
