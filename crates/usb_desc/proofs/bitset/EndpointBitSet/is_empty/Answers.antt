use Rattle.std.proofs.Common.{ap, ◌∙◌, sym}
use Rattle.usb_desc.specs.BitSet.{members}
use Rattle.usb_desc.proofs.BitSetLemmas.{members_none, none_from_empty, no_bit, zero_is_true}
use Rattle.usb_desc.proofs.bitset.EndpointBitSet.is_empty.Goals as goal

pub returns : goal.returns
returns c =
    let bits = c.self.inside.bits in
    record {
      empty = (
        λ test. ap members (sym c.self.view_is ∙ no_bit bits test) ∙ members_none,
        λ none. zero_is_true bits (none_from_empty bits c.self.invariant (ap members c.self.view_is ∙ none)),
      );
    }
