use Rattle.usb_desc.proofs.BitSetLemmas.{members_none}
use Rattle.usb_desc.proofs.bitset.EndpointBitSet.new.Goals as goal

pub returns : goal.returns
returns c = record { empty = members_none }
