-- The tallies of one round, of two, and of 84, computed.
use Rattle.std.proofs.Common.{◌≡◌, refl}
use Rattle.usb_bot_rounds.specs.Rounds.{rounds_tally, round_bytes, zeros}
use Rattle.usb_bot_rounds.proofs.RoundLemmas.{tally-rounds}

pub one-round : rounds_tally 1 ≡ record { writes = 1; reads = 1; failed = 0; sum = 65280 }
unfolding rounds_tally round_bytes zeros
one-round = refl

pub two-rounds : rounds_tally 2 ≡ record { writes = 2; reads = 2; failed = 0; sum = 195840 }
unfolding rounds_tally round_bytes zeros
two-rounds = refl

pub many-rounds : rounds_tally 84 ≡ record { writes = 83; reads = 83; failed = 2; sum = 13447680 }
unfolding round_bytes
many-rounds = tally-rounds 84
