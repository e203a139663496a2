use Rattle.usb_io.proofs.LentRests.{fill_gives}
use Rattle.usb_io.proofs.fill_on.ReadOnBufRead.TheImpl.Goals as goal

pub fill_buf-meets : goal.fill_buf-meets
fill_buf-meets g c = fill_gives g.world.𝓛 _ _ _ _ _ _ _ (λ r z p. (tt, tt))
