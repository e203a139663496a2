use Rattle.std.proofs.Common.{arith}
use Rattle.usb_live.proofs.OwnerSteps.{takes_out}
use Rattle.usb_live.proofs.row.Row.owner_out.Goals as goal

pub load-requires : goal.load-requires
load-requires c = (c.requires.seat.0, omega (arith, c.args.self.now.sized), takes_out _ _ _ _ c.requires.cell.0 c.requires.seat.1.0 c.requires.cell.1 c.requires.cell.2)
