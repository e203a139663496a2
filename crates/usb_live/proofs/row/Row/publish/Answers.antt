use Rattle.std.proofs.Common.{arith}
use Rattle.usb_live.proofs.OwnerSteps.{publishes}
use Rattle.usb_live.proofs.row.Row.publish.Goals as goal

pub swap-requires : goal.swap-requires
swap-requires c = (c.requires.seat.0, omega (arith, c.args.self.now.sized), publishes _ _ _ _ _ _ c.requires.cell.0 c.requires.seat.1.0 c.requires.cell.1 c.requires.cell.2 (omega arith))
