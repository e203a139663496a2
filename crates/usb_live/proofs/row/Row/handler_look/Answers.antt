use Rattle.std.proofs.Common.{arith}
use Rattle.usb_live.proofs.HandlerSteps.{looks}
use Rattle.usb_live.proofs.row.Row.handler_look.Goals as goal

pub load-requires : goal.load-requires
load-requires c = (c.requires.seat.0, omega (arith, c.args.self.now.sized, c.requires.cell), looks _ _ _ _ c.requires.cell c.requires.seat.1.0)
