use Rattle.usb_bot.proofs.Lengths.{transferred-within}
use Rattle.usb_bot.proofs.stages.stage.Goals as goal

pub returns-in-Ok-status-clause-within : goal.returns-in-Ok-status-clause-within
returns-in-Ok-status-clause-within g c = transferred-within g.B.Bus.calls _ c.args.bus.now c.args.endpoint.now c.args.buf c.in-Ok.done c.transfer_blocking.new.bus c.transfer_blocking.new.self c.in-Ok.ensures.transferred
