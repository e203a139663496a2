use Rattle.usb_device_endpoint.proofs.KernelBusLemmas.{later-turned, falls-turned}
use Rattle.usb_device_endpoint.proofs.kernel_bus.KernelBusBus.turn.Goals as goal

pub returns-clause-state : goal.returns-clause-state
returns-clause-state c = later-turned c.args.self.now c.take_turn.new.self c.take_turn.ensures.bus

pub returns-clause-falls : goal.returns-clause-falls
returns-clause-falls c = falls-turned c.args.self.now c.take_turn.new.self c.take_turn.result c.take_turn.ensures.bus c.take_turn.ensures.turn
