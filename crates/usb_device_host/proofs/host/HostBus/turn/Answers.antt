use Rattle.std.proofs.Common.{◌∙◌, sym, ap, arith}
use Rattle.usb_device_host.specs.HostBus.{bus_of}
use Rattle.usb_device_host.proofs.HostFrames.{turn-still}
use Rattle.usb_device_host.proofs.BusLemmas.{later-turned, falls-turned, time-up}
use Rattle.usb_device_host.proofs.host.HostBus.turn.Goals as goal

pub returns-clause-state : goal.returns-clause-state
returns-clause-state c = later-turned c.args.self.now c.take_turn-turn.new.self c.take_turn-turn.ensures.next

pub returns-clause-falls : goal.returns-clause-falls
returns-clause-falls c = falls-turned c.args.self.now c.take_turn-turn.new.self c.take_turn-turn.result c.take_turn-turn.ensures.next c.take_turn-turn.ensures.turn (omega (arith, c.count-count.ensures.count, c.count-count.type_inv))

pub returns-clause-time_up : goal.returns-clause-time_up
returns-clause-time_up c = λ up. time-up c.args.self.now (sym c.take_turn-turn.ensures.turn ∙ up)

pub returns-clause-still : goal.returns-clause-still
returns-clause-still c =
    λ up. ap bus_of (c.take_turn-turn.ensures.next ∙ turn-still c.args.self.now (sym c.take_turn-turn.ensures.turn ∙ up))
