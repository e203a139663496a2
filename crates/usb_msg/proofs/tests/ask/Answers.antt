use Rattle.usb_device_endpoint.specs.KernelBusCalls.{bus_of}
use Rattle.usb_msg.proofs.Standing.{both-written}
use Rattle.usb_msg.proofs.tests.ask.Goals as goal

pub returns-in-Ok-clause-stand : goal.returns-in-Ok-clause-stand
returns-in-Ok-clause-stand c =
    both-written (bus_of c.args.bus.now) (bus_of c.request.new.bus) c.args.client.now c.request.new.self c.request.ensures.goes c.request.ensures.reader c.requires.stand

pub returns-in-Err-clause-stand : goal.returns-in-Err-clause-stand
returns-in-Err-clause-stand c =
    both-written (bus_of c.args.bus.now) (bus_of c.request.new.bus) c.args.client.now c.request.new.self c.request.ensures.goes c.request.ensures.reader c.requires.stand
