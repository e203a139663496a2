use Rattle.usb_device_endpoint.specs.KernelBusCalls.{bus_of}
use Rattle.usb_msg.proofs.Standing.{both-read}
use Rattle.usb_msg.proofs.tests.next.Goals as goal

pub returns-in-Ok-clause-stand : goal.returns-in-Ok-clause-stand
returns-in-Ok-clause-stand c =
    both-read (bus_of c.args.bus.now) (bus_of c.response.new.bus) c.args.client.now c.response.new.self c.response.ensures.goes c.response.ensures.writer c.requires.stand

pub returns-in-Err-clause-stand : goal.returns-in-Err-clause-stand
returns-in-Err-clause-stand c =
    both-read (bus_of c.args.bus.now) (bus_of c.response.new.bus) c.args.client.now c.response.new.self c.response.ensures.goes c.response.ensures.writer c.requires.stand
