-- Each endpoint's close closes it.
use Rattle.std.proofs.Common.{ap}
use Rattle.usb_device_endpoint.specs.BusState.{BusState}
use Rattle.example_messages.proofs.EndpointLemmas.{both-closed}
use Rattle.example_messages.proofs.messages.close_both.Goals as goal

pub returns-clause-closed : goal.returns-clause-closed
returns-clause-closed c =
    both-closed c.args.host.now c.close.new.bus c.close-2.new.bus c.args.input c.args.output
    (ap (λ (b : BusState). b.keys) c.close.ensures.state) (ap (λ (b : BusState). b.keys) c.close-2.ensures.state)
