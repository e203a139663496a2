-- The halt of the endpoint that is written to is cleared last.
use Rattle.example_messages.proofs.EndpointLemmas.{target-refused}
use Rattle.example_messages.proofs.messages.restart_both.Goals as goal

pub returns-clause-refused : goal.returns-clause-refused
returns-clause-refused c =
    target-refused c.restart_endpoint-2.new.host c.args.input.now c.args.output.now c.restart_endpoint-2.result c.restart_endpoint-2.ensures.clears
