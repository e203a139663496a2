use Rattle.usb_device_endpoint.proofs.SubmitLemmas.{HandsOver-refused}
use Rattle.usb_device_endpoint.proofs.enter.hand_over.Goals as goal

pub returns-then-not-is_valid-clause-state : goal.returns-then-not-is_valid-clause-state
returns-then-not-is_valid-clause-state g c =
    HandsOver-refused c.refuse.result (g.B.Bus.calls.state c.args.bus.now) (g.B.Bus.calls.state c.refuse.new.self) c.args.to c.args.deadline c.args.transfer.held c.args.is_valid c.refuse.ensures.state
