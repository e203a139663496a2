use Rattle.usb_device_endpoint.proofs.OrderLemmas.{taken_in_order, submission_leads, poll_leads, calls_compose}
use Rattle.usb_device_endpoint.proofs.laws.completions_come_in_order.Goals as goal

pub returns-clause-law : goal.returns-clause-law
returns-clause-law c = taken_in_order

pub returns-clause-submission : goal.returns-clause-submission
returns-clause-submission c = submission_leads

pub returns-clause-poll : goal.returns-clause-poll
returns-clause-poll c = poll_leads

pub returns-clause-calls : goal.returns-clause-calls
returns-clause-calls c = calls_compose
