use Rattle.usb_msg.proofs.Messages.{frames_are_messages, requests_are_messages, responses_are_first, responses_are_messages, responses_are_asked, answers_come_back}
use Rattle.usb_msg.proofs.Steps.{fresh_keeps, later_keeps}
use Rattle.usb_msg.proofs.Living.{clients_live}
use Rattle.usb_msg.proofs.laws.responses_are_messages.Goals as goal

pub returns-clause-frames : goal.returns-clause-frames
returns-clause-frames c = frames_are_messages

pub returns-clause-fresh : goal.returns-clause-fresh
returns-clause-fresh c = fresh_keeps

pub returns-clause-later : goal.returns-clause-later
returns-clause-later c = later_keeps

pub returns-clause-requests : goal.returns-clause-requests
returns-clause-requests c = requests_are_messages

pub returns-clause-first : goal.returns-clause-first
returns-clause-first c = responses_are_first

pub returns-clause-responses : goal.returns-clause-responses
returns-clause-responses c = responses_are_messages

pub returns-clause-asked : goal.returns-clause-asked
returns-clause-asked c = responses_are_asked

pub returns-clause-back : goal.returns-clause-back
returns-clause-back c = answers_come_back

pub returns-clause-calls : goal.returns-clause-calls
returns-clause-calls c = clients_live
