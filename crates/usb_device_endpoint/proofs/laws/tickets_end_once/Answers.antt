use Rattle.usb_device_endpoint.proofs.EndLemmas.{end_ends, ended_stays, entered_moves, later_moves, end_moves}
use Rattle.usb_device_endpoint.proofs.laws.tickets_end_once.Goals as goal

pub returns-clause-ends : goal.returns-clause-ends
returns-clause-ends c = end_ends

pub returns-clause-stays : goal.returns-clause-stays
returns-clause-stays c = ended_stays

pub returns-clause-entered : goal.returns-clause-entered
returns-clause-entered c = entered_moves

pub returns-clause-later : goal.returns-clause-later
returns-clause-later c = later_moves

pub returns-clause-end : goal.returns-clause-end
returns-clause-end c = end_moves
