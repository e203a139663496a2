use Rattle.usb_io.proofs.LastingErrors.{read_tells_error, fill_tells_error, needs_no_memory, submissions_keep_error}
use Rattle.usb_io.proofs.laws.lasting_errors_are_told_again.Goals as goal

pub returns-clause-read : goal.returns-clause-read
returns-clause-read g c = read_tells_error g.B.Bus.calls

pub returns-clause-fill : goal.returns-clause-fill
returns-clause-fill g c = fill_tells_error g.B.Bus.calls

pub returns-clause-memory : goal.returns-clause-memory
returns-clause-memory g c = needs_no_memory g.B.Bus.calls

pub returns-clause-submissions : goal.returns-clause-submissions
returns-clause-submissions g c = submissions_keep_error g.B.Bus.calls
