use Rattle.usb_io.proofs.AlongLemmas.{writes-trans}
use Rattle.usb_io.proofs.writer.EndpointWrite.flush_within.Goals as goal

pub returns-in-Ok-clause-goes : goal.returns-in-Ok-clause-goes
returns-in-Ok-clause-goes g c = writes-trans c.submit.ensures.goes c.drain.ensures.goes

pub returns-in-Err-clause-goes : goal.returns-in-Err-clause-goes
returns-in-Err-clause-goes g c = writes-trans c.submit.ensures.goes c.drain.ensures.goes
