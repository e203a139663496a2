use Rattle.usb_session_run.proofs.program.offer_error.Goals as goal

pub returns-in-Malformed-clause-ok : goal.returns-in-Malformed-clause-ok
returns-in-Malformed-clause-ok g c = rw c.in-Malformed.is c.offer_number.ensures.ok

pub returns-in-Malformed-clause-err : goal.returns-in-Malformed-clause-err
returns-in-Malformed-clause-err g c = rw c.in-Malformed.is c.offer_number.ensures.err

pub returns-in-TooLong-clause-ok : goal.returns-in-TooLong-clause-ok
returns-in-TooLong-clause-ok g c = rw c.in-TooLong.is c.offer.ensures.ok

pub returns-in-TooLong-clause-err : goal.returns-in-TooLong-clause-err
returns-in-TooLong-clause-err g c = rw c.in-TooLong.is c.offer.ensures.err

pub returns-in-ReadFault-clause-ok : goal.returns-in-ReadFault-clause-ok
returns-in-ReadFault-clause-ok g c = rw c.in-ReadFault.is c.offer-in-ReadFault.ensures.ok

pub returns-in-ReadFault-clause-err : goal.returns-in-ReadFault-clause-err
returns-in-ReadFault-clause-err g c = rw c.in-ReadFault.is c.offer-in-ReadFault.ensures.err

pub returns-in-WriteFault-clause-ok : goal.returns-in-WriteFault-clause-ok
returns-in-WriteFault-clause-ok g c = rw c.in-WriteFault.is c.offer-in-WriteFault.ensures.ok

pub returns-in-WriteFault-clause-err : goal.returns-in-WriteFault-clause-err
returns-in-WriteFault-clause-err g c = rw c.in-WriteFault.is c.offer-in-WriteFault.ensures.err

pub returns-in-Memory-clause-ok : goal.returns-in-Memory-clause-ok
returns-in-Memory-clause-ok g c = rw c.in-Memory.is c.offer-in-Memory.ensures.ok

pub returns-in-Memory-clause-err : goal.returns-in-Memory-clause-err
returns-in-Memory-clause-err g c = rw c.in-Memory.is c.offer-in-Memory.ensures.err
