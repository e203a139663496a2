use Rattle.std.proofs.lemmas.Result.{err_from_is_err_and}
use Rattle.example_disk.proofs.Partition.write.Goals as goal

pub returns-in_err-write-clause-failed : goal.returns-in_err-write-clause-failed
returns-in_err-write-clause-failed g c =
    let err = err_from_is_err_and c.from_residual.result c.from_residual.ensures.1 in
    rw (err.1, err.2) (rw (← c.in-Some.ensures.place) (rw (← c.self.view_is) c.in_err-write.ensures.failed))

pub returns-clause-written : goal.returns-clause-written
returns-clause-written g c =
    rw (← c.in-Some.ensures.place) (rw (← c.self.view_is) c.in_ok-write.ensures.passed)
