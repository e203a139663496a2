use Rattle.std.proofs.lemmas.Result.{err_from_is_err_and}
use Rattle.example_disk.proofs.Partition.read.Goals as goal

pub returns-in_err-read-clause-failed : goal.returns-in_err-read-clause-failed
returns-in_err-read-clause-failed g c =
    let err = err_from_is_err_and c.from_residual.result c.from_residual.ensures.1 in
    rw (err.1, err.2) (rw (← c.in-Some.ensures.place) (rw (← c.self.view_is) c.in_err-read.ensures.failed))

pub returns-clause-read : goal.returns-clause-read
returns-clause-read g c =
    rw (← c.in-Some.ensures.place) (rw (← c.self.view_is) c.in_ok-read.ensures.passed)
