-- A read that fails says why.
use Rattle.example_messages.proofs.AskLemmas.{read-fails}
use Rattle.example_messages.proofs.messages.Messages.read.Goals as goal
use Rattle.example_messages.proofs.messages.Messages.read.Goals.{in-Ok, in-Err}

pub returns-clause-failed : goal.returns-clause-failed
returns-clause-failed c =
    elim c.match-read.branch [
      | in-Ok w ↦ rw w.result-is tt
      | in-Err w ↦ rw (w.result-is, w.read_failed.ensures.fail) (λ first r. read-fails first r _ _ _ w.in-Err.fail w.in-Err.ensures.failed)
    ]
