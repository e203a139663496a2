use Rattle.example_echo.proofs.OpeningLemmas.{in-refused, both-tried}
use Rattle.example_echo.proofs.Echo.with_interface.Goals as goal

pub returns-in-Ok-clause-tried : goal.returns-in-Ok-clause-tried
returns-in-Ok-clause-tried c =
    both-tried _ _ _ _ c.with_input.result c.in-Ok.ensures.opens c.with_input.ensures.tried

pub returns-in-Err-clause-tried : goal.returns-in-Err-clause-tried
returns-in-Err-clause-tried c = in-refused _ _ _ _ c.in-Err.ensures.opens
