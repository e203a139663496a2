use Rattle.example_echo.proofs.OpeningLemmas.{out-tried}
use Rattle.example_echo.proofs.Echo.with_input.Goals as goal

pub returns-in-Ok-clause-tried : goal.returns-in-Ok-clause-tried
returns-in-Ok-clause-tried c = out-tried _ _ _ _ c.in-Ok.ensures.opens

pub returns-in-Err-clause-tried : goal.returns-in-Err-clause-tried
returns-in-Err-clause-tried c = out-tried _ _ _ _ c.in-Err.ensures.opens
