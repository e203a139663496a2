use Rattle.std.proofs.lemmas.Result.{err_from_is_err_and}
use Rattle.example_echo.proofs.OpeningLemmas.{echo-refused, echo-claimed}
use Rattle.example_echo.proofs.Echo.open.Goals as goal

pub returns-in_err-interface-clause-tried : goal.returns-in_err-interface-clause-tried
returns-in_err-interface-clause-tried c =
    let err = err_from_is_err_and c.from_residual.result c.from_residual.ensures.1 in
    rw (err.1, err.2) (echo-refused _ _ _ _ c.in_err-interface.ensures.tried)

pub returns-clause-tried : goal.returns-clause-tried
returns-clause-tried c =
    echo-claimed _ _ _ _ _ _ c.in_ok-interface.ensures.tried c.in_ok-interface.ensures.host
    c.in_ok-interface.ensures.key c.with_interface.ensures.tried
