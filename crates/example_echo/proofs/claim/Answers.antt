-- The first call that is refused gives the error.
use Rattle.std.proofs.lemmas.Result.{err_from_is_err_and}
use Rattle.usb_device.proofs.InterfaceAnswers.{not_opened, claim_tried_on}
use Rattle.example_echo.proofs.ClaimLemmas.{claims}
use Rattle.example_echo.proofs.claim.Goals as goal

pub returns-in_err-device-clause-tried : goal.returns-in_err-device-clause-tried
returns-in_err-device-clause-tried c =
    let err = err_from_is_err_and c.from_residual.result c.from_residual.ensures.1 in
    rw (err.1, err.2) (not_opened _ _ _ _ _ _ c.in_err-device.ensures.tried)

pub returns-in_err-interface-clause-tried : goal.returns-in_err-interface-clause-tried
returns-in_err-interface-clause-tried c =
    let residual = c.from_residual-in_err-interface in
    let err = err_from_is_err_and residual.result residual.ensures.1 in
    rw (err.1, err.2)
    (claim_tried_on _ _ _ _ _ _ _ _ _ c.in_ok-device.ensures.tried c.in_ok-device.ensures.host
    c.in_err-interface.ensures.claims)

pub returns-clause-tried : goal.returns-clause-tried
returns-clause-tried c =
    claim_tried_on _ _ _ _ _ _ _ _ _ c.in_ok-device.ensures.tried c.in_ok-device.ensures.host
    c.in_ok-interface.ensures.claims

pub returns-clause-host : goal.returns-clause-host
returns-clause-host c =
    (claims _ _ _ _ _ _ _ c.in_ok-device.ensures.tried c.in_ok-device.ensures.host
    c.in_ok-interface.ensures.claims).host

pub returns-clause-key : goal.returns-clause-key
returns-clause-key c =
    (claims _ _ _ _ _ _ _ c.in_ok-device.ensures.tried c.in_ok-device.ensures.host
    c.in_ok-interface.ensures.claims).key_is
