-- Nothing that is opened or closed leaves an event. The first call that is refused gives the error.
use Rattle.std.proofs.Common.{◌∙◌}
use Rattle.std.proofs.lemmas.Result.{err_from_is_err_and}
use Rattle.example_keyboard.proofs.OpenLemmas.{past-opened, past-claimed, past-endpoint_opened}
use Rattle.example_keyboard.proofs.OpenHandles.{device-refused, interface-refused, leaves-one, leaves-none, on-err}
use Rattle.example_keyboard.proofs.OpeningAnswers.{device-tried, interface-tried, endpoint-tried}
use Rattle.example_keyboard.proofs.driver.open.Goals as goal

pub returns-in_err-open_at-clause-past : goal.returns-in_err-open_at-clause-past
returns-in_err-open_at-clause-past c = past-opened _ _ _ _ _ c.open_at.ensures.host

pub returns-in_err-detach_and_into_interface-clause-past :
    goal.returns-in_err-detach_and_into_interface-clause-past
returns-in_err-detach_and_into_interface-clause-past c =
    past-claimed _ _ _ _ _ _ c.detach_and_into_interface.ensures.claims
    ∙ past-opened _ _ _ _ _ c.open_at.ensures.host

pub returns-clause-past : goal.returns-clause-past
returns-clause-past c =
    past-endpoint_opened _ _ _ _ _ _ _ c.into_endpoint.ensures.opens
    ∙ (past-claimed _ _ _ _ _ _ c.detach_and_into_interface.ensures.claims
    ∙ past-opened _ _ _ _ _ c.open_at.ensures.host)

pub returns-in_err-open_at-clause-refused : goal.returns-in_err-open_at-clause-refused
returns-in_err-open_at-clause-refused c =
    on-err c.from_residual.result _
    (device-refused _ _ _ _ _ c.in_err-open_at.ensures.tried c.in_err-open_at.ensures.host)

pub returns-in_err-detach_and_into_interface-clause-refused :
    goal.returns-in_err-detach_and_into_interface-clause-refused
returns-in_err-detach_and_into_interface-clause-refused c =
    on-err c.from_residual-in_err-detach_and_into_interface.result _
    (interface-refused _ _ _ _ _ _ _ _ _ c.in_ok-open_at.ensures.tried c.in_ok-open_at.ensures.host
    c.in_err-detach_and_into_interface.ensures.claims)

pub returns-clause-open : goal.returns-clause-open
returns-clause-open c =
    leaves-one _ _ _ _ _ _ _ _ _ _ _ _ _ c.in_ok-open_at.ensures.tried c.in_ok-open_at.ensures.host
    c.in_ok-detach_and_into_interface.ensures.claims _ c.into_endpoint.ensures.opens

pub returns-clause-refused : goal.returns-clause-refused
returns-clause-refused c =
    leaves-none _ _ _ _ _ _ _ _ _ _ _ _ _ c.in_ok-open_at.ensures.tried c.in_ok-open_at.ensures.host
    c.in_ok-detach_and_into_interface.ensures.claims _ c.into_endpoint.ensures.opens

pub returns-in_err-open_at-clause-tried : goal.returns-in_err-open_at-clause-tried
returns-in_err-open_at-clause-tried c =
    let err = err_from_is_err_and c.from_residual.result c.from_residual.ensures.1 in
    rw (err.1, err.2) (device-tried _ _ _ _ c.in_err-open_at.ensures.tried)

pub returns-in_err-detach_and_into_interface-clause-tried :
    goal.returns-in_err-detach_and_into_interface-clause-tried
returns-in_err-detach_and_into_interface-clause-tried c =
    let residual = c.from_residual-in_err-detach_and_into_interface in
    let err = err_from_is_err_and residual.result residual.ensures.1 in
    rw (err.1, err.2) (interface-tried _ _ _ _ _ _ _ c.in_ok-open_at.ensures.tried c.in_ok-open_at.ensures.host
    c.in_err-detach_and_into_interface.ensures.claims)

pub returns-clause-tried : goal.returns-clause-tried
returns-clause-tried c =
    endpoint-tried _ _ _ _ _ _ _ _ _ c.in_ok-open_at.ensures.tried c.in_ok-open_at.ensures.host
    c.in_ok-detach_and_into_interface.ensures.claims c.into_endpoint.ensures.opens
