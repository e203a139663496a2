-- What is opened and closed around the reading brings no ticket, and completes none.
use Rattle.std.proofs.Common.{ap}
use Rattle.usb_device_endpoint.specs.BusState.{BusState}
use Rattle.example_keyboard.proofs.ReportLemmas.{nothing-read, closed-alike, read-between, ends-alike, asked-between}
use Rattle.example_keyboard.proofs.KeptHandles.{one-kept, one-closes}
use Rattle.example_keyboard.proofs.driver.read_reports.Goals as goal

pub returns-in_err-endpoint-clause-reports : goal.returns-in_err-endpoint-clause-reports
returns-in_err-endpoint-clause-reports c = nothing-read _ _ _ c.open.ensures.past

pub returns-in_err-end-clause-reports : goal.returns-in_err-end-clause-reports
returns-in_err-end-clause-reports c =
    read-between _ _ _ _ _ _ c.open.ensures.past
    (closed-alike _ _ c.read_all-end.new.endpoint.pending (ap (λ (b : BusState). b.past) c.close.ensures.state)) c.read_all-end.ensures.reports

pub returns-clause-reports : goal.returns-clause-reports
returns-clause-reports c =
    read-between _ _ _ _ _ _ c.open.ensures.past
    (closed-alike _ _ c.read_all-end.new.endpoint.pending (ap (λ (b : BusState). b.past) c.close.ensures.state)) c.read_all-end.ensures.reports

pub returns-clause-end : goal.returns-clause-end
returns-clause-end c =
    ends-alike _ _ _ (closed-alike _ _ c.read_all-end.new.endpoint.pending (ap (λ (b : BusState). b.past) c.close.ensures.state)) c.in_ok-end.ensures.end

pub returns-in_err-end-clause-closed : goal.returns-in_err-end-clause-closed
returns-in_err-end-clause-closed c =
    one-closes _ _ _ _ c.read_all-end.new.endpoint (one-kept _ _ _ _ c.in_ok-endpoint.ensures.open c.read_all-end.ensures.closed)
    c.read_all-end.ensures.key c.close.ensures.bus (ap (λ (b : BusState). b.keys) c.close.ensures.state)

pub returns-clause-closed : goal.returns-clause-closed
returns-clause-closed c =
    one-closes _ _ _ _ c.read_all-end.new.endpoint (one-kept _ _ _ _ c.in_ok-endpoint.ensures.open c.read_all-end.ensures.closed)
    c.read_all-end.ensures.key c.close.ensures.bus (ap (λ (b : BusState). b.keys) c.close.ensures.state)

pub returns-clause-asked : goal.returns-clause-asked
returns-clause-asked c =
    asked-between _ _ _ _ c.open.ensures.past
    (closed-alike _ _ c.read_all-end.new.endpoint.pending (ap (λ (b : BusState). b.past) c.close.ensures.state))
    c.in_ok-end.ensures.asked
