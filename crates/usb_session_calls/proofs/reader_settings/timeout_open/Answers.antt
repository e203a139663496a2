use Rattle.std.proofs.Common.{ap, ◌∙◌}
use Rattle.usb_session_calls.proofs.ReaderCode.{timeout-set}
use Rattle.usb_session_calls.proofs.reader_settings.timeout_open.Goals as goal

pub returns-clause-answered : goal.returns-clause-answered
returns-clause-answered c = λ host.
    timeout-set host c.args.reader.now c.set_read_timeout.new.self c.args.timeout c.args.line.now c.write_ok.new.out c.write_ok.result
    (c.set_read_timeout.ensures.set ∙ ap (λ n. record c.args.reader.now { timeout = n }) c.nanoseconds.ensures.value) c.write_ok.ensures.text
