use Rattle.std.proofs.Common.{ap, ◌∙◌}
use Rattle.usb_io.specs.Writers.{WriterState}
use Rattle.usb_session_calls.proofs.WriterCode.{write_timeout-set}
use Rattle.usb_session_calls.proofs.writer_settings.timeout_open.Goals as goal

pub returns-clause-endpoint : goal.returns-clause-endpoint
returns-clause-endpoint c = ap (λ (w : WriterState). w.endpoint) c.set_write_timeout.ensures.set

pub returns-clause-answered : goal.returns-clause-answered
returns-clause-answered c = λ host.
    write_timeout-set host c.args.writer.now c.set_write_timeout.new.self c.args.timeout c.args.line.now c.write_ok.new.out c.write_ok.result
    (c.set_write_timeout.ensures.set ∙ ap (λ t. record c.args.writer.now { timeout = t }) c.nanoseconds.ensures.value) c.write_ok.ensures.text
