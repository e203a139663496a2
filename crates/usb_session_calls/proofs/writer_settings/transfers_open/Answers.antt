use Rattle.std.proofs.Common.{ap, sym, ◌∙◌}
use Rattle.usb_io.specs.Writers.{WriterState}
use Rattle.usb_session_calls.proofs.WriterCode.{transfers-barred, transfers-set}
use Rattle.usb_session_calls.proofs.writer_settings.transfers_open.Goals as goal

pub returns-then-bars_transfers-clause-answered : goal.returns-then-bars_transfers-clause-answered
returns-then-bars_transfers-clause-answered c = λ host.
    transfers-barred host c.args.writer.now c.args.count c.args.line.now c.write_condition.new.out c.write_condition.result
    (sym c.bars_transfers.ensures.barred ∙ c.if-bars_transfers.true) c.write_condition.ensures.text

pub returns-clause-endpoint : goal.returns-clause-endpoint
returns-clause-endpoint c = ap (λ (w : WriterState). w.endpoint) c.set_num_transfers.ensures.set

pub returns-clause-answered : goal.returns-clause-answered
returns-clause-answered c = λ host.
    transfers-set host c.args.writer.now c.set_num_transfers.new.self c.args.count c.args.line.now c.write_ok.new.out c.write_ok.result
    (sym c.bars_transfers.ensures.barred ∙ c.if-bars_transfers.false) c.set_num_transfers.ensures.set c.write_ok.ensures.text
