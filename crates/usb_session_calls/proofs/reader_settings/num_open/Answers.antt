use Rattle.std.proofs.Common.{◌-◌, rules, sym, ◌∙◌}
use Rattle.usb_io.specs.Reads.{reading}
use Rattle.usb_session_streams.proofs.ReadsGoOn.{num-goes}
use Rattle.usb_session_calls.proofs.ReaderCode.{keeps-along, num-barred, num-made, few-count}
use Rattle.usb_session_calls.proofs.reader_settings.num_open.Goals as goal

pub returns-then-bars_count-clause-answered : goal.returns-then-bars_count-clause-answered
returns-then-bars_count-clause-answered c =
    num-barred c.args.host.now c.args.reader.now c.args.count c.args.line.now c.write_condition.new.out c.write_condition.result
    (sym c.bars_count.ensures.barred ∙ c.if-bars_count.true) c.write_condition.ensures.text

pub set_count-requires-clause-few : goal.set_count-requires-clause-few
set_count-requires-clause-few c = few-count _ _ (sym c.bars_count.ensures.barred ∙ c.if-bars_count.false)

pub returns-in_err-set_count-clause-keeps : goal.returns-in_err-set_count-clause-keeps
returns-in_err-set_count-clause-keeps c =
    keeps-along _ _
    (num-goes c.set_count.result (c.args.count - 1) (reading c.args.host.now (record c.args.reader.now { n = c.args.count }))
    (reading c.set_count.new.host c.set_count.new.reader) c.set_count.ensures.ok c.set_count.ensures.err)
    c.set_count.ensures.goes c.requires.stands

pub returns-clause-keeps : goal.returns-clause-keeps
returns-clause-keeps c =
    keeps-along _ _
    (num-goes c.set_count.result (c.args.count - 1) (reading c.args.host.now (record c.args.reader.now { n = c.args.count }))
    (reading c.set_count.new.host c.set_count.new.reader) c.set_count.ensures.ok c.set_count.ensures.err)
    c.set_count.ensures.goes c.requires.stands

pub returns-clause-answered : goal.returns-clause-answered
returns-clause-answered c =
    num-made c.args.host.now c.set_count.new.host c.args.reader.now c.set_count.new.reader c.args.count c.args.line.now
    c.write_ok.new.out c.write_ok.result
    (sym c.bars_count.ensures.barred ∙ c.if-bars_count.false) (search rules) c.write_ok.ensures.text
