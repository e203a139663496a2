use Rattle.usb_session_calls.proofs.ReaderCode.{end-told}
use Rattle.usb_session_calls.proofs.reader_settings.is_end_open.Goals as goal

pub returns : goal.returns
returns c = record {
  answered = λ host.
      end-told host c.args.reader.now c.is_at_end.result c.args.line.now c.write_is_end.new.out c.write_is_end.result c.is_at_end.ensures.end c.write_is_end.ensures.text;
}
