use Rattle.std.proofs.Common.{◌≡◌, rules}
use Rattle.hex.specs.Hex.{encode_lower}
use Rattle.usb_trace_lines.specs.Written.{begun_with}
use Rattle.usb_trace_lines.proofs.Digits.{longer}
use Rattle.usb_trace_lines.proofs.words.put_digits.Goals as goal

pub returns-clause-long : goal.returns-clause-long
returns-clause-long g c =
    let more : g.K.Lines.state c.put.new.self ≡ begun_with (g.K.Lines.state c.args.out.now) (encode_lower c.args.bytes.now) = search rules in
    longer (g.K.Lines.state c.args.out.now) (g.K.Lines.state c.put.new.self) c.args.bytes.now more
