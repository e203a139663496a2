use Rattle.std.proofs.Common.{◌∙◌, arith}
use Rattle.usb_trace_lines.proofs.Digits.{one_more, longer}
use Rattle.usb_trace_lines.proofs.words.put_hex.Goals as goal

pub loop-left-preserved : goal.loop-left-preserved
loop-left-preserved g c = record {
  more =
      one_more (g.K.Lines.state c.loop-left.out) (g.K.Lines.state c.put_digits.new.out) c.loop-left.left.now c.split_at.result.0.now c.split_at.result.1.now c.put_digits.ensures.more c.split_at.ensures.front c.split_at.ensures.back
      ∙ c.loop-left.invariant.more;
  room = omega (arith, c.put_digits.ensures.long, c.split_at.ensures.front_len, c.split_at.ensures.back_len, c.loop-left.invariant.room);
}

pub returns-clause-long : goal.returns-clause-long
returns-clause-long g c =
    longer (g.K.Lines.state c.args.out.now) (g.K.Lines.state c.put_digits-2.new.out) c.args.bytes.now (c.put_digits-2.ensures.more ∙ c.loop-left.invariant.more)
