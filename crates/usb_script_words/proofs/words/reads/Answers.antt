use Rattle.std.proofs.Common.{arith, sym}
use Rattle.usb_script_words.proofs.EqualWords.{equal_letters}
use Rattle.usb_script_words.proofs.words.reads.Goals as goal

pub returns : goal.returns
returns c = record {
  value = sym (equal_letters c.args.word.now c.args.text.now c.if-word-text.false (λ k h. c.loop-i.invariant k (omega arith)));
}
