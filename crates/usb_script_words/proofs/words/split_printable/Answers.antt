use Rattle.std.proofs.Common.{length, rules, arith}
use Rattle.std.proofs.lemmas.Bool.Decides.{nat_tests}
use Rattle.std.proofs.lemmas.Grind.{common_steps}
use Rattle.std.proofs.lemmas.List.{take_all}
use Rattle.usb_script_words.specs.Fields.{texts}
use Rattle.usb_script_words.proofs.LineWords.{closed_at, closed_whole, open_next, space_at}
use Rattle.usb_script_words.proofs.words.split_printable.Goals as goal
use Rattle.usb_script_words.proofs.words.split_printable.Goals.{then-not-is_ascii_graphic+in_ok-push_word+else-b-ne32, else-not-is_ascii_graphic}

pub returns-then-b-ne32-clause-value : goal.returns-then-b-ne32-clause-value
returns-then-b-ne32-clause-value c =
    closed_at c.args.bytes.now (texts c.loop-i.words.items) (texts c.push_word.new.words.items) c.loop-i.start c.loop-i.i
    c.loop-i.invariant.order c.loop-i.invariant.words (search rules)

pub returns-clause-value : goal.returns-clause-value
returns-clause-value c =
    rw (take_all (length c.args.bytes.now) c.args.bytes.now (omega arith))
    (closed_whole c.args.bytes.now (texts c.loop-i.words.items) (texts c.push_word-2.new.words.items) c.loop-i.start c.loop-i.i
    (omega arith) c.loop-i.invariant.words (search rules))

pub loop-i-preserved : goal.loop-i-preserved
loop-i-preserved c =
    let bytes = c.args.bytes.now in
    let open_word = c.loop-i.invariant.words in
    elim c.if-not-is_ascii_graphic.branch [
      | then-not-is_ascii_graphic+in_ok-push_word+else-b-ne32 w ↦
          let space = w.if-b-ne32.false in
          record {
            words = rw (w.words-is, w.start-is)
                (space_at bytes (texts c.loop-i.words.items) (texts w.push_word.new.words.items) c.loop-i.start c.loop-i.i c.loop-i-test.true c.loop-i.invariant.order open_word space (search rules));
            printable = grind (arith, common_steps, nat_tests);
            order = omega arith;
            few = grind (arith, common_steps);
          }
      | else-not-is_ascii_graphic w ↦
          record {
            words = rw (w.words-is, w.start-is)
                (open_next bytes (texts c.loop-i.words.items) c.loop-i.start c.loop-i.i c.loop-i-test.true c.loop-i.invariant.order open_word (λ space. grind (arith, nat_tests, space)));
            printable = grind (arith, common_steps, nat_tests);
            order = omega arith;
            few = grind (arith, common_steps);
          }
    ]
