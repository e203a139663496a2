use Rattle.std.proofs.Common.{arith, ◌+◌, length-drop}
use Rattle.std.proofs.lemmas.List.{take_rest}
use Rattle.usb_script_words.proofs.SelectorLemmas.{one_step, none_step, fails}
use Rattle.usb_script_words.proofs.selector.criteria.Goals as goal

pub returns-in-Err : goal.returns-in-Err
returns-in-Err c = record {
  value = fails _ _ _ c.in-Err.ensures.value
      (none_step c.args.words.now _ c.loop-start.start _ c.loop-start.criteria.items _ c.loop-start-test.true (take_rest c.args.words.now (c.loop-start.start + 1)) c.loop-start.invariant.1);
}

pub loop-start-preserved : goal.loop-start-preserved
loop-start-preserved c =
    let few = rw (take_rest c.args.words.now (c.loop-start.start + 1), length-drop (c.loop-start.start + 1) c.args.words.now) at c.in-Ok.ensures.within in (
      omega (arith, few, c.loop-start-test.true),
      one_step c.args.words.now _ c.loop-start.start c.in-Ok.count _ c.loop-start.criteria.items c.push.new.self.items c.in-Ok.criterion _ c.loop-start-test.true (take_rest c.args.words.now (c.loop-start.start + 1)) c.in-Ok.ensures.value c.in_ok-push-in-Ok.ensures.items c.loop-start.invariant.1,
    )
