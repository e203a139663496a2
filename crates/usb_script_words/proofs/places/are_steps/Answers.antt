use Rattle.std.proofs.Common.{◌∙◌, sym, length, arith, rules}
use Rattle.std.specs.List.{slice_split}
use Rattle.std.proofs.lemmas.List.{length_push}
use Rattle.std.proofs.lemmas.Iterator.Consumers.{YieldsList-turn, YieldsList-end}
use Rattle.std.proofs.lemmas.Iterator.Splits.{YieldsList-from_slice_split}
use Rattle.usb_script_words.specs.Places.{is_slash}
use Rattle.usb_script_words.proofs.PathLemmas.{steps_more, no_step, steps_end}
use Rattle.usb_script_words.proofs.places.are_steps.Goals as goal

pub returns-then-not-is_step : goal.returns-then-not-is_step
returns-then-not-is_step c =
    let at = YieldsList-turn (YieldsList-from_slice_split _ is_slash c.args.names.now (cc) (cc) (cc) (λ x b q k. search rules)) c.loop-name.yielded _ c.loop-name.yielded_by _ _ c.in-Some.name c.in-Some.is c.next.ensures.steps in
    record { value = sym (no_step (slice_split is_slash c.args.names.now) (length c.loop-name.yielded) c.in-Some.name.now at (sym c.is_step.ensures.value ∙ c.if-not-is_step.true)) ∙ c.loop-name.invariant.2 }

pub loop-name-preserved : goal.loop-name-preserved
loop-name-preserved c =
    let at = YieldsList-turn (YieldsList-from_slice_split _ is_slash c.args.names.now (cc) (cc) (cc) (λ x b q k. search rules)) c.loop-name.yielded _ c.loop-name.yielded_by _ _ c.in-Some.name c.in-Some.is c.next.ensures.steps in
    (search rules, tt, steps_more (slice_split is_slash c.args.names.now) (length c.loop-name.yielded) _ c.in-Some.name.now at (sym c.is_step.ensures.value ∙ c.if-not-is_step.false) (length_push c.loop-name.yielded c.in-Some.name) ∙ c.loop-name.invariant.2)

pub returns : goal.returns
returns c =
    let at = YieldsList-end (YieldsList-from_slice_split _ is_slash c.args.names.now (cc) (cc) (cc) (λ x b q k. search rules)) c.loop-name.yielded _ c.loop-name.yielded_by _ _ c.in-None.is c.next.ensures.steps in
    record { value = sym (steps_end (slice_split is_slash c.args.names.now) (length c.loop-name.yielded) (omega (arith, at.1))) ∙ c.loop-name.invariant.2 }
