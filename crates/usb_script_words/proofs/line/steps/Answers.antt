use Rattle.std.proofs.Common.{◌≡◌, ◌∷◌, ◌++◌, ◌<◌, [], Some, length, drop, rules, arith, length-append}
use Rattle.std.proofs.lemmas.Grind.{common_steps}
use Rattle.std.proofs.lemmas.List.{take_rest}
use Rattle.usb_kernel_devices.specs.declared.step.KernelStep.{KernelStep}
use Rattle.usb_script_words.specs.Fields.{texts}
use Rattle.usb_script_words.specs.StepForms.{step_of}
use Rattle.usb_script_words.specs.KernelSteps.{steps_of}
use Rattle.usb_script_words.proofs.StepsOfLine.{no_front, part_more, behind_part}
use Rattle.usb_script_words.proofs.line.steps.Goals as goal

pub parts-init : goal.parts-init
parts-init c = rw c.new-steps.ensures.items (record {
  reads = no_front (texts c.args.words.now);
  range = search rules;
  few = omega arith;
  within = omega arith;
})

pub parts-preserved : goal.parts-preserved
parts-preserved c =
    let found : step_of (texts c.first_part.result.0.now) ≡ Some c.in_ok-next.next = search rules in
    let pushed : c.push.new.self.items ≡ c.parts.steps.items ++ c.in_ok-next.next ∷ [] = search rules in
    let some : 0 < length c.first_part.result.1.now = search rules in
    let more : 0 < length (texts c.first_part.result.1.now) = grind (arith, common_steps, some) in
    let same = take_rest c.args.words.now c.parts.start in
    let back = rw same at c.first_part.ensures.back in
    let parts = rw same at c.first_part.ensures.parts in
    let behind = behind_part c.args.words.now c.first_part.result.1.now c.parts.start (length c.first_part.result.0.now) back in
    record {
      reads = rw (pushed, behind) (part_more c.parts.steps.items (texts (drop c.parts.start c.args.words.now)) (texts c.first_part.result.0.now) (texts c.first_part.result.1.now) (steps_of (texts c.args.words.now)) c.in_ok-next.next c.parts.invariant.reads parts found more);
      range = rw pushed (grind (arith, common_steps));
      few = rw pushed (omega (arith, length-append {A = KernelStep}, c.parts.invariant.few));
      within = grind (arith, common_steps);
    }
