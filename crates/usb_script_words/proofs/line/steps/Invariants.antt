use Rattle.std.proofs.Common.{◌≡◌, ◌≤◌, ◌-◌, length, drop}
use Rattle.std.specs.List.{All}
use Rattle.usb_script_words.specs.Fields.{texts}
use Rattle.usb_script_words.specs.StepForms.{step_of}
use Rattle.usb_script_words.specs.KernelSteps.{each, parts_of, steps_of}
use Rattle.usb_script_words.specs.StepRanges.{IsStepInRange}
use Rattle.usb_script_words.proofs.StepsOfLine.{behind}
use Rattle.usb_script_words.proofs.line.steps.Given as goal

abbrev pub invariant-parts : goal.invariant-parts
invariant-parts l = record {
  reads : behind l.steps.items (each step_of (parts_of (texts (drop l.start l.words)))) ≡ steps_of (texts l.words);
  range : All IsStepInRange l.steps.items;
  few : length l.steps.items ≤ l.start;
  within : l.start ≤ length l.words;
}

abbrev pub decreases-parts : goal.decreases-parts
decreases-parts l = length l.words - l.start
