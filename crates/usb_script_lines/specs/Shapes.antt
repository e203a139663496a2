-- What is made of the words of a line where more stands behind them than fields: the steps of a call, the criteria of a
-- selector, or what a control transfer asks for.
use Rattle.std.specs.Prelude.{List, Option, Some}
use Rattle.usb_kernel_devices.specs.declared.step.KernelStep.{KernelStep}
use Rattle.usb_script_lines.specs.declared.item.Item.{Item}
use Rattle.usb_script_words.specs.declared.control.Setup.{Setup}
use Rattle.usb_script_words.specs.declared.control.ControlTarget.{ControlTarget}
use Rattle.usb_script_words.specs.Controls.{setup_and_more, control_target_of}
use Rattle.usb_script_words.specs.Words.{◌>>=◌}
use Rattle.usb_script_words.specs.Fields.{Word, one_and_more, two}
use Rattle.usb_script_words.specs.KernelSteps.{own_steps_of}

-- one word with its own reading, and then all the others
abbrev pub one_and_rest : {A B : Type 0} → (A → B → Item) → (Word → Option A) → (List Word → Option B) → List Word → Option Item
one_and_rest make first rest words = do
  w ← one_and_more words
  a ← first w.0
  b ← rest w.1
  Some (make a b)

-- one word with its own reading, and then the steps of the call, if there are any
unfoldable pub field_and_steps : {A : Type 0} → (Word → Option A) → List Word → Option (A × List KernelStep)
field_and_steps first words = do
  w ← one_and_more words
  a ← first w.0
  steps ← own_steps_of w.1
  Some (a, steps)

-- what is made of them, and of one to four fields more before them
abbrev pub one_with_steps : {A : Type 0} → (A → List KernelStep → Item) → (Word → Option A) → List Word → Option Item
one_with_steps make first words = do
  x ← field_and_steps first words
  Some (make x.0 x.1)

abbrev pub two_with_steps : {A B : Type 0} → (A → B → List KernelStep → Item) → (Word → Option A) → (Word → Option B) → List Word → Option Item
two_with_steps make first second words = do
  w ← one_and_more words
  a ← first w.0
  one_with_steps (make a) second w.1

abbrev pub three_with_steps : {A B C : Type 0} → (A → B → C → List KernelStep → Item) → (Word → Option A) → (Word → Option B) → (Word → Option C) → List Word → Option Item
three_with_steps make first second third words = do
  w ← one_and_more words
  a ← first w.0
  two_with_steps (make a) second third w.1

abbrev pub four_with_steps : {A B C D : Type 0} → (A → B → C → D → List KernelStep → Item) → (Word → Option A) → (Word → Option B) → (Word → Option C) → (Word → Option D) → List Word → Option Item
four_with_steps make first second third fourth words = do
  w ← one_and_more words
  a ← first w.0
  three_with_steps (make a) second third fourth w.1

abbrev pub five_with_steps : {A B C D E : Type 0} → (A → B → C → D → E → List KernelStep → Item) → (Word → Option A) → (Word → Option B) → (Word → Option C) → (Word → Option D) → (Word → Option E) → List Word → Option Item
five_with_steps make first second third fourth fifth words = do
  w ← one_and_more words
  a ← first w.0
  four_with_steps (make a) second third fourth fifth w.1

-- X CTL: whom a control transfer goes to and what it asks for; and the words behind them
abbrev pub target_and_setup : List Word → Option (ControlTarget × Setup × List Word)
target_and_setup words = do
  w ← one_and_more words
  target ← control_target_of w.0
  s ← setup_and_more w.1
  Some (target, s.0, s.1)

-- these, and two words more with the steps of the call behind them
abbrev pub control_with_steps : {A B : Type 0} → (ControlTarget → Setup → A → B → List KernelStep → Item) → (Word → Option A) → (Word → Option B) → List Word → Option Item
control_with_steps make first second words = do
  c ← target_and_setup words
  two_with_steps (make c.0 c.1) first second c.2

-- a name, then X CTL, and two words more
abbrev pub started_control : {A B C : Type 0} → (A → ControlTarget → Setup → B → C → Item) → (Word → Option A) → (Word → Option B) → (Word → Option C) → List Word → Option Item
started_control make name first second words = do
  w ← one_and_more words
  a ← name w.0
  c ← target_and_setup w.1
  two (make a c.0 c.1) first second c.2
