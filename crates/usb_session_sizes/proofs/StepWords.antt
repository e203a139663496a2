-- The steps of a script's lines are bounded, and what is made of them by a line's form.
use Rattle.std.proofs.Common.{ℕ, ◌≤◌, List, [], ◌∷◌, length, Option, Some, None}
use Rattle.std.specs.Prelude.{codes}
use Rattle.std.specs.Str.{bytes_eq}
use Rattle.std.proofs.lemmas.Bool.{cond_both}
use Rattle.usb_kernel_devices.specs.declared.step.KernelStep.{KernelStep}
use Rattle.usb_kernel_devices.specs.declared.step.KernelStep.TheVariants.{Packet, Ack, Echo, Fail, Unplug, Clock, Timer, Reap, Refuse}
use Rattle.usb_script_words.specs.FieldForms.{k, T, HH, ERRNO, BYTES, CALL}
use Rattle.usb_script_words.specs.Fields.{Word, none, one, one_and_more}
use Rattle.usb_script_words.specs.KernelSteps.{each, parts_of, steps_of, own_steps_of}
use Rattle.usb_script_words.specs.StepForms.{step_forms, step_of}
use Rattle.usb_script_words.specs.Words.{number_of}
use Rattle.usb_script_words.specs.declared.control.ControlTarget.{ControlTarget}
use Rattle.usb_script_words.specs.declared.control.Setup.{Setup}
use Rattle.usb_script_lines.specs.Shapes.{one_and_rest, field_and_steps, one_with_steps, two_with_steps, three_with_steps, four_with_steps, five_with_steps, target_and_setup, control_with_steps, started_control}
use Rattle.usb_script_lines.specs.declared.item.Item.{Item}
use Rattle.usb_session_sizes.proofs.Fits.{Fits}
use Rattle.usb_session_sizes.proofs.Hosts.{AreStepsSized}
use Rattle.usb_session_sizes.proofs.Journals.{IsStepBounded}
use Rattle.usb_session_sizes.proofs.Shapes.{◌also◌, Any, Reads, Gives, Rows, any, any-fits, then-fits, none-gives, one-gives, two-gives, three-gives, or-gives, bytes-reads, table-gives}

-- each step
step-rows : Rows IsStepBounded step_forms
unfolding step_forms
step-rows =
    three-gives Any Any (λ (b : List ℕ). length b ≤ 65536) IsStepBounded Packet k HH BYTES (any k) (any HH) bytes-reads (λ d e b i j few. few)
    also two-gives Any Any IsStepBounded Ack k HH (any k) (any HH) (λ d e i j. tt)
    also three-gives Any Any Any IsStepBounded Echo k HH HH (any k) (any HH) (any HH) (λ d o i x y z. tt)
    also three-gives Any Any Any IsStepBounded Fail k HH ERRNO (any k) (any HH) (any ERRNO) (λ d e n x y z. tt)
    also one-gives Any IsStepBounded Unplug k (any k) (λ d i. tt)
    also one-gives Any IsStepBounded Clock (number_of 1000000000000000000) (any (number_of 1000000000000000000)) (λ n i. tt)
    also none-gives IsStepBounded Timer tt
    also three-gives Any Any Any IsStepBounded Refuse k CALL ERRNO (any k) (any CALL) (any ERRNO) (λ d c n x y z. tt)
    also or-gives IsStepBounded (none (Reap None)) (one (λ ticket. Reap (Some ticket)) T) (none-gives IsStepBounded (Reap None) tt) (one-gives Any IsStepBounded (λ ticket. Reap (Some ticket)) T (any T) (λ t i. tt))
    also tt

step-fits : (words : List Word) → Fits IsStepBounded (step_of words)
unfolding step_of
step-fits [] = tt
step-fits (name ∷ words) = table-gives IsStepBounded step_forms name step-rows words

each-fits : (parts : List (List Word)) → Fits AreStepsSized (each step_of parts)
each-fits [] = tt
each-fits (part ∷ parts) =
    then-fits IsStepBounded AreStepsSized (step_of part) _ (step-fits part)
    (λ s is. then-fits AreStepsSized AreStepsSized (each step_of parts) _ (each-fits parts) (λ ss are. (is, are)))

pub steps-fit : (words : List Word) → Fits AreStepsSized (steps_of words)
unfolding steps_of
steps-fit words = each-fits (parts_of words)

own-fit : (words : List Word) → Fits AreStepsSized (own_steps_of words)
unfolding own_steps_of
own-fit [] = tt
own-fit (word ∷ words) = cond_both (bytes_eq word (codes ":")) (steps_of words) None (Fits AreStepsSized) (λ colon. steps-fit words) (λ other. tt)

-- a field and the steps, and one to four fields more before them
pub one_steps-gives : {A : Type 0} (Q : A → Type 0) (P : Item → Type 0) (make : A → List KernelStep → Item) (f : Word → Option A) → Reads Q f → ((a : A) (ss : List KernelStep) → Q a → AreStepsSized ss → P (make a ss)) → Gives P (one_with_steps make f)
unfolding field_and_steps
one_steps-gives {A} Q P make f reads holds words =
    let Both : A × List KernelStep → Type 0 = λ x. Q x.0 × AreStepsSized x.1 in
    then-fits Both P (field_and_steps f words) (λ x. Some (make x.0 x.1))
    (then-fits Any Both (one_and_more words) _ (any-fits (one_and_more words))
    (λ w i. then-fits Q Both (f w.0) _ (reads w.0) (λ a qa. then-fits AreStepsSized Both (own_steps_of w.1) _ (own-fit w.1) (λ ss are. (qa, are)))))
    (λ x is. holds x.0 x.1 is.0 is.1)

pub two_steps-gives : {A B : Type 0} (Q : A → Type 0) (S : B → Type 0) (P : Item → Type 0) (make : A → B → List KernelStep → Item) (f : Word → Option A) (g : Word → Option B) → Reads Q f → Reads S g
    → ((a : A) (b : B) (ss : List KernelStep) → Q a → S b → AreStepsSized ss → P (make a b ss)) → Gives P (two_with_steps make f g)
two_steps-gives Q S P make f g first second holds words =
    then-fits Any P (one_and_more words) _ (any-fits (one_and_more words))
    (λ w i. then-fits Q P (f w.0) _ (first w.0) (λ a qa. one_steps-gives S P (make a) g second (λ b ss sb are. holds a b ss qa sb are) w.1))

pub three_steps-gives : {A B C : Type 0} (S : B → Type 0) (P : Item → Type 0) (make : A → B → C → List KernelStep → Item) (f : Word → Option A) (g : Word → Option B) (h : Word → Option C) → Reads S g
    → ((a : A) (b : B) (c : C) (ss : List KernelStep) → S b → AreStepsSized ss → P (make a b c ss)) → Gives P (three_with_steps make f g h)
three_steps-gives S P make f g h second holds words =
    then-fits Any P (one_and_more words) _ (any-fits (one_and_more words))
    (λ w i. then-fits Any P (f w.0) _ (any f w.0) (λ a qa. two_steps-gives S Any P (make a) g h second (any h) (λ b c ss sb j are. holds a b c ss sb are) w.1))

pub four_steps-gives : {A B C D : Type 0} (P : Item → Type 0) (make : A → B → C → D → List KernelStep → Item) (f : Word → Option A) (g : Word → Option B) (h : Word → Option C) (i : Word → Option D)
    → ((a : A) (b : B) (c : C) (d : D) (ss : List KernelStep) → AreStepsSized ss → P (make a b c d ss)) → Gives P (four_with_steps make f g h i)
four_steps-gives P make f g h i holds words =
    then-fits Any P (one_and_more words) _ (any-fits (one_and_more words))
    (λ w j. then-fits Any P (f w.0) _ (any f w.0) (λ a qa. three_steps-gives Any P (make a) g h i (any h) (λ b c d ss z are. holds a b c d ss are) w.1))

pub five_steps-gives : {A B C D E : Type 0} (P : Item → Type 0) (make : A → B → C → D → E → List KernelStep → Item) (f : Word → Option A) (g : Word → Option B) (h : Word → Option C) (i : Word → Option D) (j : Word → Option E)
    → ((a : A) (b : B) (c : C) (d : D) (e : E) (ss : List KernelStep) → AreStepsSized ss → P (make a b c d e ss)) → Gives P (five_with_steps make f g h i j)
five_steps-gives P make f g h i j holds words =
    then-fits Any P (one_and_more words) _ (any-fits (one_and_more words))
    (λ w z. then-fits Any P (f w.0) _ (any f w.0) (λ a qa. four_steps-gives P (make a) g h i j (λ b c d e ss are. holds a b c d e ss are) w.1))

-- whom a control transfer goes to and what it asks for, and its data
pub control-gives : {A B : Type 0} (Q : A → Type 0) (P : Item → Type 0) (make : ControlTarget → Setup → A → B → List KernelStep → Item) (f : Word → Option A) (g : Word → Option B) → Reads Q f
    → ((x : ControlTarget) (s : Setup) (a : A) (b : B) (ss : List KernelStep) → Q a → AreStepsSized ss → P (make x s a b ss)) → Gives P (control_with_steps make f g)
control-gives Q P make f g first holds words =
    then-fits Any P (target_and_setup words) _ (any-fits (target_and_setup words))
    (λ c i. two_steps-gives Q Any P (make c.0 c.1) f g first (any g) (λ a b ss qa j are. holds c.0 c.1 a b ss qa are) c.2)

pub started-gives : {A B C : Type 0} (S : B → Type 0) (P : Item → Type 0) (make : A → ControlTarget → Setup → B → C → Item) (n : Word → Option A) (f : Word → Option B) (g : Word → Option C) → Reads S f
    → ((a : A) (x : ControlTarget) (s : Setup) (b : B) (c : C) → S b → P (make a x s b c)) → Gives P (started_control make n f g)
started-gives S P make n f g first holds words =
    then-fits Any P (one_and_more words) _ (any-fits (one_and_more words))
    (λ w i. then-fits Any P (n w.0) _ (any n w.0)
    (λ a qa. then-fits Any P (target_and_setup w.1) _ (any-fits (target_and_setup w.1))
    (λ c j. two-gives S Any P (make a c.0 c.1) f g first (any g) (λ b z sb y. holds a c.0 c.1 b z sb) c.2)))

-- a word, and then all the others
pub rest-gives : {A B : Type 0} (P : Item → Type 0) (make : A → B → Item) (f : Word → Option A) (rest : List Word → Option B) → ((a : A) (b : B) → P (make a b)) → Gives P (one_and_rest make f rest)
rest-gives P make f rest holds words =
    then-fits Any P (one_and_more words) _ (any-fits (one_and_more words))
    (λ w i. then-fits Any P (f w.0) _ (any f w.0) (λ a qa. then-fits Any P (rest w.1) _ (any-fits (rest w.1)) (λ b qb. holds a b)))
