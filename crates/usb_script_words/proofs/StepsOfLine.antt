-- The parts between semicolons, and the steps of those that are left.
use Rattle.std.proofs.Common.{◌≡◌, ℕ, ◌<◌, ◌≤◌, ◌+◌, zero, suc, List, [], ◌∷◌, ◌++◌, length, get_or, take, drop, Bor, Option, Some, None, true, false, refl, ap, sym, ◌∙◌, arith, append_assoc}
use Rattle.std.proofs.lemmas.List.{drop-map}
use Rattle.usb_kernel_devices.specs.declared.step.KernelStep.{KernelStep}
use Rattle.usb_script_words.specs.Words.{◌>>=◌}
use Rattle.usb_script_words.specs.Fields.{Word, texts}
use Rattle.usb_script_words.specs.StepForms.{step_of}
use Rattle.usb_script_words.specs.KernelSteps.{each, is_semicolon, parts_of, IsFirstPart, steps_of}

-- a word before the first semicolon
onto_part : (word : Word) (words part after : List Word) → is_semicolon word ≡ false → IsFirstPart words part after → IsFirstPart (word ∷ words) (word ∷ part) after
unfolding parts_of
onto_part word words part [] other cut = rw (other, cut) refl
onto_part word words part (semicolon ∷ more) other cut = rw (other, cut) refl

-- the first n words are no semicolons, and then one stands or the words end
pub first_part_at : (words : List (Bor Word)) (n : ℕ) (d : Bor Word) → n ≤ length words → ((k : ℕ) → k < n → is_semicolon (get_or words k d).now ≡ false) → (n < length words → is_semicolon (get_or words n d).now ≡ true) → IsFirstPart (texts words) (texts (take n words)) (texts (drop n words))
unfolding parts_of
first_part_at [] zero d within before end = refl
first_part_at [] (suc n) d within before end = absurd (omega arith)
first_part_at (w ∷ words) zero d within before end = rw (end (omega arith)) refl
first_part_at (w ∷ words) (suc n) d within before end =
    onto_part w.now (texts words) (texts (take n words)) (texts (drop n words)) (before 0 (omega arith))
    (first_part_at words n d (omega arith) (λ k h. before (suc k) (omega arith)) (λ h. end (omega arith)))

-- some steps, and then these
abbrev pub behind : List KernelStep → Option (List KernelStep) → Option (List KernelStep)
behind front None = None
behind front (Some steps) = Some (front ++ steps)

more_behind : (front : List KernelStep) (step : KernelStep) (rest : Option (List KernelStep)) → behind (front ++ step ∷ []) rest ≡ behind front (rest >>= λ steps. Some (step ∷ steps))
more_behind front step None = refl
more_behind front step (Some steps) = ap Some (append_assoc front (step ∷ []) steps)

-- the next part is this step
step_read : (front : List KernelStep) (part : List Word) (parts : List (List Word)) (all : Option (List KernelStep)) (step : KernelStep) → behind front (each step_of (part ∷ parts)) ≡ all → step_of part ≡ Some step → behind (front ++ step ∷ []) (each step_of parts) ≡ all
step_read front part parts all step sofar some =
    more_behind front step (each step_of parts) ∙ (sym (rw some refl) ∙ sofar)

pub part_more : (front : List KernelStep) (words part after : List Word) (all : Option (List KernelStep)) (step : KernelStep) → behind front (each step_of (parts_of words)) ≡ all → IsFirstPart words part after → step_of part ≡ Some step → 0 < length after → behind (front ++ step ∷ []) (each step_of (parts_of (drop 1 after))) ≡ all
part_more front words part [] all step sofar cut some more = absurd (omega arith)
part_more front words part (semicolon ∷ after) all step sofar cut some more = step_read front part (parts_of after) all step (rw cut at sofar) some

nothing_in_front : (rest : Option (List KernelStep)) → behind [] rest ≡ rest
nothing_in_front None = refl
nothing_in_front (Some steps) = refl

pub no_front : (words : List Word) → behind [] (each step_of (parts_of words)) ≡ steps_of words
unfolding steps_of
no_front words = nothing_in_front (each step_of (parts_of words))

drop_none : {A : Type 0} (n : ℕ) → drop {A = A} n [] ≡ []
drop_none zero = refl
drop_none (suc n) = refl

drop_twice : {A : Type 0} (a b k : ℕ) (xs : List A) → k ≡ a + b → drop k xs ≡ drop b (drop a xs)
drop_twice zero b k xs e = ap (λ n. drop n xs) (omega arith)
drop_twice (suc a) b zero xs e = absurd (omega arith)
drop_twice {A} (suc a) b (suc k) [] e = sym (drop_none {A = A} b)
drop_twice (suc a) b (suc k) (x ∷ xs) e = drop_twice a b k xs (omega arith)

-- what stands behind the semicolon
pub behind_part : (words after : List (Bor Word)) (start n : ℕ) → after ≡ drop n (drop start words) → texts (drop (start + (n + 1)) words) ≡ drop 1 (texts after)
behind_part words after start n e =
    ap texts (drop_twice start (n + 1) (start + (n + 1)) words refl ∙ drop_twice n 1 (n + 1) (drop start words) refl ∙ ap (drop 1) (sym e))
    ∙ sym (drop-map (λ (w : Bor Word). w.now) 1 after)
