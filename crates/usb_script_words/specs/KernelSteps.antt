-- The steps of a line: what stands between its semicolons.
use Rattle.std.specs.Prelude.{◌≡◌, List, [], ◌∷◌, codes, Bool, Option, Some, None, if◌then◌else◌}
use Rattle.std.specs.List.{slice_split}
use Rattle.std.specs.Str.{bytes_eq}
use Rattle.usb_kernel_devices.specs.declared.step.KernelStep.{KernelStep}
use Rattle.usb_script_words.specs.Words.{◌>>=◌}
use Rattle.usb_script_words.specs.Fields.{Word}
use Rattle.usb_script_words.specs.StepForms.{step_of}

-- all of these, or nothing
abbrev pub each : {A B : Type 0} → (A → Option B) → List A → Option (List B)
each read [] = Some []
each read (x ∷ xs) = do
  y ← read x
  ys ← each read xs
  Some (y ∷ ys)

-- whether a word is a semicolon
abbrev pub is_semicolon : Word → Bool
is_semicolon word = bytes_eq word (codes ";")

-- the parts between semicolons
unfoldable pub parts_of : List Word → List (List Word)
parts_of words = slice_split is_semicolon words

-- these words, cut before their first semicolon
abbrev pub IsFirstPart : List Word → List Word → List Word → Type 0
IsFirstPart words part [] = parts_of words ≡ part ∷ []
IsFirstPart words part (semicolon ∷ more) = parts_of words ≡ part ∷ parts_of more

-- one step for each part
unfoldable pub steps_of : List Word → Option (List KernelStep)
steps_of words = each step_of (parts_of words)

-- the steps of a call: the line ends, or a colon and steps stand there
unfoldable pub own_steps_of : List Word → Option (List KernelStep)
own_steps_of [] = Some []
own_steps_of (word ∷ words) = if bytes_eq word (codes ":") then steps_of words else None
