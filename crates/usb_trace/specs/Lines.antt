-- The lines of a text.
use Rattle.std.specs.Prelude.{ℕ, ◌==◌, List, [], ◌∷◌, if◌then◌else◌}
use Rattle.usb_script_words.specs.Lines.{onto_line}

-- the lines of a text, each with its LF (10), which the last may lack
abbrev pub lines : List ℕ → List (List ℕ)
lines [] = []
lines (b ∷ bytes) = if b == 10 then (10 ∷ []) ∷ lines bytes else onto_line b (lines bytes)
