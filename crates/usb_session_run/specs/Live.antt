-- What the program answers to the word `live`.
use Rattle.std.specs.Prelude.{ℕ, List, ◌++◌, [], ◌∷◌, codes, Option, None, if◌then◌else◌}
use Rattle.std.specs.Fmt.{decimal}
use Rattle.std.specs.Str.{bytes_eq}
use Rattle.usb_script_words.specs.Words.{number_between}

-- how many transfers the words ask for: `live N`, with N from 1 to 1000
abbrev pub live_count : List (List ℕ) → Option ℕ
live_count [] = None
live_count (word ∷ []) = None
live_count (word ∷ count ∷ []) = if bytes_eq word (codes "live") then number_between 1 1000 count else None
live_count (word ∷ count ∷ next ∷ words) = None

-- the line of a run, of n and the four counts of its tally
unfoldable pub run_line : ℕ → ℕ → ℕ → ℕ → ℕ → List ℕ
run_line n submitted taken dropped reclaimed =
    codes "live " ++ (decimal n ++ (codes " submitted " ++ (decimal submitted ++ (codes " taken " ++ (decimal taken
    ++ (codes " dropped " ++ (decimal dropped ++ (codes " reclaimed " ++ (decimal reclaimed ++ codes "\n")))))))))

-- the line of `live N`: each transfer was taken
abbrev pub live_line : ℕ → List ℕ
live_line n = run_line n n n 0 0
