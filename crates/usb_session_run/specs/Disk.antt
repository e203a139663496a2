-- What the program answers to the word `disk`.
use Rattle.std.specs.Prelude.{ℕ, List, ◌++◌, [], ◌∷◌, codes, Option, None, if◌then◌else◌}
use Rattle.std.specs.Fmt.{decimal}
use Rattle.std.specs.Str.{bytes_eq}
use Rattle.usb_script_words.specs.Words.{number_between}
use Rattle.usb_bot_rounds.specs.declared.tally.Tally.{Tally}
use Rattle.usb_bot_rounds.specs.Rounds.{rounds_tally}

-- how many rounds the words ask for: `disk N`, with N from 1 to 500
abbrev pub disk_count : List (List ℕ) → Option ℕ
disk_count [] = None
disk_count (word ∷ []) = None
disk_count (word ∷ count ∷ []) = if bytes_eq word (codes "disk") then number_between 1 500 count else None
disk_count (word ∷ count ∷ next ∷ words) = None

-- the line of n rounds, of their tally
unfoldable pub tally_line : ℕ → Tally → List ℕ
tally_line n t =
    codes "disk " ++ (decimal n ++ (codes " writes " ++ (decimal t.writes ++ (codes " reads " ++ (decimal t.reads
    ++ (codes " failed " ++ (decimal t.failed ++ (codes " sum " ++ (decimal t.sum ++ codes "\n")))))))))

-- the line of `disk N`: the tally is that of a plain list of blocks
abbrev pub disk_line : ℕ → List ℕ
disk_line n = tally_line n (rounds_tally n)
