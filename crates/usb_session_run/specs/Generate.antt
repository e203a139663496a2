-- What the program answers to the word `generate`.
use Rattle.std.specs.Prelude.{ℕ, List, ◌++◌, [], ◌∷◌, codes, Option, None, Result, Ok, Err, if◌then◌else◌}
use Rattle.std.specs.Fmt.{decimal}
use Rattle.std.specs.Str.{bytes_eq}
use Rattle.usb_script.specs.declared.error.SessionError.{SessionError}
use Rattle.usb_script_words.specs.Words.{number_between}
use Rattle.usb_script_lines.specs.declared.item.Item.{Item}
use Rattle.usb_script.specs.Parse.{script_of}
use Rattle.usb_script.specs.Generated.{generated}
use Rattle.usb_session.specs.declared.summary.Summary.{Summary}
use Rattle.usb_session.specs.Sums.{sum_of}

-- of how many messages the words ask for a script: `generate N`, with N from 1 to 2000
abbrev pub generate_count : List (List ℕ) → Option ℕ
generate_count [] = None
generate_count (word ∷ []) = None
generate_count (word ∷ count ∷ []) = if bytes_eq word (codes "generate") then number_between 1 2000 count else None
generate_count (word ∷ count ∷ next ∷ words) = None

-- a word, and a number behind it
abbrev pub counted : List ℕ → ℕ → List ℕ
counted word count = word ++ decimal count

-- the line of a script of n messages, of the numbers of its summary
unfoldable pub summary_line : ℕ → Summary → List ℕ
summary_line n s =
    counted (codes "generate ") n ++ counted (codes " calls ") s.calls ++ counted (codes " tickets ") s.tickets ++ counted (codes " taken ") s.taken
    ++ counted (codes " dropped ") s.dropped ++ counted (codes " reclaimed ") s.reclaimed ++ codes "\n"

-- the line of the items of a script; a text that is no script has none
abbrev pub line_of : ℕ → Result (List Item) SessionError → List ℕ
line_of n (Ok items) = summary_line n (sum_of items)
line_of n (Err e) = []

-- the line of `generate N`: the numbers are those of the generated script
abbrev pub generate_line : ℕ → List ℕ
generate_line n = line_of n (script_of (generated n))
