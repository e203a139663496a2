-- A whole script: its items, or the first line outside the grammar.
use Rattle.std.specs.Prelude.{ℕ, ◌+◌, nat_lt, List, [], ◌∷◌, length, Option, Some, None, Result, Ok, Err, if◌then◌else◌}
use Rattle.usb_script_lines.specs.declared.item.Item.{Item}
use Rattle.usb_script.specs.declared.error.SessionError.{SessionError}
use Rattle.usb_script.specs.declared.error.SessionError.TheVariants as errors
use Rattle.usb_script_words.specs.Lines.{lines_of}
use Rattle.usb_script_words.specs.Words.{◌>>=◌}
use Rattle.usb_script_lines.specs.declared.reading.Reading.TheVariants.{Read}
use Rattle.usb_script_words.specs.Fields.{Word}
use Rattle.usb_script_lines.specs.LineForms.{form_of, reading_of}
use Rattle.usb_script.specs.Order.{with_reading}

-- the items with those of one more line, or nothing where it is outside the grammar
abbrev pub with_line : List Item → List ℕ → Option (List Item)
with_line before line = reading_of line >>= with_reading before

-- the items with that of a line of these words, which is skipped where it has none
abbrev pub with_words : List Item → List Word → Option (List Item)
with_words before [] = Some before
with_words before (name ∷ words) = form_of (name ∷ words) >>= λ item. with_reading before (Read item)

-- these items, if there are any, and the lines that are left
abbrev pub and_lines : Option (List Item) → List (List ℕ) → Option (List Item × List (List ℕ))
and_lines items lines = items >>= λ items. Some (items, lines)

-- the items with those of the first line, if there is one, and the lines behind it; or nothing where it is outside the grammar
abbrev pub with_first : List Item → List (List ℕ) → Option (List Item × List (List ℕ))
with_first before [] = Some (before, [])
with_first before (line ∷ lines) = and_lines (with_line before line) lines

-- the next lines are read behind these items; where the line gave none, being outside the grammar, it ends with its number
abbrev pub or_line : Option (List Item) → ℕ → (List Item → Result (List Item) ℕ) → Result (List Item) ℕ
or_line None line next = Err line
or_line (Some items) line next = next items

-- the items of lines that stand behind these items, the first of them the k-th line; or the number of the first line outside the grammar
abbrev pub parse_from : List Item → ℕ → List (List ℕ) → Result (List Item) ℕ
parse_from before k [] = Ok before
parse_from before k (line ∷ lines) =
    or_line (with_line before line) k (λ items. parse_from items (k + 1) lines)

-- the items of a script, or the number of its first line outside the grammar, counted from 1
unfoldable pub parse : List ℕ → Result (List Item) ℕ
parse bytes = parse_from [] 1 (lines_of bytes)

-- a script with a line outside the grammar is malformed
abbrev pub or_malformed : Result (List Item) ℕ → Result (List Item) SessionError
or_malformed (Ok items) = Ok items
or_malformed (Err line) = Err (errors.Malformed line)

-- what a script gives, lack of memory aside: the items of at most 2 ^ 20 bytes
unfoldable pub script_of : List ℕ → Result (List Item) SessionError
script_of bytes = if nat_lt 1048576 (length bytes) then Err errors.TooLong else or_malformed (parse bytes)
