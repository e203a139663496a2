-- What parsing answers, from where the loop over the lines stands.
use Rattle.std.proofs.Common.{◌≡◌, ℕ, ◌<◌, ◌≤◌, List, [], ◌∷◌, length, ◌+◌, Option, Some, None, Result, Ok, Err, refl, ap, ◌∙◌, sym, arith}
use Rattle.std.proofs.lemmas.Bool.Decides.{nat_tests}
use Rattle.std.proofs.lemmas.Option.{none-some}
use Rattle.usb_script_lines.specs.declared.item.Item.{Item}
use Rattle.usb_script.specs.declared.error.SessionError.TheVariants as errors
use Rattle.usb_script_words.specs.Lines.{lines_of}
use Rattle.usb_script.specs.Parse.{with_line, with_first, and_lines, or_line, parse, parse_from, script_of, or_malformed}

script_of_small : (bytes : List ℕ) → length bytes ≤ 1048576 → script_of bytes ≡ or_malformed (parse_from [] 1 (lines_of bytes))
unfolding script_of parse
script_of_small bytes small = grind (arith, nat_tests)

pub script_of_long : (bytes : List ℕ) → 1048576 < length bytes → script_of bytes ≡ Err errors.TooLong
unfolding script_of
script_of_long bytes long = grind (arith, nat_tests)

refused_line : (o : Option (List Item)) (lines : List (List ℕ)) (k : ℕ) (next : List Item → Result (List Item) ℕ) → and_lines o lines ≡ None → or_line o k next ≡ Err k
refused_line None lines k next is = refl
refused_line (Some items) lines k next is = absurd (none-some (items, lines) (sym is))

refused_from : (before : List Item) (k : ℕ) (lines : List (List ℕ)) → with_first before lines ≡ None → parse_from before k lines ≡ Err k
refused_from before k [] is = absurd (none-some (before, []) (sym is))
refused_from before k (line ∷ lines) is = refused_line (with_line before line) lines k (λ items. parse_from items (k + 1) lines) is

-- the lines up to here are these items, and the next one is refused
pub script_of_refused : (bytes rest : List ℕ) (before : List Item) (k : ℕ) → length bytes ≤ 1048576 → parse_from before k (lines_of rest) ≡ parse_from [] 1 (lines_of bytes) → with_first before (lines_of rest) ≡ None → script_of bytes ≡ Err (errors.Malformed k)
script_of_refused bytes rest before k small parsed refused =
    script_of_small bytes small ∙ ap or_malformed (sym parsed ∙ refused_from before k (lines_of rest) refused)

-- what a reading gives, or this
abbrev or_first : List Item → List (List ℕ) → Option (List Item × List (List ℕ)) → List Item × List (List ℕ)
or_first items lines None = (items, lines)
or_first items lines (Some read) = read

read_line : (o : Option (List Item)) (lines : List (List ℕ)) (k : ℕ) (items : List Item) (left : List (List ℕ)) → and_lines o lines ≡ Some (items, left) → or_line o k (λ items. parse_from items (k + 1) lines) ≡ parse_from items (k + 1) left
read_line None lines k items left is = absurd (none-some (items, left) is)
read_line (Some read) lines k items left is = ap (λ (x : List Item × List (List ℕ)). parse_from x.0 (k + 1) x.1) (ap (or_first items left) is)

-- the first line is read, and parsing goes on behind it
pub parse_from_read : (before : List Item) (k : ℕ) (lines : List (List ℕ)) (items : List Item) (left : List (List ℕ)) → with_first before lines ≡ Some (items, left) → parse_from before k lines ≡ parse_from items (k + 1) left
parse_from_read before k [] items left is = ap (λ (x : List Item × List (List ℕ)). parse_from x.0 (k + 1) x.1) (ap (or_first items left) is)
parse_from_read before k (line ∷ lines) items left is = read_line (with_line before line) lines k items left is

-- no line is left
pub script_of_read : (bytes rest : List ℕ) (items : List Item) (k : ℕ) → length bytes ≤ 1048576 → parse_from items k (lines_of rest) ≡ parse_from [] 1 (lines_of bytes) → length rest ≡ 0 → script_of bytes ≡ Ok items
script_of_read bytes [] items k small parsed none = script_of_small bytes small ∙ ap or_malformed (sym parsed)
script_of_read bytes (b ∷ rest) items k small parsed none = absurd (omega arith)
