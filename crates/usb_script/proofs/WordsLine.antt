-- A line by its words.
use Rattle.std.proofs.Common.{◌≡◌, ℕ, ◌-◌, ◌==◌, zero, suc, eqb, slice_index, take, inl, inr, true, false, List, [], ◌∷◌, length, Option, Some, None, Err, refl, ap, sym, ◌∙◌, arith}
use Rattle.std.proofs.lemmas.Bool.{ne_eqb, cases_eq, cases_Bool}
use Rattle.usb_script_lines.specs.declared.item.Item.{Item}
use Rattle.usb_script_lines.specs.declared.reading.Reading.TheVariants.{Read}
use Rattle.usb_script_lines.specs.LineForms.{form_of, item_of, item_reading_of, own_reading_of, reading_of}
use Rattle.usb_script_words.specs.declared.line_error.LineError.{LineError}
use Rattle.usb_script_words.specs.declared.line_error.LineError.TheVariants.{Malformed, Memory}
use Rattle.usb_script_words.specs.Outcome.{Gives}
use Rattle.usb_script_words.specs.Words.{◌>>=◌}
use Rattle.usb_script_words.specs.Lines.{lines_of, without_cr, is_skipped, IsFirstSplit}
use Rattle.usb_script.specs.Order.{with_reading}
use Rattle.usb_script.specs.Parse.{with_words, with_first, and_lines}

after_item : (before : List Item) (o : Option Item) → ((o >>= λ item. Some (Read item)) >>= with_reading before) ≡ (o >>= λ item. with_reading before (Read item))
after_item before None = refl
after_item before (Some item) = refl

-- the first line gives what its words give
pub first_by_words : (before : List Item) (bytes : List ℕ) (words : List (List ℕ)) (after : List ℕ) → IsFirstSplit bytes words after → with_first before (lines_of bytes) ≡ and_lines (with_words before words) (lines_of after)
unfolding item_of item_reading_of own_reading_of reading_of
first_by_words before bytes [] after split =
    let skipped : is_skipped (without_cr split.line) ≡ true = split.skipped in rw (split.lines, skipped) refl
first_by_words before bytes (name ∷ words) after split =
    let some : (length (name ∷ words) == 0) ≡ false = ne_eqb (suc (length words)) 0 (λ e. omega (arith, e)) in
    let not_skipped : is_skipped (without_cr split.line) ≡ false = split.skipped ∙ some in
    rw (split.lines, not_skipped, split.printable, sym split.spelled)
    (ap (λ (o : Option (List Item)). and_lines o (lines_of after)) (after_item before (form_of (name ∷ words))))

-- where the words are read, so is the first line
pub first_read : (before items : List Item) (bytes : List ℕ) (words : List (List ℕ)) (after : List ℕ) → IsFirstSplit bytes words after → with_words before words ≡ Some items → with_first before (lines_of bytes) ≡ Some (items, lines_of after)
first_read before items bytes words after split read =
    first_by_words before bytes words after split
    ∙ ap (λ (o : Option (List Item)). and_lines o (lines_of after)) read

not_read : {X : Type 0} (view : X → List Item × List (List ℕ)) (items : List Item) (o : Option (List Item)) (lines : List (List ℕ)) (error : LineError) → Gives {X = Unit {0}} (λ x. items) (Err error) o → Gives {X = X} view (Err error) (and_lines o lines)
not_read view items o lines Malformed is = ap (λ (o : Option (List Item)). and_lines o lines) is
not_read view items o lines Memory is = tt

-- where the words aren't, the first line isn't, for the same cause
pub first_not_read : {X : Type 0} (view : X → List Item × List (List ℕ)) (before items : List Item) (bytes : List ℕ) (words : List (List ℕ)) (after : List ℕ) (error : LineError) → IsFirstSplit bytes words after → Gives {X = Unit {0}} (λ x. items) (Err error) (with_words before words) → Gives {X = X} view (Err error) (with_first before (lines_of bytes))
first_not_read view before items bytes words after error split is =
    rw (first_by_words before bytes words after split)
    (not_read view items (with_words before words) (lines_of after) error is)

-- the front of a line that is skipped is skipped
skipped_front : (n : ℕ) (line : List ℕ) → is_skipped line ≡ true → is_skipped (take n line) ≡ true
skipped_front zero line skipped = refl
skipped_front (suc n) [] skipped = refl
skipped_front (suc n) (b ∷ line) skipped =
    elim (cases_eq b 32) [
      | inl space ↦ rw space (skipped_front n line (rw space at skipped))
      | inr other ↦
          let letter : eqb b 32 ≡ false = ne_eqb b 32 other in
          let comment : eqb b 35 ≡ true = rw letter at skipped in
          rw (letter, comment) refl
    ]

own_skipped : (line : List ℕ) → is_skipped line ≡ true → is_skipped (without_cr line) ≡ true
own_skipped line skipped =
    elim (cases_Bool (slice_index line (length line - 1) == 13)) [
      | inl cr ↦ rw cr (skipped_front (length line - 1) line skipped)
      | inr none ↦ rw none skipped
    ]

-- a line that is skipped gives no item
pub first_skipped : (before : List Item) (bytes line after : List ℕ) → lines_of bytes ≡ line ∷ lines_of after → is_skipped line ≡ true → with_first before (lines_of bytes) ≡ Some (before, lines_of after)
unfolding own_reading_of reading_of
first_skipped before bytes line after lines skipped = rw (lines, own_skipped line skipped) refl
