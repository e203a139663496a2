-- Texts whose lines have items wherever they stand, one behind another.
use Rattle.std.proofs.Common.{◌≡◌, ℕ, ◌+◌, zero, suc, true, List, [], ◌∷◌, ◌++◌, Some, refl, ap, sym, ◌∙◌, append_assoc, append-nil}
use Rattle.usb_script_words.specs.Lines.{lines_of}
use Rattle.usb_script_lines.specs.declared.item.Item.{Item}
use Rattle.usb_script_lines.specs.declared.reading.Reading.TheVariants.{Read}
use Rattle.usb_script_lines.specs.LineForms.{reading_of}
use Rattle.usb_script.specs.Order.{may_follow}
use Rattle.usb_script.specs.Parse.{parse_from}
use Rattle.usb_script.specs.Generated.{line, times}

-- the items of this text: parsing goes on behind them, whatever stands before the text and behind it
pub record Reads (text : List ℕ) : Type 0 where
  pub items : List Item
  pub on : (before : List Item) (k : ℕ) (rest : List ℕ) → (next : ℕ) × (parse_from before k (lines_of (text ++ rest)) ≡ parse_from (before ++ items) next (lines_of rest))

pub nothing_reads : Reads []
nothing_reads = record {
  items = [];
  on = λ before k rest. (k, ap (λ (items : List Item). parse_from items k (lines_of rest)) (sym (append-nil before)));
}

-- one text behind another
pub both_read : (a b : List ℕ) → Reads a → Reads b → Reads (a ++ b)
both_read a b first second = record {
  items = first.items ++ second.items;
  on = λ before k rest.
      let front = first.on before k (b ++ rest) in
      let back = second.on (before ++ first.items) front.0 rest in (
        back.0,
        ap (λ (text : List ℕ). parse_from before k (lines_of text)) (append_assoc a b rest) ∙ front.1 ∙ back.1
            ∙ ap (λ (items : List Item). parse_from items back.0 (lines_of rest)) (append_assoc before first.items second.items),
      );
}

-- a line that has an item, which may stand behind any others
pub line_reads : (words : List ℕ) (item : Item) → ((rest : List ℕ) → lines_of (words ++ 10 ∷ rest) ≡ words ∷ lines_of rest) → reading_of words ≡ Some (Read item) → ((before : List Item) → may_follow before item ≡ true) → Reads (line words)
line_reads words item ends reads follows = record {
  items = item ∷ [];
  on = λ before k rest.
      let here = ends rest in
      let free = follows before in
      (k + 1, rw (append_assoc words (10 ∷ []) rest, here, reads, free) refl);
}

-- the same lines again and again
pub times_read : (n : ℕ) (text : List ℕ) → Reads text → Reads (times n text)
times_read zero text once = nothing_reads
times_read (suc n) text once = both_read (times n text) text (times_read n text once) once
