-- The first line of some bytes, where its own bytes are printable.
use Rattle.std.proofs.Common.{◌≡◌, ℕ, ◌-◌, ◌==◌, suc, zero, true, false, List, [], ◌∷◌, ◌++◌, length, take, drop, get_or, eqb, Option, Some, None, filter, inl, inr, refl, ap, sym, arith}
use Rattle.std.proofs.lemmas.Bool.{ne_eqb, and_parts, cases_eq}
use Rattle.std.proofs.lemmas.Bool.Decides.{nat_tests}
use Rattle.std.proofs.lemmas.List.{length_push, take-append-drop}
use Rattle.std.proofs.lemmas.Option.{none-some}
use Rattle.std.proofs.Math.Seq.{take-append_seam, get_or-append_seam}
use Rattle.std.specs.List.{list_all, slice_split, onto_first}
use Rattle.usb_script_words.specs.Lines.{lines_of, words_of, is_word, is_space, is_printable, is_skipped, without_cr, behind_lf, behind_end, IsFirstSplit}

no_lf : (b : ℕ) → is_printable b ≡ true → eqb b 10 ≡ false
no_lf b printable = grind (arith, nat_tests)

no_cr : (b : ℕ) → is_printable b ≡ true → eqb b 13 ≡ false
no_cr b printable = grind (arith, nat_tests)

-- an LF ends the first line
lf_ends : (front after : List ℕ) → list_all is_printable front ≡ true → lines_of (front ++ 10 ∷ after) ≡ front ∷ lines_of after
lf_ends [] after all = refl
lf_ends (b ∷ front) after all =
    let parts = and_parts (is_printable b) (list_all is_printable front) all in
    rw (no_lf b parts.0, lf_ends front after parts.1) refl

-- and so does an LF behind a CR
cr_ends : (front after : List ℕ) → list_all is_printable front ≡ true → lines_of (front ++ 13 ∷ 10 ∷ after) ≡ (front ++ 13 ∷ []) ∷ lines_of after
cr_ends [] after all = refl
cr_ends (b ∷ front) after all =
    let parts = and_parts (is_printable b) (list_all is_printable front) all in
    rw (no_lf b parts.0, cr_ends front after parts.1) refl

-- no byte of such a line is a CR
no_cr_at : (front : List ℕ) (k : ℕ) → list_all is_printable front ≡ true → eqb (get_or front k 0) 13 ≡ false
no_cr_at [] k all = refl
no_cr_at (b ∷ front) zero all = no_cr b (and_parts (is_printable b) (list_all is_printable front) all).0
no_cr_at (b ∷ front) (suc k) all = no_cr_at front k (and_parts (is_printable b) (list_all is_printable front) all).1

own_lf : (front : List ℕ) → list_all is_printable front ≡ true → without_cr front ≡ front
own_lf front all = rw (no_cr_at front (length front - 1) all) refl

own_cr : (front : List ℕ) → without_cr (front ++ 13 ∷ []) ≡ front
own_cr front =
    let n : length (front ++ 13 ∷ []) - 1 ≡ length front = omega (arith, length_push front 13) in
    rw (n, get_or-append_seam front 13 [] 0) (take-append_seam front (13 ∷ []))

abbrev or_empty : Option (List ℕ) → List ℕ
or_empty None = []
or_empty (Some bytes) = bytes

-- the end of the first line, whose own bytes these are
record Ends (front tail after : List ℕ) : Type 0 where
  line : List ℕ
  lines : lines_of (front ++ tail) ≡ line ∷ lines_of after
  own : without_cr line ≡ front

ends_lf : (front tail after : List ℕ) → list_all is_printable front ≡ true → behind_lf tail ≡ Some after → Ends front tail after
ends_lf front [] after all is = absurd (none-some after is)
ends_lf front (b ∷ tail) after all is =
    elim (cases_eq b 10) [
      | inl lf ↦
          let same : tail ≡ after = ap or_empty (rw lf at is) in
          record { line = front; lines = rw (lf, same) (lf_ends front after all); own = own_lf front all }
      | inr other ↦ absurd (none-some after (rw (ne_eqb b 10 other) at is))
    ]

ends_cr : (front tail after : List ℕ) → list_all is_printable front ≡ true → behind_lf tail ≡ Some after → Ends front (13 ∷ tail) after
ends_cr front [] after all is = absurd (none-some after is)
ends_cr front (b ∷ tail) after all is =
    elim (cases_eq b 10) [
      | inl lf ↦
          let same : tail ≡ after = ap or_empty (rw lf at is) in
          record { line = front ++ 13 ∷ []; lines = rw (lf, same) (cr_ends front after all); own = own_cr front }
      | inr other ↦ absurd (none-some after (rw (ne_eqb b 10 other) at is))
    ]

ends : (front tail after : List ℕ) → list_all is_printable front ≡ true → behind_end tail ≡ Some after → Ends front tail after
ends front [] after all is = absurd (none-some after is)
ends front (b ∷ tail) after all is =
    elim (cases_eq b 13) [
      | inl cr ↦ rw cr (ends_cr front tail after all (rw cr at is))
      | inr other ↦ ends_lf front (b ∷ tail) after all (rw (ne_eqb b 13 other) at is)
    ]

-- a byte that is no space begins a word
word_begins : (b : ℕ) (parts : List (List ℕ)) → (length (filter is_word (onto_first b parts)) == 0) ≡ false
word_begins b [] = refl
word_begins b (part ∷ parts) = ne_eqb (suc (length (filter is_word parts))) 0 (λ e. omega (arith, e))

-- a line is skipped where it has no word, if these bytes begin with no comment
skipped_front : (front tail : List ℕ) → is_skipped (front ++ tail) ≡ false → is_skipped front ≡ (length (words_of front) == 0)
skipped_front [] tail not_skipped = refl
skipped_front (b ∷ front) tail not_skipped =
    elim (cases_eq b 32) [
      | inl space ↦ rw space (skipped_front front tail (rw space at not_skipped))
      | inr other ↦
          let letter : eqb b 32 ≡ false = ne_eqb b 32 other in
          let here : eqb b 35 ≡ false = rw letter at not_skipped in
          rw (letter, here, word_begins b (slice_split is_space front)) refl
    ]

split_parts : (front tail : List ℕ) (words : List (List ℕ)) (after : List ℕ) → is_skipped (front ++ tail) ≡ false → list_all is_printable front ≡ true → words ≡ words_of front → behind_end tail ≡ Some after → IsFirstSplit (front ++ tail) words after
split_parts front tail words after not_skipped all spelled is =
    let end = ends front tail after all is in
    record {
      line = end.line;
      lines = end.lines;
      printable = rw end.own all;
      spelled = rw end.own spelled;
      skipped = rw (end.own, spelled) (skipped_front front tail not_skipped);
    }

pub first_split : (bytes : List ℕ) (n : ℕ) (words : List (List ℕ)) (after : List ℕ) → is_skipped bytes ≡ false → list_all is_printable (take n bytes) ≡ true → words ≡ words_of (take n bytes) → behind_end (drop n bytes) ≡ Some after → IsFirstSplit bytes words after
first_split bytes n words after not_skipped all spelled is =
    let whole = take-append-drop n bytes in
    rw (sym whole)
    (split_parts (take n bytes) (drop n bytes) words after (rw whole not_skipped) all spelled is)
