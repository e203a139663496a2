-- The lines that give the writer bytes: their words, and their items.
use Rattle.std.proofs.Common.{◌≡◌, ℕ, ◌+◌, ◌-◌, ◌/◌, ◌%◌, ◌≤◌, zero, suc, eqb, leb, Bool, true, false, ◌&&◌, List, [], ◌∷◌, ◌++◌, length, get_or, take, drop, map, slice_index, codes, Some, refl, ap, ◌∙◌, arith}
use Rattle.std.specs.List.{list_all, slice_split, range_with_len}
use Rattle.std.specs.Str.{bytes_eq}
use Rattle.std.proofs.lemmas.Bool.{and_parts, and_right}
use Rattle.std.proofs.lemmas.Bool.Decides.{nat_tests}
use Rattle.std.proofs.lemmas.List.{get_or-drop}
use Rattle.std.proofs.lemmas.List.Sums.{list_all-from_AllPass}
use Rattle.hex.specs.Hex.{IsBytes, encode_lower, encode_with, is_hex_digit, lower_digits}
use Rattle.hex.proofs.HexLemmas.{decode_of-encode_lower, decode_of-ok}
use Rattle.usb_script_words.specs.Fields.{one_and_more}
use Rattle.usb_script_words.specs.Lines.{lines_of, words_of, is_word, is_space, is_printable, without_cr}
use Rattle.usb_script_words.specs.Words.{bytes_of, name_of, index_of, number_of, decimal_of}
use Rattle.usb_script_words.specs.KernelSteps.{own_steps_of}
use Rattle.usb_script_lines.specs.declared.item.Item.{Item}
use Rattle.usb_script_lines.specs.declared.item.Item.TheVariants.{Write}
use Rattle.usb_script_lines.specs.declared.reading.Reading.TheVariants.{Read}
use Rattle.usb_script_lines.specs.Forms.{forms, named_of}
use Rattle.usb_script_lines.specs.LineForms.{form_of, item_of, item_reading_of, own_reading_of, reading_of}
use Rattle.usb_script_lines.specs.Shapes.{field_and_steps}
use Rattle.usb_script.specs.Order.{may_follow}
use Rattle.usb_script.specs.Generated.{message, write_of}
use Rattle.usb_script.proofs.ReadOn.{Reads, nothing_reads, line_reads}

-- ---- words of visible characters

-- a printable character that is no space
abbrev is_visible : ℕ → Bool
is_visible b = leb 33 b && leb b 126

digit_visible : (b : ℕ) → is_hex_digit b ≡ true → is_visible b ≡ true
digit_visible b digit = grind (arith, nat_tests)

digits_visible : (word : List ℕ) → list_all is_hex_digit word ≡ true → list_all is_visible word ≡ true
digits_visible [] all = refl
digits_visible (b ∷ word) all =
    let parts = and_parts (is_hex_digit b) (list_all is_hex_digit word) all in
    let first : is_visible b ≡ true = digit_visible b parts.0 in
    let others : list_all is_visible word ≡ true = digits_visible word parts.1 in
    rw (first, others) refl

visible_printable : (b : ℕ) → is_visible b ≡ true → is_printable b ≡ true
visible_printable b visible = grind (arith, nat_tests)

visible_no_space : (b : ℕ) → is_visible b ≡ true → is_space b ≡ false
visible_no_space b visible = grind (arith, nat_tests)

visible_no_end : (b : ℕ) → is_visible b ≡ true → eqb b 10 ≡ false
visible_no_end b visible = grind (arith, nat_tests)

all_printable : (word : List ℕ) → list_all is_visible word ≡ true → list_all is_printable word ≡ true
all_printable [] all = refl
all_printable (b ∷ word) all =
    let parts = and_parts (is_visible b) (list_all is_visible word) all in
    let first : is_printable b ≡ true = visible_printable b parts.0 in
    let others : list_all is_printable word ≡ true = all_printable word parts.1 in
    rw (first, others) refl

one_word : (word : List ℕ) → list_all is_visible word ≡ true → slice_split is_space word ≡ word ∷ []
one_word [] all = refl
one_word (b ∷ word) all =
    let parts = and_parts (is_visible b) (list_all is_visible word) all in
    let first : is_space b ≡ false = visible_no_space b parts.0 in
    let others : slice_split is_space word ≡ word ∷ [] = one_word word parts.1 in
    rw (first, others) refl

ends_at : (word rest : List ℕ) → list_all is_visible word ≡ true → lines_of (word ++ 10 ∷ rest) ≡ word ∷ lines_of rest
ends_at [] rest all = refl
ends_at (b ∷ word) rest all =
    let parts = and_parts (is_visible b) (list_all is_visible word) all in
    let first : eqb b 10 ≡ false = visible_no_end b parts.0 in
    let others : lines_of (word ++ 10 ∷ rest) ≡ word ∷ lines_of rest = ends_at word rest parts.1 in
    rw (first, others) refl

printable_no_cr : (b : ℕ) → is_printable b ≡ true → eqb b 13 ≡ false
printable_no_cr b printable = grind (arith, nat_tests)

no_cr_at : (words : List ℕ) (i : ℕ) → list_all is_printable words ≡ true → eqb (get_or words i 0) 13 ≡ false
no_cr_at [] i all = refl
no_cr_at (b ∷ words) zero all =
    printable_no_cr b (and_parts (is_printable b) (list_all is_printable words) all).0
no_cr_at (b ∷ words) (suc i) all =
    no_cr_at words i (and_parts (is_printable b) (list_all is_printable words) all).1

no_cr : (words : List ℕ) → list_all is_printable words ≡ true → without_cr words ≡ words
no_cr words all =
    let last : eqb (get_or words (length words - 1) 0) 13 ≡ false = no_cr_at words (length words - 1) all in rw last refl

-- ---- the line of a word

-- the line of this word
abbrev words_for : List ℕ → List ℕ
words_for word = codes "write w0 " ++ word

ends : (word rest : List ℕ) → list_all is_visible word ≡ true → lines_of (words_for word ++ 10 ∷ rest) ≡ words_for word ∷ lines_of rest
ends word rest all = let here = ends_at word rest all in rw here refl

split : (word : List ℕ) → list_all is_visible word ≡ true → is_word word ≡ true → words_of (words_for word) ≡ codes "write" ∷ codes "w0" ∷ word ∷ []
split word all some = let here = one_word word all in rw (here, some) refl

form : (word bytes : List ℕ) → bytes_of word ≡ Some bytes → form_of (codes "write" ∷ codes "w0" ∷ word ∷ []) ≡ Some (Write 0 bytes [])
unfolding form_of named_of forms one_and_more field_and_steps name_of index_of number_of decimal_of own_steps_of
form word bytes spelled = rw spelled refl

own_reading : (word : List ℕ) (item : Item) → list_all is_visible word ≡ true → item_of (words_for word) ≡ Some item → own_reading_of (words_for word) ≡ Some (Read item)
unfolding own_reading_of item_reading_of
own_reading word item all found = let printable = all_printable word all in rw (printable, found) refl

reading : (word bytes : List ℕ) → list_all is_visible word ≡ true → is_word word ≡ true → bytes_of word ≡ Some bytes → reading_of (words_for word) ≡ Some (Read (Write 0 bytes []))
unfolding reading_of item_of
reading word bytes all some spelled =
    let printable : list_all is_printable (words_for word) ≡ true = all_printable word all in
    let item : item_of (words_for word) ≡ Some (Write 0 bytes []) = ap form_of (split word all some) ∙ form word bytes spelled in
    ap own_reading_of (no_cr (words_for word) printable) ∙ own_reading word (Write 0 bytes []) all item

-- ---- the digits of bytes

no_dash : (a b : ℕ) (word : List ℕ) → bytes_eq (a ∷ b ∷ word) (codes "-") ≡ false
no_dash a b word = and_right (eqb a 45) false refl

small : (bytes : List ℕ) → length bytes ≤ 65536 → leb (length bytes) 65536 ≡ true
small bytes few = grind (arith, nat_tests)

spells : (b : ℕ) (bytes : List ℕ) → IsBytes (b ∷ bytes) → length (b ∷ bytes) ≤ 65536 → bytes_of (encode_lower (b ∷ bytes)) ≡ Some (b ∷ bytes)
unfolding bytes_of
spells b bytes are few =
    let dash : bytes_eq (encode_lower (b ∷ bytes)) (codes "-") ≡ false = unfold encode_with in no_dash (slice_index lower_digits (b / 16)) (slice_index lower_digits (b % 16)) (encode_lower bytes) in
    let decoded = decode_of-encode_lower (b ∷ bytes) are in
    let fits : leb (length (b ∷ bytes)) 65536 ≡ true = small (b ∷ bytes) few in
    rw (dash, decoded, fits) refl

digits : (bytes : List ℕ) → IsBytes bytes → list_all is_visible (encode_lower bytes) ≡ true
digits bytes are =
    digits_visible (encode_lower bytes)
    (list_all-from_AllPass is_hex_digit (encode_lower bytes) (decode_of-ok (encode_lower bytes) bytes (decode_of-encode_lower bytes are)).1)

has_digits : (b : ℕ) (bytes : List ℕ) → is_word (encode_lower (b ∷ bytes)) ≡ true
unfolding encode_with
has_digits b bytes = refl

-- the line that gives the writer these bytes, if there are any
pub write_reads : (bytes : List ℕ) → IsBytes bytes → length bytes ≤ 65536 → Reads (write_of bytes)
unfolding write_of may_follow
write_reads [] are few = nothing_reads
write_reads (b ∷ bytes) are few =
    let word = encode_lower (b ∷ bytes) in
    let all : list_all is_visible word ≡ true = digits (b ∷ bytes) are in
    line_reads (words_for word) (Write 0 (b ∷ bytes) []) (λ rest. ends word rest all)
    (reading word (b ∷ bytes) all (has_digits b bytes) (spells b bytes are few)) (λ before. refl)

-- ---- the bytes of messages, and of their parts

counted_bytes : (j a n : ℕ) → IsBytes (map (λ i. (j + i) % 256) (range_with_len a n))
counted_bytes j a zero i = omega arith
counted_bytes j a (suc n) zero = omega arith
counted_bytes j a (suc n) (suc i) = counted_bytes j (a + 1) n i

pub message_bytes : (j : ℕ) → IsBytes (message j)
unfolding message
message_bytes j = counted_bytes j 0 _

pub bytes_of_front : (n : ℕ) (bytes : List ℕ) → IsBytes bytes → IsBytes (take n bytes)
bytes_of_front zero bytes are i = omega arith
bytes_of_front (suc n) [] are i = omega arith
bytes_of_front (suc n) (b ∷ bytes) are zero = are 0
bytes_of_front (suc n) (b ∷ bytes) are (suc i) = bytes_of_front n bytes (λ k. are (suc k)) i

pub bytes_of_back : (n : ℕ) (bytes : List ℕ) → IsBytes bytes → IsBytes (drop n bytes)
bytes_of_back n bytes are i = rw (get_or-drop n bytes i 0) (are (n + i))
