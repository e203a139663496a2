-- A first word is looked up among the rows that begin with its letter alone.
use Rattle.std.proofs.Common.{◌≡◌, ℕ, true, false, List, [], ◌∷◌, None, refl, ap, sym, arith}
use Rattle.std.specs.Str.{bytes_eq}
use Rattle.std.specs.Cmp.Lexicographic.{same_text}
use Rattle.usb_script_words.specs.Words.{◌>>=◌}
use Rattle.usb_script_words.specs.Fields.{Word}
use Rattle.usb_script_words.specs.Tables.{Table, form_named, read_by, begins, beginning}

-- equal words begin with the same letter
same_letter : (letters : List ℕ) (name text : Word) → bytes_eq name text ≡ true → begins letters text ≡ begins letters name
same_letter letters name text same = ap (begins letters) (sym (same_text name text (sym same)))

-- the form behind a word that begins with one of these letters is among the rows that do
form_begins : {R : Type 0} (letters : List ℕ) (table : Table R) (name : Word) → begins letters name ≡ true → form_named (beginning letters table) name ≡ form_named table name
form_begins letters [] name begin = refl
form_begins letters (row ∷ rows) name begin =
    grind (arith, form_begins letters rows name begin, same_letter letters name row.0)

-- behind one that begins with none of them these rows have no form
no_form_begins : {R : Type 0} (letters : List ℕ) (table : Table R) (name : Word) → begins letters name ≡ false → form_named (beginning letters table) name ≡ None
no_form_begins letters [] name other = refl
no_form_begins letters (row ∷ rows) name other =
    grind (arith, no_form_begins letters rows name other, same_letter letters name row.0)

-- a word that begins with one of these letters is read by the rows that do
pub read_begins : {R : Type 0} (letters : List ℕ) (table : Table R) (name : Word) (words : List Word) → begins letters name ≡ true → read_by (beginning letters table) name words ≡ read_by table name words
read_begins letters table name words begin = ap (λ found. found >>= λ form. form words) (form_begins letters table name begin)

-- and one that begins with none of them is not read by these rows
pub not_read : {R : Type 0} (letters : List ℕ) (table : Table R) (name : Word) (words : List Word) → begins letters name ≡ false → read_by (beginning letters table) name words ≡ None
not_read letters table name words other = ap (λ found. found >>= λ form. form words) (no_form_begins letters table name other)
