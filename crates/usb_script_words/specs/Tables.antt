-- Tables of forms: each first word, and what the words behind it give.
use Rattle.std.specs.Prelude.{ℕ, ◌==◌, Bool, false, List, [], ◌∷◌, filter, Option, Some, None, if◌then◌else◌}
use Rattle.std.specs.List.{list_any}
use Rattle.std.specs.Option.{option_or}
use Rattle.std.specs.Str.{bytes_eq}
use Rattle.usb_script_words.specs.Words.{◌>>=◌}
use Rattle.usb_script_words.specs.Fields.{Word}

-- first words, and the form of what stands behind each
abbrev pub Table : Type 0 → Type 0
Table R = List (Word × (List Word → Option R))

-- the form behind a first word
abbrev pub form_named : {R : Type 0} → Table R → Word → Option (List Word → Option R)
form_named [] name = None
form_named (row ∷ rows) name = if bytes_eq name row.0 then Some row.1 else form_named rows name

-- what a first word and the words behind it give by a table
abbrev pub read_by : {R : Type 0} → Table R → Word → List Word → Option R
read_by table name words = form_named table name >>= λ form. form words

-- whether a word begins with one of these letters
abbrev pub begins : List ℕ → Word → Bool
begins letters [] = false
begins letters (b ∷ word) = list_any (λ letter. b == letter) letters

-- the rows whose first words begin with one of these letters
abbrev pub beginning : {R : Type 0} → List ℕ → Table R → Table R
beginning letters table = filter (λ row. begins letters row.0) table

-- one form, or else another
infixr 10 ◌or◌
abbrev pub ◌or◌ : {R : Type 0} → (List Word → Option R) → (List Word → Option R) → List Word → Option R
first or second = λ words. option_or (first words) (second words)
