-- What holds of all that a line's form makes, by what holds of its fields.
use Rattle.std.proofs.Common.{ℕ, ◌≤◌, ◌≡◌, Bool, true, false, List, [], ◌∷◌, length, Option, Some, None, arith, refl}
use Rattle.std.specs.Prelude.{nat_le, option_and_then, if◌then◌else◌, codes}
use Rattle.std.specs.Option.{option_or}
use Rattle.std.specs.Str.{bytes_eq}
use Rattle.std.proofs.lemmas.Bool.{cond_both, leb-true}
use Rattle.hex.specs.Hex.{decode_of}
use Rattle.usb_script_words.specs.Controls.{control_bytes_of}
use Rattle.usb_script_words.specs.Fields.{Word, no_word, one_word, two_words, three_words, four_words, six_words, one_field, two_fields, three_fields, none, one, two, three, four, six}
use Rattle.usb_script_words.specs.Tables.{◌or◌, Table, form_named, read_by}
use Rattle.usb_script_words.specs.Words.{decimal_of, at_most, number_of, or_none, at_most_bytes, bytes_of}
use Rattle.usb_session_sizes.proofs.Fits.{Fits}

-- nothing
abbrev pub Any : {X : Type 0} → X → Type 0
Any x = Unit {0}

-- of what each word spells, and of what a form makes of words
abbrev pub Reads : {A : Type 0} → (A → Type 0) → (Word → Option A) → Type 0
Reads Q read = (word : Word) → Fits Q (read word)

abbrev pub Gives : {R : Type 0} → (R → Type 0) → (List Word → Option R) → Type 0
Gives P form = (words : List Word) → Fits P (form words)

pub any-fits : {X : Type 0} (o : Option X) → Fits Any o
any-fits None = tt
any-fits (Some x) = tt

pub any : {A : Type 0} (read : Word → Option A) → Reads Any read
any read word = any-fits (read word)

pub then-fits : {A B : Type 0} (Q : A → Type 0) (P : B → Type 0) (o : Option A) (next : A → Option B) → Fits Q o → ((a : A) → Q a → Fits P (next a)) → Fits P (option_and_then next o)
then-fits Q P None next is more = tt
then-fits Q P (Some a) next is more = more a is

-- exactly so many words
pub none-gives : {R : Type 0} (P : R → Type 0) (made : R) → P made → Gives P (none made)
none-gives P made holds words = then-fits Any P (no_word words) (λ u. Some made) (any-fits (no_word words)) (λ u is. holds)

pub one-gives : {A R : Type 0} (Q : A → Type 0) (P : R → Type 0) (make : A → R) (f : Word → Option A) → Reads Q f → ((a : A) → Q a → P (make a)) → Gives P (one make f)
unfolding one_field
one-gives Q P make f reads holds words =
    then-fits Q P (one_field f words) (λ a. Some (make a)) (then-fits Any Q (one_word words) f (any-fits (one_word words)) (λ w is. reads w)) holds

pub two-gives : {A B R : Type 0} (Q : A → Type 0) (S : B → Type 0) (P : R → Type 0) (make : A → B → R) (f : Word → Option A) (g : Word → Option B) → Reads Q f → Reads S g → ((a : A) (b : B) → Q a → S b → P (make a b)) → Gives P (two make f g)
unfolding two_fields
two-gives {A} {B} Q S P make f g first second holds words =
    let Both : A × B → Type 0 = λ x. Q x.0 × S x.1 in
    then-fits Both P (two_fields f g words) (λ x. Some (make x.0 x.1))
    (then-fits Any Both (two_words words) _ (any-fits (two_words words))
    (λ w is. then-fits Q Both (f w.0) _ (first w.0) (λ a qa. then-fits S Both (g w.1) _ (second w.1) (λ b sb. (qa, sb)))))
    (λ x is. holds x.0 x.1 is.0 is.1)

pub three-gives : {A B C R : Type 0} (Q : A → Type 0) (S : B → Type 0) (T : C → Type 0) (P : R → Type 0) (make : A → B → C → R) (f : Word → Option A) (g : Word → Option B) (h : Word → Option C) → Reads Q f → Reads S g → Reads T h
    → ((a : A) (b : B) (c : C) → Q a → S b → T c → P (make a b c)) → Gives P (three make f g h)
unfolding three_fields
three-gives {A} {B} {C} Q S T P make f g h first second third holds words =
    let All : A × B × C → Type 0 = λ x. Q x.0 × S x.1 × T x.2 in
    then-fits All P (three_fields f g h words) (λ x. Some (make x.0 x.1 x.2))
    (then-fits Any All (three_words words) _ (any-fits (three_words words))
    (λ w is. then-fits Q All (f w.0) _ (first w.0) (λ a qa. then-fits S All (g w.1) _ (second w.1) (λ b sb. then-fits T All (h w.2) _ (third w.2) (λ c tc. (qa, sb, tc))))))
    (λ x is. holds x.0 x.1 x.2 is.0 is.1 is.2)

pub four-gives : {A B C D R : Type 0} (P : R → Type 0) (make : A → B → C → D → R) (f : Word → Option A) (g : Word → Option B) (h : Word → Option C) (i : Word → Option D) → ((a : A) (b : B) (c : C) (d : D) → P (make a b c d)) → Gives P (four make f g h i)
four-gives P make f g h i holds words =
    then-fits Any P (four_words words) _ (any-fits (four_words words))
    (λ w is. then-fits Any P (f w.0) _ (any f w.0) (λ a qa. then-fits Any P (g w.1) _ (any g w.1) (λ b qb. then-fits Any P (h w.2) _ (any h w.2) (λ c qc. then-fits Any P (i w.3) _ (any i w.3) (λ d qd. holds a b c d)))))

pub six-gives : {A B C D E F R : Type 0} (P : R → Type 0) (make : A → B → C → D → E → F → R) (f : Word → Option A) (g : Word → Option B) (h : Word → Option C) (i : Word → Option D) (j : Word → Option E) (k : Word → Option F)
    → ((a : A) (b : B) (c : C) (d : D) (e : E) (z : F) → P (make a b c d e z)) → Gives P (six make f g h i j k)
six-gives P make f g h i j k holds words =
    then-fits Any P (six_words words) _ (any-fits (six_words words))
    (λ w is. then-fits Any P (f w.0) _ (any f w.0) (λ a qa. then-fits Any P (g w.1) _ (any g w.1) (λ b qb. then-fits Any P (h w.2) _ (any h w.2) (λ c qc. then-fits Any P (i w.3) _ (any i w.3)
    (λ d qd. then-fits Any P (j w.4) _ (any j w.4) (λ e qe. then-fits Any P (k w.5) _ (any k w.5) (λ z qz. holds a b c d e z)))))))

-- one form, or else another
pub or-gives : {R : Type 0} (P : R → Type 0) (f g : List Word → Option R) → Gives P f → Gives P g → Gives P (f or g)
or-gives {R} P f g first second words = by (f words) (first words)
  where
    by : (o : Option R) → Fits P o → Fits P (option_or o (g words))
    by None is = second words
    by (Some x) is = is

-- a number that is at most this one, and bytes that are at most so many
at_most-fits : (most n : ℕ) → Fits (λ n. n ≤ most) (at_most most n)
at_most-fits most n = by (nat_le n most) refl
  where
    by : (b : Bool) → nat_le n most ≡ b → Fits (λ n. n ≤ most) (if b then Some n else None)
    by true is = leb-true n most is
    by false is = tt

pub number-reads : (most : ℕ) → Reads (λ n. n ≤ most) (number_of most)
unfolding number_of
number-reads most word = then-fits Any (λ n. n ≤ most) (decimal_of word) (at_most most) (any-fits (decimal_of word)) (λ n is. at_most-fits most n)

at_most_bytes-fits : (most : ℕ) (bytes : List ℕ) → Fits (λ (b : List ℕ). length b ≤ most) (at_most_bytes most bytes)
at_most_bytes-fits most bytes = by (nat_le (length bytes) most) refl
  where
    by : (b : Bool) → nat_le (length bytes) most ≡ b → Fits (λ (b : List ℕ). length b ≤ most) (if b then Some bytes else None)
    by true is = leb-true (length bytes) most is
    by false is = tt

pub bytes-reads : Reads (λ (b : List ℕ). length b ≤ 65536) bytes_of
unfolding bytes_of
bytes-reads word =
    let decoded = or_none (decode_of word) in
    cond_both (bytes_eq word (codes "-")) (Some []) (option_and_then (at_most_bytes 65536) decoded) (Fits (λ (b : List ℕ). length b ≤ 65536)) (λ dash. omega arith)
    (λ other. then-fits Any (λ (b : List ℕ). length b ≤ 65536) decoded (at_most_bytes 65536) (any-fits decoded) (λ b is. at_most_bytes-fits 65536 b))

pub control_bytes-reads : Reads (λ (b : List ℕ). length b ≤ 65535) control_bytes_of
unfolding control_bytes_of
control_bytes-reads word = then-fits Any (λ (b : List ℕ). length b ≤ 65535) (bytes_of word) (at_most_bytes 65535) (any-fits (bytes_of word)) (λ b is. at_most_bytes-fits 65535 b)

-- one after another
infixr 5 ◌also◌
pub ◌also◌ : {A B : Type 0} → A → B → A × B
a also b = (a, b)

-- a table of forms
abbrev pub Rows : {R : Type 0} → (R → Type 0) → Table R → Type 0
Rows P [] = Unit {0}
Rows P (row ∷ rows) = Gives P row.1 × Rows P rows

form-fits : {R : Type 0} (P : R → Type 0) (table : Table R) (name : Word) → Rows P table → Fits (Gives P) (form_named table name)
form-fits P [] name all = tt
form-fits P (row ∷ rows) name all = cond_both (bytes_eq name row.0) (Some row.1) (form_named rows name) (Fits (Gives P)) (λ here. all.0) (λ further. form-fits P rows name all.1)

pub table-gives : {R : Type 0} (P : R → Type 0) (table : Table R) (name : Word) → Rows P table → Gives P (read_by table name)
table-gives P table name all words = then-fits (Gives P) P (form_named table name) _ (form-fits P table name all) (λ form gives. gives words)
