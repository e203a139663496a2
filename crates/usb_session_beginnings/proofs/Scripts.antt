-- What the lines of a script give, that begins with the lines of another one: first what those give, and then more.
use Rattle.std.proofs.Common.{Bool, Err, List, None, Ok, Option, Result, Some, [], ap, append-nil, append_assoc, arith, false, inl, inr, length, length-append, nat_lt, not, refl, sym, true, ℕ, ◌++◌, ◌+◌, ◌∙◌, ◌∷◌, ◌≡◌, ◌≤◌, ◌⊎◌}
use Rattle.std.proofs.lemmas.Bool.{and_parts, ltb-false}
use Rattle.std.proofs.lemmas.Bool.Decides.{nat_tests}
use Rattle.std.specs.List.{list_all}
use Rattle.std.specs.Prelude.{if◌then◌else◌, ◌==◌, ◌||◌}
use Rattle.usb_script.specs.Order.{is_free_device, may_follow, with_reading}
use Rattle.usb_script.specs.Parse.{or_line, or_malformed, parse, parse_from, script_of, with_line}
use Rattle.usb_script_lines.specs.ItemKinds.{is_setup}
use Rattle.usb_script_lines.specs.LineForms.{reading_of}
use Rattle.usb_script_lines.specs.declared.item.Item.{Item}
use Rattle.usb_script_lines.specs.declared.reading.Reading.{Reading}
use Rattle.usb_script_words.specs.Lines.{lines_of, onto_line}
use Rattle.usb_script_words.specs.Words.{◌>>=◌}
use Rattle.usb_session_beginnings.specs.Beginnings.{DeclareNothing, lined}
use Rattle.usb_script_lines.specs.declared.item.Item.TheVariants as item_of
use Rattle.usb_script_lines.specs.declared.reading.Reading.TheVariants as reading
use Rattle.usb_script.specs.declared.error.SessionError.TheVariants as errors

-- the lines of a text that ends with a line, and those of the same text with more behind it
record Splits (first whole rest : List (List ℕ)) : Type 0 where
  line : List ℕ
  others : List (List ℕ)
  alone : first ≡ line ∷ others
  along : whole ≡ line ∷ (others ++ rest)

onto-splits : (b : ℕ) (ends_line : Bool) (first whole rest : List (List ℕ)) → Splits first whole rest
    → Splits (if ends_line then [] ∷ first else onto_line b first) (if ends_line then [] ∷ whole else onto_line b whole) rest
onto-splits b true first whole rest s =
    record { line = []; others = s.line ∷ s.others; alone = ap (λ lines. [] ∷ lines) s.alone; along = ap (λ lines. [] ∷ lines) s.along }
onto-splits b false first whole rest s =
    record { line = b ∷ s.line; others = s.others; alone = ap (onto_line b) s.alone; along = ap (onto_line b) s.along }

lines-split : (first rest : List ℕ) → Splits (lines_of (lined first)) (lines_of (lined first ++ rest)) (lines_of rest)
lines-split [] rest = record { line = []; others = []; alone = refl; along = refl }
lines-split (b ∷ first) rest =
    onto-splits b (b == 10) (lines_of (lined first)) (lines_of (lined first ++ rest)) (lines_of rest) (lines-split first rest)

-- lines behind others are read behind the items of those
abbrev ReadsOn : List Item → ℕ → List (List ℕ) → List (List ℕ) → List Item → Type 0
ReadsOn before k lines more items =
    parse_from before k lines ≡ Ok items → (next : ℕ) × (parse_from before k (lines ++ more) ≡ parse_from items next more)

line-on : (k : ℕ) (lines more : List (List ℕ)) (items : List Item) (o : Option (List Item))
    → ((before : List Item) → ReadsOn before (k + 1) lines more items) → or_line o k (λ before. parse_from before (k + 1) lines) ≡ Ok items
    → (next : ℕ) × (or_line o k (λ before. parse_from before (k + 1) (lines ++ more)) ≡ parse_from items next more)
line-on k lines more items None on is = absurd (cc)
line-on k lines more items (Some before) on is = on before is

reads-on : (before : List Item) (k : ℕ) (lines more : List (List ℕ)) (items : List Item) → ReadsOn before k lines more items
reads-on before k [] more items is = let same : before ≡ items = cc in (k, ap (λ front. parse_from front k more) same)
reads-on before k (line ∷ lines) more items is =
    line-on k lines more items (with_line before line) (λ front. reads-on front (k + 1) lines more items) is

-- and the others are read, too
abbrev ReadsFirst : List Item → ℕ → List (List ℕ) → List (List ℕ) → List Item → Type 0
ReadsFirst before k lines more items = parse_from before k (lines ++ more) ≡ Ok items → (first : List Item) × (parse_from before k lines ≡ Ok first)

line-first : (k : ℕ) (lines more : List (List ℕ)) (items : List Item) (o : Option (List Item))
    → ((before : List Item) → ReadsFirst before (k + 1) lines more items)
    → or_line o k (λ before. parse_from before (k + 1) (lines ++ more)) ≡ Ok items
    → (first : List Item) × (or_line o k (λ before. parse_from before (k + 1) lines) ≡ Ok first)
line-first k lines more items None first is = absurd (cc)
line-first k lines more items (Some before) first is = first before is

reads-first : (before : List Item) (k : ℕ) (lines more : List (List ℕ)) (items : List Item) → ReadsFirst before k lines more items
reads-first before k [] more items is = (before, refl)
reads-first before k (line ∷ lines) more items is =
    line-first k lines more items (with_line before line) (λ front. reads-first front (k + 1) lines more items) is

-- where a setup line may stand behind items, those are setup lines
either : (b c : Bool) → (not b || c) ≡ true → (b ≡ false) ⊎ (c ≡ true)
either true c is = inr is
either false c is = inl refl

setup-follows : (before : List Item) (item : Item) → may_follow before item ≡ true → (is_setup item ≡ false) ⊎ (list_all is_setup before ≡ true)
unfolding may_follow is_free_device
setup-follows before (item_of.Device device bus address speed configuration descriptors) is = inr (and_parts _ _ (and_parts _ _ is).0).0
setup-follows before item is = either (is_setup item) (list_all is_setup before) is

all-front : (before after : List Item) → list_all is_setup (before ++ after) ≡ true → list_all is_setup before ≡ true
all-front [] after all = refl
all-front (item ∷ before) after all =
    let parts = and_parts (is_setup item) (list_all is_setup (before ++ after)) all in rw (parts.0, all-front before after parts.1)

-- items with those of more lines. Where a call or steps are among the former, the latter declare nothing
pub record Grows (before items : List Item) : Type 0 where
  pub after : List Item
  pub is : items ≡ before ++ after
  pub begun : (list_all is_setup before ≡ true) ⊎ DeclareNothing after

grows-more : (before : List Item) (item : Item) (items : List Item) → may_follow before item ≡ true → Grows (before ++ item ∷ []) items
    → Grows before items
grows-more before item items follows g =
    record { after = item ∷ g.after; is = g.is ∙ append_assoc before (item ∷ []) g.after; begun = by (setup-follows before item follows) g.begun }
  where
    by : (is_setup item ≡ false) ⊎ (list_all is_setup before ≡ true) → (list_all is_setup (before ++ item ∷ []) ≡ true) ⊎ DeclareNothing g.after
        → (list_all is_setup before ≡ true) ⊎ DeclareNothing (item ∷ g.after)
    by (inr all) begun = inl all
    by (inl none) (inl all) = inl (all-front before (item ∷ []) all)
    by (inl none) (inr nothing) = inr (none, nothing)

abbrev GrowsBy : List Item → ℕ → List (List ℕ) → List Item → Type 0
GrowsBy before k lines items = parse_from before k lines ≡ Ok items → Grows before items

item-grows : (before : List Item) (k : ℕ) (lines : List (List ℕ)) (items : List Item) (item : Item) (may : Bool) → may_follow before item ≡ may
    → ((front : List Item) → GrowsBy front (k + 1) lines items)
    → or_line (if may then Some (before ++ item ∷ []) else None) k (λ front. parse_from front (k + 1) lines) ≡ Ok items → Grows before items
item-grows before k lines items item true follows grow is = grows-more before item items follows (grow (before ++ item ∷ []) is)
item-grows before k lines items item false follows grow is = absurd (cc)

line-grows : (before : List Item) (k : ℕ) (lines : List (List ℕ)) (items : List Item) (o : Option Reading)
    → ((front : List Item) → GrowsBy front (k + 1) lines items)
    → or_line (o >>= with_reading before) k (λ front. parse_from front (k + 1) lines) ≡ Ok items → Grows before items
line-grows before k lines items None grow is = absurd (cc)
line-grows before k lines items (Some reading.Skipped) grow is = grow before is
line-grows before k lines items (Some (reading.Read item)) grow is = item-grows before k lines items item (may_follow before item) refl grow is

grows : (before : List Item) (k : ℕ) (lines : List (List ℕ)) (items : List Item) → GrowsBy before k lines items
grows before k [] items is =
    let same : before ≡ items = cc in
    record { after = []; is = sym same ∙ sym (append-nil before); begun = inr tt }
grows before k (line ∷ lines) items is = line-grows before k lines items (reading_of line) (λ front. grows front (k + 1) lines items) is

-- a script is what its lines give
malformed-parses : (r : Result (List Item) ℕ) (items : List Item) → or_malformed r ≡ Ok items → r ≡ Ok items
malformed-parses (Ok found) items is = cc
malformed-parses (Err line) items is = absurd (cc)

long-parses : (long : Bool) (r : Result (List Item) ℕ) (items : List Item) → (if long then Err errors.TooLong else or_malformed r) ≡ Ok items
    → r ≡ Ok items
long-parses true r items is = absurd (cc)
long-parses false r items is = malformed-parses r items is

parses : (bytes : List ℕ) (items : List Item) → script_of bytes ≡ Ok items → parse_from [] 1 (lines_of bytes) ≡ Ok items
unfolding script_of parse
parses bytes items is = long-parses (nat_lt 1048576 (length bytes)) (parse bytes) items is

pub script-grows : (first rest : List ℕ) (before items : List Item) → script_of (lined first) ≡ Ok before → script_of (lined first ++ rest) ≡ Ok items
    → Grows before items
script-grows first rest before items alone along =
    let s = lines-split first rest in
    let front : parse_from [] 1 (s.line ∷ s.others) ≡ Ok before = sym (ap (parse_from [] 1) s.alone) ∙ parses (lined first) before alone in
    let on = reads-on [] 1 (s.line ∷ s.others) (lines_of rest) before front in
    grows before on.0 (lines_of rest) items (sym on.1 ∙ (sym (ap (parse_from [] 1) s.along) ∙ parses (lined first ++ rest) items along))

-- the first lines of a script are no longer than it is
short : (bytes : List ℕ) (items : List Item) → script_of bytes ≡ Ok items → length bytes ≤ 1048576
unfolding script_of
short bytes items is = by (nat_lt 1048576 (length bytes)) refl is
  where
    by : (long : Bool) → nat_lt 1048576 (length bytes) ≡ long → (if long then Err errors.TooLong else or_malformed (parse bytes)) ≡ Ok items
        → length bytes ≤ 1048576
    by true test is = absurd (cc)
    by false test is = ltb-false 1048576 (length bytes) test

gives : (bytes : List ℕ) (items : List Item) → length bytes ≤ 1048576 → parse_from [] 1 (lines_of bytes) ≡ Ok items → script_of bytes ≡ Ok items
unfolding script_of parse
gives bytes items fits parsed =
    let test : nat_lt 1048576 (length bytes) ≡ false = grind (arith, nat_tests, fits) in
    rw (test, parsed) refl

pub script-lines : (first rest : List ℕ) (items : List Item) → script_of (lined first ++ rest) ≡ Ok items
    → (before : List Item) × (script_of (lined first) ≡ Ok before)
script-lines first rest items is =
    let s = lines-split first rest in
    let along : parse_from [] 1 ((s.line ∷ s.others) ++ lines_of rest) ≡ Ok items =
    sym (ap (parse_from [] 1) s.along) ∙ parses (lined first ++ rest) items is in
    let read = reads-first [] 1 (s.line ∷ s.others) (lines_of rest) items along in
    let whole = short (lined first ++ rest) items is in
    let sum = length-append (lined first) rest in
    (read.0, gives (lined first) read.0 (omega (arith, whole, sum)) (ap (parse_from [] 1) s.alone ∙ read.1))
