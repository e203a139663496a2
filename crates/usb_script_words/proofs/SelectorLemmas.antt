-- The criteria of a selector, one after another.
use Rattle.std.proofs.Common.{◌≡◌, ℕ, ◌≤◌, ◌<◌, zero, suc, List, [], ◌∷◌, ◌++◌, length, get_or, drop, drop-cons, length-drop, subst, Bor, ◌+◌, Option, Some, None, refl, ap, sym, ◌∙◌, append_assoc, append-nil, arith}
use Rattle.std.specs.Prelude.{option_and_then, Err}
use Rattle.std.proofs.lemmas.List.{drop-map, drop-drop}
use Rattle.usb_script_words.specs.Outcome.{Gives}
use Rattle.usb_script_words.specs.declared.line_error.LineError.{LineError}
use Rattle.usb_script_words.specs.declared.line_error.LineError.TheVariants.{Malformed, Memory}
use Rattle.usb_script_words.specs.Fields.{Word, texts}
use Rattle.usb_script_words.specs.Selectors.{named_criterion, criteria_of}
use Rattle.usb_script_words.specs.declared.selector.Criterion.{Criterion}

-- these criteria, and those of the words behind them
abbrev pub behind : List Criterion → Option (List Criterion) → Option (List Criterion)
behind found rest = option_and_then (λ more. Some (found ++ more)) rest

-- what is left of the words, and how many criteria it may have
pub record Left (found : List Criterion) (rest : List Word) (whole : Option (List Criterion)) : Type 0 where
  pub most : ℕ
  pub few : length rest ≤ most
  pub is : behind found (criteria_of most rest) ≡ whole

behind_nothing : (o : Option (List Criterion)) → behind [] o ≡ o
behind_nothing None = refl
behind_nothing (Some criteria) = refl

pub begins : (words : List Word) → Left [] words (criteria_of (length words) words)
begins words = record { most = length words; few = omega arith; is = behind_nothing (criteria_of (length words) words) }

one_onto : (found : List Criterion) (c : Criterion) (o : Option (List Criterion)) → behind (found ++ c ∷ []) o ≡ behind found (option_and_then (λ more. Some (c ∷ more)) o)
one_onto found c None = refl
one_onto found c (Some more) = ap (λ criteria. Some criteria) (append_assoc found (c ∷ []) more)

pub one_more : (found : List Criterion) (name : Word) (rest : List Word) (c : Criterion) (more : List Word) (whole : Option (List Criterion)) → Left found (name ∷ rest) whole → named_criterion name rest ≡ Some (c, more) → length more ≤ length rest → Left (found ++ c ∷ []) more whole
one_more found name rest c more whole left read fewer = by left.most left.few left.is
  where
    by : (most : ℕ) → length (name ∷ rest) ≤ most → behind found (criteria_of most (name ∷ rest)) ≡ whole → Left (found ++ c ∷ []) more whole
    by zero few is = absurd (omega arith)
    by (suc most) few is =
        record { most = most; few = omega arith; is = one_onto found c (criteria_of most more) ∙ sym (ap (λ first. behind found (option_and_then (λ (x : Criterion × List Word). option_and_then (λ rest. Some (x.0 ∷ rest)) (criteria_of most x.1)) first)) read) ∙ is }

pub refused : (found : List Criterion) (name : Word) (rest : List Word) (whole : Option (List Criterion)) → Left found (name ∷ rest) whole → named_criterion name rest ≡ None → whole ≡ None
refused found name rest whole left read = by left.most left.few left.is
  where
    by : (most : ℕ) → length (name ∷ rest) ≤ most → behind found (criteria_of most (name ∷ rest)) ≡ whole → whole ≡ None
    by zero few is = absurd (omega arith)
    by (suc most) few is =
        sym (sym (ap (λ first. behind found (option_and_then (λ (x : Criterion × List Word). option_and_then (λ rest. Some (x.0 ∷ rest)) (criteria_of most x.1)) first)) read) ∙ is)

pub ends : (found : List Criterion) (whole : Option (List Criterion)) → Left found [] whole → whole ≡ Some found
ends found whole left = by left.most left.is
  where
    by : (most : ℕ) → behind found (criteria_of most []) ≡ whole → whole ≡ Some found
    by zero is = sym is ∙ ap (λ criteria. Some criteria) (append-nil found)
    by (suc most) is = sym is ∙ ap (λ criteria. Some criteria) (append-nil found)

-- as the code does it: the words from a place on
texts_at : (words : List (Bor Word)) (i : ℕ) (d : Bor Word) → i < length words → drop i (texts words) ≡ (get_or words i d).now ∷ texts (drop (i + 1) words)
texts_at words i d within =
    let next : i + 1 ≡ suc i = omega arith in
    rw next (drop-map (λ (w : Bor Word). w.now) i words ∙ ap texts (drop-cons words i d within))

texts_behind : (words : List (Bor Word)) (start count : ℕ) → drop count (texts (drop (start + 1) words)) ≡ drop (start + (1 + count)) (texts words)
texts_behind words start count =
    let all : start + (1 + count) ≡ start + 1 + count = omega arith in
    rw all (ap (drop count) (sym (drop-map (λ (w : Bor Word). w.now) (start + 1) words)) ∙ drop-drop count (start + 1) (texts words))

pub one_step : (words rest : List (Bor Word)) (start count : ℕ) (d : Bor Word) (found after : List Criterion) (c : Criterion) (whole : Option (List Criterion)) → start < length words → rest ≡ drop (start + 1) words → named_criterion (get_or words start d).now (texts rest) ≡ Some (c, drop count (texts rest)) → after ≡ found ++ c ∷ [] → Left found (drop start (texts words)) whole → Left after (drop (start + (1 + count)) (texts words)) whole
one_step words rest start count d found after c whole within is read pushed left =
    let here : drop start (texts words) ≡ (get_or words start d).now ∷ texts rest = texts_at words start d within ∙ ap (λ ws. (get_or words start d).now ∷ texts ws) (sym is) in
    let there : drop count (texts rest) ≡ drop (start + (1 + count)) (texts words) = ap (λ ws. drop count (texts ws)) is ∙ texts_behind words start count in
    let fewer : length (drop count (texts rest)) ≤ length (texts rest) = rw (length-drop count (texts rest)) (omega arith) in
    rw pushed (subst (λ more. Left (found ++ c ∷ []) more whole) there
    (one_more found (get_or words start d).now (texts rest) c (drop count (texts rest)) whole (subst (λ ws. Left found ws whole) here left) read fewer))

pub none_step : (words rest : List (Bor Word)) (start : ℕ) (d : Bor Word) (found : List Criterion) (whole : Option (List Criterion)) → start < length words → rest ≡ drop (start + 1) words → Left found (drop start (texts words)) whole → named_criterion (get_or words start d).now (texts rest) ≡ None → whole ≡ None
none_step words rest start d found whole within is left read =
    let here : drop start (texts words) ≡ (get_or words start d).now ∷ texts rest = texts_at words start d within ∙ ap (λ ws. (get_or words start d).now ∷ texts ws) (sym is) in
    refused found (get_or words start d).now (texts rest) whole (subst (λ ws. Left found ws whole) here left) read

-- a reading that fails where another does
pub fails : {Z W : Type 0} (error : LineError) (o : Option Z) (p : Option W) → Gives {X = Z} (λ x. x) (Err error) o → (o ≡ None → p ≡ None) → Gives {X = W} (λ x. x) (Err error) p
fails Malformed o p none so = so none
fails Memory o p any so = tt
