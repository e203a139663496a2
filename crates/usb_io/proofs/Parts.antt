-- What acknowledgements take is the pieces of the transfer, in order.
use Rattle.std.proofs.Common.{◌∙◌, ◌≡◌, ℕ, ◌+◌, ◌*◌, ◌-◌, ◌<◌, ◌≤◌, arith, List, [], ◌∷◌, ◌++◌, length, length-take, length-drop, append_assoc, refl, ap, sym, ◌⊎◌, inl, inr, zero, suc, take, drop}
use Rattle.std.specs.Prelude.{min}
use Rattle.std.proofs.lemmas.List.{take_all, drop-drop}
use Rattle.std.proofs.lemmas.Bool.{cases_lt, le-leb, lt-leb}
use Rattle.usb_io.specs.Writes.{pieces_within, pieces}

-- the packet that one more acknowledgement takes after k of them
abbrev pub piece : ℕ → List ℕ → ℕ → List ℕ
piece m bytes k = take (min (length bytes) (m * (k + 1)) - min (length bytes) (m * k)) (drop (min (length bytes) (m * k)) bytes)

-- the packets that the first k acknowledgements take
abbrev pub parts : ℕ → List ℕ → ℕ → List (List ℕ)
parts m bytes zero = []
parts m bytes (suc k) = parts m bytes k ++ piece m bytes k ∷ []

fuel : (f g m : ℕ) (x : List ℕ) → 0 < m → length x ≤ f → length x ≤ g → pieces_within f m x ≡ pieces_within g m x
fuel zero zero m x some a b = refl
fuel zero (suc g) m x some a b = let less : length x ≤ m = omega arith in rw (le-leb (length x) m less) refl
fuel (suc f) zero m x some a b = let less : length x ≤ m = omega arith in rw (le-leb (length x) m less) refl
fuel (suc f) (suc g) m x some a b =
    elim (cases_lt m (length x)) [
      | inl more ↦ rw (lt-leb (length x) m more, fuel f g m (drop m x) some (omega (arith, length-drop m x)) (omega (arith, length-drop m x))) refl
      | inr one ↦ rw (le-leb (length x) m one) refl
    ]

pieces-step : (m : ℕ) (x : List ℕ) → 0 < m → m < length x → pieces m x ≡ take m x ∷ pieces m (drop m x)
pieces-step m x some more = start (length x) refl
  where
    start : (n : ℕ) → length x ≡ n → pieces_within n m x ≡ take m x ∷ pieces m (drop m x)
    start zero is = absurd (omega arith)
    start (suc n) is = rw (lt-leb (length x) m more, fuel n (length (drop m x)) m (drop m x) some (omega (arith, length-drop m x)) (omega arith)) refl

pub pieces-last : (m : ℕ) (x : List ℕ) → length x ≤ m → pieces m x ≡ x ∷ []
pieces-last m x one = start (length x)
  where
    start : (n : ℕ) → pieces_within n m x ≡ x ∷ []
    start zero = refl
    start (suc n) = rw (le-leb (length x) m one) refl

pub parts-next : (m : ℕ) (bytes : List ℕ) (k : ℕ) → parts m bytes (k + 1) ≡ parts m bytes k ++ piece m bytes k ∷ []
parts-next m bytes k = let e : k + 1 ≡ suc k = omega arith in ap (parts m bytes) e

-- after k acknowledgements there is more to send
abbrev pub HasMore : ℕ → List ℕ → ℕ → Type 0
HasMore m bytes k = (k ≡ 0) ⊎ (m * k < length bytes)

piece-full : (m : ℕ) (bytes : List ℕ) (k : ℕ) → m * (k + 1) ≤ length bytes → piece m bytes k ≡ take m (drop (m * k) bytes)
piece-full m bytes k fits =
    let a : min (length bytes) (m * (k + 1)) - min (length bytes) (m * k) ≡ m = omega arith in
    let b : min (length bytes) (m * k) ≡ m * k = omega arith in
    rw (a, b) refl

piece-last : (m : ℕ) (bytes : List ℕ) (k : ℕ) → m * k ≤ length bytes → length bytes ≤ m * (k + 1) → piece m bytes k ≡ drop (m * k) bytes
piece-last m bytes k below over =
    let b : min (length bytes) (m * k) ≡ m * k = omega arith in
    rw b (take_all (min (length bytes) (m * (k + 1)) - m * k) (drop (m * k) bytes) (omega (arith, length-drop (m * k) bytes)))

more-le : (m : ℕ) (bytes : List ℕ) (k : ℕ) → HasMore m bytes k → m * k ≤ length bytes
more-le m bytes k (inl none) = rw none (omega arith)
more-le m bytes k (inr more) = omega arith

pub parts-rest : (m : ℕ) (bytes : List ℕ) (k : ℕ) → 0 < m → HasMore m bytes k → parts m bytes k ++ pieces m (drop (m * k) bytes) ≡ pieces m bytes
parts-rest m bytes zero some more = let z : m * 0 ≡ 0 = omega arith in rw z refl
parts-rest m bytes (suc k) some (inl none) = absurd (omega arith)
parts-rest m bytes (suc k) some (inr more) =
    let up : m * suc k ≡ m * (k + 1) = omega arith in
    let sum : m * (k + 1) ≡ m * k + m = omega arith in
    let before : HasMore m bytes k = inr (omega arith) in
    let h = parts-rest m bytes k some before in
    let long : m < length (drop (m * k) bytes) = omega (arith, length-drop (m * k) bytes) in
    let next : drop m (drop (m * k) bytes) ≡ drop (m * suc k) bytes = drop-drop m (m * k) bytes ∙ ap (λ (n : ℕ). drop n bytes) (omega arith) in
    rw (piece-full m bytes k (omega arith), ← next)
    (append_assoc (parts m bytes k) (take m (drop (m * k) bytes) ∷ []) (pieces m (drop m (drop (m * k) bytes)))
    ∙ (ap (λ (xs : List (List ℕ)). parts m bytes k ++ xs) (sym (pieces-step m (drop (m * k) bytes) some long)) ∙ h))

pub parts-all : (m : ℕ) (bytes : List ℕ) (k : ℕ) → 0 < m → HasMore m bytes k → length bytes ≤ m * (k + 1) → parts m bytes (k + 1) ≡ pieces m bytes
parts-all m bytes k some more over =
    let h = parts-rest m bytes k some more in
    let last = pieces-last m (drop (m * k) bytes) (omega (arith, length-drop (m * k) bytes)) in
    parts-next m bytes k ∙ (ap (λ (x : List ℕ). parts m bytes k ++ x ∷ []) (piece-last m bytes k (more-le m bytes k more) over) ∙ (ap (λ (xs : List (List ℕ)). parts m bytes k ++ xs) (sym last) ∙ h))

pub piece-fits : (m : ℕ) (bytes : List ℕ) (k : ℕ) → length (piece m bytes k) ≤ m
piece-fits m bytes k =
    let count = length-take (min (length bytes) (m * (k + 1)) - min (length bytes) (m * k)) (drop (min (length bytes) (m * k)) bytes) in
    omega (arith, count)
