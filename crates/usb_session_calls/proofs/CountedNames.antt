-- An interface has as many open handles as there are names of it.
use Rattle.std.proofs.Common.{◌≡◌, ◌≢◌, ℕ, zero, suc, ◌<◌, ◌+◌, ◌-◌, arith, Bool, true, false, cond, List, [], ◌∷◌, ◌++◌, length, set, slice_get, Option, Some, None, refl, ap, sym, ◌∙◌, subst, inl, inr}
use Rattle.std.specs.Prelude.{◌==◌}
use Rattle.std.specs.List.{count_by}
use Rattle.std.proofs.lemmas.Bool.{eq-eqb, ne_eqb}
use Rattle.std.proofs.lemmas.Option.{none-some, same_Some}
use Rattle.std.proofs.lemmas.List.Sums.{sum_by-cons}
use Rattle.usb_device_ledger.specs.OwnerRows.{one_if}
use Rattle.usb_device_ledger.specs.Entries.{ClaimedInterface}
use Rattle.usb_device_host.specs.HandleStates.{InterfaceState}
use Rattle.usb_device_tables.specs.History.{value_at}
use Rattle.usb_device_tables.proofs.ValueLemmas.{value-within, value-put, value-push_cases}
use Rattle.usb_device_ledger.proofs.ListLemmas.{count-some}
use Rattle.usb_device_host.specs.HostFrames.{ClaimsGoOn}
use Rattle.usb_session_calls.specs.Names.{named, is_free, change_at, freed, nothing, set_name, something}
use Rattle.usb_session_calls.specs.SessionState.{is_handle_of}
use Rattle.usb_session_calls.proofs.NameLemmas.{free_place, place_of, named_of}

-- how a count changes with the element at a place
count-cons : {X : Type 0} (p : X → Bool) (x : X) (xs : List X) → count_by p (x ∷ xs) ≡ one_if (p x) + count_by p xs
count-cons p x xs = sum_by-cons (λ x. cond (p x) 1 0) x xs

pub count-change : {X : Type 0} (p : X → Bool) (f : X → X) (xs : List X) (n : ℕ) (x : X) → slice_get xs n ≡ Some x → count_by p (change_at f xs n) + one_if (p x) ≡ count_by p xs + one_if (p (f x))
count-change p f [] n x at = absurd (none-some x at)
count-change p f (y ∷ ys) zero x at =
    let same : y ≡ x = same_Some y x at in
    let here : one_if (p y) ≡ one_if (p x) = ap (λ z. one_if (p z)) same in
    let there : one_if (p (f y)) ≡ one_if (p (f x)) = ap (λ z. one_if (p (f z))) same in
    omega (arith, here, there, count-cons p y ys, count-cons p (f y) ys)
count-change p f (y ∷ ys) (suc n) x at =
    let rest = count-change p f ys n x at in
    omega (arith, rest, count-cons p y ys, count-cons p y (change_at f ys n))

pub count-none : {X : Type 0} (p : X → Bool) (xs : List X) → ((n : ℕ) (x : X) → slice_get xs n ≡ Some x → p x ≡ false) → count_by p xs ≡ 0
count-none p [] none = refl
count-none p (x ∷ xs) none =
    let here : one_if (p x) ≡ 0 = ap one_if (none 0 x refl) in
    let rest = count-none p xs (λ n y at. none (suc n) y at) in
    omega (arith, here, rest, count-cons p x xs)

-- a name that was free is opened
pub count-set_name : (key : ℕ) (xs : List (Option InterfaceState)) (n : ℕ) (f : InterfaceState) → is_free xs n ≡ true → count_by (is_handle_of key) (set_name xs n f) ≡ count_by (is_handle_of key) xs + one_if (f.key == key)
unfolding set_name
count-set_name key xs n f free = let change = count-change (is_handle_of key) (something f) xs n None (free_place xs n free) in omega (arith, change)

-- one that was open is freed
pub count-freed : (key : ℕ) (xs : List (Option InterfaceState)) (n : ℕ) (f : InterfaceState) → named xs n ≡ Some f → count_by (is_handle_of key) (freed xs n) + one_if (f.key == key) ≡ count_by (is_handle_of key) xs
unfolding freed
count-freed key xs n f at = let change = count-change (is_handle_of key) nothing xs n (Some f) (place_of xs n f at) in omega (arith, change)

-- no name is one of it
no_handle : (key : ℕ) (xs : List (Option InterfaceState)) → ((n : ℕ) (f : InterfaceState) → named xs n ≡ Some f → f.key ≢ key) → (n : ℕ) (o : Option InterfaceState) → slice_get xs n ≡ Some o → is_handle_of key o ≡ false
no_handle key xs apart n None at = refl
no_handle key xs apart n (Some f) at = ne_eqb f.key key (apart n f (named_of xs n (Some f) at))

pub count-no_name : (key : ℕ) (xs : List (Option InterfaceState)) → ((n : ℕ) (f : InterfaceState) → named xs n ≡ Some f → f.key ≢ key) → count_by (is_handle_of key) xs ≡ 0
count-no_name key xs apart = count-none (is_handle_of key) xs (no_handle key xs apart)

-- each claimed interface has as many handles as names
abbrev pub Counted : List (Option ClaimedInterface) → List (Option InterfaceState) → Type 0
Counted claims names = (key : ℕ) (c : ClaimedInterface) → value_at claims key ≡ Some c → count_by (is_handle_of key) names ≡ c.handles

pub counted-same : (claims now : List (Option ClaimedInterface)) (names : List (Option InterfaceState)) → now ≡ claims → Counted claims names → Counted now names
counted-same claims now names same counted = subst (λ l. Counted l names) (sym same) counted

pub counted-goes : (claims now : List (Option ClaimedInterface)) (names : List (Option InterfaceState)) → ClaimsGoOn claims now → Counted claims names → Counted now names
counted-goes claims now names goes counted key c at = counted key c (goes.was key c at)

-- so an interface with a name has an open handle
pub counted-open : (claims : List (Option ClaimedInterface)) (names : List (Option InterfaceState)) (n : ℕ) (f : InterfaceState) (c : ClaimedInterface) → Counted claims names → named names n ≡ Some f → value_at claims f.key ≡ Some c → 0 < c.handles
counted-open claims names n f c counted at here =
    let some = count-some (is_handle_of f.key) names n (Some f) (place_of names n f at) (eq-eqb f.key f.key refl) in
    omega (arith, some, counted f.key c here)

-- one more interface is claimed, under a name that was free
pub counted-claimed : (claims now : List (Option ClaimedInterface)) (names after : List (Option InterfaceState)) (n : ℕ) (f : InterfaceState) (c : ClaimedInterface) → Counted claims names → ((m : ℕ) (g : InterfaceState) → named names m ≡ Some g → g.key < length claims) → f.key ≡ length claims → c.handles ≡ 1 → now ≡ claims ++ Some c ∷ [] → is_free names n ≡ true → after ≡ set_name names n f → Counted now after
counted-claimed claims now names after n f c counted below next one is free put key d at =
    let more = ap (count_by (is_handle_of key)) put ∙ count-set_name key names n f free in
    elim (value-push_cases claims c d key (ap (λ l. value_at l key) (sym is) ∙ at)) [
      | inl last ↦
          let none = count-no_name key names (λ m g open_ same. absurd (apart g.key key (length claims) (below m g open_) last.0 same)) in
          let here : one_if (f.key == key) ≡ 1 = ap one_if (eq-eqb f.key key (next ∙ sym last.0)) in
          let handles : d.handles ≡ 1 = ap (λ (z : ClaimedInterface). z.handles) last.1 ∙ one in
          omega (arith, more, none, here, handles)
      | inr old ↦
          let other : one_if (f.key == key) ≡ 0 = ap one_if (ne_eqb f.key key (λ same. absurd (apart key f.key (length claims) (value-within claims key d old.1) next (sym same)))) in
          omega (arith, more, other, counted key d old.1)
    ]
  where
    apart : (a b l : ℕ) → a < l → b ≡ l → a ≢ b
    apart a b l less is = λ same. absurd (omega (arith, less, is, same))

-- one interface is written, whose names are as many as its handles then
pub counted-set : (claims now : List (Option ClaimedInterface)) (names after : List (Option InterfaceState)) (k : ℕ) (c : ClaimedInterface) → Counted claims names → now ≡ set claims k (Some c) → count_by (is_handle_of k) after ≡ c.handles → ((key : ℕ) → k ≢ key → count_by (is_handle_of key) after ≡ count_by (is_handle_of key) names) → Counted now after
counted-set claims now names after k c counted is here others key d at =
    elim (value-put claims k key c d (ap (λ l. value_at l key) (sym is) ∙ at)) [
      | inl this ↦ rw (this.0, this.1) here
      | inr other ↦ others key (λ same. other.0 (sym same)) ∙ counted key d other.1
    ]

-- a handle of it is closed
pub counted-closed : (claims now : List (Option ClaimedInterface)) (names after : List (Option InterfaceState)) (n : ℕ) (f : InterfaceState) (c d : ClaimedInterface) → Counted claims names → value_at claims f.key ≡ Some c → now ≡ set claims f.key (Some d) → d.handles ≡ c.handles - 1 → named names n ≡ Some f → after ≡ freed names n → Counted now after
counted-closed claims now names after n f c d counted at is less open_ rest =
    let here : one_if (f.key == f.key) ≡ 1 = ap one_if (eq-eqb f.key f.key refl) in
    counted-set claims now names after f.key d counted is
    (ap (count_by (is_handle_of f.key)) rest ∙ omega (arith, count-freed f.key names n f open_, here, counted f.key c at, less))
    (λ key apart.
    let other : one_if (f.key == key) ≡ 0 = ap one_if (ne_eqb f.key key apart) in
    ap (count_by (is_handle_of key)) rest ∙ omega (arith, count-freed key names n f open_, other))

-- one more handle of it is open
pub counted-cloned : (claims now : List (Option ClaimedInterface)) (names after : List (Option InterfaceState)) (n : ℕ) (f : InterfaceState) (c d : ClaimedInterface) → Counted claims names → value_at claims f.key ≡ Some c → now ≡ set claims f.key (Some d) → d.handles ≡ c.handles + 1 → is_free names n ≡ true → after ≡ set_name names n f → Counted now after
counted-cloned claims now names after n f c d counted at is more free put =
    let here : one_if (f.key == f.key) ≡ 1 = ap one_if (eq-eqb f.key f.key refl) in
    counted-set claims now names after f.key d counted is
    (ap (count_by (is_handle_of f.key)) put ∙ omega (arith, count-set_name f.key names n f free, here, counted f.key c at, more))
    (λ key apart.
    let other : one_if (f.key == key) ≡ 0 = ap one_if (ne_eqb f.key key apart) in
    ap (count_by (is_handle_of key)) put ∙ omega (arith, count-set_name key names n f free, other))

-- it has as many as before
pub counted-changed : (claims now : List (Option ClaimedInterface)) (names : List (Option InterfaceState)) (k : ℕ) (c d : ClaimedInterface) → Counted claims names → value_at claims k ≡ Some c → now ≡ set claims k (Some d) → d.handles ≡ c.handles → Counted now names
counted-changed claims now names k c d counted at is same = counted-set claims now names names k d counted is (counted k c at ∙ sym same) (λ key apart. refl)
