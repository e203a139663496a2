-- Lemmas on settings that are put together by their interface number.
use Rattle.std.proofs.Common.{◌≡◌, ℕ, zero, suc, ◌+◌, ◌-◌, ◌<◌, ◌≤◌, true, cond, eqb, ltb, List, [], ◌∷◌, ◌++◌, length, set, get_or, refl, sym, ap, ◌∙◌, arith, append-nil, subst, Result, Ok, Err, OnOk, map, filter}
use Rattle.std.specs.Prelude.{insert}
use Rattle.std.specs.List.{range_with_len}
use Rattle.std.proofs.lemmas.Bool.{false≢true, cases_Bool, cases_eq, cond-true, cond-false, eq-eqb, ne_eqb, eqb-true, lt-ltb, le-ltb}
use Rattle.std.specs.List.Sorted.{IsStrictlyIncreasing}
use Rattle.std.proofs.lemmas.List.Kept.{AllPairs-from_increasing, IsStrictlyIncreasing-filter}
use Rattle.std.proofs.lemmas.List.FromFn.{length-range_with_len, get_or-range_with_len}
use Rattle.std.proofs.lemmas.List.{get_or_read, length-map}
use Rattle.std.proofs.Math.ListN.{get_or-map}
use Rattle.std.proofs.lemmas.List.Elements.{filter-append}
use mathlib.Core.Logic.{inl, inr}
use Rattle.usb_desc.specs.Fields.{interface_number}
use Rattle.usb_desc.specs.Interfaces.{has_any, settings_of, interfaces_with, interfaces_among, number_of}
use Rattle.usb_desc.specs.Lookups.{has_number}

-- the interfaces with so many numbers from one on
abbrev spread : ℕ → ℕ → List (List ℕ) → List (List (List ℕ))
spread from count settings = interfaces_with (range_with_len from count) settings

-- one more setting among interfaces by rising number
abbrev add : List ℕ → List (List (List ℕ)) → List (List (List ℕ))
add setting [] = (setting ∷ []) ∷ []
add setting (group ∷ groups) = cond (ltb (interface_number setting) (number_of group)) ((setting ∷ []) ∷ group ∷ groups)
    (cond (eqb (interface_number setting) (number_of group)) ((group ++ setting ∷ []) ∷ groups) (group ∷ add setting groups))

-- a setting of this number is kept, and another is not
more_of : (settings : List (List ℕ)) (setting : List ℕ) (number : ℕ) → interface_number setting ≡ number → settings_of (settings ++ setting ∷ []) number ≡ settings_of settings number ++ setting ∷ []
more_of settings setting number same = filter-append (has_number number) settings (setting ∷ []) ∙ ap (λ last. settings_of settings number ++ last) (cond-true (has_number number setting) (setting ∷ []) [] (eq-eqb _ _ same))

none_of : (settings : List (List ℕ)) (setting : List ℕ) (number : ℕ) → (interface_number setting ≡ number → ⊥) → settings_of (settings ++ setting ∷ []) number ≡ settings_of settings number
none_of settings setting number other = filter-append (has_number number) settings (setting ∷ []) ∙ ap (λ last. settings_of settings number ++ last) (cond-false (has_number number setting) (setting ∷ []) [] (ne_eqb _ _ other)) ∙ append-nil _

-- an interface stands before others, if it has a setting
abbrev front : List (List ℕ) → List (List (List ℕ)) → List (List (List ℕ))
front group groups = cond (has_any group) (group ∷ groups) groups

-- numbers above that of a setting have none of it
spread_above : (count from : ℕ) (settings : List (List ℕ)) (setting : List ℕ) → interface_number setting < from → spread from count (settings ++ setting ∷ []) ≡ spread from count settings
spread_above zero from settings setting above = refl
spread_above (suc count) from settings setting above =
    ap (λ group. front group (spread (from + 1) count (settings ++ setting ∷ []))) (none_of settings setting from (λ same. omega arith))
    ∙ ap (front (settings_of settings from)) (spread_above count (from + 1) settings setting (omega arith))

-- the first setting of an interface has its number
first_number : (settings : List (List ℕ)) (number : ℕ) → has_any (settings_of settings number) ≡ true → number_of (settings_of settings number) ≡ number
first_number [] number some = absurd (false≢true some)
first_number (setting ∷ settings) number some =
    elim (cases_Bool (has_number number setting)) [
      | inl is ↦ ap number_of (cond-true (has_number number setting) (setting ∷ settings_of settings number) (settings_of settings number) is) ∙ eqb-true (interface_number setting) number is
      | inr not ↦
          let skip : settings_of (setting ∷ settings) number ≡ settings_of settings number = cond-false (has_number number setting) (setting ∷ settings_of settings number) (settings_of settings number) not in
          ap number_of skip ∙ first_number settings number (ap has_any (sym skip) ∙ some)
    ]

-- the first interface, if there is one, has no number below this one
abbrev HeadFrom : ℕ → List (List (List ℕ)) → Type 0
HeadFrom from [] = Unit {0}
HeadFrom from (group ∷ groups) = from ≤ number_of group

head_below : (low from : ℕ) (groups : List (List (List ℕ))) → low ≤ from → HeadFrom from groups → HeadFrom low groups
head_below low from [] below head = tt
head_below low from (group ∷ groups) below head = omega arith

head_from : (count from : ℕ) (settings : List (List ℕ)) → HeadFrom from (spread from count settings)
head_from zero from settings = tt
head_from (suc count) from settings =
    elim (cases_Bool (has_any (settings_of settings from))) [
      | inl some ↦ subst (HeadFrom from) (sym (cond-true (has_any (settings_of settings from)) (settings_of settings from ∷ spread (from + 1) count settings) (spread (from + 1) count settings) some)) (let is = first_number settings from some in omega arith)
      | inr none ↦ subst (HeadFrom from) (sym (cond-false (has_any (settings_of settings from)) (settings_of settings from ∷ spread (from + 1) count settings) (spread (from + 1) count settings) none)) (head_below from (from + 1) (spread (from + 1) count settings) (omega arith) (head_from count (from + 1) settings))
    ]

-- a setting below the first interface comes before it
add_first : (setting : List ℕ) (from : ℕ) (groups : List (List (List ℕ))) → interface_number setting < from → HeadFrom from groups → add setting groups ≡ (setting ∷ []) ∷ groups
add_first setting from [] below head = refl
add_first setting from (group ∷ groups) below head = cond-true (ltb (interface_number setting) (number_of group)) _ _ (lt-ltb (interface_number setting) (number_of group) (omega arith))

-- a setting of the first interface goes to its end
add_same : (setting : List ℕ) (group : List (List ℕ)) (groups : List (List (List ℕ))) → interface_number setting ≡ number_of group → add setting (group ∷ groups) ≡ (group ++ setting ∷ []) ∷ groups
add_same setting group groups same =
    cond-false (ltb (interface_number setting) (number_of group)) _ _ (le-ltb (interface_number setting) (number_of group) (omega arith))
    ∙ cond-true (eqb (interface_number setting) (number_of group)) _ _ (eq-eqb (interface_number setting) (number_of group) same)

-- a setting of a later interface passes the first
add_later : (setting : List ℕ) (group : List (List ℕ)) (groups : List (List (List ℕ))) → number_of group < interface_number setting → add setting (group ∷ groups) ≡ group ∷ add setting groups
add_later setting group groups above =
    cond-false (ltb (interface_number setting) (number_of group)) _ _ (le-ltb (interface_number setting) (number_of group) (omega arith))
    ∙ cond-false (eqb (interface_number setting) (number_of group)) _ _ (ne_eqb (interface_number setting) (number_of group) (λ e. omega arith))

-- at the number of a setting
at_number : (from : ℕ) (group : List (List ℕ)) (rest : List (List (List ℕ))) (setting : List ℕ) → interface_number setting ≡ from → (has_any group ≡ true → number_of group ≡ from) → HeadFrom (from + 1) rest → front (group ++ setting ∷ []) rest ≡ add setting (front group rest)
at_number from [] rest setting same first head = sym (add_first setting (from + 1) rest (omega arith) head)
at_number from (one ∷ more) rest setting same first head = sym (add_same setting (one ∷ more) rest (same ∙ sym (first refl)))

past_number : (from : ℕ) (group : List (List ℕ)) (rest : List (List (List ℕ))) (setting : List ℕ) → from < interface_number setting → (has_any group ≡ true → number_of group ≡ from) → front group (add setting rest) ≡ add setting (front group rest)
past_number from [] rest setting above first = refl
past_number from (one ∷ more) rest setting above first =
    let is = first refl in
    sym (add_later setting (one ∷ more) rest (omega arith))

-- to put one more setting among settings is to add it to their interfaces
add_spread : (count from : ℕ) (settings : List (List ℕ)) (setting : List ℕ) → from ≤ interface_number setting → interface_number setting < from + count → spread from count (settings ++ setting ∷ []) ≡ add setting (spread from count settings)
add_spread zero from settings setting low high = absurd (omega arith)
add_spread (suc count) from settings setting low high =
    let group = settings_of settings from in
    let rest = spread (from + 1) count settings in
    elim (cases_eq (interface_number setting) from) [
      | inl same ↦
          let here : spread from (suc count) (settings ++ setting ∷ []) ≡ front (group ++ setting ∷ []) rest = ap (λ g. front g (spread (from + 1) count (settings ++ setting ∷ []))) (more_of settings setting from same) ∙ ap (front (group ++ setting ∷ [])) (spread_above count (from + 1) settings setting (omega arith)) in
          here ∙ at_number from group rest setting same (first_number settings from) (head_from count (from + 1) settings)
      | inr other ↦
          let here : spread from (suc count) (settings ++ setting ∷ []) ≡ front group (add setting rest) = ap (λ g. front g (spread (from + 1) count (settings ++ setting ∷ []))) (none_of settings setting from other) ∙ ap (front group) (add_spread count (from + 1) settings setting (omega arith) (omega arith)) in
          here ∙ past_number from group rest setting (omega arith) (first_number settings from)
    ]

pub interfaces_add : (settings : List (List ℕ)) (setting : List ℕ) → interface_number setting < 256 → interfaces_among (settings ++ setting ∷ []) ≡ add setting (interfaces_among settings)
unfolding interfaces_among
interfaces_add settings setting low = add_spread 256 0 settings setting (omega arith) (omega arith)

-- the place of a number among interfaces: all before it have lower numbers, and it has none
pub record IsPlace (number : ℕ) (groups : List (List (List ℕ))) (place : ℕ) : Type 0 where
  pub within : place ≤ length groups
  pub below : (k : ℕ) → k < place → number_of (get_or groups k []) < number
  pub at : place < length groups → number ≤ number_of (get_or groups place [])

place_behind : (number : ℕ) (group : List (List ℕ)) (groups : List (List (List ℕ))) (place : ℕ) → IsPlace number (group ∷ groups) (suc place) → IsPlace number groups place
place_behind number group groups place is = record {
  within = let within = is.within in omega arith;
  below = λ k low. is.below (suc k) (omega arith);
  at = λ inside. is.at (omega arith);
}

-- the setting of an interface that is there goes to its end
pub add_at_same : (setting : List ℕ) (groups : List (List (List ℕ))) (place : ℕ) → IsPlace (interface_number setting) groups place → place < length groups → number_of (get_or groups place []) ≡ interface_number setting → add setting groups ≡ set groups place (get_or groups place [] ++ setting ∷ [])
add_at_same setting [] place is inside same = absurd (omega arith)
add_at_same setting (group ∷ groups) zero is inside same = add_same setting group groups (sym same)
add_at_same setting (group ∷ groups) (suc place) is inside same =
    add_later setting group groups (is.below 0 (omega arith))
    ∙ ap (λ gs. group ∷ gs) (add_at_same setting groups place (place_behind _ group groups place is) (omega arith) same)

-- a setting of a new interface makes one at its place
pub add_at_new : (setting : List ℕ) (groups : List (List (List ℕ))) (place : ℕ) → IsPlace (interface_number setting) groups place → (place < length groups → number_of (get_or groups place []) ≡ interface_number setting → ⊥) → add setting groups ≡ insert groups place (setting ∷ [])
add_at_new setting [] zero is new = refl
add_at_new setting [] (suc place) is new = absurd (let within = is.within in omega arith)
add_at_new setting (group ∷ groups) zero is new =
    let at = is.at (omega arith) in
    let differs : number_of group ≡ interface_number setting → ⊥ = new (omega arith) in
    cond-true (ltb (interface_number setting) (number_of group)) _ _ (lt-ltb (interface_number setting) (number_of group) (omega arith))
add_at_new setting (group ∷ groups) (suc place) is new =
    add_later setting group groups (is.below 0 (omega arith))
    ∙ ap (λ gs. group ∷ gs) (add_at_new setting groups place (place_behind _ group groups place is) (λ inside. new (omega arith)))

-- where the place comes from a search
module _ (setting : List ℕ) (groups : List (List (List ℕ))) (place : ℕ) (low : interface_number setting < 256) (settings : List (List ℕ)) (are : groups ≡ interfaces_among settings) (is : IsPlace (interface_number setting) groups place) where
  pub added_same : (found held pushed : List (List ℕ)) → place < length groups → found ≡ get_or groups place found → number_of found ≡ interface_number setting → held ≡ get_or groups place held → pushed ≡ held ++ setting ∷ [] → set groups place pushed ≡ interfaces_among (settings ++ setting ∷ [])
  added_same found held pushed inside found_is same held_is pushed_is =
      let at = get_or_read groups place found inside found_is [] in
      let grown : get_or groups place [] ++ setting ∷ [] ≡ pushed = ap (λ group. group ++ setting ∷ []) (sym (get_or_read groups place held inside held_is [])) ∙ sym pushed_is in
      ap (set groups place) (sym grown)
      ∙ sym (add_at_same setting groups place is inside (ap number_of (sym at) ∙ same))
      ∙ ap (add setting) are
      ∙ sym (interfaces_add settings setting low)

  pub added_new : (place < length groups → number_of (get_or groups place []) ≡ interface_number setting → ⊥) → insert groups place (setting ∷ []) ≡ interfaces_among (settings ++ setting ∷ [])
  added_new new = sym (add_at_new setting groups place is new) ∙ ap (add setting) are ∙ sym (interfaces_add settings setting low)

-- what follows from a fact at an `Ok`
pub on_ok_then : {T E P Q : Type 0} (r : Result T E) → OnOk r P → (P → Q) → OnOk r Q
on_ok_then (Ok value) holds then = then holds
on_ok_then (Err error) holds then = tt

-- without settings there are no interfaces
spread_none : (count from : ℕ) → spread from count [] ≡ []
spread_none zero from = refl
spread_none (suc count) from = spread_none count (from + 1)

pub interfaces_none : interfaces_among [] ≡ []
unfolding interfaces_among
interfaces_none = spread_none 256 0

-- the numbers of the interfaces are those that some setting has
numbers_are : (numbers : List ℕ) (settings : List (List ℕ)) → map number_of (interfaces_with numbers settings) ≡ filter (λ number. has_any (settings_of settings number)) numbers
numbers_are [] settings = refl
numbers_are (number ∷ numbers) settings =
    elim (cases_Bool (has_any (settings_of settings number))) [
      | inl some ↦
          ap (map number_of) (cond-true (has_any (settings_of settings number)) (settings_of settings number ∷ interfaces_with numbers settings) (interfaces_with numbers settings) some)
          ∙ ap (λ n. n ∷ map number_of (interfaces_with numbers settings)) (first_number settings number some)
          ∙ ap (λ ns. number ∷ ns) (numbers_are numbers settings)
          ∙ sym (cond-true (has_any (settings_of settings number)) (number ∷ filter (λ n. has_any (settings_of settings n)) numbers) (filter (λ n. has_any (settings_of settings n)) numbers) some)
      | inr none ↦
          ap (map number_of) (cond-false (has_any (settings_of settings number)) (settings_of settings number ∷ interfaces_with numbers settings) (interfaces_with numbers settings) none)
          ∙ numbers_are numbers settings
          ∙ sym (cond-false (has_any (settings_of settings number)) (number ∷ filter (λ n. has_any (settings_of settings n)) numbers) (filter (λ n. has_any (settings_of settings n)) numbers) none)
    ]

range_increasing : (from count : ℕ) → IsStrictlyIncreasing (range_with_len from count)
range_increasing from count = λ k inside.
    let long : length (range_with_len from count) ≡ count = length-range_with_len from count in
    let here : get_or (range_with_len from count) k 0 ≡ from + k = get_or-range_with_len from count k 0 (omega arith) in
    let next : get_or (range_with_len from count) (k + 1) 0 ≡ from + (k + 1) = get_or-range_with_len from count (k + 1) 0 (omega arith) in
    omega arith

pub numbers_rise : (settings : List (List ℕ)) → IsStrictlyIncreasing (map number_of (interfaces_among settings))
unfolding interfaces_among
numbers_rise settings =
    subst IsStrictlyIncreasing (sym (numbers_are (range_with_len 0 256) settings)) (IsStrictlyIncreasing-filter (λ number. has_any (settings_of settings number)) (range_with_len 0 256) (range_increasing 0 256))

-- each interface's number is below those of the later ones
numbers_below : (settings : List (List ℕ)) (groups : List (List (List ℕ))) → groups ≡ interfaces_among settings → (i j : ℕ) → i < j → j < length groups → number_of (get_or groups i []) < number_of (get_or groups j [])
numbers_below settings groups are i j later inside =
    let rise : IsStrictlyIncreasing (map number_of groups) = subst (λ gs. IsStrictlyIncreasing (map number_of gs)) (sym are) (numbers_rise settings) in
    let pair = AllPairs-from_increasing (map number_of groups) rise i j (number_of []) later (rw (length-map groups number_of) inside) in
    rw (sym (get_or-map number_of groups i []), sym (get_or-map number_of groups j [])) pair

-- a place that is sought from the back is that of the number, since the numbers rise
pub place_from_back : (number : ℕ) (settings : List (List ℕ)) (groups : List (List (List ℕ))) (place : ℕ) → groups ≡ interfaces_among settings → place ≤ length groups → (0 < place → number_of (get_or groups (place - 1) []) < number) → ((k : ℕ) → place ≤ k → k < length groups → number ≤ number_of (get_or groups k [])) → IsPlace number groups place
place_from_back number settings groups place are within below behind = record {
  within = within;
  below = λ k low.
      let last = below (omega arith) in
      elim (cases_eq k (place - 1)) [
        | inl same ↦ subst (λ i. number_of (get_or groups i []) < number) (sym same) last
        | inr other ↦ let lower = numbers_below settings groups are k (place - 1) (omega arith) (omega arith) in omega arith
      ];
  at = λ inside. behind place (omega arith) inside;
}
