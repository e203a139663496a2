-- What a state has open under a name, by what its session keeps of it.
use Rattle.std.proofs.Common.{◌≡◌, ℕ, List, map, Option, Some, None, Bool, refl, ap, sym, ◌∙◌}
use Rattle.std.specs.Prelude.{is_some}
use Rattle.std.specs.Option.{option_map}
use Rattle.std.proofs.lemmas.Option.{none-some, same_Some}
use Rattle.usb_session_calls.specs.Names.{named, is_free}
use Rattle.usb_session_calls.proofs.NameLemmas.{named-map, is_free-map}

-- something is open under a name, and seen as y
pub record KeptAt {X Y : Type 0} (v : X → Y) (xs : List (Option X)) (n : ℕ) (y : Y) : Type 0 where
  pub entry : X
  pub is : named xs n ≡ Some entry
  pub same : v entry ≡ y

kept_by : {X Y : Type 0} (v : X → Y) (xs : List (Option X)) (n : ℕ) (y : Y) (o : Option X) → named xs n ≡ o → option_map v o ≡ Some y → KeptAt v xs n y
kept_by v xs n y None at is = absurd (none-some y is)
kept_by v xs n y (Some x) at is = record { entry = x; is = at; same = same_Some (v x) y is }

pub unmapped : {X Y : Type 0} (f : X → Y) (o : Option X) → option_map f o ≡ None → o ≡ None
unmapped f None none = refl
unmapped f (Some x) none = absurd (none-some (f x) (sym none))

some-mapped : {X Y : Type 0} (f : X → Y) (o : Option X) → is_some (option_map f o) ≡ is_some o
some-mapped f None = refl
some-mapped f (Some x) = refl

-- each of the names is seen so
module _ {X Y : Type 0} (v : X → Y) (xs : List (Option X)) (ys : List (Option Y)) (kept : ys ≡ map (option_map v) xs) (n : ℕ) where
  pub seen : option_map v (named xs n) ≡ named ys n
  seen = sym (ap (λ l. named l n) kept ∙ named-map v xs n)

  pub kept-at : (y : Y) → named ys n ≡ Some y → KeptAt v xs n y
  kept-at y is = kept_by v xs n y (named xs n) refl (seen ∙ is)

  pub kept-none : named ys n ≡ None → named xs n ≡ None
  kept-none none = unmapped v (named xs n) (seen ∙ none)

  pub kept-some : (was : Bool) → is_some (named ys n) ≡ was → is_some (named xs n) ≡ was
  kept-some was is = sym (some-mapped v (named xs n)) ∙ ap is_some seen ∙ is

  pub kept-free : is_free xs n ≡ is_free ys n
  kept-free = sym (ap (λ l. is_free l n) kept ∙ is_free-map v xs n)
