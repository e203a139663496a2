-- What holds of each thing that is there.
use Rattle.std.proofs.Common.{ℕ, zero, suc, List, [], ◌∷◌, replicate, Option, Some, None}
use Rattle.std.specs.Option.{option_map}
use Rattle.usb_session_calls.specs.Names.{named, change_at, change_named, something, nothing, freed, set_name}

-- of a value, if there is one
abbrev pub Fits : {X : Type 0} → (X → Type 0) → Option X → Type 0
Fits P None = Unit {0}
Fits P (Some x) = P x

-- of what is open under each name
abbrev pub EachFits : {X : Type 0} → (X → Type 0) → List (Option X) → Type 0
EachFits P [] = Unit {0}
EachFits P (o ∷ os) = Fits P o × EachFits P os

module _ {X : Type 0} (P : X → Type 0) where
  pub named-fits : (xs : List (Option X)) (n : ℕ) → EachFits P xs → Fits P (named xs n)
  unfolding named
  named-fits [] n all = tt
  named-fits (o ∷ os) zero all = all.0
  named-fits (o ∷ os) (suc n) all = named-fits os n all.1

  change-fits : (f : Option X → Option X) → ((o : Option X) → Fits P o → Fits P (f o)) → (xs : List (Option X)) (n : ℕ) → EachFits P xs → EachFits P (change_at f xs n)
  change-fits f keeps [] n all = tt
  change-fits f keeps (o ∷ os) zero all = (keeps o all.0, all.1)
  change-fits f keeps (o ∷ os) (suc n) all = (all.0, change-fits f keeps os n all.1)

  map-fits : (f : X → X) → ((x : X) → P x → P (f x)) → (o : Option X) → Fits P o → Fits P (option_map f o)
  map-fits f keeps None is = tt
  map-fits f keeps (Some x) is = keeps x is

  pub changed-fits : (f : X → X) → ((x : X) → P x → P (f x)) → (xs : List (Option X)) (n : ℕ) → EachFits P xs → EachFits P (change_named f xs n)
  unfolding change_named
  changed-fits f keeps xs n all = change-fits (option_map f) (map-fits f keeps) xs n all

  pub freed-fits : (xs : List (Option X)) (n : ℕ) → EachFits P xs → EachFits P (freed xs n)
  unfolding freed
  freed-fits xs n all = change-fits nothing (λ o is. tt) xs n all

  pub set-fits : (xs : List (Option X)) (n : ℕ) (x : X) → P x → EachFits P xs → EachFits P (set_name xs n x)
  unfolding set_name
  set-fits xs n x here all = change-fits (something x) (λ o is. here) xs n all

  pub none-fit : (n : ℕ) → EachFits P (replicate n None)
  none-fit zero = tt
  none-fit (suc n) = (tt, none-fit n)
