-- Names: what is open under each.
use Rattle.std.proofs.Common.{◌≡◌, ◌≢◌, ℕ, ◌<◌, ◌≤◌, suc, zero, arith, List, [], ◌∷◌, ◌++◌, length, set, get_or, map, replicate, Option, Some, None, Bor, Bool, true, refl, ap, sym, ◌∙◌, slice_get, inl, inr, ◌⊎◌}
use Rattle.std.proofs.lemmas.Bool.{cases_eq}
use Rattle.std.specs.Option.{option_map, option_copied}
use Rattle.std.proofs.lemmas.Iterator.Adapters.{option_map_id}
use Rattle.std.proofs.lemmas.Option.{slice_get-map, slice_get_past, slice_get_read, slice_get_within, none-some, same_Some}
use Rattle.usb_session_calls.specs.Names.{named, flat, is_free, is_free_place, change_at, change_named, freed, nothing, set_name, something}

-- a change at a place, read back
pub slice_get-change : {X : Type 0} (f : X → X) (xs : List X) (n : ℕ) → slice_get (change_at f xs n) n ≡ option_map f (slice_get xs n)
slice_get-change f [] n = refl
slice_get-change f (x ∷ xs) zero = refl
slice_get-change f (x ∷ xs) (suc n) = slice_get-change f xs n

pub slice_get-change_other : {X : Type 0} (f : X → X) (xs : List X) (n m : ℕ) → m ≢ n → slice_get (change_at f xs n) m ≡ slice_get xs m
slice_get-change_other f [] n m apart = refl
slice_get-change_other f (x ∷ xs) zero zero apart = absurd (apart refl)
slice_get-change_other f (x ∷ xs) zero (suc m) apart = refl
slice_get-change_other f (x ∷ xs) (suc n) zero apart = refl
slice_get-change_other f (x ∷ xs) (suc n) (suc m) apart = slice_get-change_other f xs n m (λ same. apart (omega arith))

pub length-change : {X : Type 0} (f : X → X) (xs : List X) (n : ℕ) → length (change_at f xs n) ≡ length xs
length-change f [] n = refl
length-change f (x ∷ xs) zero = refl
length-change f (x ∷ xs) (suc n) = ap (λ m. suc m) (length-change f xs n)

pub map-change : {X Y : Type 0} (v : X → Y) (f : X → X) (g : Y → Y) (xs : List X) (n : ℕ) → ((x : X) → slice_get xs n ≡ Some x → v (f x) ≡ g (v x)) → map v (change_at f xs n) ≡ change_at g (map v xs) n
map-change v f g [] n same = refl
map-change v f g (x ∷ xs) zero same = let first = same x refl in cc
map-change v f g (x ∷ xs) (suc n) same = let others = map-change v f g xs n same in cc

pub change-change : {X : Type 0} (f g h : X → X) (xs : List X) (n : ℕ) → ((x : X) → slice_get xs n ≡ Some x → g (f x) ≡ h x) → change_at g (change_at f xs n) n ≡ change_at h xs n
change-change f g h [] n same = refl
change-change f g h (x ∷ xs) zero same = let first = same x refl in cc
change-change f g h (x ∷ xs) (suc n) same = let others = change-change f g h xs n same in cc

change-same : {X : Type 0} (f : X → X) (xs : List X) (n : ℕ) → ((x : X) → slice_get xs n ≡ Some x → f x ≡ x) → change_at f xs n ≡ xs
change-same f [] n same = refl
change-same f (x ∷ xs) zero same = let first = same x refl in cc
change-same f (x ∷ xs) (suc n) same = let others = change-same f xs n same in cc

pub change-beyond : {X : Type 0} (f : X → X) (xs : List X) (n : ℕ) → length xs ≤ n → change_at f xs n ≡ xs
change-beyond f [] n beyond = refl
change-beyond f (x ∷ xs) zero beyond = absurd (omega arith)
change-beyond f (x ∷ xs) (suc n) beyond = let e = change-beyond f xs n (omega arith) in cc

-- what is written at a place
pub set-change : {X : Type 0} (f : X → X) (x : X) (xs : List X) (n : ℕ) → ((y : X) → f y ≡ x) → set xs n x ≡ change_at f xs n
set-change f x [] n same = refl
set-change f x (y ∷ ys) zero same = let first = same y in cc
set-change f x (y ∷ ys) (suc n) same = let others = set-change f x ys n same in cc

-- what is open under a name stands at its place
place : {X : Type 0} (o : Option (Option X)) (x : X) → flat o ≡ Some x → o ≡ Some (Some x)
place None x is = absurd (none-some x is)
place (Some o) x is = ap (λ p. Some p) is

pub place_of : {X : Type 0} (xs : List (Option X)) (n : ℕ) (x : X) → named xs n ≡ Some x → slice_get xs n ≡ Some (Some x)
unfolding named
place_of xs n x is = place (slice_get xs n) x is

-- and the other way round
pub named_of : {X : Type 0} (xs : List (Option X)) (n : ℕ) (o : Option X) → slice_get xs n ≡ Some o → named xs n ≡ o
unfolding named
named_of xs n o is = ap flat is

flat-map : {X Y : Type 0} (f : X → Y) (o : Option (Option X)) → flat (option_map (option_map f) o) ≡ option_map f (flat o)
flat-map f None = refl
flat-map f (Some o) = refl

pub named-map : {X Y : Type 0} (f : X → Y) (xs : List (Option X)) (n : ℕ) → named (map (option_map f) xs) n ≡ option_map f (named xs n)
unfolding named
named-map f xs n = rw (slice_get-map (option_map f) xs n) (flat-map f (slice_get xs n))

free-map : {X Y : Type 0} (f : X → Y) (o : Option (Option X)) → is_free_place (option_map (option_map f) o) ≡ is_free_place o
free-map f None = refl
free-map f (Some None) = refl
free-map f (Some (Some x)) = refl

pub is_free-map : {X Y : Type 0} (f : X → Y) (xs : List (Option X)) (n : ℕ) → is_free (map (option_map f) xs) n ≡ is_free xs n
unfolding is_free
is_free-map f xs n = rw (slice_get-map (option_map f) xs n) (free-map f (slice_get xs n))

-- what is open under a name after a change
flat-change : {X : Type 0} (f : X → X) (o : Option (Option X)) → flat (option_map (option_map f) o) ≡ option_map f (flat o)
flat-change f o = flat-map f o

pub named-change_same : {X : Type 0} (f : X → X) (xs : List (Option X)) (n : ℕ) → named (change_named f xs n) n ≡ option_map f (named xs n)
unfolding named change_named
named-change_same f xs n = rw (slice_get-change (option_map f) xs n) (flat-change f (slice_get xs n))

pub named-change_other : {X : Type 0} (f : X → X) (xs : List (Option X)) (n m : ℕ) → m ≢ n → named (change_named f xs n) m ≡ named xs m
unfolding named change_named
named-change_other f xs n m apart = rw (slice_get-change_other (option_map f) xs n m apart) refl

flat-nothing : {X : Type 0} (o : Option (Option X)) → flat (option_map nothing o) ≡ None
flat-nothing None = refl
flat-nothing (Some o) = refl

pub named-freed : {X : Type 0} (xs : List (Option X)) (n : ℕ) → named (freed xs n) n ≡ None
unfolding named freed
named-freed xs n = rw (slice_get-change nothing xs n) (flat-nothing (slice_get xs n))

pub named-freed_other : {X : Type 0} (xs : List (Option X)) (n m : ℕ) → m ≢ n → named (freed xs n) m ≡ named xs m
unfolding named freed
named-freed_other xs n m apart = rw (slice_get-change_other nothing xs n m apart) refl

free-is : {X : Type 0} (o : Option (Option X)) → is_free_place o ≡ true → o ≡ Some None
free-is None free = cc
free-is (Some None) free = refl
free-is (Some (Some x)) free = cc

pub free_place : {X : Type 0} (xs : List (Option X)) (n : ℕ) → is_free xs n ≡ true → slice_get xs n ≡ Some None
unfolding is_free
free_place xs n free = free-is (slice_get xs n) free

pub free-none : {X : Type 0} (xs : List (Option X)) (n : ℕ) → is_free xs n ≡ true → named xs n ≡ None
free-none xs n free = named_of xs n None (free_place xs n free)

pub named-set : {X : Type 0} (xs : List (Option X)) (n : ℕ) (x : X) → is_free xs n ≡ true → named (set_name xs n x) n ≡ Some x
unfolding named set_name
named-set xs n x free = rw (slice_get-change (something x) xs n, free_place xs n free) refl

pub named-set_other : {X : Type 0} (xs : List (Option X)) (n m : ℕ) (x : X) → m ≢ n → named (set_name xs n x) m ≡ named xs m
unfolding named set_name
named-set_other xs n m x apart = rw (slice_get-change_other (something x) xs n m apart) refl

-- a name that was freed is free, and only names that are there can be
free-nothing : {X : Type 0} (o : Option (Option X)) (x : X) → flat o ≡ Some x → is_free_place (option_map nothing o) ≡ true
free-nothing None x is = absurd (none-some x is)
free-nothing (Some o) x is = refl

pub freed-free : {X : Type 0} (xs : List (Option X)) (n : ℕ) (x : X) → named xs n ≡ Some x → is_free (freed xs n) n ≡ true
unfolding is_free named freed
freed-free xs n x is = rw (slice_get-change nothing xs n) (free-nothing (slice_get xs n) x is)

-- what was taken out is put back, changed
pub put-changed : {X : Type 0} (f : X → X) (xs : List (Option X)) (n : ℕ) (x y : X) → named xs n ≡ Some x → f x ≡ y → set_name (freed xs n) n y ≡ change_named f xs n
unfolding set_name freed change_named
put-changed f xs n x y is same =
    change-change nothing (something y) (option_map f) xs n
    (λ o at. sym (ap (option_map f) (same_Some o (Some x) (sym at ∙ place_of xs n x is)) ∙ ap (λ z. Some z) same))

-- or as it was
pub put-back : {X : Type 0} (xs : List (Option X)) (n : ℕ) (x : X) → named xs n ≡ Some x → set_name (freed xs n) n x ≡ xs
unfolding set_name freed
put-back xs n x is =
    change-change nothing (something x) (λ o. o) xs n (λ o at. sym (same_Some o (Some x) (sym at ∙ place_of xs n x is))) ∙ change-same (λ o. o) xs n (λ o at. refl)

-- a change that leaves what is open as it is
pub change_named-none : {X : Type 0} (xs : List (Option X)) (n : ℕ) → change_named (λ x. x) xs n ≡ xs
unfolding change_named
change_named-none xs n = change-same (option_map (λ x. x)) xs n (λ o at. option_map_id o)

-- names seen through a function
pub map-freed : {X Y : Type 0} (v : X → Y) (xs : List (Option X)) (n : ℕ) → map (option_map v) (freed xs n) ≡ freed (map (option_map v) xs) n
unfolding freed
map-freed v xs n = map-change (option_map v) nothing nothing xs n (λ x at. refl)

pub map-set : {X Y : Type 0} (v : X → Y) (xs : List (Option X)) (n : ℕ) (x : X) → map (option_map v) (set_name xs n x) ≡ set_name (map (option_map v) xs) n (v x)
unfolding set_name
map-set v xs n x = map-change (option_map v) (something x) (something (v x)) xs n (λ o at. refl)

option_map-change : {X Y : Type 0} (v : X → Y) (f : X → X) (g : Y → Y) (o : Option X) → ((x : X) → o ≡ Some x → v (f x) ≡ g (v x)) → option_map v (option_map f o) ≡ option_map g (option_map v o)
option_map-change v f g None same = refl
option_map-change v f g (Some x) same = ap (λ y. Some y) (same x refl)

pub map-change_named : {X Y : Type 0} (v : X → Y) (f : X → X) (g : Y → Y) (xs : List (Option X)) (n : ℕ) → ((x : X) → named xs n ≡ Some x → v (f x) ≡ g (v x)) → map (option_map v) (change_named f xs n) ≡ change_named g (map (option_map v) xs) n
unfolding change_named
map-change_named v f g xs n same =
    map-change (option_map v) (option_map f) (option_map g) xs n
    (λ o at. option_map-change v f g o (λ x is. same x (named_of xs n o at ∙ is)))

pub length-change_named : {X : Type 0} (f : X → X) (xs : List (Option X)) (n : ℕ) → length (change_named f xs n) ≡ length xs
unfolding change_named
length-change_named f xs n = length-change (option_map f) xs n

pub length-freed : {X : Type 0} (xs : List (Option X)) (n : ℕ) → length (freed xs n) ≡ length xs
unfolding freed
length-freed xs n = length-change nothing xs n

pub length-set_name : {X : Type 0} (xs : List (Option X)) (n : ℕ) (x : X) → length (set_name xs n x) ≡ length xs
unfolding set_name
length-set_name xs n x = length-change (something x) xs n

-- nothing was open under the name
freed-is : {X : Type 0} (o : Option X) (p : Option (Option X)) → p ≡ Some o → flat p ≡ None → nothing o ≡ o
freed-is None p at none = refl
freed-is (Some x) p at none = absurd (none-some x (sym none ∙ ap flat at))

pub freed-none : {X : Type 0} (xs : List (Option X)) (n : ℕ) → named xs n ≡ None → freed xs n ≡ xs
unfolding freed named
freed-none xs n none = change-same nothing xs n (λ o at. freed-is o (slice_get xs n) at none)

-- names under which nothing is open
pub named-replicate : {X : Type 0} (n e : ℕ) → named {X = X} (replicate n None) e ≡ None
unfolding named
named-replicate zero e = refl
named-replicate (suc n) zero = refl
named-replicate (suc n) (suc e) = named-replicate n e

pub map-replicate : {X Y : Type 0} (f : X → Y) (n : ℕ) → replicate n None ≡ map (option_map f) (replicate n None)
map-replicate f zero = refl
map-replicate f (suc n) = ap (λ xs. None ∷ xs) (map-replicate f n)

-- reading and writing a name's place
pub named-past : {X : Type 0} (xs : List (Option X)) (n : ℕ) → length xs ≤ n → named xs n ≡ None
unfolding named
named-past xs n beyond = ap flat (slice_get_past xs n beyond)

pub named-beyond : {X : Type 0} (xs : List (Option X)) (n : ℕ) → length xs ≤ n → None ≡ named xs n
named-beyond xs n beyond = sym (named-past xs n beyond)

pub freed-beyond : {X : Type 0} (xs : List (Option X)) (n : ℕ) → length xs ≤ n → xs ≡ freed xs n
unfolding freed
freed-beyond xs n beyond = sym (change-beyond nothing xs n beyond)

pub named-read : {X : Type 0} (xs : List (Option X)) (n : ℕ) (x : Option X) → n < length xs → x ≡ get_or xs n x → x ≡ named xs n
named-read xs n x within read = sym (named_of xs n x (slice_get_read xs (length xs) n x refl within read))

pub freed-written : {X : Type 0} (xs : List (Option X)) (n : ℕ) (y : Option X) → y ≡ None → set xs n y ≡ freed xs n
unfolding freed
freed-written xs n y is = ap (set xs n) is ∙ set-change nothing None xs n (λ z. refl)

pub set-written : {X : Type 0} (xs : List (Option X)) (n : ℕ) (x : X) (y : Option X) → y ≡ Some x → set xs n y ≡ set_name xs n x
unfolding set_name
set-written xs n x y is = ap (set xs n) is ∙ set-change (something x) (Some x) xs n (λ z. refl)

pub free-within : {X : Type 0} (xs : List (Option X)) (n : ℕ) → is_free xs n ≡ true → n < length xs
free-within xs n free = slice_get_within xs n None (free_place xs n free)

pub free-read : {X : Type 0} (xs : List (Option X)) (n : ℕ) (x : Option X) → is_free xs n ≡ true → x ≡ get_or xs n x → x ≡ None
free-read xs n x free read = named-read xs n x (free-within xs n free) read ∙ free-none xs n free

-- all names but the last
pub slice_get-front : {X : Type 0} (xs ys : List X) (n : ℕ) (x : X) → slice_get xs n ≡ Some x → slice_get (xs ++ ys) n ≡ Some x
slice_get-front [] ys n x is = absurd (none-some x is)
slice_get-front (z ∷ xs) ys zero x is = is
slice_get-front (z ∷ xs) ys (suc n) x is = slice_get-front xs ys n x is

pub slice_get-last : {X : Type 0} (xs : List X) (x : X) → slice_get (xs ++ x ∷ []) (length xs) ≡ Some x
slice_get-last [] x = refl
slice_get-last (z ∷ xs) x = slice_get-last xs x

named-absent : {X : Type 0} (xs : List (Option X)) (n : ℕ) (o : Option X) → named xs n ≡ o → ((x : X) → slice_get xs n ≡ Some (Some x) → ⊥) → named xs n ≡ None
named-absent xs n None is never = is
named-absent xs n (Some x) is never = absurd (never x (place_of xs n x is))

pub none-front : {X : Type 0} (old front last : List (Option X)) → old ≡ front ++ last → ((n : ℕ) → named old n ≡ None) → (n : ℕ) → named front n ≡ None
none-front old front last is none n =
    named-absent front n (named front n) refl
    (λ x at. none-some x (sym (none n) ∙ named_of old n (Some x) (ap (λ l. slice_get l n) is ∙ slice_get-front front last n (Some x) at)))

pub none-last : {X : Type 0} (old front : List (Option X)) (o : Option X) → old ≡ front ++ o ∷ [] → ((n : ℕ) → named old n ≡ None) → o ≡ None
none-last old front o is none =
    sym (named_of old (length front) o (ap (λ l. slice_get l (length front)) is ∙ slice_get-last front o)) ∙ none (length front)

-- what is open under a name once something was opened under one that was free
pub names-set : {X : Type 0} (xs after : List (Option X)) (n m : ℕ) (y z : X) → is_free xs n ≡ true → after ≡ set_name xs n y → named after m ≡ Some z → ((m ≡ n) × (z ≡ y)) ⊎ ((m ≢ n) × (named xs m ≡ Some z))
names-set xs after n m y z free put is =
    elim (cases_eq m n) [
      | inl same ↦ inl (same, same_Some z y (sym is ∙ ap (λ l. named l m) put ∙ ap (named (set_name xs n y)) same ∙ named-set xs n y free))
      | inr apart ↦ inr (apart, sym (named-set_other xs n m y apart) ∙ sym (ap (λ l. named l m) put) ∙ is)
    ]

-- what the code found under a name
pub found_at : {X : Type 0} (names shown : List (Option X)) (name number : ℕ) (o : Option (Bor X)) (r : Option X) → shown ≡ names → number ≡ name → option_copied o ≡ named shown number → option_copied o ≡ r → named names name ≡ r
found_at names shown name number o r same is read found = sym (ap (λ l. named l number) same ∙ ap (named names) is) ∙ sym read ∙ found

pub free_at : {X : Type 0} (names shown : List (Option X)) (name number : ℕ) (b v : Bool) → shown ≡ names → number ≡ name → b ≡ is_free shown number → b ≡ v → is_free names name ≡ v
free_at names shown name number b v same is read found = sym (ap (λ l. is_free l number) same ∙ ap (is_free names) is) ∙ sym read ∙ found
