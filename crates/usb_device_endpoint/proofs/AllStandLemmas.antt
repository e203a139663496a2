-- Many endpoints on one bus: what calls leave of them.
use Rattle.std.specs.Prelude.{ℕ, zero, suc, ◌≡◌, ◌≢◌, ◌⊎◌, false, List, [], ◌∷◌, ◌++◌, length, set, Some, slice_get}
use Rattle.std.proofs.Common.{arith, inl, inr, refl, sym, ◌∙◌, ap}
use Rattle.std.proofs.lemmas.Option.{none-some, same_Some}
use Rattle.usb_device_endpoint.specs.BusState.{BusState}
use Rattle.usb_device_endpoint.specs.Later.{IsLater}
use Rattle.usb_device_endpoint.specs.EndpointState.{EndpointState}
use Rattle.usb_device_endpoint.specs.Handles.{Stands, KeepsOthers}
use Rattle.usb_device_endpoint.proofs.Frames.{Stands-other, Stands-later}
use Rattle.usb_device_endpoint.specs.AllStand.{AllStand}

slice_get-set : {X : Type 0} (xs : List X) (i t : ℕ) (r x : X) → slice_get (set xs i r) t ≡ Some x → ((t ≡ i) × (x ≡ r)) ⊎ ((t ≢ i) × (slice_get xs t ≡ Some x))
slice_get-set [] i t r x at = absurd (none-some x at)
slice_get-set (y ∷ ys) zero zero r x at = inl (refl, sym (same_Some r x at))
slice_get-set (y ∷ ys) zero (suc t) r x at = inr (λ z. absurd (omega arith), at)
slice_get-set (y ∷ ys) (suc i) zero r x at = inr (λ z. absurd (omega arith), at)
slice_get-set (y ∷ ys) (suc i) (suc t) r x at = elim (slice_get-set ys i t r x at) [ inl w ↦ inl (ap suc w.0, w.1) | inr w ↦ inr (λ z. w.0 (omega arith), w.1) ]

-- the endpoint at a place, and its key
same-key : (es : List EndpointState) (i j : ℕ) (e next f : EndpointState) → slice_get es i ≡ Some e → next.key ≡ e.key → slice_get (set es i next) j ≡ Some f → (g : EndpointState) × (slice_get es j ≡ Some g) × (f.key ≡ g.key)
same-key es i j e next f at key here =
    elim (slice_get-set es i j next f here) [
      | inl w ↦ (e, ap (slice_get es) w.0 ∙ at, ap (λ (x : EndpointState). x.key) w.1 ∙ key)
      | inr w ↦ (f, w.1, refl)
    ]

-- a call on one of them
pub AllStand-call : (old new : BusState) (es : List EndpointState) (i : ℕ) (e next : EndpointState) → AllStand old es → slice_get es i ≡ Some e → Stands new next → next.key ≡ e.key → KeepsOthers old new e.key → AllStand new (set es i next)
AllStand-call old new es i e next all at stands key keeps =
    record {
      each = λ j f here.
          elim (slice_get-set es i j next f here) [
            | inl w ↦ rw w.1 stands
            | inr w ↦ Stands-other old new e.key f keeps (all.apart j i f e w.1 at w.0) (all.each j f w.1)
          ];
      apart = λ j k f g here there ne same.
          let a = same-key es i j e next f at key here in
          let b = same-key es i k e next g at key there in
          all.apart j k a.0 b.0 a.1 b.1 ne (sym a.2 ∙ same ∙ b.2);
    }

-- the bus went on by itself
pub AllStand-later : (old new : BusState) (es : List EndpointState) → AllStand old es → IsLater old new → AllStand new es
AllStand-later old new es all later = record { each = λ j e at. Stands-later old new e (all.each j e at) later; apart = all.apart }

slice_get-last : {X : Type 0} (xs : List X) (y x : X) (j : ℕ) → slice_get (xs ++ y ∷ []) j ≡ Some x → (slice_get xs j ≡ Some x) ⊎ ((j ≡ length xs) × (x ≡ y))
slice_get-last [] y x zero at = inr (refl, sym (same_Some y x at))
slice_get-last [] y x (suc j) at = absurd (none-some x at)
slice_get-last (z ∷ zs) y x zero at = inl at
slice_get-last (z ∷ zs) y x (suc j) at = elim (slice_get-last zs y x j at) [ inl w ↦ inl w | inr w ↦ inr (ap suc w.0, w.1) ]

-- the key of an open endpoint is another than one that is not open
open-ne : (b : BusState) (e : EndpointState) (key : ℕ) → Stands b e → b.keys key ≡ false → e.key ≢ key
open-ne b e key stands closed = λ same. let x : b.keys e.key ≡ b.keys key = ap b.keys same in let y = stands.key_is_open in cc

-- one more was opened, with a key of its own
pub AllStand-opened : (old new : BusState) (es : List EndpointState) (next : EndpointState) → AllStand old es → Stands new next → old.keys next.key ≡ false → KeepsOthers old new next.key → AllStand new (es ++ next ∷ [])
AllStand-opened old new es next all stands fresh keeps =
    record {
      each = λ j e at.
          elim (slice_get-last es next e j at) [
            | inl w ↦ Stands-other old new next.key e keeps (open-ne old e next.key (all.each j e w) fresh) (all.each j e w)
            | inr w ↦ rw w.1 stands
          ];
      apart = λ j k e f here there ne.
          elim (slice_get-last es next e j here) [
            | inl v ↦
                elim (slice_get-last es next f k there) [
                  | inl w ↦ all.apart j k e f v w ne
                  | inr w ↦ λ same. open-ne old e next.key (all.each j e v) fresh (same ∙ ap (λ (x : EndpointState). x.key) w.1)
                ]
            | inr v ↦
                elim (slice_get-last es next f k there) [
                  | inl w ↦ λ same. open-ne old f next.key (all.each k f w) fresh (sym same ∙ ap (λ (x : EndpointState). x.key) v.1)
                  | inr w ↦ λ same. ne (v.0 ∙ sym w.0)
                ]
          ];
    }

-- where an element stands when one more stands behind these
abbrev shift : {X : Type 0} → List X → ℕ → ℕ
shift [] j = suc j
shift (x ∷ xs) zero = zero
shift (x ∷ xs) (suc j) = suc (shift xs j)

at-shift : {X : Type 0} (xs ys : List X) (x y : X) (j : ℕ) → slice_get (xs ++ ys) j ≡ Some y → slice_get (xs ++ x ∷ ys) (shift xs j) ≡ Some y
at-shift [] ys x y j at = at
at-shift (z ∷ zs) ys x y zero at = at
at-shift (z ∷ zs) ys x y (suc j) at = at-shift zs ys x y j at

at-length : {X : Type 0} (xs ys : List X) (x : X) → slice_get (xs ++ x ∷ ys) (length xs) ≡ Some x
at-length [] ys x = refl
at-length (z ∷ zs) ys x = at-length zs ys x

shift-same : {X : Type 0} (xs : List X) (j k : ℕ) → shift xs j ≡ shift xs k → j ≡ k
shift-same [] j k same = omega (arith, same)
shift-same (x ∷ xs) zero zero same = refl
shift-same (x ∷ xs) zero (suc k) same = absurd (omega (arith, same))
shift-same (x ∷ xs) (suc j) zero same = absurd (omega (arith, same))
shift-same (x ∷ xs) (suc j) (suc k) same = ap suc (shift-same xs j k (omega (arith, same)))

shift-apart : {X : Type 0} (xs : List X) (j : ℕ) → shift xs j ≢ length xs
shift-apart [] j = λ same. absurd (omega (arith, same))
shift-apart (x ∷ xs) zero = λ same. absurd (omega (arith, same))
shift-apart (x ∷ xs) (suc j) = λ same. shift-apart xs j (omega (arith, same))

-- one of them was closed
pub AllStand-closed : (old new : BusState) (front others : List EndpointState) (e : EndpointState) → AllStand old (front ++ e ∷ others) → KeepsOthers old new e.key → AllStand new (front ++ others)
AllStand-closed old new front others e all keeps =
    record {
      each = λ j f at.
          let there = at-shift front others e f j at in
          Stands-other old new e.key f keeps (all.apart (shift front j) (length front) f e there (at-length front others e) (shift-apart front j)) (all.each (shift front j) f there);
      apart = λ j k f g here there ne.
          all.apart (shift front j) (shift front k) f g (at-shift front others e f j here) (at-shift front others e g k there) (λ same. ne (shift-same front j k same));
    }
