-- What is open under the names of endpoints, once something changed under one of them.
use Rattle.std.proofs.Common.{◌≡◌, ◌≢◌, ℕ, zero, suc, List, length, map, Option, Some, None, refl, ap, sym, ◌∙◌, inl, inr, ◌⊎◌, true}
use Rattle.std.specs.Option.{option_map}
use Rattle.std.proofs.lemmas.Bool.{cases_eq}
use Rattle.std.proofs.lemmas.Option.{none-some, same_Some}
use Rattle.usb_session_calls.specs.Names.{named, is_free, freed, set_name, change_named}
use Rattle.usb_session_calls.specs.EndpointNames.{EndpointName, Own, OfReader, OfWriter, OfClientWriter, OfClientReader, held_under}
use Rattle.usb_session_calls.proofs.NameLemmas.{named-map, named-change_same, named-change_other, named-freed, named-freed_other, named-set, named-set_other, freed-free, length-change_named, length-freed, length-set_name}

-- a name by its kind and its number
abbrev kind_of : EndpointName → ℕ
kind_of (Own e) = 0
kind_of (OfReader r) = 1
kind_of (OfWriter w) = 2
kind_of (OfClientWriter m) = 3
kind_of (OfClientReader m) = 4

abbrev pub number_of : EndpointName → ℕ
number_of (Own e) = e
number_of (OfReader r) = r
number_of (OfWriter w) = w
number_of (OfClientWriter m) = m
number_of (OfClientReader m) = m

abbrev name_of : ℕ → ℕ → EndpointName
name_of zero n = Own n
name_of (suc zero) n = OfReader n
name_of (suc (suc zero)) n = OfWriter n
name_of (suc (suc (suc zero))) n = OfClientWriter n
name_of (suc (suc (suc (suc k)))) n = OfClientReader n

named-back : (e : EndpointName) → name_of (kind_of e) (number_of e) ≡ e
named-back (Own e) = refl
named-back (OfReader r) = refl
named-back (OfWriter w) = refl
named-back (OfClientWriter m) = refl
named-back (OfClientReader m) = refl

-- two names are the same, or not
pub cases_name : (d e : EndpointName) → (d ≡ e) ⊎ (d ≢ e)
cases_name d e =
    elim (cases_eq (kind_of d) (kind_of e)) [
      | inl kind ↦ elim (cases_eq (number_of d) (number_of e)) [
        | inl number ↦ inl (sym (named-back d) ∙ ap (λ k. name_of k (number_of d)) kind ∙ ap (name_of (kind_of e)) number ∙ named-back e)
        | inr apart ↦ inr (λ same. apart (ap number_of same))
      ]
      | inr apart ↦ inr (λ same. apart (ap kind_of same))
    ]

-- under the name e there is o now, and under the others what was
pub record Changed {X : Type 0} (old new : EndpointName → Option X) (e : EndpointName) (o : Option X) : Type 0 where
  pub here : new e ≡ o
  pub others : (d : EndpointName) → d ≢ e → new d ≡ old d

-- so under two names
pub record ChangedBoth {X : Type 0} (old new : EndpointName → Option X) (e f : EndpointName) (o p : Option X) : Type 0 where
  pub apart : e ≢ f
  pub first : new e ≡ o
  pub second : new f ≡ p
  pub others : (d : EndpointName) → d ≢ e → d ≢ f → new d ≡ old d

-- under the name e there is o, and what was under the others
abbrev by_name : {X : Type 0} {d e : EndpointName} → (d ≡ e) ⊎ (d ≢ e) → Option X → Option X → Option X
by_name (inl same) here other = here
by_name (inr apart) here other = other

pub put_under : {X : Type 0} → (EndpointName → Option X) → EndpointName → Option X → EndpointName → Option X
put_under opened e o d = by_name (cases_name d e) o (opened d)

by_name-same : {X : Type 0} (d e : EndpointName) (c : (d ≡ e) ⊎ (d ≢ e)) (here other : Option X) → d ≡ e → by_name c here other ≡ here
by_name-same d e (inl same) here other is = refl
by_name-same d e (inr apart) here other is = absurd (apart is)

by_name-other : {X : Type 0} (d e : EndpointName) (c : (d ≡ e) ⊎ (d ≢ e)) (here other : Option X) → d ≢ e → by_name c here other ≡ other
by_name-other d e (inl same) here other is = absurd (is same)
by_name-other d e (inr apart) here other is = refl

pub under-changes : {X : Type 0} (opened : EndpointName → Option X) (e : EndpointName) (o : Option X) → Changed opened (put_under opened e o) e o
unfolding put_under
under-changes opened e o =
    record {
      here = by_name-same e e (cases_name e e) o (opened e) refl;
      others = λ d apart. by_name-other d e (cases_name d e) o (opened d) apart;
    }

-- two names changed one after the other, or only one of them
module _ {X : Type 0} (old new : EndpointName → Option X) (e f : EndpointName) (o p : Option X) (both : ChangedBoth old new e f o p) where
  pub second-changes : Changed (put_under old e o) new f p
  second-changes =
      let first = under-changes old e o in
      record {
        here = both.second;
        others = λ d apart. elim (cases_name d e) [
          | inl same ↦ ap new same ∙ both.first ∙ sym first.here ∙ sym (ap (put_under old e o) same)
          | inr other ↦ both.others d other apart ∙ sym (first.others d other)
        ];
      }

  pub first-alone : old f ≡ p → Changed old new e o
  first-alone same =
      record {
        here = both.first;
        others = λ d apart. elim (cases_name d f) [
          | inl is ↦ ap new is ∙ both.second ∙ sym same ∙ sym (ap old is)
          | inr other ↦ both.others d apart other
        ];
      }

  pub second-alone : old e ≡ o → Changed old new f p
  second-alone same =
      record {
        here = both.second;
        others = λ d apart. elim (cases_name d e) [
          | inl is ↦ ap new is ∙ both.first ∙ sym same ∙ sym (ap old is)
          | inr other ↦ both.others d other apart
        ];
      }

-- so of the names of one kind
pub record ChangedAt {X : Type 0} (xs after : List (Option X)) (n : ℕ) (o : Option X) : Type 0 where
  pub here : named after n ≡ o
  pub others : (m : ℕ) → m ≢ n → named after m ≡ named xs m
  pub length : length after ≡ length xs

-- something is open under a name that was free, or nothing any more, or another than before
pub set-changes : {X : Type 0} (xs : List (Option X)) (n : ℕ) (x : X) → is_free xs n ≡ true → ChangedAt xs (set_name xs n x) n (Some x)
set-changes xs n x free = record { here = named-set xs n x free; others = λ m apart. named-set_other xs n m x apart; length = length-set_name xs n x }

pub freed-changes : {X : Type 0} (xs : List (Option X)) (n : ℕ) → ChangedAt xs (freed xs n) n None
freed-changes xs n = record { here = named-freed xs n; others = λ m apart. named-freed_other xs n m apart; length = length-freed xs n }

pub change-changes : {X : Type 0} (f : X → X) (xs : List (Option X)) (n : ℕ) (x : X) → named xs n ≡ Some x → ChangedAt xs (change_named f xs n) n (Some (f x))
change-changes f xs n x is = record { here = named-change_same f xs n ∙ ap (option_map f) is; others = λ m apart. named-change_other f xs n m apart; length = length-change_named f xs n }

-- it was taken out, and put back changed
pub put-changes : {X : Type 0} (xs after : List (Option X)) (n : ℕ) (x y : X) → named xs n ≡ Some x → after ≡ set_name (freed xs n) n y → ChangedAt xs after n (Some y)
put-changes xs after n x y is put =
    record {
      here = ap (λ l. named l n) put ∙ named-set (freed xs n) n y (freed-free xs n x is);
      others = λ m apart. ap (λ l. named l m) put ∙ named-set_other (freed xs n) n m y apart ∙ named-freed_other xs n m apart;
      length = ap (λ l. length l) put ∙ length-set_name (freed xs n) n y ∙ length-freed xs n;
    }

-- what is held under a name, where the names of one kind changed
module _ {E R W C : Type 0} (of_reader : R → E) (of_writer : W → E) (of_client_writer of_client_reader : C → E) (es : List (Option E)) (rs : List (Option R)) (ws : List (Option W)) (cs : List (Option C)) where
  abbrev held : List (Option E) → List (Option R) → List (Option W) → List (Option C) → EndpointName → Option E
  held = held_under of_reader of_writer of_client_writer of_client_reader

  pub own-changed : (after : List (Option E)) (e : ℕ) (o : Option E) → ChangedAt es after e o → Changed (held es rs ws cs) (held after rs ws cs) (Own e) o
  own-changed after e o c = record { here = c.here; others = by }
    where
      by : (d : EndpointName) → d ≢ Own e → held after rs ws cs d ≡ held es rs ws cs d
      by (Own d) apart = c.others d (λ same. apart (ap Own same))
      by (OfReader r) apart = refl
      by (OfWriter w) apart = refl
      by (OfClientWriter m) apart = refl
      by (OfClientReader m) apart = refl

  pub reader-changed : (after : List (Option R)) (r : ℕ) (o : Option R) → ChangedAt rs after r o → Changed (held es rs ws cs) (held es after ws cs) (OfReader r) (option_map of_reader o)
  reader-changed after r o c = record { here = ap (option_map of_reader) c.here; others = by }
    where
      by : (d : EndpointName) → d ≢ OfReader r → held es after ws cs d ≡ held es rs ws cs d
      by (Own d) apart = refl
      by (OfReader s) apart = ap (option_map of_reader) (c.others s (λ same. apart (ap OfReader same)))
      by (OfWriter w) apart = refl
      by (OfClientWriter m) apart = refl
      by (OfClientReader m) apart = refl

  pub writer-changed : (after : List (Option W)) (w : ℕ) (o : Option W) → ChangedAt ws after w o → Changed (held es rs ws cs) (held es rs after cs) (OfWriter w) (option_map of_writer o)
  writer-changed after w o c = record { here = ap (option_map of_writer) c.here; others = by }
    where
      by : (d : EndpointName) → d ≢ OfWriter w → held es rs after cs d ≡ held es rs ws cs d
      by (Own d) apart = refl
      by (OfReader r) apart = refl
      by (OfWriter v) apart = ap (option_map of_writer) (c.others v (λ same. apart (ap OfWriter same)))
      by (OfClientWriter m) apart = refl
      by (OfClientReader m) apart = refl

  -- a client has both of its names, or neither
  pub client-changed : (after : List (Option C)) (m : ℕ) (o : Option C) → ChangedAt cs after m o → ChangedBoth (held es rs ws cs) (held es rs ws after) (OfClientWriter m) (OfClientReader m) (option_map of_client_writer o) (option_map of_client_reader o)
  client-changed after m o c =
      record {
        apart = λ same. absurd (cc);
        first = ap (option_map of_client_writer) c.here;
        second = ap (option_map of_client_reader) c.here;
        others = by;
      }
    where
      by : (d : EndpointName) → d ≢ OfClientWriter m → d ≢ OfClientReader m → held es rs ws after d ≡ held es rs ws cs d
      by (Own d) writer reader = refl
      by (OfReader r) writer reader = refl
      by (OfWriter w) writer reader = refl
      by (OfClientWriter n) writer reader = ap (option_map of_client_writer) (c.others n (λ same. writer (ap OfClientWriter same)))
      by (OfClientReader n) writer reader = ap (option_map of_client_reader) (c.others n (λ same. reader (ap OfClientReader same)))

-- what is open under a name now is what was put there, or was there before
module _ {X : Type 0} (old new : EndpointName → Option X) (e d : EndpointName) (z : X) where
  pub changed-back : (y : X) → Changed old new e (Some y) → new d ≡ Some z → ((d ≡ e) × (z ≡ y)) ⊎ ((d ≢ e) × (old d ≡ Some z))
  changed-back y c is =
      elim (cases_name d e) [
        | inl same ↦ inl (same, same_Some z y (sym is ∙ ap new same ∙ c.here))
        | inr apart ↦ inr (apart, sym (c.others d apart) ∙ is)
      ]

  pub changed-gone : Changed old new e None → new d ≡ Some z → (d ≢ e) × (old d ≡ Some z)
  changed-gone c is =
      elim (cases_name d e) [
        | inl same ↦ absurd (none-some z (sym c.here ∙ sym (ap new same) ∙ is))
        | inr apart ↦ (apart, sym (c.others d apart) ∙ is)
      ]

along : {E F R Q : Type 0} (see_reader : R → Q) (see : E → F) (of_reader : R → E) (by_reader : Q → F) → ((x : R) → by_reader (see_reader x) ≡ see (of_reader x)) → (o : Option R) → option_map by_reader (option_map see_reader o) ≡ option_map see (option_map of_reader o)
along see_reader see of_reader by_reader same None = refl
along see_reader see of_reader by_reader same (Some x) = ap (λ y. Some y) (same x)

held-along : {E F R Q : Type 0} (see_reader : R → Q) (see : E → F) (of_reader : R → E) (by_reader : Q → F) → ((x : R) → by_reader (see_reader x) ≡ see (of_reader x)) → (rs : List (Option R)) (r : ℕ) → option_map by_reader (named (map (option_map see_reader) rs) r) ≡ option_map see (option_map of_reader (named rs r))
held-along see_reader see of_reader by_reader same rs r = ap (option_map by_reader) (named-map see_reader rs r) ∙ along see_reader see of_reader by_reader same (named rs r)

-- what is held under a name, seen through a function
module _ {E R W C F Q V D : Type 0} (see : E → F) (see_reader : R → Q) (see_writer : W → V) (see_client : C → D)
    (of_reader : R → E) (of_writer : W → E) (of_client_writer of_client_reader : C → E) (by_reader : Q → F) (by_writer : V → F) (by_client_writer by_client_reader : D → F)
    (reader : (x : R) → by_reader (see_reader x) ≡ see (of_reader x)) (writer : (x : W) → by_writer (see_writer x) ≡ see (of_writer x))
    (client_writer : (x : C) → by_client_writer (see_client x) ≡ see (of_client_writer x)) (client_reader : (x : C) → by_client_reader (see_client x) ≡ see (of_client_reader x))
    (es : List (Option E)) (rs : List (Option R)) (ws : List (Option W)) (cs : List (Option C)) where
  pub held-seen : (e : EndpointName)
      → held_under by_reader by_writer by_client_writer by_client_reader (map (option_map see) es) (map (option_map see_reader) rs) (map (option_map see_writer) ws) (map (option_map see_client) cs) e
      ≡ option_map see (held_under of_reader of_writer of_client_writer of_client_reader es rs ws cs e)
  held-seen (Own e) = named-map see es e
  held-seen (OfReader r) = held-along see_reader see of_reader by_reader reader rs r
  held-seen (OfWriter w) = held-along see_writer see of_writer by_writer writer ws w
  held-seen (OfClientWriter m) = held-along see_client see of_client_writer by_client_writer client_writer cs m
  held-seen (OfClientReader m) = held-along see_client see of_client_reader by_client_reader client_reader cs m
