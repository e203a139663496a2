-- What is found by a serial number.
use Rattle.std.proofs.Common.{is_some, count_by, ◌≡◌, ◌≢◌, ◌⊎◌, ℕ, zero, suc, ◌<◌, true, false, cond, List, [], ◌∷◌, ◌++◌, get_or, set, slice_get, Option, Some, None, refl, sym, ap, ◌∙◌, inl, inr, arith, Contains}
use Rattle.std.specs.Prelude.{Result, Ok, Err, OnOk}
use Rattle.std.specs.Option.{option_map}
use Rattle.std.proofs.lemmas.Bool.{cases_eq, eq-eqb, ne_eqb}
use Rattle.std.proofs.lemmas.Option.{none-some, same_Some}
use Rattle.std.proofs.lemmas.List.Sums.{sum_by-cons, sum_by-append}
use Rattle.slab.specs.Slab.{Updates, Slab, HasRoomFor, get, with_value}
use Rattle.slab.proofs.SlabLemmas.{Updates-with_value}
use Rattle.usb_device_tables.specs.declared.entry.Entry.{Entry}
use Rattle.usb_device_tables.specs.Entries.{find_serial, history, IsAt, HasSerialAt, IsSound}
use Rattle.usb_device_tables.specs.History.{RegistryState, value_at, live_count}
use Rattle.usb_device_tables.proofs.SerialLemmas.{cases_Option, value-below, values-set, values-same, slice_get-below, count-some_more}

-- what is there is not nothing
pub some-none : {X : Type 0} (o : Option X) → is_some o ≡ true → o ≡ None → ⊥
some-none o some none = let e : is_some o ≡ false = ap is_some none in absurd (cc)

-- two registries with the same values and the same room
pub state : {T : Type 0} {a b : List (Option T)} {m n : ℕ} → a ≡ b → m ≡ n → ◌≡◌ {A = RegistryState T} (record { values = a; capacity = m }) (record { values = b; capacity = n })
state values capacity = cc

-- nothing is in no list
pub no-contained : {X : Type 0} (x : X) → Contains [] x → ⊥
no-contained x there = omega (arith, there.1)

module _ {T : Type 0} where
  abbrev pub Apart : List (Option (Entry T)) → Type 0
  Apart slots = (j k : ℕ) (e f : Entry T) → IsAt slots j e → IsAt slots k f → e.serial ≡ f.serial → j ≡ k

  -- an entry is found by its serial number
  pub found-at : (slots : List (Option (Entry T))) (place : ℕ) (e : Entry T) → Apart slots → IsAt slots place e → find_serial slots e.serial ≡ Some e.value
  found-at [] place e apart at = absurd (none-some e at)
  found-at (None ∷ rest) zero e apart at = absurd (none-some e at)
  found-at (None ∷ rest) (suc place) e apart at =
      found-at rest place e (λ j k x y here there same. omega (arith, apart (suc j) (suc k) x y here there same)) at
  found-at (Some f ∷ rest) zero e apart at =
      let same : f ≡ e = same_Some f e at in
      rw same (rw (eq-eqb e.serial e.serial refl) refl)
  found-at (Some f ∷ rest) (suc place) e apart at =
      elim (cases_eq f.serial e.serial) [
        | inl same ↦ absurd (omega (arith, apart zero (suc place) f e refl at same))
        | inr other ↦
            rw (ne_eqb f.serial e.serial other)
            (found-at rest place e (λ j k x y here there same. omega (arith, apart (suc j) (suc k) x y here there same)) at)
      ]

  -- what is found is the value of an entry
  abbrev pub Found : List (Option (Entry T)) → ℕ → T → Type 0
  Found slots serial v = (place : ℕ) × (e : Entry T) × IsAt slots place e × (e.serial ≡ serial) × (e.value ≡ v)

  pub found-entry : (slots : List (Option (Entry T))) (serial : ℕ) (v : T) → find_serial slots serial ≡ Some v → Found slots serial v
  found-entry [] serial v found = absurd (none-some v found)
  found-entry (None ∷ rest) serial v found =
      let later = found-entry rest serial v found in
      (suc later.0, later.1, later.2, later.3, later.4)
  found-entry (Some f ∷ rest) serial v found =
      elim (cases_eq f.serial serial) [
        | inl same ↦ (zero, f, refl, same, same_Some f.value v (rw (eq-eqb f.serial serial same) at found))
        | inr other ↦
            let later = found-entry rest serial v (rw (ne_eqb f.serial serial other) at found) in
            (suc later.0, later.1, later.2, later.3, later.4)
      ]

  -- where no entry has the serial number, nothing is found
  pub found-none : (slots : List (Option (Entry T))) (serial : ℕ) → ((place : ℕ) → HasSerialAt slots serial place → ⊥) → find_serial slots serial ≡ None
  found-none slots serial none =
      elim (cases_Option (find_serial slots serial)) [
        | inl nothing ↦ nothing
        | inr some ↦
            let f = found-entry slots serial some.0 some.1 in
            absurd (none f.0 (record { entry = f.1; at = f.2; serial_is = f.3 }))
      ]

  -- where the entries with a serial number are the same, so is what is found
  pub found-same : (a b : List (Option (Entry T))) (serial : ℕ) → Apart a → Apart b → ((place : ℕ) (e : Entry T) → IsAt a place e → e.serial ≡ serial → IsAt b place e) → ((place : ℕ) (e : Entry T) → IsAt b place e → e.serial ≡ serial → IsAt a place e) → find_serial b serial ≡ find_serial a serial
  found-same a b serial apart_a apart_b to from =
      elim (cases_Option (find_serial a serial)) [
        | inl nothing ↦
            elim (cases_Option (find_serial b serial)) [
              | inl none ↦ none ∙ sym nothing
              | inr some ↦
                  let f = found-entry b serial some.0 some.1 in
                  let there = found-at a f.0 f.1 apart_a (from f.0 f.1 f.2 f.3) in
                  absurd (none-some f.1.value (sym nothing ∙ rw f.3 at there))
            ]
        | inr some ↦
            let f = found-entry a serial some.0 some.1 in
            let there = found-at b f.0 f.1 apart_b (to f.0 f.1 f.2 f.3) in
            (rw f.3 at there) ∙ ap Some f.4 ∙ sym some.1
      ]

  -- the value with a serial number
  pub value-history : (slots : List (Option (Entry T))) (next serial : ℕ) → IsSound slots next → value_at (history slots next) serial ≡ find_serial slots serial
  value-history slots next serial sound = value-below (find_serial slots) next serial (λ s v found. let f = found-entry slots s v found in omega (arith, f.3, sound.below f.0 f.1 f.2))

  -- the value at the place of a serial number
  pub value-found : (slots : List (Option (Entry T))) (next serial place : ℕ) → IsSound slots next → HasSerialAt slots serial place → option_map (λ (e : Entry T). e.value) (get_or slots place None) ≡ value_at (history slots next) serial
  value-found slots next serial place sound h =
      let there = found-at slots place h.entry sound.apart h.at in
      ap (option_map (λ (e : Entry T). e.value)) h.at ∙ sym (value-history slots next serial sound ∙ rw h.serial_is at there)

  -- a serial number without an entry has no value
  pub value-absent : (slots : List (Option (Entry T))) (next serial : ℕ) → IsSound slots next → ((place : ℕ) → HasSerialAt slots serial place → ⊥) → value_at (history slots next) serial ≡ None
  value-absent slots next serial sound none = value-history slots next serial sound ∙ found-none slots serial none

  pub absent-set : (slots : List (Option (Entry T))) (next serial : ℕ) → ((place : ℕ) → HasSerialAt slots serial place → ⊥) → history slots next ≡ set (history slots next) serial None
  absent-set slots next serial none = values-set (find_serial slots) (find_serial slots) next serial None (found-none slots serial none) (λ k other. refl)

  -- what is at a place after a change of one place
  pub changed : (old new : Slab (Entry T)) (place : ℕ) (slot : Option (Entry T)) (k : ℕ) (e : Entry T) → Updates old new place slot → IsAt new.slots k e → ((k ≡ place) × (slot ≡ Some e)) ⊎ ((k ≢ place) × IsAt old.slots k e)
  changed old new place slot k e updates at =
      elim (cases_eq k place) [
        | inl same ↦ inl (same, sym updates.changed ∙ sym (ap (get new) same) ∙ at)
        | inr other ↦ inr (other, sym (updates.others k other) ∙ at)
      ]

  -- another value came
  module _ (old new : Slab (Entry T)) (place next after : ℕ) (e : Entry T) (sound : IsSound old.slots next) (updates : Updates old new place (Some e)) (vacant : get old place ≡ None) (serial : e.serial ≡ next) (more : after ≡ suc next) where
    came : (k : ℕ) (f : Entry T) → IsAt new.slots k f → ((k ≡ place) × (f ≡ e)) ⊎ ((k ≢ place) × IsAt old.slots k f)
    came k f at =
        elim (changed old new place (Some e) k f updates at) [
          | inl w ↦ inl (w.0, sym (same_Some e f w.1))
          | inr w ↦ inr w
        ]

    stayed : (k : ℕ) (f : Entry T) → IsAt old.slots k f → IsAt new.slots k f
    stayed k f at =
        elim (cases_eq k place) [
          | inl same ↦ absurd (none-some f (sym vacant ∙ sym (ap (get old) same) ∙ at))
          | inr other ↦ updates.others k other ∙ at
        ]

    pub sound-inserted : IsSound new.slots after
    sound-inserted =
        record {
          below = λ k f at. elim (came k f at) [
            | inl w ↦ omega (arith, more, serial, ap (λ (x : Entry T). x.serial) w.1)
            | inr w ↦ omega (arith, more, sound.below k f w.1)
          ];
          apart = λ j k f g here there same. elim (came j f here) [
            | inl w ↦ elim (came k g there) [
              | inl v ↦ w.0 ∙ sym v.0
              | inr v ↦ absurd (omega (arith, same, serial, ap (λ (x : Entry T). x.serial) w.1, sound.below k g v.1))
            ]
            | inr w ↦ elim (came k g there) [
              | inl v ↦ absurd (omega (arith, same, serial, ap (λ (x : Entry T). x.serial) v.1, sound.below j f w.1))
              | inr v ↦ sound.apart j k f g w.1 v.1 same
            ]
          ];
        }

    pub history-inserted : history new.slots after ≡ history old.slots next ++ Some e.value ∷ []
    history-inserted =
        let before = values-same (find_serial old.slots) (find_serial new.slots) next (λ k below.
        found-same old.slots new.slots k sound.apart sound-inserted.apart
        (λ p f at is. stayed p f at)
        (λ p f at is. elim (came p f at) [
          | inl w ↦ absurd (omega (arith, is, below, serial, ap (λ (x : Entry T). x.serial) w.1))
          | inr w ↦ w.1
        ])) in
        let last = found-at new.slots place e sound-inserted.apart updates.changed in
        ap (history new.slots) more ∙ rw (before, rw serial at last) refl

  -- a value went
  module _ (old new : Slab (Entry T)) (place next serial : ℕ) (sound : IsSound old.slots next) (updates : Updates old new place None) (h : HasSerialAt old.slots serial place) where
    left : (k : ℕ) (f : Entry T) → IsAt new.slots k f → (k ≢ place) × IsAt old.slots k f
    left k f at =
        elim (changed old new place None k f updates at) [
          | inl w ↦ absurd (none-some f w.1)
          | inr w ↦ w
        ]

    pub sound-removed : IsSound new.slots next
    sound-removed =
        record {
          below = λ k f at. sound.below k f (left k f at).1;
          apart = λ j k f g here there same. sound.apart j k f g (left j f here).1 (left k g there).1 same;
        }

    pub history-removed : history new.slots next ≡ set (history old.slots next) serial None
    history-removed =
        values-set (find_serial old.slots) (find_serial new.slots) next serial None
        (found-none new.slots serial (λ p x.
        let was = left p x.entry x.at in
        was.0 (sound.apart p place x.entry h.entry was.1 h.at (x.serial_is ∙ sym h.serial_is))))
        (λ k other. found-same old.slots new.slots k sound.apart sound-removed.apart
        (λ p f at is. updates.others p (λ z.
        other (sym is ∙ ap (λ (x : Entry T). x.serial) (same_Some f h.entry (sym at ∙ ap (get old) z ∙ h.at)) ∙ h.serial_is)) ∙ at)
        (λ p f at is. (left p f at).1))

  -- as many values are there as entries
  count-nothing : (slots : List (Option (Entry T))) (n : ℕ) → slots ≡ [] → count_by is_some (history slots n) ≡ 0
  count-nothing slots zero none = refl
  count-nothing slots (suc n) none =
      let at : find_serial slots n ≡ None = rw none refl in
      rw at (sum_by-append (λ (o : Option T). cond (is_some o) 1 0) (history slots n) (None ∷ []) ∙ omega (arith, count-nothing slots n none))

  pub count-history : (slots : List (Option (Entry T))) (n : ℕ) → Apart slots → ((place : ℕ) (e : Entry T) → IsAt slots place e → e.serial < n) → count_by is_some (history slots n) ≡ count_by is_some slots
  count-history [] n apart below = count-nothing [] n refl
  count-history (None ∷ rest) n apart below =
      let same : history (None ∷ rest) n ≡ history rest n = values-same (find_serial rest) (find_serial (None ∷ rest)) n (λ k lower. refl) in
      let IH = count-history rest n (λ j k x y here there same. omega (arith, apart (suc j) (suc k) x y here there same)) (λ p e at. below (suc p) e at) in
      let more = sum_by-cons (λ (o : Option (Entry T)). cond (is_some o) 1 0) None rest in
      rw same (omega (arith, IH, more))
  count-history (Some f ∷ rest) n apart below =
      let apart_rest : Apart rest = λ j k x y here there same. omega (arith, apart (suc j) (suc k) x y here there same) in
      let one : history (Some f ∷ rest) n ≡ set (history rest n) f.serial (Some f.value) =
      values-set (find_serial rest) (find_serial (Some f ∷ rest)) n f.serial (Some f.value) (rw (eq-eqb f.serial f.serial refl) refl) (λ k other. rw (ne_eqb f.serial k (λ z. other (sym z))) refl) in
      let none : find_serial rest f.serial ≡ None = found-none rest f.serial (λ p h. absurd (omega (arith, apart zero (suc p) f h.entry refl h.at (sym h.serial_is)))) in
      let at : slice_get (history rest n) f.serial ≡ Some None = slice_get-below (find_serial rest) n f.serial (below zero f refl) ∙ ap Some none in
      let IH = count-history rest n apart_rest (λ p e at. below (suc p) e at) in
      let more = sum_by-cons (λ (o : Option (Entry T)). cond (is_some o) 1 0) (Some f) rest in
      rw one (omega (arith, IH, more, count-some_more (history rest n) f.serial f.value at))

  -- a value was written
  module _ (old new : Slab (Entry T)) (place next serial : ℕ) (v : T) (sound : IsSound old.slots next) (h : HasSerialAt old.slots serial place) (updates : Updates old new place (Some (record h.entry { value = v }))) where
    wrote : (k : ℕ) (f : Entry T) → IsAt new.slots k f → ((k ≡ place) × (f.serial ≡ serial)) ⊎ ((k ≢ place) × IsAt old.slots k f)
    wrote k f at =
        elim (changed old new place (Some (record h.entry { value = v })) k f updates at) [
          | inl w ↦ inl (w.0, sym (ap (λ (x : Entry T). x.serial) (same_Some (record h.entry { value = v }) f w.1)) ∙ h.serial_is)
          | inr w ↦ inr w
        ]

    -- the entry that was there
    was-at : (k : ℕ) (f : Entry T) → IsAt new.slots k f → (e : Entry T) × IsAt old.slots k e × (e.serial ≡ f.serial)
    was-at k f at =
        elim (wrote k f at) [
          | inl w ↦ (h.entry, ap (get old) w.0 ∙ h.at, h.serial_is ∙ sym w.1)
          | inr w ↦ (f, w.1, refl)
        ]

    pub sound-written : IsSound new.slots next
    sound-written =
        record {
          below = λ k f at. let e = was-at k f at in omega (arith, e.2, sound.below k e.0 e.1);
          apart = λ j k f g here there same.
              let e = was-at j f here in
              let x = was-at k g there in
              sound.apart j k e.0 x.0 e.1 x.1 (e.2 ∙ same ∙ sym x.2);
        }

    pub history-written : history new.slots next ≡ set (history old.slots next) serial (Some v)
    history-written =
        values-set (find_serial old.slots) (find_serial new.slots) next serial (Some v)
        (let there = found-at new.slots place (record h.entry { value = v }) sound-written.apart updates.changed in rw h.serial_is at there)
        (λ k other. found-same old.slots new.slots k sound.apart sound-written.apart
        (λ p f at is. updates.others p (λ z.
        other (sym is ∙ ap (λ (x : Entry T). x.serial) (same_Some f h.entry (sym at ∙ ap (get old) z ∙ h.at)) ∙ h.serial_is)) ∙ at)
        (λ p f at is. elim (wrote p f at) [
          | inl w ↦ absurd (other (sym is ∙ w.1))
          | inr w ↦ w.1
        ]))

  -- a value was written through a reference to the entry
  module _ (old : Slab (Entry T)) (place next serial : ℕ) (v : T) (sound : IsSound old.slots next) (h : HasSerialAt old.slots serial place) (e : Entry T) (at : get old place ≡ Some e) where
    found-e : HasSerialAt old.slots serial place
    found-e = record { entry = e; at = at; serial_is = ap (λ (x : Entry T). x.serial) (same_Some e h.entry (sym at ∙ h.at)) ∙ h.serial_is }

    lent : Updates old (with_value old place (record e { value = v })) place (Some (record e { value = v }))
    lent = Updates-with_value old place (record e { value = v }) (ap is_some at)

    pub sound-lent : IsSound (set old.slots place (Some (record e { value = v }))) next
    unfolding found-e
    sound-lent = sound-written old (with_value old place (record e { value = v })) place next serial v sound found-e lent

    pub history-lent : history (set old.slots place (Some (record e { value = v }))) next ≡ set (history old.slots next) serial (Some v)
    unfolding found-e
    history-lent = history-written old (with_value old place (record e { value = v })) place next serial v sound found-e lent

  -- where fewer values are there than have room, one more has
  pub has-room : (slab : Slab (Entry T)) (next : ℕ) (r : RegistryState T) → IsSound slab.slots next → ◌≡◌ {A = RegistryState T} (record { values = history slab.slots next; capacity = slab.capacity }) r → live_count r.values < r.capacity → HasRoomFor slab 1
  has-room slab next r sound is room =
      let counted = count-history slab.slots next sound.apart sound.below in
      let live = ap (λ (s : RegistryState T). live_count s.values) is in
      let capacity = ap (λ (s : RegistryState T). s.capacity) is in
      omega (arith, counted, live, capacity, room)

  -- and the other way, where only the room is another
  pub room-after : (old new : Slab (Entry T)) (next : ℕ) → IsSound old.slots next → new ≡ record old { capacity = new.capacity } → HasRoomFor new 1 → live_count (history new.slots next) < new.capacity
  room-after old new next sound kept room =
      let same : new.slots ≡ old.slots = ap (λ (s : Slab (Entry T)). s.slots) kept in
      let counted = count-history old.slots next sound.apart sound.below in
      let before : count_by is_some new.slots ≡ count_by is_some old.slots = ap (count_by is_some) same in
      let after : live_count (history new.slots next) ≡ live_count (history old.slots next) = ap (λ slots. live_count (history slots next)) same in
      omega (arith, counted, before, after, room)

-- what follows where a call did not fail
pub on-ok : {A E : Type 0} (r : Result A E) (P Q : Type 0) → OnOk r P → (P → Q) → OnOk r Q
on-ok (Ok a) P Q ok then_ = then_ ok
on-ok (Err e) P Q ok then_ = tt
