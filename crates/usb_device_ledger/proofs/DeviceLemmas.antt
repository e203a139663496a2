-- Open devices when one of them changes.
use Rattle.std.proofs.Common.{◌≡◌, ◌≢◌, ℕ, ◌+◌, ◌<◌, arith, Bool, true, false, cond, List, [], ◌∷◌, ◌++◌, set, Option, Some, None, refl, sym, ap, ◌∙◌, subst, inl, inr, lt-ltb}
use Rattle.std.specs.Prelude.{IsSome}
use Rattle.std.specs.Option.{option_map}
use Rattle.std.proofs.lemmas.Bool.{cases_eq, cases_Bool}
use Rattle.std.proofs.lemmas.Option.{none-some, same_Some}
use Rattle.usb_device_tables.specs.History.{value_at}
use Rattle.usb_device_tables.proofs.ValueLemmas.{some-of, is-some, set-set, value-set_same, value-set_other, value-push}
use Rattle.usb_device_ledger.specs.declared.opened.OpenDevice.{OpenDevice}
use Rattle.std.specs.Prelude.{◌||◌, nat_lt}
use Rattle.std.proofs.lemmas.Grind.{common_steps}
use Rattle.usb_device_ledger.specs.Devices.{is_held, if_held, changed_on, device_changed, handle_more, interface_more}

pub changed-none : (devices : List (Option OpenDevice)) (k : ℕ) (change : OpenDevice → OpenDevice) → value_at devices k ≡ None → device_changed devices k change ≡ devices
unfolding device_changed
changed-none devices k change none = ap (changed_on devices k change) none

pub changed-some : (devices : List (Option OpenDevice)) (k : ℕ) (change : OpenDevice → OpenDevice) (o : OpenDevice) → value_at devices k ≡ Some o → device_changed devices k change ≡ set devices k (if_held (change o))
unfolding device_changed
changed-some devices k change o at = ap (changed_on devices k change) at

-- it is held still, or no more
pub changed-held : (devices : List (Option OpenDevice)) (k : ℕ) (change : OpenDevice → OpenDevice) (o : OpenDevice) → value_at devices k ≡ Some o → is_held (change o) ≡ true → device_changed devices k change ≡ set devices k (Some (change o))
changed-held devices k change o at held =
    changed-some devices k change o at ∙ ap (λ (b : Bool). set devices k (cond b (Some (change o)) None)) held

pub changed-gone : (devices : List (Option OpenDevice)) (k : ℕ) (change : OpenDevice → OpenDevice) (o : OpenDevice) → value_at devices k ≡ Some o → is_held (change o) ≡ false → device_changed devices k change ≡ set devices k None
changed-gone devices k change o at gone =
    changed-some devices k change o at ∙ ap (λ (b : Bool). set devices k (cond b (Some (change o)) None)) gone

-- one more of these, and it is held
pub held-handle_more : (o : OpenDevice) → is_held (handle_more o) ≡ true
held-handle_more o = some (o.handles) (nat_lt 0 o.interfaces)
  where
    some : (n : ℕ) (b : Bool) → (nat_lt 0 (n + 1) || b) ≡ true
    some n b = grind (arith, common_steps)

pub held-interface_more : (o : OpenDevice) → is_held (interface_more o) ≡ true
held-interface_more o = some (nat_lt 0 o.handles) o.interfaces
  where
    some : (b : Bool) (n : ℕ) → (b || nat_lt 0 (n + 1)) ≡ true
    some true n = refl
    some false n = grind (arith, common_steps)

-- it is taken out, after a change of its counts
pub changed-removed : (devices : List (Option OpenDevice)) (k : ℕ) (change : OpenDevice → OpenDevice) (o : OpenDevice) (after : List (Option OpenDevice)) → value_at devices k ≡ Some o → is_held (change o) ≡ false → after ≡ set (set devices k (Some (change o))) k None → after ≡ device_changed devices k change
changed-removed devices k change o after at gone is =
    is ∙ set-set devices k (Some (change o)) None ∙ sym (changed-gone devices k change o at gone)

-- the device of a key once it has changed, and the others
pub changed-at : (devices : List (Option OpenDevice)) (k : ℕ) (change : OpenDevice → OpenDevice) (o : OpenDevice) → value_at devices k ≡ Some o → value_at (device_changed devices k change) k ≡ if_held (change o)
changed-at devices k change o at = ap (λ ds. value_at ds k) (changed-some devices k change o at) ∙ value-set_same devices k o (if_held (change o)) at

pub changed-other : (devices : List (Option OpenDevice)) (k j : ℕ) (change : OpenDevice → OpenDevice) → k ≢ j → value_at (device_changed devices k change) j ≡ value_at devices j
changed-other devices k j change apart = by (value_at devices k) refl
  where
    by : (o : Option OpenDevice) → value_at devices k ≡ o → value_at (device_changed devices k change) j ≡ value_at devices j
    by None none = ap (λ ds. value_at ds j) (changed-none devices k change none)
    by (Some o) at = ap (λ ds. value_at ds j) (changed-some devices k change o at) ∙ value-set_other devices k j (if_held (change o)) apart

-- what is open stays there over a change that holds it
pub changed-there : (devices : List (Option OpenDevice)) (k j : ℕ) (change : OpenDevice → OpenDevice) → ((o : OpenDevice) → is_held (change o) ≡ true) → IsSome (value_at devices j) → IsSome (value_at (device_changed devices k change) j)
changed-there devices k j change held there =
    let o = some-of (value_at devices j) there in
    elim (cases_eq k j) [
      | inl same ↦
          let at : value_at devices k ≡ Some o.0 = ap (value_at devices) same ∙ o.1 in
          is-some _ (change o.0) (ap (value_at (device_changed devices k change)) (sym same) ∙ changed-at devices k change o.0 at ∙ ap (λ (b : Bool). cond b (Some (change o.0)) None) (held o.0))
      | inr apart ↦ is-some _ o.0 (changed-other devices k j change apart ∙ o.1)
    ]

-- the counts of an open device: its handles, and its interfaces with handles
abbrev pub counts_of : OpenDevice → ℕ × ℕ
counts_of o = (o.handles, o.interfaces)

-- the same devices are open, each with the same counts
abbrev pub KeepsCounts : List (Option OpenDevice) → List (Option OpenDevice) → Type 0
KeepsCounts old new = (k : ℕ) → option_map counts_of (value_at new k) ≡ option_map counts_of (value_at old k)

pub counts-same : (old new : List (Option OpenDevice)) → new ≡ old → KeepsCounts old new
counts-same old new same k = ap (λ ds. option_map counts_of (value_at ds k)) same

pub counts-set : (devices : List (Option OpenDevice)) (key : ℕ) (o p : OpenDevice) → value_at devices key ≡ Some o → counts_of p ≡ counts_of o → KeepsCounts devices (set devices key (Some p))
counts-set devices key o p at same k =
    elim (cases_eq key k) [
      | inl here ↦
          ap (λ j. option_map counts_of (value_at (set devices key (Some p)) j)) (sym here)
          ∙ ap (option_map counts_of) (value-set_same devices key o (Some p) at) ∙ ap Some same
          ∙ sym (ap (option_map counts_of) at) ∙ ap (λ j. option_map counts_of (value_at devices j)) here
      | inr apart ↦ ap (option_map counts_of) (value-set_other devices key k (Some p) apart)
    ]

-- the device that has these counts, on the other side
pub record Counted (devices : List (Option OpenDevice)) (key : ℕ) (o : OpenDevice) : Type 0 where
  pub device : OpenDevice
  pub at : value_at devices key ≡ Some device
  pub handles : device.handles ≡ o.handles
  pub interfaces : device.interfaces ≡ o.interfaces

counted-by : (devices : List (Option OpenDevice)) (key : ℕ) (o : OpenDevice) (found : Option OpenDevice) → value_at devices key ≡ found → option_map counts_of found ≡ Some (counts_of o) → Counted devices key o
counted-by devices key o None at is = absurd (none-some (counts_of o) is)
counted-by devices key o (Some p) at is =
    let same : counts_of p ≡ counts_of o = same_Some (counts_of p) (counts_of o) is in
    record { device = p; at = at; handles = ap (λ (c : ℕ × ℕ). c.0) same; interfaces = ap (λ (c : ℕ × ℕ). c.1) same }

pub counted-new : (old new : List (Option OpenDevice)) (key : ℕ) (o : OpenDevice) → KeepsCounts old new → value_at old key ≡ Some o → Counted new key o
counted-new old new key o keeps at = counted-by new key o (value_at new key) refl (keeps key ∙ ap (option_map counts_of) at)

pub counted-old : (old new : List (Option OpenDevice)) (key : ℕ) (o : OpenDevice) → KeepsCounts old new → value_at new key ≡ Some o → Counted old key o
counted-old old new key o keeps at = counted-by old key o (value_at old key) refl (sym (keeps key) ∙ ap (option_map counts_of) at)

pub counts-there : (old new : List (Option OpenDevice)) → KeepsCounts old new → (k : ℕ) → IsSome (value_at old k) → IsSome (value_at new k)
counts-there old new keeps k there =
    let o = some-of (value_at old k) there in
    let c = counted-new old new k o.0 keeps o.1 in
    is-some _ c.device c.at

-- what is open stays open
abbrev pub KeepsThere : List (Option OpenDevice) → List (Option OpenDevice) → Type 0
KeepsThere old new = (k : ℕ) → IsSome (value_at old k) → IsSome (value_at new k)

pub there-same : (old new : List (Option OpenDevice)) → new ≡ old → KeepsThere old new
there-same old new same k there = subst (λ ds. IsSome (value_at ds k)) (sym same) there

pub there-push : (devices : List (Option OpenDevice)) (o : OpenDevice) → KeepsThere devices (devices ++ Some o ∷ [])
there-push devices o k there =
    let d = some-of (value_at devices k) there in
    is-some _ d.0 (value-push devices (Some o) k d.0 d.1)

-- the device of a key has this many handles
pub record HasHandles (devices : List (Option OpenDevice)) (key n : ℕ) : Type 0 where
  pub device : OpenDevice
  pub at : value_at devices key ≡ Some device
  pub handles : device.handles ≡ n

-- what has an open handle stays, with as many; and what is there was there, with as many
pub record KeepsOpened (old new : List (Option OpenDevice)) : Type 0 where
  pub stays : (key : ℕ) (o : OpenDevice) → value_at old key ≡ Some o → 0 < o.handles → HasHandles new key o.handles
  pub was : (key : ℕ) (o : OpenDevice) → value_at new key ≡ Some o → HasHandles old key o.handles

pub opened-counts : (old new : List (Option OpenDevice)) → KeepsCounts old new → KeepsOpened old new
opened-counts old new keeps =
    record {
      stays = λ key o at some. let c = counted-new old new key o keeps at in record { device = c.device; at = c.at; handles = c.handles };
      was = λ key o at. let c = counted-old old new key o keeps at in record { device = c.device; at = c.at; handles = c.handles };
    }

pub opened-same : (old new : List (Option OpenDevice)) → new ≡ old → KeepsOpened old new
opened-same old new same = opened-counts old new (counts-same old new same)

pub handle-held : (o : OpenDevice) → 0 < o.handles → is_held o ≡ true
handle-held o some = rw (lt-ltb 0 o.handles some) refl

-- what a device that changed is now
pub is-changed : (o p : OpenDevice) → if_held o ≡ Some p → p ≡ o
is-changed o p is =
    elim (cases_Bool (is_held o)) [
      | inl yes_ ↦ sym (same_Some o p (sym (ap (λ (b : Bool). cond b (Some o) None) yes_) ∙ is))
      | inr no_ ↦ absurd (none-some p (sym (ap (λ (b : Bool). cond b (Some o) None) no_) ∙ is))
    ]

changed-stays : (devices : List (Option OpenDevice)) (k : ℕ) (change : OpenDevice → OpenDevice) → ((o : OpenDevice) → (change o).handles ≡ o.handles) → (key : ℕ) (o : OpenDevice) → value_at devices key ≡ Some o → 0 < o.handles → HasHandles (device_changed devices k change) key o.handles
changed-stays devices k change same key o at some =
    elim (cases_eq k key) [
      | inl here ↦
          let at_k : value_at devices k ≡ Some o = ap (value_at devices) here ∙ at in
          let more : 0 < (change o).handles = omega (arith, some, same o) in
          record {
            device = change o;
            at = ap (value_at (device_changed devices k change)) (sym here) ∙ changed-at devices k change o at_k ∙ ap (λ (b : Bool). cond b (Some (change o)) None) (handle-held (change o) more);
            handles = same o;
          }
      | inr apart ↦ record { device = o; at = changed-other devices k key change apart ∙ at; handles = refl }
    ]

changed-was : (devices : List (Option OpenDevice)) (k : ℕ) (change : OpenDevice → OpenDevice) → ((o : OpenDevice) → (change o).handles ≡ o.handles) → (key : ℕ) (p : OpenDevice) → value_at (device_changed devices k change) key ≡ Some p → HasHandles devices key p.handles
changed-was devices k change same key p at =
    elim (cases_eq k key) [
      | inl here ↦ by (value_at devices k) refl here
      | inr apart ↦ record { device = p; at = sym (changed-other devices k key change apart) ∙ at; handles = refl }
    ]
  where
    by : (o : Option OpenDevice) → value_at devices k ≡ o → k ≡ key → HasHandles devices key p.handles
    by None none here =
        let gone : value_at (device_changed devices k change) key ≡ None = ap (value_at (device_changed devices k change)) (sym here) ∙ ap (λ ds. value_at ds k) (changed-none devices k change none) ∙ none in
        absurd (none-some p (sym gone ∙ at))
    by (Some o) there here =
        let is : if_held (change o) ≡ Some p = sym (changed-at devices k change o there) ∙ ap (value_at (device_changed devices k change)) here ∙ at in
        record { device = o; at = ap (value_at devices) (sym here) ∙ there; handles = sym (same o) ∙ sym (ap (λ (x : OpenDevice). x.handles) (is-changed (change o) p is)) }

pub opened-changed : (devices : List (Option OpenDevice)) (k : ℕ) (change : OpenDevice → OpenDevice) → ((o : OpenDevice) → (change o).handles ≡ o.handles) → KeepsOpened devices (device_changed devices k change)
opened-changed devices k change same =
    record { stays = changed-stays devices k change same; was = changed-was devices k change same }
