-- An open device has as many open handles as there are names of it.
use Rattle.std.proofs.Common.{◌≡◌, ◌≢◌, ℕ, ◌<◌, ◌+◌, arith, Bool, true, false, cond, List, [], ◌∷◌, ◌++◌, length, slice_get, Option, Some, None, refl, ap, sym, ◌∙◌, inl, inr}
use Rattle.std.specs.Prelude.{◌==◌}
use Rattle.std.specs.List.{count_by}
use Rattle.std.proofs.lemmas.Bool.{cases_eq, eq-eqb, ne_eqb}
use Rattle.std.proofs.lemmas.Option.{same_Some}
use Rattle.usb_device_tables.specs.History.{value_at}
use Rattle.usb_device_tables.proofs.ValueLemmas.{value-within, value-last, value-pushed}
use Rattle.usb_device_ledger.specs.OwnerRows.{one_if}
use Rattle.usb_device_ledger.proofs.ListLemmas.{count-some}
use Rattle.usb_device_ledger.specs.declared.opened.OpenDevice.{OpenDevice}
use Rattle.usb_device_host.specs.HostState.{HostState}
use Rattle.usb_device_host.specs.HandleStates.{StandsDevice}
use Rattle.usb_device_ledger.specs.Devices.{if_held, device_changed}
use Rattle.usb_device_ledger.proofs.DeviceLemmas.{KeepsOpened, changed-at, changed-other, handle-held, is-changed}
use Rattle.usb_device_host.proofs.HeldDevices.{OpensOne}
use Rattle.usb_session_calls.specs.Names.{named, is_free, freed, nothing, set_name, something}
use Rattle.usb_session_calls.specs.SessionState.{is_device_of}
use Rattle.usb_session_calls.proofs.CountedNames.{count-change, count-none}
use Rattle.usb_session_calls.proofs.NameLemmas.{free_place, place_of, named_of}

-- the names of a device when one that was free is opened, or one that was open is freed
pub count-opened : (key : ℕ) (xs : List (Option ℕ)) (n k : ℕ) → is_free xs n ≡ true → count_by (is_device_of key) (set_name xs n k) ≡ count_by (is_device_of key) xs + one_if (k == key)
unfolding set_name
count-opened key xs n k free = let change = count-change (is_device_of key) (something k) xs n None (free_place xs n free) in omega (arith, change)

pub count-closed : (key : ℕ) (xs : List (Option ℕ)) (n k : ℕ) → named xs n ≡ Some k → count_by (is_device_of key) (freed xs n) + one_if (k == key) ≡ count_by (is_device_of key) xs
unfolding freed
count-closed key xs n k at = let change = count-change (is_device_of key) nothing xs n (Some k) (place_of xs n k at) in omega (arith, change)

no_device : (key : ℕ) (xs : List (Option ℕ)) → ((n k : ℕ) → named xs n ≡ Some k → k ≢ key) → (n : ℕ) (o : Option ℕ) → slice_get xs n ≡ Some o → is_device_of key o ≡ false
no_device key xs apart n None at = refl
no_device key xs apart n (Some k) at = ne_eqb k key (apart n k (named_of xs n (Some k) at))

pub count-no_device : (key : ℕ) (xs : List (Option ℕ)) → ((n k : ℕ) → named xs n ≡ Some k → k ≢ key) → count_by (is_device_of key) xs ≡ 0
count-no_device key xs apart = count-none (is_device_of key) xs (no_device key xs apart)

-- each open device has as many handles as names
abbrev pub CountedDevices : List (Option OpenDevice) → List (Option ℕ) → Type 0
CountedDevices devices names = (key : ℕ) (o : OpenDevice) → value_at devices key ≡ Some o → count_by (is_device_of key) names ≡ o.handles

pub devices-kept : (old new : List (Option OpenDevice)) (names : List (Option ℕ)) → KeepsOpened old new → CountedDevices old names → CountedDevices new names
devices-kept old new names keeps counted key o at = let c = keeps.was key o at in counted key c.device c.at ∙ c.handles

-- one more is open, under a name that was free
pub devices-opened : (h : HostState) (now : List (Option OpenDevice)) (names after : List (Option ℕ)) (n key : ℕ) → OpensOne h now key → ((d k : ℕ) → named names d ≡ Some k → StandsDevice h k) → is_free names n ≡ true → after ≡ set_name names n key → CountedDevices h.devices names → CountedDevices now after
devices-opened h now names after n key opens stand free put counted k o at =
    let more = ap (count_by (is_device_of k)) put ∙ count-opened k names n key free in
    let found : value_at (h.devices ++ Some opens.device ∷ []) k ≡ Some o = sym (ap (λ ds. value_at ds k) opens.devices) ∙ at in
    elim (cases_eq k (length h.devices)) [
      | inl last ↦
          let none = count-no_device k names (λ d j open_ same.
          let s = stand d j open_ in
          let within = value-within h.devices j s.device s.at in
          absurd (omega (arith, within, same, last))) in
          let here : one_if (key == k) ≡ 1 = ap one_if (eq-eqb key k (opens.key_is ∙ sym last)) in
          let same : opens.device ≡ o = same_Some opens.device o (sym (value-last h.devices (Some opens.device)) ∙ sym (ap (value_at (h.devices ++ Some opens.device ∷ [])) last) ∙ found) in
          let handles : o.handles ≡ 1 = sym (ap (λ (x : OpenDevice). x.handles) same) ∙ opens.handles in
          omega (arith, more, none, here, handles)
      | inr apart ↦
          let other : one_if (key == k) ≡ 0 = ap one_if (ne_eqb key k (λ same. apart (sym same ∙ opens.key_is))) in
          let old = counted k o (sym (value-pushed h.devices (Some opens.device) k apart) ∙ found) in
          omega (arith, more, other, old)
    ]

-- the handles of one change
pub devices-changed : (devices now : List (Option OpenDevice)) (names after : List (Option ℕ)) (key : ℕ) (change : OpenDevice → OpenDevice) (o : OpenDevice) → value_at devices key ≡ Some o → now ≡ device_changed devices key change → count_by (is_device_of key) after ≡ (change o).handles
    → ((k : ℕ) → key ≢ k → count_by (is_device_of k) after ≡ count_by (is_device_of k) names) → CountedDevices devices names → CountedDevices now after
devices-changed devices now names after key change o at is here others counted k p found =
    elim (cases_eq key k) [
      | inl same ↦
          let there : if_held (change o) ≡ Some p = sym (changed-at devices key change o at) ∙ sym (ap (λ ds. value_at ds key) is) ∙ ap (value_at now) same ∙ found in
          ap (λ m. count_by (is_device_of m) after) (sym same) ∙ here ∙ sym (ap (λ (x : OpenDevice). x.handles) (is-changed (change o) p there))
      | inr apart ↦ others k apart ∙ counted k p (sym (changed-other devices key k change apart) ∙ sym (ap (λ ds. value_at ds k) is) ∙ found)
    ]

-- a handle with a name stands
pub stands-changed : (h g : HostState) (after : List (Option ℕ)) (key : ℕ) (change : OpenDevice → OpenDevice) (o : OpenDevice) → value_at h.devices key ≡ Some o → g.devices ≡ device_changed h.devices key change → count_by (is_device_of key) after ≡ (change o).handles
    → (n k : ℕ) → named after n ≡ Some k → StandsDevice h k → StandsDevice g k
stands-changed h g after key change o at is here n k open_ stands =
    elim (cases_eq key k) [
      | inl same ↦
          let one = count-some (is_device_of key) after n (Some k) (place_of after n k open_) (eq-eqb k key (sym same)) in
          let some : 0 < (change o).handles = omega (arith, one, here) in
          record {
            device = change o;
            at = ap (value_at g.devices) (sym same) ∙ ap (λ ds. value_at ds key) is ∙ changed-at h.devices key change o at ∙ ap (λ (b : Bool). cond b (Some (change o)) None) (handle-held (change o) some);
            open_handle = some;
          }
      | inr apart ↦ record { device = stands.device; at = ap (λ ds. value_at ds k) is ∙ changed-other h.devices key k change apart ∙ stands.at; open_handle = stands.open_handle }
    ]
