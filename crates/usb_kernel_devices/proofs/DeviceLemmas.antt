-- The device that a number names.
use Rattle.std.proofs.Common.{◌≡◌, ℕ, ◌+◌, ◌<◌, suc, zero, arith, true, false, List, [], ◌∷◌, length, set, get_or, Some, None, refl, ap, sym, ◌∙◌, inl, inr, cond}
use Rattle.std.specs.Prelude.{position, is_some, ◌==◌}
use Rattle.std.specs.List.{position_from}
use Rattle.std.proofs.lemmas.Bool.{cases_Bool}
use Rattle.std.proofs.lemmas.Option.{none-some}
use Rattle.std.proofs.lemmas.List.Quantifiers.{position-Some}
use Rattle.std.proofs.lemmas.Iterator.Adapters.{position_from-zero}
use Rattle.usb_kernel_devices.specs.declared.devices.DeviceState.{DeviceState}
use Rattle.usb_kernel_devices.specs.Devices.{has_device_number, device_of, if_plugged, change_device}

-- what is known of the place of a number
pub record Placed (change : DeviceState → DeviceState) (ds : List DeviceState) (k i : ℕ) (d : DeviceState) : Type 0 where
  pub inside : i < length ds
  pub device : device_of ds k ≡ Some d
  pub changed : set ds i (change d) ≡ change_device change k ds

first-placed : (change : DeviceState → DeviceState) (ds : List DeviceState) (k i : ℕ) (d : DeviceState) → i < length ds → has_device_number k (get_or ds i d) ≡ true → ((j : ℕ) → j < i → has_device_number k (get_or ds j d) ≡ false) → d ≡ get_or ds i d → (device_of ds k ≡ Some d) × (set ds i (change d) ≡ change_device change k ds)
first-placed change [] k i d inside here before read = absurd (omega arith)
first-placed change (x ∷ ds) k zero d inside here before read =
    let same : d ≡ x = read in
    (rw here (ap (λ (y : DeviceState). Some y) (sym same)), rw here (ap (λ (y : DeviceState). change y ∷ ds) same))
first-placed change (x ∷ ds) k (suc i) d inside here before read =
    let apart : has_device_number k x ≡ false = before 0 (omega arith) in
    let rest = first-placed change ds k i d (omega arith) here (λ j below. before (suc j) (omega arith)) read in
    (rw apart rest.0, rw apart (ap (λ ys. x ∷ ys) rest.1))

pub placed : (change : DeviceState → DeviceState) (ds : List DeviceState) (k i : ℕ) (d : DeviceState) → position (has_device_number k) ds ≡ Some i → d ≡ get_or ds i d → Placed change ds k i d
placed change ds k i d at read =
    let p = position-Some (has_device_number k) ds i d at in
    let both = first-placed change ds k i d p.0 p.1 p.2 read in
    record { inside = p.0; device = both.0; changed = both.1 }

nowhere : (change : DeviceState → DeviceState) (ds : List DeviceState) (k n : ℕ) → position_from (has_device_number k) n ds ≡ None → (device_of ds k ≡ None) × (change_device change k ds ≡ ds)
nowhere change [] k n none = (refl, refl)
nowhere change (x ∷ ds) k n none =
    elim (cases_Bool (has_device_number k x)) [
      | inl here ↦ absurd (none-some n (sym (rw here at none)))
      | inr apart ↦
          let rest = nowhere change ds k (n + 1) (rw apart at none) in
          (rw apart rest.0, rw apart (ap (λ ys. x ∷ ys) rest.1))
    ]

-- a number that no device has
pub unplaced : (change : DeviceState → DeviceState) (ds : List DeviceState) (k : ℕ) → position (has_device_number k) ds ≡ None → (device_of ds k ≡ None) × (change_device change k ds ≡ ds)
unplaced change ds k none = nowhere change ds k 0 (sym (position_from-zero (has_device_number k) ds) ∙ none)

-- whether there is a plugged device of a number
pub is_some-if_plugged : (d : DeviceState) → is_some (if_plugged d) ≡ d.plugged
is_some-if_plugged d = elim d.plugged as (λ v. is_some (cond v (Some d) None) ≡ v) [ true ↦ refl | false ↦ refl ]

-- a change that changes nothing
pub same-change : (ds : List DeviceState) (k : ℕ) → change_device (λ d. d) k ds ≡ ds
same-change [] k = refl
same-change (d ∷ ds) k = elim (d.number == k) as (λ v. cond v (d ∷ ds) (d ∷ change_device (λ x. x) k ds) ≡ d ∷ ds) [ true ↦ refl | false ↦ ap (λ xs. d ∷ xs) (same-change ds k) ]
