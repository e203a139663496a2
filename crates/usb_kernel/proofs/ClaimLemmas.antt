-- Devices after changes of one of them, and what ends a claim.
use Rattle.std.proofs.Common.{◌≡◌, ◌≢◌, ℕ, true, false, cond, List, [], ◌∷◌, Option, Some, None, refl, ap, sym, ◌∙◌, inl, inr}
use Rattle.std.specs.Prelude.{◌==◌}
use Rattle.std.specs.Option.{option_map, option_map_or}
use Rattle.std.proofs.lemmas.Bool.{cases_Bool, cases_eq, ne_eqb, eq-eqb}
use Rattle.usb_kernel_devices.specs.declared.devices.DeviceState.{DeviceState}
use Rattle.usb_kernel_devices.specs.declared.step.KernelStep.TheVariants as step
use Rattle.usb_kernel_devices.specs.Interfaces.{contains, insert}
use Rattle.usb_kernel_devices.specs.Devices.{has_device_number, device_of, change_device, unplugged}
use Rattle.usb_kernel_devices.specs.Claims.{without_claim}
use Rattle.usb_kernel.specs.ClaimLaws.{is_claimed, ReleasesKeep, StepsKeep, ReleaseEnds}
use Rattle.usb_kernel_devices.proofs.InterfaceLemmas.{contains-insert, contains-insert_other, contains-remove, contains-remove_other}

-- the device of a number after a change of it, and of another
abbrev pub KeepsNumber : (DeviceState → DeviceState) → Type 0
KeepsNumber change = (d : DeviceState) → (change d).number ≡ d.number

pub device-changed : (change : DeviceState → DeviceState) → KeepsNumber change → (ds : List DeviceState) (k : ℕ) → device_of (change_device change k ds) k ≡ option_map change (device_of ds k)
device-changed change keeps [] k = refl
device-changed change keeps (d ∷ ds) k =
    elim (cases_Bool (has_device_number k d)) [
      | inl here ↦ rw (here, ap (λ n. n == k) (keeps d) ∙ here) refl
      | inr apart ↦ rw (apart, apart) (device-changed change keeps ds k)
    ]

pub device-other : (change : DeviceState → DeviceState) → KeepsNumber change → (ds : List DeviceState) (k j : ℕ) → k ≢ j → device_of (change_device change k ds) j ≡ device_of ds j
device-other change keeps [] k j other = refl
device-other change keeps (d ∷ ds) k j other =
    elim (cases_eq d.number k) [
      | inl same ↦
          let is : (d.number == k) ≡ true = eq-eqb d.number k same in
          let no_ : (d.number == j) ≡ false = ne_eqb d.number j (λ z. other (sym same ∙ z)) in
          rw (is, ap (λ n. n == j) (keeps d) ∙ no_, no_) refl
      | inr apart ↦
          let no_ : (d.number == k) ≡ false = ne_eqb d.number k apart in
          rw no_ (elim (d.number == j) as (λ v. cond v (Some d) (device_of (change_device change k ds) j) ≡ cond v (Some d) (device_of ds j)) [ true ↦ refl | false ↦ device-other change keeps ds k j other ])
    ]

-- a change that undoes another
pub undone : (first second : DeviceState → DeviceState) → KeepsNumber first → (ds : List DeviceState) (k : ℕ) → ((d : DeviceState) → device_of ds k ≡ Some d → second (first d) ≡ d) → change_device second k (change_device first k ds) ≡ ds
undone first second keeps [] k undoes = refl
undone first second keeps (d ∷ ds) k undoes =
    elim (cases_Bool (has_device_number k d)) [
      | inl here ↦ rw (here, ap (λ n. n == k) (keeps d) ∙ here) (ap (λ x. x ∷ ds) (undoes d (rw here refl)))
      | inr apart ↦ rw (apart, apart) (ap (λ xs. d ∷ xs) (undone first second keeps ds k (λ x at. undoes x (rw apart at))))
    ]

-- a change of a device keeps the claims that it keeps there
keeps-change : (change : DeviceState → DeviceState) → KeepsNumber change → (devices : List DeviceState) (j k i : ℕ) → (j ≡ k → (d : DeviceState) → contains d.claimed i ≡ true → contains (change d).claimed i ≡ true) → is_claimed devices k i ≡ true → is_claimed (change_device change j devices) k i ≡ true
keeps-change change keeps devices j k i stays claimed =
    elim (cases_eq j k) [
      | inl same ↦ rw (same, device-changed change keeps devices k) (of (device_of devices k) refl same)
      | inr apart ↦ rw (device-other change keeps devices j k apart) claimed
    ]
  where
    of : (o : Option DeviceState) → device_of devices k ≡ o → j ≡ k → option_map_or (λ (d : DeviceState). contains d.claimed i) (option_map change o) false ≡ true
    of None is same = rw is at claimed
    of (Some d) is same = stays same d (rw is at claimed)

pub insert-keeps : (ns : List ℕ) (i j : ℕ) → contains ns i ≡ true → contains (insert ns j) i ≡ true
insert-keeps ns i j here =
    elim (cases_eq j i) [
      | inl same ↦ rw same (contains-insert ns i)
      | inr apart ↦ contains-insert_other ns j i apart ∙ here
    ]

pub releases-keep : ReleasesKeep
releases-keep devices l j k i other claimed =
    keeps-change (without_claim j) (λ d. refl) devices l k i (λ same d here. contains-remove_other d.claimed j i (other same) ∙ here) claimed

pub steps-keep : StepsKeep
steps-keep devices (step.Unplug d) k i claimed = keeps-change unplugged (λ d. refl) devices d k i (λ same d here. here) claimed
steps-keep devices (step.Packet d e b) k i claimed = claimed
steps-keep devices (step.Ack d e) k i claimed = claimed
steps-keep devices (step.Echo d o j) k i claimed = claimed
steps-keep devices (step.Fail d e errno) k i claimed = claimed
steps-keep devices (step.Clock to) k i claimed = claimed
steps-keep devices step.Timer k i claimed = claimed
steps-keep devices (step.Reap t) k i claimed = claimed
steps-keep devices (step.Refuse d call errno) k i claimed = claimed

pub release-ends : ReleaseEnds
release-ends devices k i =
    rw (device-changed (without_claim i) (λ d. refl) devices k) (of (device_of devices k))
  where
    of : (o : Option DeviceState) → option_map_or (λ (d : DeviceState). contains d.claimed i) (option_map (without_claim i) o) false ≡ false
    of None = refl
    of (Some d) = contains-remove d.claimed i
