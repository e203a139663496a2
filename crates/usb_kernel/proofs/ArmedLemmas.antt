-- Armed refusals over calls.
use Rattle.std.proofs.Common.{◌≡◌, ◌≢◌, ℕ, true, false, cond, List, [], ◌∷◌, drop, refl, ap, inl, inr, arith}
use Rattle.std.specs.Prelude.{◌==◌, ◌&&◌, is_some}
use Rattle.std.proofs.lemmas.Bool.{cases_Bool, cases_eq}
use Rattle.usb_kernel_devices.specs.declared.step.Armed.{Armed}
use Rattle.usb_kernel_devices.specs.declared.step.KernelCall.{KernelCall}
use Rattle.usb_kernel_devices.specs.Devices.{plugged_device}
use Rattle.usb_kernel_devices.specs.Refusals.{call_number, is_armed_for, disarmed}
use Rattle.usb_kernel.specs.Calls.{called}
use Rattle.usb_kernel.specs.CallLaws.{UnpluggedIsRefused, ArmedComesFirst, armed_for, ArmedIsUsedOnce, OthersStayArmed, RefusedChangesNone}

pub unplugged-refused : UnpluggedIsRefused
unfolding called
unplugged-refused k d c rules change none = (rw none refl, rw none refl)

pub armed-first : ArmedComesFirst
armed-first k d errno c rules plugged armed = rw (plugged, armed) refl

-- the first of its kind goes, and all others stay
own-disarmed : (armed : List Armed) (d : ℕ) (c : KernelCall) → armed_for (disarmed armed d c) d c ≡ drop 1 (armed_for armed d c)
own-disarmed [] d c = refl
own-disarmed (a ∷ others) d c =
    elim (cases_Bool (is_armed_for d c a)) [
      | inl own ↦ rw own refl
      | inr apart ↦ rw (apart, apart) (own-disarmed others d c)
    ]

tests-apart : (x d d' n m m' : ℕ) → (d ≡ d' → m ≢ m') → (x == d && n == m) ≡ true → (x == d' && n == m') ≡ false
tests-apart x d d' n m m' apart own =
    elim (cases_eq d d') [
      | inl same ↦ let differ : m ≢ m' = apart same in grind (arith, differ, own)
      | inr differ ↦ grind (arith, differ, own)
    ]

others-disarmed : (armed : List Armed) (d d' : ℕ) (c c' : KernelCall) → (d ≡ d' → call_number c ≢ call_number c') → armed_for (disarmed armed d c) d' c' ≡ armed_for armed d' c'
others-disarmed [] d d' c c' apart = refl
others-disarmed (a ∷ others) d d' c c' apart =
    elim (cases_Bool (is_armed_for d c a)) [
      | inl own ↦ let other : is_armed_for d' c' a ≡ false = tests-apart a.device d d' (call_number a.call) (call_number c) (call_number c') apart own in rw (own, other) refl
      | inr no_ ↦ rw no_ (ap (λ (ys : List Armed). cond (is_armed_for d' c' a) (a ∷ ys) ys) (others-disarmed others d d' c c' apart))
    ]

pub armed-once : ArmedIsUsedOnce
unfolding called
armed-once k d c rules change plugged = rw plugged (own-disarmed k.armed d c)

pub others-armed : OthersStayArmed
unfolding called
others-armed k d d' c c' rules change apart =
    elim (is_some (plugged_device k.devices d)) as (λ v. armed_for (cond v (disarmed k.armed d c) k.armed) d' c' ≡ armed_for k.armed d' c') [
      | true ↦ others-disarmed k.armed d d' c c' apart
      | false ↦ refl
    ]

pub refused-changes_none : RefusedChangesNone
unfolding called
refused-changes_none k d errno c rules change refused = rw refused refl
