-- Calls on devices, and what they leave.
use Rattle.std.proofs.Common.{◌≡◌, ℕ, Bool, true, false, cond, List, [], ◌∷◌, set, get_or, Some, Result, Ok, Err, refl, ap, ◌∙◌}
use Rattle.std.specs.Prelude.{◌||◌, position, find, is_some, OnOk}
use Rattle.std.specs.List.{list_any}
use Rattle.usb_kernel_devices.specs.declared.devices.DeviceState.{DeviceState}
use Rattle.usb_kernel_devices.specs.Devices.{has_device_number, change_device}
use Rattle.usb_kernel_devices.proofs.DeviceLemmas.{placed}

-- a search finds something where a test holds of something
pub is_some-find_any : {X : Type 0} (p : X → Bool) (xs : List X) → is_some (find p xs) ≡ list_any p xs
is_some-find_any p [] = refl
is_some-find_any p (x ∷ xs) = elim (p x) as (λ v. is_some (cond v (Some x) (find p xs)) ≡ (v || list_any p xs)) [ true ↦ refl | false ↦ is_some-find_any p xs ]

-- what is written back of the device that answers a call
pub call-written : (change : DeviceState → DeviceState) (ds : List DeviceState) (k at : ℕ) (d new : DeviceState) (r : Result (Unit {0}) ℕ) → position (has_device_number k) ds ≡ Some at → d ≡ get_or ds at d → OnOk r (new ≡ change d) → OnOk r (set ds at new ≡ change_device change k ds)
call-written change ds k at d new (Ok x) place read ok = let p = placed change ds k at d place read in ap (set ds at) ok ∙ p.changed
call-written change ds k at d new (Err errno) place read ok = tt
