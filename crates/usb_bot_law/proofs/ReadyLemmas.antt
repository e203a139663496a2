-- A device takes submissions before the end of a claim, and after it: nothing else changes that than
-- an unplug or a refusal that is armed for submissions.
use Rattle.std.proofs.Common.{◌≡◌, ℕ, Bool, List, [], ◌∷◌, Option, Some, None, true, false, refl, sym, ap, ◌∙◌, arith, inl, inr}
use Rattle.std.specs.Prelude.{find, is_some, cond, ◌==◌, option_and_then}
use Rattle.std.specs.Option.{option_map}
use Rattle.std.proofs.lemmas.Bool.{cases_Bool}
use Rattle.std.proofs.lemmas.Grind.{common_steps}
use Rattle.usb_kernel_devices.specs.declared.devices.DeviceState.{DeviceState}
use Rattle.usb_kernel_devices.specs.declared.step.Armed.{Armed}
use Rattle.usb_kernel_devices.specs.declared.step.KernelCall.TheVariants as call
use Rattle.usb_kernel_devices.specs.Devices.{plugged_device, change_device, has_device_number, if_plugged}
use Rattle.usb_kernel_devices.specs.Refusals.{armed_errno, is_armed_for, disarmed, armed_left}
use Rattle.usb_kernel_devices.specs.Claims.{after_release, without_claim}
use Rattle.usb_kernel_devices.specs.Calls.{attach_rules, with_driver, devices_called}
use Rattle.usb_kernel.specs.Value.{KernelState}
use Rattle.usb_kernel.specs.Calls.{called, errno_of}
use Rattle.usb_kernel.specs.Submits.{submit_refusal}

-- a change that leaves the number of a device, and whether it is plugged
pub record KeepsPlugged (change : DeviceState → DeviceState) : Type 0 where
  pub number : (x : DeviceState) → (change x).number ≡ x.number
  pub plugged : (x : DeviceState) → (change x).plugged ≡ x.plugged

is-plugged : (x : DeviceState) → is_some (if_plugged x) ≡ x.plugged
is-plugged x = elim x.plugged as (λ v. is_some (cond v (Some x) None) ≡ v) [ true ↦ refl | false ↦ refl ]

module _ (change : DeviceState → DeviceState) (keeps : KeepsPlugged change) where
  first-same : (x : DeviceState) (o : Option DeviceState) (v : Bool) → is_some (option_and_then if_plugged (cond v (Some (change x)) o)) ≡ is_some (option_and_then if_plugged (cond v (Some x) o))
  first-same x o true = is-plugged (change x) ∙ (keeps.plugged x ∙ sym (is-plugged x))
  first-same x o false = refl

  behind : (x : DeviceState) (o u : Option DeviceState) → is_some (option_and_then if_plugged o) ≡ is_some (option_and_then if_plugged u) → (v : Bool) →
      is_some (option_and_then if_plugged (cond v (Some x) o)) ≡ is_some (option_and_then if_plugged (cond v (Some x) u))
  behind x o u same true = refl
  behind x o u same false = same

  pub changed-plugged : (devices : List DeviceState) (k d : ℕ) → is_some (plugged_device (change_device change k devices) d) ≡ is_some (plugged_device devices d)
  changed-plugged [] k d = refl
  changed-plugged (x ∷ xs) k d =
      elim (cases_Bool (x.number == k)) [
        | inl here ↦
            ap (λ v. is_some (plugged_device (cond v (change x ∷ xs) (x ∷ change_device change k xs)) d)) here
            ∙ ap (λ n. is_some (option_and_then if_plugged (cond (n == d) (Some (change x)) (find (has_device_number d) xs)))) (keeps.number x)
            ∙ first-same x (find (has_device_number d) xs) (x.number == d)
        | inr apart ↦
            ap (λ v. is_some (plugged_device (cond v (change x ∷ xs) (x ∷ change_device change k xs)) d)) apart
            ∙ behind x (find (has_device_number d) (change_device change k xs)) (find (has_device_number d) xs) (changed-plugged xs k d) (x.number == d)
      ]

-- a refusal that is armed for an attach is none of a submission
attach-apart : (a : Armed) (k d : ℕ) → is_armed_for k call.Attach a ≡ true → is_armed_for d call.Submit a ≡ false
attach-apart a k d own = grind (arith, common_steps)

others-find : (armed : List Armed) (k d : ℕ) → find (is_armed_for d call.Submit) (disarmed armed k call.Attach) ≡ find (is_armed_for d call.Submit) armed
others-find [] k d = refl
others-find (a ∷ others) k d =
    elim (cases_Bool (is_armed_for k call.Attach a)) [
      | inl own ↦
          ap (λ v. find (is_armed_for d call.Submit) (cond v others (a ∷ disarmed others k call.Attach))) own
          ∙ sym (ap (λ v. cond v (Some a) (find (is_armed_for d call.Submit) others)) (attach-apart a k d own))
      | inr apart ↦
          ap (λ v. find (is_armed_for d call.Submit) (cond v others (a ∷ disarmed others k call.Attach))) apart
          ∙ ap (λ o. cond (is_armed_for d call.Submit a) (Some a) o) (others-find others k d)
    ]

armed-same : (devices : List DeviceState) (armed : List Armed) (k d : ℕ) → armed_errno (armed_left devices armed k call.Attach) d call.Submit ≡ armed_errno armed d call.Submit
armed-same devices armed k d = by (is_some (plugged_device devices k))
  where
    by : (v : Bool) → armed_errno (cond v (disarmed armed k call.Attach) armed) d call.Submit ≡ armed_errno armed d call.Submit
    by true = ap (option_map (λ (a : Armed). a.errno)) (others-find armed k d)
    by false = refl

-- the release of a claim
pub ready-released : (devices : List DeviceState) (armed : List Armed) (k number d : ℕ) → submit_refusal (after_release devices k number) armed d ≡ submit_refusal devices armed d
ready-released devices armed k number d =
    ap (λ v. cond v (armed_errno armed d call.Submit) (Some 19)) (changed-plugged (without_claim number) (record { number = λ x. refl; plugged = λ x. refl }) devices k d)

-- and the attach of a driver
pub ready-attached : (h : KernelState) (k number d : ℕ) →
    submit_refusal (called h k call.Attach (attach_rules number) (with_driver number)).devices (called h k call.Attach (attach_rules number) (with_driver number)).armed d ≡
    submit_refusal h.devices h.armed d
unfolding called
ready-attached h k number d =
    ap (λ v. cond v (armed_errno (armed_left h.devices h.armed k call.Attach) d call.Submit) (Some 19)) (plugged-same (errno_of h k call.Attach (attach_rules number)))
    ∙ ap (λ o. cond (is_some (plugged_device h.devices d)) o (Some 19)) (armed-same h.devices h.armed k d)
  where
    plugged-same : (o : Option ℕ) → is_some (plugged_device (devices_called h.devices k (with_driver number) o) d) ≡ is_some (plugged_device h.devices d)
    plugged-same None = changed-plugged (with_driver number) (record { number = λ x. refl; plugged = λ x. refl }) h.devices k d
    plugged-same (Some errno) = refl
