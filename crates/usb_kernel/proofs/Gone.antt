-- Devices that are gone.
use Rattle.std.proofs.Common.{◌≡◌, ℕ, eqb, true, false, cond, not, ◌&&◌, List, [], ◌∷◌, Option, Some, None, Result, Ok, Err, is_some, refl, sym, ◌∙◌, inl, inr, arith}
use Rattle.std.specs.Option.{option_map}
use Rattle.std.specs.Prelude.{option_and_then, OnOk, OnErr}
use Rattle.std.proofs.lemmas.Bool.{cases_Bool, cases_eq, false≢true}
use Rattle.std.proofs.lemmas.Bool.Decides.{nat_tests}
use Rattle.usb_kernel_devices.specs.declared.calls.DeviceCall.{DeviceCall}
use Rattle.usb_kernel_devices.specs.declared.calls.DeviceCall.TheVariants.{SetConfiguration, Claim, DetachAndClaim, Detach, Attach, SetInterface}
use Rattle.usb_kernel_devices.specs.declared.devices.DeviceState.{DeviceState}
use Rattle.usb_kernel_devices.specs.Devices.{device_of, if_plugged, plugged_device, change_device, devices_unplugged}
use Rattle.usb_kernel_devices.specs.Claims.{without_claim, after_release}
use Rattle.usb_kernel_devices.specs.DeviceCalls.{call_change}
use Rattle.usb_kernel_devices.proofs.DeviceLemmas.{is_some-if_plugged}
use Rattle.usb_kernel.specs.declared.event.Event.{Event}
use Rattle.usb_kernel.specs.declared.event.Event.TheVariants.{Discard, Unplug}
use Rattle.usb_kernel.specs.Discards.{is_unfinished, after_discard}
use Rattle.usb_kernel.specs.Timers.{due, discarded_in_order, timer_turned}
use Rattle.usb_kernel.specs.Acts.{is_gone}
use Rattle.usb_kernel.specs.KernelFacts.{GoneAreUnplugged}
use Rattle.usb_kernel.proofs.ClaimLemmas.{KeepsNumber, device-changed, device-other}

-- after one was pulled out, the others are plugged as before
pub plugged-unplugged : (ds : List DeviceState) (d u : ℕ) → is_some (plugged_device (devices_unplugged ds d) u) ≡ (not (eqb d u) && is_some (plugged_device ds u))
plugged-unplugged [] d u = grind arith
plugged-unplugged (x ∷ ds) d u = grind (arith, nat_tests, plugged-unplugged ds d u)

-- a plugged device is not gone
pub here-not_gone : (past : List Event) (ds : List DeviceState) (d : ℕ) → GoneAreUnplugged past ds → is_some (plugged_device ds d) ≡ true → is_gone past d ≡ false
here-not_gone past ds d kept here =
    elim (cases_Bool (is_gone past d)) [
      | inl gone ↦ absurd (false≢true (sym (kept d gone) ∙ here))
      | inr there ↦ there
    ]

-- one that is pulled out is gone
pub gone-unplug : (past : List Event) (ds : List DeviceState) (d : ℕ) → GoneAreUnplugged past ds → GoneAreUnplugged (Unplug d ∷ past) (devices_unplugged ds d)
gone-unplug past ds d kept u gone =
    plugged-unplugged ds d u
    ∙ elim (cases_Bool (eqb d u)) [
      | inl same ↦ rw same refl
      | inr apart ↦ rw apart (kept u (rw apart at gone))
    ]

-- and those that were gone are so still
pub gone-still : (past : List Event) (ds : List DeviceState) (d : ℕ) → GoneAreUnplugged past ds → GoneAreUnplugged past (devices_unplugged ds d)
gone-still past ds d kept u gone =
    plugged-unplugged ds d u
    ∙ elim (eqb d u) as (λ v. (not v && is_some (plugged_device ds u)) ≡ false) [ true ↦ refl | false ↦ kept u gone ]

-- a change of a device that neither plugs it nor pulls it out
abbrev KeepsPlug : (DeviceState → DeviceState) → Type 0
KeepsPlug change = (x : DeviceState) → (change x).plugged ≡ x.plugged

plug-mapped : (change : DeviceState → DeviceState) (o : Option DeviceState) → KeepsPlug change → is_some (option_and_then if_plugged (option_map change o)) ≡ is_some (option_and_then if_plugged o)
plug-mapped change None keeps = refl
plug-mapped change (Some x) keeps = is_some-if_plugged (change x) ∙ keeps x ∙ sym (is_some-if_plugged x)

plug-changed : (change : DeviceState → DeviceState) (ds : List DeviceState) (l u : ℕ) → KeepsNumber change → KeepsPlug change → is_some (plugged_device (change_device change l ds) u) ≡ is_some (plugged_device ds u)
plug-changed change ds l u number keeps =
    elim (cases_eq l u) [
      | inl same ↦ rw (same, device-changed change number ds u) (plug-mapped change (device_of ds u) keeps)
      | inr apart ↦ rw (device-other change number ds l u apart) refl
    ]

gone-changed : (past : List Event) (ds : List DeviceState) (l : ℕ) (change : DeviceState → DeviceState) → KeepsNumber change → KeepsPlug change → GoneAreUnplugged past ds → GoneAreUnplugged past (change_device change l ds)
gone-changed past ds l change number keeps kept u gone = plug-changed change ds l u number keeps ∙ kept u gone

-- no call does so
call-number : (c : DeviceCall) → KeepsNumber (call_change c)
call-number (SetConfiguration value) x = refl
call-number (Claim i) x = refl
call-number (DetachAndClaim i) x = refl
call-number (Detach i) x = refl
call-number (Attach i) x = refl
call-number (SetInterface i setting) x = refl

call-plug : (c : DeviceCall) → KeepsPlug (call_change c)
call-plug (SetConfiguration value) x = refl
call-plug (Claim i) x = refl
call-plug (DetachAndClaim i) x = refl
call-plug (Detach i) x = refl
call-plug (Attach i) x = refl
call-plug (SetInterface i setting) x = refl

pub gone-answered : (past : List Event) (ds new : List DeviceState) (l : ℕ) (c : DeviceCall) (r : Result (Unit {0}) ℕ) → OnOk r (new ≡ change_device (call_change c) l ds) → OnErr r (new ≡ ds) → GoneAreUnplugged past ds → GoneAreUnplugged past new
gone-answered past ds new l c (Ok u) ok err kept = rw ok (gone-changed past ds l (call_change c) (call-number c) (call-plug c) kept)
gone-answered past ds new l c (Err errno) ok err kept = rw err kept

-- and no release
pub gone-released : (past : List Event) (ds : List DeviceState) (l i : ℕ) → GoneAreUnplugged past ds → GoneAreUnplugged past (after_release ds l i)
gone-released past ds l i kept = gone-changed past ds l (without_claim i) (λ x. refl) (λ x. refl) kept

-- a discard, and the turn of the timer, pull no device out
pub gone-discard : (past : List Event) (t u : ℕ) → is_gone (after_discard past t) u ≡ is_gone past u
gone-discard past t u = elim (is_unfinished past t) as (λ v. is_gone (cond v (Discard t ∷ past) past) u ≡ is_gone past u) [ true ↦ refl | false ↦ refl ]

gone-in_order : (past : List Event) (ts : List ℕ) (u : ℕ) → is_gone (discarded_in_order past ts) u ≡ is_gone past u
gone-in_order past [] u = refl
gone-in_order past (t ∷ ts) u = gone-in_order (after_discard past t) ts u ∙ gone-discard past t u

gone-turned : (clock : ℕ) (past : List Event) (u : ℕ) → is_gone (timer_turned clock past) u ≡ is_gone past u
unfolding timer_turned
gone-turned clock past u = gone-in_order past (due past clock) u

pub gone-behind_discard : (past : List Event) (t : ℕ) (ds : List DeviceState) → GoneAreUnplugged past ds → GoneAreUnplugged (after_discard past t) ds
gone-behind_discard past t ds kept u gone = kept u (sym (gone-discard past t u) ∙ gone)

pub gone-behind_turn : (clock : ℕ) (past : List Event) (ds : List DeviceState) → GoneAreUnplugged past ds → GoneAreUnplugged (timer_turned clock past) ds
gone-behind_turn clock past ds kept u gone = kept u (sym (gone-turned clock past u) ∙ gone)
