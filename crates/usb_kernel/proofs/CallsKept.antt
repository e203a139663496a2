-- What calls on devices keep, and what they make of an interface.
use Rattle.std.proofs.Common.{◌≡◌, ℕ, Bool, true, false, cond, List, [], ◌∷◌, map, Option, Some, None, refl, ap, sym, ◌∙◌, inl, inr}
use Rattle.std.specs.Prelude.{◌==◌, ◌&&◌, ◌||◌, not, option_and_then, is_some, IsSome}
use Rattle.std.specs.List.{list_any}
use Rattle.std.specs.Option.{option_map, option_map_or}
use Rattle.std.proofs.lemmas.Bool.{cases_Bool, cases_eq}
use Rattle.usb_desc.specs.Configurations.{configurations}
use Rattle.usb_desc.specs.Lookups.{has_value}
use Rattle.usb_kernel_devices.specs.declared.calls.DeviceCall.{DeviceCall}
use Rattle.usb_kernel_devices.specs.declared.calls.DeviceCall.TheVariants as device
use Rattle.usb_kernel_devices.specs.declared.devices.DeviceState.{DeviceState}
use Rattle.usb_kernel_devices.specs.declared.devices.SimDevice.{SimDevice}
use Rattle.usb_kernel_devices.specs.declared.step.KernelCall.{KernelCall}
use Rattle.usb_kernel_devices.specs.declared.step.KernelCall.TheVariants as call
use Rattle.usb_kernel_devices.specs.declared.step.KernelStep.TheVariants as step
use Rattle.usb_kernel_devices.specs.Interfaces.{contains, is_empty, remove}
use Rattle.usb_kernel_devices.specs.Devices.{fresh_device, device_of, if_plugged, plugged_device, change_device, unplugged}
use Rattle.usb_kernel_devices.specs.Claims.{has_interface, claim_rules, with_claim, without_claim, no_rules}
use Rattle.usb_kernel_devices.specs.Refusals.{armed_errno, armed_left}
use Rattle.usb_kernel_devices.specs.Calls.{devices_called, same, set_configuration_rules, with_configuration, detach_and_claim_rules, with_claimed_only, detach_rules, without_driver, attach_rules, with_driver, set_interface_rules}
use Rattle.usb_kernel.specs.Calls.{errno_of, called, reset_by, after_reset}
use Rattle.usb_kernel.specs.DeviceCalls.{after_call}
use Rattle.usb_kernel.specs.ClaimLaws.{is_claimed}
use Rattle.usb_kernel.specs.CallLaws.{ClaimedIsRefused, configuration_of, CallsKeepClaims, ResetsKeepClaims, DetachAndClaimActs, DetachActs, AttachActs, StartIsExclusive, CallsStayExclusive, ResetsStayExclusive, ReleasesStayExclusive, StepsStayExclusive, ResetIsUnplug, RefusedReset, ResetUnplugs}
use Rattle.usb_kernel.specs.Value.{KernelState}
use Rattle.usb_kernel_devices.proofs.InterfaceLemmas.{contains-insert, contains-insert_other, contains-remove, contains-remove_other}
use Rattle.usb_kernel_devices.proofs.QueueLinks.{unarmed}
use Rattle.usb_kernel.proofs.ClaimLemmas.{KeepsNumber, device-changed, device-other, insert-keeps}

-- what is true of a device stays true after a change of it, or of another
at-change : (P : Option DeviceState → Type 0) (change : DeviceState → DeviceState) → KeepsNumber change → (ds : List DeviceState) (l d : ℕ) → ((x : DeviceState) → l ≡ d → device_of ds d ≡ Some x → P (Some x) → P (Some (change x))) → P (device_of ds d) → P (device_of (change_device change l ds) d)
at-change P change keeps ds l d stays now =
    elim (cases_eq l d) [
      | inl here ↦ rw (here, device-changed change keeps ds d) (of (device_of ds d) refl here now)
      | inr apart ↦ rw (device-other change keeps ds l d apart) now
    ]
  where
    of : (o : Option DeviceState) → device_of ds d ≡ o → l ≡ d → P o → P (option_map change o)
    of None is here p = p
    of (Some x) is here p = stays x here is p

-- a call that is not refused finds its device plugged, and no row refuses it
pub record Accepted (k : KernelState) (d : ℕ) (c : KernelCall) (rules : DeviceState → Option ℕ) : Type 0 where
  pub x : DeviceState
  pub device : device_of k.devices d ≡ Some x
  pub plugged : x.plugged ≡ true
  pub armed : armed_errno k.armed d c ≡ None
  pub row : rules x ≡ None

plugged-device : (o : Option DeviceState) (x : DeviceState) → option_and_then if_plugged o ≡ Some x → (o ≡ Some x) × (x.plugged ≡ true)
plugged-device None x is = absurd cc
plugged-device (Some y) x is = by_flag y.plugged refl is
  where
    by_flag : (p : Bool) → y.plugged ≡ p → cond p (Some y) None ≡ Some x → (Some y ≡ Some x) × (x.plugged ≡ true)
    by_flag true in_ same = let e : x ≡ y = cc in (same, ap (λ (d : DeviceState). d.plugged) e ∙ in_)
    by_flag false out same = absurd cc

accepted-by : (k : KernelState) (d : ℕ) (c : KernelCall) (rules : DeviceState → Option ℕ) (o : Option DeviceState) → plugged_device k.devices d ≡ o → errno_of k d c rules ≡ None → Accepted k d c rules
accepted-by k d c rules None is none = absurd (let e = rw is at none in cc)
accepted-by k d c rules (Some x) is none = by_armed (armed_errno k.armed d c) refl
  where
    by_armed : (e : Option ℕ) → armed_errno k.armed d c ≡ e → Accepted k d c rules
    by_armed (Some errno) armed = absurd (let e = rw (is, armed) at none in cc)
    by_armed None armed =
        let found = plugged-device (device_of k.devices d) x is in
        record { x = x; device = found.0; plugged = found.1; armed = armed; row = rw (is, armed) at none }

pub accepted : (k : KernelState) (d : ℕ) (c : KernelCall) (rules : DeviceState → Option ℕ) → errno_of k d c rules ≡ None → Accepted k d c rules
accepted k d c rules none = accepted-by k d c rules (plugged_device k.devices d) refl none

-- and finds no refusal armed
pub keeps-armed : (k : KernelState) (d : ℕ) (c : KernelCall) (rules : DeviceState → Option ℕ) → Accepted k d c rules → armed_left k.devices k.armed d c ≡ k.armed
keeps-armed k d c rules a =
    let plugged : plugged_device k.devices d ≡ Some a.x = rw (a.device, a.plugged) refl in
    rw plugged (unarmed k.armed d c a.armed)

-- what is true of a device stays true over a call
call-keeps : (P : Option DeviceState → Type 0) (k : KernelState) (l d : ℕ) (c : KernelCall) (rules : DeviceState → Option ℕ) (change : DeviceState → DeviceState) → KeepsNumber change → ((x : DeviceState) → rules x ≡ None → P (Some x) → P (Some (change x))) → P (device_of k.devices d) → P (device_of (called k l c rules change).devices d)
unfolding called
call-keeps P k l d c rules change keeps stays now = by_errno (errno_of k l c rules) refl
  where
    by_errno : (e : Option ℕ) → errno_of k l c rules ≡ e → P (device_of (devices_called k.devices l change e) d)
    by_errno (Some errno) is = now
    by_errno None is =
        let a = accepted k l c rules is in
        at-change P change keeps k.devices l d (λ x here at. let same : Some x ≡ Some a.x = sym at ∙ (ap (device_of k.devices) (sym here) ∙ a.device) in let e : x ≡ a.x = cc in stays x (rw e a.row)) now

-- a device with a claimed interface
nonempty : (ns : List ℕ) (i : ℕ) → contains ns i ≡ true → is_empty ns ≡ false
nonempty [] i here = absurd cc
nonempty (n ∷ ns) i here = refl

configuration-rows : (value i : ℕ) (x : DeviceState) → contains x.claimed i ≡ true → IsSome (set_configuration_rules value x)
configuration-rows value i x claimed =
    rw (nonempty x.claimed i claimed) (elim (not (value == 0) && not (list_any (has_value value) (configurations x.bytes))) as (λ v. is_some {T = ℕ} (cond v (Some 22) (Some 16)) ≡ true) [ true ↦ refl | false ↦ refl ])

claim-rows : (i : ℕ) (x : DeviceState) → contains x.claimed i ≡ true → IsSome (claim_rules i x)
claim-rows i x claimed = rw claimed (elim (has_interface i x) as (λ v. is_some {T = ℕ} (cond (not v) (Some 2) (Some 16)) ≡ true) [ true ↦ refl | false ↦ refl ])

detach_and_claim-rows : (i : ℕ) (x : DeviceState) → contains x.claimed i ≡ true → IsSome (detach_and_claim_rules i x)
detach_and_claim-rows i x claimed = rw claimed (elim (has_interface i x) as (λ v. is_some {T = ℕ} (cond (not v) (Some 2) (Some 16)) ≡ true) [ true ↦ refl | false ↦ refl ])

attach-rows : (i : ℕ) (x : DeviceState) → contains x.claimed i ≡ true → IsSome (attach_rules i x)
attach-rows i x claimed =
    rw claimed (elim (has_interface i x) as (λ v. is_some {T = ℕ} (cond (not v) (Some 22) (cond (contains x.bound i || true) (Some 16) None)) ≡ true) [
      | true ↦ elim (contains x.bound i) as (λ v. is_some {T = ℕ} (cond (v || true) (Some 16) None) ≡ true) [ true ↦ refl | false ↦ refl ]
      | false ↦ refl
    ])

is_some-none : (o : Option ℕ) → IsSome o → o ≡ None → ⊥
is_some-none o some none = let e = rw none at some in cc

claimed-rows : (k : KernelState) (d i : ℕ) (c : KernelCall) (rules : DeviceState → Option ℕ) → ((x : DeviceState) → contains x.claimed i ≡ true → IsSome (rules x)) → is_claimed k.devices d i ≡ true → IsSome (errno_of k d c rules)
claimed-rows k d i c rules refused claimed = by_errno (errno_of k d c rules) refl
  where
    by_errno : (e : Option ℕ) → errno_of k d c rules ≡ e → IsSome e
    by_errno (Some errno) is = refl
    by_errno None is =
        let a = accepted k d c rules is in
        absurd (is_some-none (rules a.x) (refused a.x (rw a.device at claimed)) a.row)

pub claimed-refused : ClaimedIsRefused
claimed-refused k d i value claimed = (
  claimed-rows k d i call.Claim (claim_rules i) (claim-rows i) claimed,
  claimed-rows k d i call.DetachClaim (detach_and_claim_rules i) (detach_and_claim-rows i) claimed,
  claimed-rows k d i call.Attach (attach_rules i) (attach-rows i) claimed,
  claimed-rows k d i call.SetConfig (set_configuration_rules value) (configuration-rows value i) claimed,
)

-- a device keeps a claimed interface and its configuration
abbrev Keeps : ℕ → Option ℕ → Option DeviceState → Type 0
Keeps i configuration o =
    (option_map_or (λ (x : DeviceState). contains x.claimed i) o false ≡ true)
    × (option_map (λ (x : DeviceState). x.configuration) o ≡ configuration)

pub calls-keep : CallsKeepClaims
calls-keep k l d i c claimed = over c
  where
    over : (c : DeviceCall) → Keeps i (configuration_of k.devices d) (device_of (after_call k l c).devices d)
    over (device.SetConfiguration value) =
        call-keeps (Keeps i (configuration_of k.devices d)) k l d call.SetConfig (set_configuration_rules value) (with_configuration value) (λ x. refl) (λ x row keeps. absurd (is_some-none (set_configuration_rules value x) (configuration-rows value i x keeps.0) row)) (claimed, refl)
    over (device.Claim j) =
        call-keeps (Keeps i (configuration_of k.devices d)) k l d call.Claim (claim_rules j) (with_claim j) (λ x. refl) (λ x row keeps. (insert-keeps x.claimed i j keeps.0, keeps.1)) (claimed, refl)
    over (device.DetachAndClaim j) =
        call-keeps (Keeps i (configuration_of k.devices d)) k l d call.DetachClaim (detach_and_claim_rules j) (with_claimed_only j) (λ x. refl) (λ x row keeps. (insert-keeps x.claimed i j keeps.0, keeps.1)) (claimed, refl)
    over (device.Detach j) = call-keeps (Keeps i (configuration_of k.devices d)) k l d call.Detach (detach_rules j) (without_driver j) (λ x. refl) (λ x row keeps. keeps) (claimed, refl)
    over (device.Attach j) = call-keeps (Keeps i (configuration_of k.devices d)) k l d call.Attach (attach_rules j) (with_driver j) (λ x. refl) (λ x row keeps. keeps) (claimed, refl)
    over (device.SetInterface j setting) = call-keeps (Keeps i (configuration_of k.devices d)) k l d call.Alt (set_interface_rules j setting) same (λ x. refl) (λ x row keeps. keeps) (claimed, refl)

reset-devices : (k : KernelState) (l : ℕ) → (after_reset k l).devices ≡ (called k l call.Reset no_rules unplugged).devices
unfolding after_reset
reset-devices k l = by_errno (errno_of k l call.Reset no_rules)
  where
    by_errno : (e : Option ℕ) → (reset_by (called k l call.Reset no_rules unplugged) l e).devices ≡ (called k l call.Reset no_rules unplugged).devices
    by_errno (Some errno) = refl
    by_errno None = refl

pub resets-keep : ResetsKeepClaims
resets-keep k l d i claimed =
    rw (reset-devices k l) (call-keeps (Keeps i (configuration_of k.devices d)) k l d call.Reset no_rules unplugged (λ x. refl) (λ x row keeps. keeps) (claimed, refl))

-- what a call that is not refused makes of its device
pub acts : (k : KernelState) (d : ℕ) (c : KernelCall) (rules : DeviceState → Option ℕ) (change : DeviceState → DeviceState) → KeepsNumber change → (a : Accepted k d c rules) → errno_of k d c rules ≡ None → device_of (called k d c rules change).devices d ≡ Some (change a.x)
unfolding called
acts k d c rules change keeps a none = rw (none, device-changed change keeps k.devices d, a.device) refl

pub detach_and_claim-acts : DetachAndClaimActs
detach_and_claim-acts k d i none =
    let a = accepted k d call.DetachClaim (detach_and_claim_rules i) none in
    let after = acts k d call.DetachClaim (detach_and_claim_rules i) (with_claimed_only i) (λ x. refl) a none in
    (rw after (contains-insert a.x.claimed i), rw after (contains-remove a.x.bound i))

pub detach-acts : DetachActs
detach-acts k d i none =
    let a = accepted k d call.Detach (detach_rules i) none in
    rw (acts k d call.Detach (detach_rules i) (without_driver i) (λ x. refl) a none) (contains-remove a.x.bound i)

pub attach-acts : AttachActs
attach-acts k d i none =
    let a = accepted k d call.Attach (attach_rules i) none in
    rw (acts k d call.Attach (attach_rules i) (with_driver i) (λ x. refl) a none) (contains-insert a.x.bound i)

-- a device of which no interface is claimed that has a driver
abbrev IsExclusiveIn : Option DeviceState → Type 0
IsExclusiveIn o =
    (i : ℕ) → option_map_or (λ (x : DeviceState). contains x.claimed i) o false ≡ true
    → option_map_or (λ (x : DeviceState). contains x.bound i) o false ≡ false

not-both : (b : Bool) → b ≡ true → b ≡ false → ⊥
not-both b is is_not = let e = sym is ∙ is_not in cc

claimed-exclusive : (j : ℕ) (x : DeviceState) → contains x.bound j ≡ false → IsExclusiveIn (Some x) → IsExclusiveIn (Some (with_claim j x))
claimed-exclusive j x unbound apart i claimed =
    elim (cases_eq j i) [
      | inl here ↦ rw here at unbound
      | inr other ↦ apart i (sym (contains-insert_other x.claimed j i other) ∙ claimed)
    ]

claimed_only-exclusive : (j : ℕ) (x : DeviceState) → IsExclusiveIn (Some x) → IsExclusiveIn (Some (with_claimed_only j x))
claimed_only-exclusive j x apart i claimed =
    elim (cases_eq j i) [
      | inl here ↦ rw here (contains-remove x.bound i)
      | inr other ↦ contains-remove_other x.bound j i other ∙ apart i (sym (contains-insert_other x.claimed j i other) ∙ claimed)
    ]

detached-exclusive : (j : ℕ) (x : DeviceState) → IsExclusiveIn (Some x) → IsExclusiveIn (Some (without_driver j x))
detached-exclusive j x apart i claimed =
    elim (cases_eq j i) [
      | inl here ↦ rw here (contains-remove x.bound i)
      | inr other ↦ contains-remove_other x.bound j i other ∙ apart i claimed
    ]

attached-exclusive : (j : ℕ) (x : DeviceState) → attach_rules j x ≡ None → IsExclusiveIn (Some x) → IsExclusiveIn (Some (with_driver j x))
attached-exclusive j x row apart i claimed =
    elim (cases_eq j i) [
      | inl here ↦ absurd (is_some-none (attach_rules j x) (attach-rows j x (rw here claimed)) row)
      | inr other ↦ contains-insert_other x.bound j i other ∙ apart i claimed
    ]

released-exclusive : (j : ℕ) (x : DeviceState) → IsExclusiveIn (Some x) → IsExclusiveIn (Some (without_claim j x))
released-exclusive j x apart i claimed =
    elim (cases_eq j i) [
      | inl here ↦ absurd (not-both (contains (remove x.claimed j) i) claimed (rw here (contains-remove x.claimed i)))
      | inr other ↦ apart i (sym (contains-remove_other x.claimed j i other) ∙ claimed)
    ]

-- an interface that may be claimed has no driver
unbound-row : (i : ℕ) (x : DeviceState) → claim_rules i x ≡ None → contains x.bound i ≡ false
unbound-row i x row =
    elim (cases_Bool (contains x.bound i)) [
      | inl bound ↦ absurd (is_some-none (claim_rules i x) (refused bound) row)
      | inr free ↦ free
    ]
  where
    refused : contains x.bound i ≡ true → IsSome (claim_rules i x)
    refused bound =
        rw bound (elim (has_interface i x) as (λ v. is_some {T = ℕ} (cond (not v) (Some 2) (cond (contains x.claimed i || true) (Some 16) None)) ≡ true) [
          | true ↦ elim (contains x.claimed i) as (λ v. is_some {T = ℕ} (cond (v || true) (Some 16) None) ≡ true) [ true ↦ refl | false ↦ refl ]
          | false ↦ refl
        ])

pub calls-exclusive : CallsStayExclusive
calls-exclusive k l (device.SetConfiguration value) apart d = call-keeps IsExclusiveIn k l d call.SetConfig (set_configuration_rules value) (with_configuration value) (λ x. refl) (λ x row p. p) (apart d)
calls-exclusive k l (device.Claim j) apart d = call-keeps IsExclusiveIn k l d call.Claim (claim_rules j) (with_claim j) (λ x. refl) (λ x row p. claimed-exclusive j x (unbound-row j x row) p) (apart d)
calls-exclusive k l (device.DetachAndClaim j) apart d = call-keeps IsExclusiveIn k l d call.DetachClaim (detach_and_claim_rules j) (with_claimed_only j) (λ x. refl) (λ x row p. claimed_only-exclusive j x p) (apart d)
calls-exclusive k l (device.Detach j) apart d = call-keeps IsExclusiveIn k l d call.Detach (detach_rules j) (without_driver j) (λ x. refl) (λ x row p. detached-exclusive j x p) (apart d)
calls-exclusive k l (device.Attach j) apart d = call-keeps IsExclusiveIn k l d call.Attach (attach_rules j) (with_driver j) (λ x. refl) (attached-exclusive j) (apart d)
calls-exclusive k l (device.SetInterface j setting) apart d = call-keeps IsExclusiveIn k l d call.Alt (set_interface_rules j setting) same (λ x. refl) (λ x row p. p) (apart d)

pub resets-exclusive : ResetsStayExclusive
resets-exclusive k l apart d = rw (reset-devices k l) (call-keeps IsExclusiveIn k l d call.Reset no_rules unplugged (λ x. refl) (λ x row p. p) (apart d))

pub releases-exclusive : ReleasesStayExclusive
releases-exclusive devices l j apart d = at-change IsExclusiveIn (without_claim j) (λ x. refl) devices l d (λ x here at p. released-exclusive j x p) (apart d)

pub steps-exclusive : StepsStayExclusive
steps-exclusive devices (step.Unplug l) apart = λ d. at-change IsExclusiveIn unplugged (λ x. refl) devices l d (λ x here at p. p) (apart d)
steps-exclusive devices (step.Packet l e b) apart = apart
steps-exclusive devices (step.Ack l e) apart = apart
steps-exclusive devices (step.Echo l o i) apart = apart
steps-exclusive devices (step.Fail l e errno) apart = apart
steps-exclusive devices (step.Clock to) apart = apart
steps-exclusive devices step.Timer apart = apart
steps-exclusive devices (step.Reap t) apart = apart
steps-exclusive devices (step.Refuse l c errno) apart = apart

start-number : (p : ℕ × SimDevice) (o : Option DeviceState) (here : Bool) → IsExclusiveIn o → IsExclusiveIn (cond here (Some (fresh_device p)) o)
start-number p o true rest = λ i claimed. absurd (let e : false ≡ true = claimed in cc)
start-number p o false rest = rest

pub start-exclusive : StartIsExclusive
start-exclusive [] = λ d i claimed. refl
start-exclusive (p ∷ ps) = λ d. start-number p (device_of (map fresh_device ps) d) (p.0 == d) (start-exclusive ps d)

-- resets
pub reset-unplugs : ResetUnplugs
reset-unplugs k d none =
    let a = accepted k d call.Reset no_rules none in
    rw (reset-devices k d, acts k d call.Reset no_rules unplugged (λ x. refl) a none) refl

pub refused-reset : RefusedReset
unfolding after_reset called
refused-reset k d errno refused = rw refused refl

pub reset-unplug : ResetIsUnplug
unfolding after_reset called
reset-unplug k d none =
    let a = accepted k d call.Reset no_rules none in
    let plugged : plugged_device k.devices d ≡ Some a.x = rw (a.device, a.plugged) refl in
    rw (none, plugged, unarmed k.armed d call.Reset a.armed) refl
