-- Laws of the calls on devices.
use Rattle.std.specs.Prelude.{ℕ, ◌≡◌, ◌≢◌, Bool, true, false, List, drop, filter, map, Option, Some, None, IsSome, option_map, is_some, Ok}
use Rattle.std.specs.Option.{option_map_or}
use Rattle.usb_kernel_devices.specs.declared.calls.DeviceCall.{DeviceCall}
use Rattle.usb_kernel_devices.specs.declared.devices.DeviceState.{DeviceState}
use Rattle.usb_kernel_devices.specs.declared.devices.SimDevice.{SimDevice}
use Rattle.usb_kernel_devices.specs.declared.step.Armed.{Armed}
use Rattle.usb_kernel_devices.specs.declared.step.KernelCall.{KernelCall}
use Rattle.usb_kernel_devices.specs.declared.step.KernelCall.TheVariants as call
use Rattle.usb_kernel_devices.specs.declared.step.KernelStep.{KernelStep}
use Rattle.usb_kernel_devices.specs.declared.step.KernelStep.TheVariants as step
use Rattle.usb_kernel_devices.specs.Interfaces.{contains}
use Rattle.usb_kernel_devices.specs.Devices.{fresh_device, device_of, plugged_device}
use Rattle.usb_kernel_devices.specs.Claims.{claim_rules, after_release, no_rules}
use Rattle.usb_kernel_devices.specs.Refusals.{call_number, is_armed_for, armed_errno, armed_left}
use Rattle.usb_kernel_devices.specs.Calls.{same, set_configuration_rules, detach_and_claim_rules, with_claimed_only, detach_rules, without_driver, attach_rules, with_driver}
use Rattle.usb_kernel.specs.Calls.{errno_of, called, open_answer, after_open, after_reset}
use Rattle.usb_kernel.specs.DeviceCalls.{after_call}
use Rattle.usb_kernel.specs.ClaimLaws.{is_claimed}
use Rattle.usb_kernel.specs.Steps.{after_step, devices_stepped}
use Rattle.usb_kernel.specs.Value.{KernelState}

-- a call on a device that is not plugged is refused with 19, and changes nothing
abbrev pub UnpluggedIsRefused : Type 0
UnpluggedIsRefused =
    (k : KernelState) (d : ℕ) (c : KernelCall) (rules : DeviceState → Option ℕ) (change : DeviceState → DeviceState)
    → plugged_device k.devices d ≡ None
    → (errno_of k d c rules ≡ Some 19) × (called k d c rules change ≡ k)

-- on one that is plugged the first refusal that is armed for the call comes before its rules
abbrev pub ArmedComesFirst : Type 0
ArmedComesFirst =
    (k : KernelState) (d errno : ℕ) (c : KernelCall) (rules : DeviceState → Option ℕ)
    → is_some (plugged_device k.devices d) ≡ true → armed_errno k.armed d c ≡ Some errno
    → errno_of k d c rules ≡ Some errno

-- this call uses it up, and leaves all that are armed for another call or device
abbrev pub armed_for : List Armed → ℕ → KernelCall → List Armed
armed_for armed d c = filter (is_armed_for d c) armed

abbrev pub ArmedIsUsedOnce : Type 0
ArmedIsUsedOnce =
    (k : KernelState) (d : ℕ) (c : KernelCall) (rules : DeviceState → Option ℕ) (change : DeviceState → DeviceState)
    → is_some (plugged_device k.devices d) ≡ true
    → armed_for (called k d c rules change).armed d c ≡ drop 1 (armed_for k.armed d c)

abbrev pub OthersStayArmed : Type 0
OthersStayArmed =
    (k : KernelState) (d other_d : ℕ) (c other : KernelCall) (rules : DeviceState → Option ℕ) (change : DeviceState → DeviceState)
    → (d ≡ other_d → call_number c ≢ call_number other)
    → armed_for (called k d c rules change).armed other_d other ≡ armed_for k.armed other_d other

-- a call that is refused changes no device
abbrev pub RefusedChangesNone : Type 0
RefusedChangesNone =
    (k : KernelState) (d errno : ℕ) (c : KernelCall) (rules : DeviceState → Option ℕ) (change : DeviceState → DeviceState)
    → errno_of k d c rules ≡ Some errno → (called k d c rules change).devices ≡ k.devices

-- a call that only asks and is not refused has used no refusal up, and neither has an open that is not
abbrev pub AnswersUseNone : Type 0
AnswersUseNone =
    (k : KernelState) (d : ℕ) (c : KernelCall) (rules : DeviceState → Option ℕ)
    → errno_of k d c rules ≡ None → called k d c rules same ≡ k

abbrev pub OpensUseNone : Type 0
OpensUseNone =
    (k : KernelState) (bus address d : ℕ) → open_answer k bus address ≡ Ok d → after_open k bus address ≡ k

-- while an interface is claimed, each call that would claim it or attach its driver is refused, and so is each `set_configuration`
abbrev pub ClaimedIsRefused : Type 0
ClaimedIsRefused =
    (k : KernelState) (d i value : ℕ) → is_claimed k.devices d i ≡ true
    → IsSome (errno_of k d call.Claim (claim_rules i))
    × IsSome (errno_of k d call.DetachClaim (detach_and_claim_rules i))
    × IsSome (errno_of k d call.Attach (attach_rules i))
    × IsSome (errno_of k d call.SetConfig (set_configuration_rules value))

-- it stays claimed, and its device keeps the configuration, over each call on any device, and over each reset
abbrev pub configuration_of : List DeviceState → ℕ → Option ℕ
configuration_of devices d = option_map (λ x. x.configuration) (device_of devices d)

abbrev pub CallsKeepClaims : Type 0
CallsKeepClaims =
    (k : KernelState) (l d i : ℕ) (c : DeviceCall) → is_claimed k.devices d i ≡ true
    → (is_claimed (after_call k l c).devices d i ≡ true)
    × (configuration_of (after_call k l c).devices d ≡ configuration_of k.devices d)

abbrev pub ResetsKeepClaims : Type 0
ResetsKeepClaims =
    (k : KernelState) (l d i : ℕ) → is_claimed k.devices d i ≡ true
    → (is_claimed (after_reset k l).devices d i ≡ true)
    × (configuration_of (after_reset k l).devices d ≡ configuration_of k.devices d)

-- interface i of device d has a kernel driver
abbrev pub is_bound : List DeviceState → ℕ → ℕ → Bool
is_bound devices d i = option_map_or (λ x. contains x.bound i) (device_of devices d) false

-- what the calls that are not refused make of an interface
abbrev pub DetachAndClaimActs : Type 0
DetachAndClaimActs =
    (k : KernelState) (d i : ℕ) → errno_of k d call.DetachClaim (detach_and_claim_rules i) ≡ None
    → (is_claimed (called k d call.DetachClaim (detach_and_claim_rules i) (with_claimed_only i)).devices d i ≡ true)
    × (is_bound (called k d call.DetachClaim (detach_and_claim_rules i) (with_claimed_only i)).devices d i ≡ false)

abbrev pub DetachActs : Type 0
DetachActs =
    (k : KernelState) (d i : ℕ) → errno_of k d call.Detach (detach_rules i) ≡ None
    → is_bound (called k d call.Detach (detach_rules i) (without_driver i)).devices d i ≡ false

abbrev pub AttachActs : Type 0
AttachActs =
    (k : KernelState) (d i : ℕ) → errno_of k d call.Attach (attach_rules i) ≡ None
    → is_bound (called k d call.Attach (attach_rules i) (with_driver i)).devices d i ≡ true

-- no interface is claimed that has a driver
abbrev pub IsExclusive : List DeviceState → Type 0
IsExclusive devices = (d i : ℕ) → is_claimed devices d i ≡ true → is_bound devices d i ≡ false

-- so it is at the start, and so it stays
abbrev pub StartIsExclusive : Type 0
StartIsExclusive = (devices : List (ℕ × SimDevice)) → IsExclusive (map fresh_device devices)

abbrev pub CallsStayExclusive : Type 0
CallsStayExclusive = (k : KernelState) (l : ℕ) (c : DeviceCall) → IsExclusive k.devices → IsExclusive (after_call k l c).devices

abbrev pub ResetsStayExclusive : Type 0
ResetsStayExclusive = (k : KernelState) (l : ℕ) → IsExclusive k.devices → IsExclusive (after_reset k l).devices

abbrev pub ReleasesStayExclusive : Type 0
ReleasesStayExclusive = (devices : List DeviceState) (l j : ℕ) → IsExclusive devices → IsExclusive (after_release devices l j)

abbrev pub StepsStayExclusive : Type 0
StepsStayExclusive = (devices : List DeviceState) (s : KernelStep) → IsExclusive devices → IsExclusive (devices_stepped devices s)

-- a reset that is not refused is an unplug, and one that is refused uses up what was armed for it
abbrev pub ResetIsUnplug : Type 0
ResetIsUnplug =
    (k : KernelState) (d : ℕ) → errno_of k d call.Reset no_rules ≡ None → after_reset k d ≡ after_step k (step.Unplug d)

abbrev pub RefusedReset : Type 0
RefusedReset =
    (k : KernelState) (d errno : ℕ) → errno_of k d call.Reset no_rules ≡ Some errno
    → after_reset k d ≡ record k { armed = armed_left k.devices k.armed d call.Reset }

-- after a reset the device is not plugged
abbrev pub ResetUnplugs : Type 0
ResetUnplugs =
    (k : KernelState) (d : ℕ) → errno_of k d call.Reset no_rules ≡ None → plugged_device (after_reset k d).devices d ≡ None
