-- Laws of claims.
use Rattle.std.specs.Prelude.{ℕ, ◌≡◌, ◌≢◌, Bool, true, false, List, Some, None}
use Rattle.std.specs.Option.{option_map_or}
use Rattle.usb_kernel_devices.specs.declared.calls.DeviceCall.TheVariants.{Claim}
use Rattle.usb_kernel_devices.specs.declared.devices.DeviceState.{DeviceState}
use Rattle.usb_kernel_devices.specs.declared.step.KernelCall.TheVariants as call
use Rattle.usb_kernel_devices.specs.declared.step.KernelStep.{KernelStep}
use Rattle.usb_kernel_devices.specs.Interfaces.{contains}
use Rattle.usb_kernel_devices.specs.Devices.{device_of}
use Rattle.usb_kernel_devices.specs.Claims.{has_interface, after_release}
use Rattle.usb_kernel_devices.specs.Refusals.{armed_errno}
use Rattle.usb_kernel.specs.DeviceCalls.{call_errno, after_call}
use Rattle.usb_kernel.specs.Steps.{devices_stepped}
use Rattle.usb_kernel.specs.Value.{KernelState}

-- interface i of device d is claimed
abbrev pub is_claimed : List DeviceState → ℕ → ℕ → Bool
is_claimed devices d i = option_map_or (λ x. contains x.claimed i) (device_of devices d) false

-- while its device is plugged and the active configuration has it, a claim of it for which nothing is armed is refused with 16
abbrev pub ClaimedIsBusy : Type 0
ClaimedIsBusy =
    (k : KernelState) (d i : ℕ) (x : DeviceState) → device_of k.devices d ≡ Some x
    → x.plugged ≡ true → armed_errno k.armed d call.Claim ≡ None
    → has_interface i x ≡ true → is_claimed k.devices d i ≡ true
    → call_errno k d (Claim i) ≡ Some 16

-- a claim that is not refused makes it claimed, and so a second claim is refused with 16
abbrev pub ClaimMakesClaimed : Type 0
ClaimMakesClaimed =
    (k : KernelState) (d i : ℕ) → call_errno k d (Claim i) ≡ None
    → is_claimed (after_call k d (Claim i)).devices d i ≡ true

abbrev pub SecondClaimIsBusy : Type 0
SecondClaimIsBusy =
    (k : KernelState) (d i : ℕ) → call_errno k d (Claim i) ≡ None
    → call_errno (after_call k d (Claim i)) d (Claim i) ≡ Some 16

-- it stays so at each claim, at a release of another interface or device, and at each step
abbrev pub ClaimsKeep : Type 0
ClaimsKeep =
    (k : KernelState) (l j d i : ℕ) → is_claimed k.devices d i ≡ true
    → is_claimed (after_call k l (Claim j)).devices d i ≡ true

abbrev pub ReleasesKeep : Type 0
ReleasesKeep =
    (devices : List DeviceState) (l j d i : ℕ) → (l ≡ d → j ≢ i) → is_claimed devices d i ≡ true
    → is_claimed (after_release devices l j) d i ≡ true

abbrev pub StepsKeep : Type 0
StepsKeep =
    (devices : List DeviceState) (s : KernelStep) (d i : ℕ) → is_claimed devices d i ≡ true
    → is_claimed (devices_stepped devices s) d i ≡ true

-- its release ends the claim, and the release of a new claim leaves all devices as they were before it
abbrev pub ReleaseEnds : Type 0
ReleaseEnds =
    (devices : List DeviceState) (d i : ℕ) → is_claimed (after_release devices d i) d i ≡ false

abbrev pub ReleaseUndoes : Type 0
ReleaseUndoes =
    (k : KernelState) (d i : ℕ) → call_errno k d (Claim i) ≡ None
    → after_release (after_call k d (Claim i)).devices d i ≡ k.devices

-- a claim that is refused changes no device
abbrev pub RefusedClaims : Type 0
RefusedClaims =
    (k : KernelState) (d i errno : ℕ) → call_errno k d (Claim i) ≡ Some errno
    → (after_call k d (Claim i)).devices ≡ k.devices
