-- Which interfaces are claimed at a kernel after its calls.
use Rattle.std.proofs.Common.{ℕ, ◌≡◌, ◌≢◌, true, false, cond, List, [], ◌∷◌, map, Option, Some, None, inl, inr, refl}
use Rattle.std.specs.Prelude.{◌==◌}
use Rattle.std.specs.Option.{option_map, option_map_or}
use Rattle.std.proofs.lemmas.Bool.{cases_eq}
use Rattle.usb_kernel_devices.specs.declared.devices.DeviceState.{DeviceState}
use Rattle.usb_kernel_devices.specs.declared.devices.SimDevice.{SimDevice}
use Rattle.usb_kernel_devices.specs.declared.step.KernelCall.{KernelCall}
use Rattle.usb_kernel_devices.specs.declared.step.KernelCall.TheVariants as call
use Rattle.usb_kernel_devices.specs.declared.step.KernelStep.{KernelStep}
use Rattle.usb_kernel_devices.specs.declared.step.KernelStep.TheVariants as step
use Rattle.usb_kernel_devices.specs.Interfaces.{contains}
use Rattle.usb_kernel_devices.specs.Devices.{fresh_device, device_of, change_device, unplugged}
use Rattle.usb_kernel_devices.specs.Claims.{no_rules, without_claim, after_release}
use Rattle.usb_kernel_devices.specs.Calls.{devices_called}
use Rattle.usb_kernel.specs.Calls.{errno_of, called, reset_by, after_reset}
use Rattle.usb_kernel.specs.ClaimLaws.{is_claimed}
use Rattle.usb_kernel.specs.Steps.{devices_stepped}
use Rattle.usb_kernel.specs.Value.{KernelState}
use Rattle.usb_kernel_devices.proofs.InterfaceLemmas.{contains-remove_other}
use Rattle.usb_kernel.proofs.ClaimLemmas.{KeepsNumber, device-changed, device-other}

-- no interface is claimed of the devices that a kernel is made with
pub fresh-claimed : (devices : List (ℕ × SimDevice)) (d n : ℕ) → is_claimed (map fresh_device devices) d n ≡ false
fresh-claimed [] d n = refl
fresh-claimed (p ∷ ps) d n =
    elim (p.0 == d) as (λ v. option_map_or (λ (x : DeviceState). contains x.claimed n) (cond v (Some (fresh_device p)) (device_of (map fresh_device ps) d)) false ≡ false) [ true ↦ refl | false ↦ fresh-claimed ps d n ]

-- a change of a device leaves each interface claimed or not that it leaves so there
pub change-claimed : (change : DeviceState → DeviceState) → KeepsNumber change → (devices : List DeviceState) (l d n : ℕ) → (l ≡ d → (x : DeviceState) → contains (change x).claimed n ≡ contains x.claimed n) → is_claimed (change_device change l devices) d n ≡ is_claimed devices d n
change-claimed change keeps devices l d n same =
    elim (cases_eq l d) [
      | inl here ↦ rw (here, device-changed change keeps devices d) (of (device_of devices d) here)
      | inr apart ↦ rw (device-other change keeps devices l d apart) refl
    ]
  where
    of : (o : Option DeviceState) → l ≡ d → option_map_or (λ (x : DeviceState). contains x.claimed n) (option_map change o) false ≡ option_map_or (λ (x : DeviceState). contains x.claimed n) o false
    of None here = refl
    of (Some x) here = same here x

-- so does a call
pub called-claimed : (k : KernelState) (l : ℕ) (c : KernelCall) (rows : DeviceState → Option ℕ) (change : DeviceState → DeviceState) → KeepsNumber change → (d n : ℕ) → (l ≡ d → (x : DeviceState) → contains (change x).claimed n ≡ contains x.claimed n) → is_claimed (called k l c rows change).devices d n ≡ is_claimed k.devices d n
unfolding called
called-claimed k l c rows change keeps d n same = by_errno (errno_of k l c rows)
  where
    by_errno : (e : Option ℕ) → is_claimed (devices_called k.devices l change e) d n ≡ is_claimed k.devices d n
    by_errno None = change-claimed change keeps k.devices l d n same
    by_errno (Some errno) = refl

pub reset-claimed : (k : KernelState) (l d n : ℕ) → is_claimed (after_reset k l).devices d n ≡ is_claimed k.devices d n
unfolding after_reset
reset-claimed k l d n = by_errno (errno_of k l call.Reset no_rules)
  where
    kept : is_claimed (called k l call.Reset no_rules unplugged).devices d n ≡ is_claimed k.devices d n
    kept = called-claimed k l call.Reset no_rules unplugged (λ x. refl) d n (λ here x. refl)

    by_errno : (e : Option ℕ) → is_claimed (reset_by (called k l call.Reset no_rules unplugged) l e).devices d n ≡ is_claimed k.devices d n
    by_errno None = kept
    by_errno (Some errno) = kept

-- and a step
pub stepped-claimed : (devices : List DeviceState) (s : KernelStep) (d n : ℕ) → is_claimed (devices_stepped devices s) d n ≡ is_claimed devices d n
stepped-claimed devices (step.Unplug l) d n = change-claimed unplugged (λ x. refl) devices l d n (λ here x. refl)
stepped-claimed devices (step.Packet l e b) d n = refl
stepped-claimed devices (step.Ack l e) d n = refl
stepped-claimed devices (step.Echo l o i) d n = refl
stepped-claimed devices (step.Fail l e errno) d n = refl
stepped-claimed devices (step.Clock to) d n = refl
stepped-claimed devices step.Timer d n = refl
stepped-claimed devices (step.Reap t) d n = refl
stepped-claimed devices (step.Refuse l call errno) d n = refl

-- a release leaves the other interfaces
pub release-claimed : (devices : List DeviceState) (l m d n : ℕ) → (l ≡ d → m ≢ n) → is_claimed (after_release devices l m) d n ≡ is_claimed devices d n
release-claimed devices l m d n other = change-claimed (without_claim m) (λ x. refl) devices l d n (λ here x. contains-remove_other x.claimed m n (other here))
