-- Calls on devices, and what they leave.
use Rattle.std.proofs.Common.{◌≡◌, ℕ, ◌+◌, ◌-◌, arith, List, ◌∷◌, Option, Some, None, Result, Ok, Err, refl, sym, ◌∙◌}
use Rattle.std.specs.Prelude.{OnOk, OnErr}
use Rattle.usb_kernel_devices.specs.declared.devices.DeviceState.{DeviceState}
use Rattle.usb_kernel_devices.specs.declared.step.Armed.{Armed}
use Rattle.usb_kernel.specs.declared.event.Event.TheVariants.{Unplug}
use Rattle.usb_kernel_devices.specs.declared.step.KernelCall.{KernelCall}
use Rattle.usb_kernel_devices.specs.declared.step.KernelCall.TheVariants as call
use Rattle.usb_kernel_devices.specs.Devices.{plugged_device, change_device, unplugged, devices_unplugged}
use Rattle.usb_kernel_devices.specs.Claims.{ok_unless, result_by, no_rules}
use Rattle.usb_kernel_devices.specs.Refusals.{call_refusal, armed_left}
use Rattle.usb_kernel_devices.specs.Calls.{same}
use Rattle.usb_kernel.specs.Calls.{errno_of, asked, called, after_reset}
use Rattle.usb_kernel.specs.Steps.{after_unplug}
use Rattle.usb_kernel.specs.Value.{KernelState}
use Rattle.usb_kernel_devices.proofs.DeviceLemmas.{same-change}

-- a call that is not refused before its rules finds its device plugged
pub record Found (devices : List DeviceState) (d : ℕ) : Type 0 where
  pub device : DeviceState
  pub plugged : plugged_device devices d ≡ Some device

found-by : (devices : List DeviceState) (armed : List Armed) (d : ℕ) (c : KernelCall) (o : Option DeviceState) → plugged_device devices d ≡ o → call_refusal devices armed d c ≡ None → Found devices d
found-by devices armed d c None is none = absurd (let e = rw is at none in cc)
found-by devices armed d c (Some x) is none = record { device = x; plugged = is }

pub found : (devices : List DeviceState) (armed : List Armed) (d : ℕ) (c : KernelCall) → call_refusal devices armed d c ≡ None → Found devices d
found devices armed d c none = found-by devices armed d c (plugged_device devices d) refl none

-- what a call answers and leaves that is refused before its rules
pub errno-refused : (k : KernelState) (d errno : ℕ) (c : KernelCall) (rules : DeviceState → Option ℕ) → call_refusal k.devices k.armed d c ≡ Some errno → errno_of k d c rules ≡ Some errno
errno-refused k d errno c rules refused = rw refused refl

pub called-refused : (k : KernelState) (d errno : ℕ) (c : KernelCall) (rules : DeviceState → Option ℕ) (change : DeviceState → DeviceState) → call_refusal k.devices k.armed d c ≡ Some errno → record k { armed = armed_left k.devices k.armed d c } ≡ called k d c rules change
unfolding called
called-refused k d errno c rules change refused = rw (errno-refused k d errno c rules refused) refl

-- and one that comes to its rules
pub errno-rows : (k : KernelState) (d : ℕ) (c : KernelCall) (rules : DeviceState → Option ℕ) → call_refusal k.devices k.armed d c ≡ None → result_by rules (plugged_device k.devices d) ≡ ok_unless (errno_of k d c rules)
errno-rows k d c rules none =
    let f = found k.devices k.armed d c none in
    rw (none, f.plugged) refl

accepted : (row : Option ℕ) → ok_unless row ≡ Ok tt → row ≡ None
accepted None ok = refl
accepted (Some errno) ok = absurd cc

rejected : (row : Option ℕ) (errno : ℕ) → ok_unless row ≡ Err errno → row ≡ Some errno
rejected None errno bad = absurd cc
rejected (Some e) errno bad = cc

pub called-rows :
    (k : KernelState) (d : ℕ) (c : KernelCall) (rules : DeviceState → Option ℕ) (change : DeviceState → DeviceState) (r : Result (Unit {0}) ℕ) (devices : List DeviceState)
    → call_refusal k.devices k.armed d c ≡ None → r ≡ ok_unless (errno_of k d c rules)
    → OnOk r (devices ≡ change_device change d k.devices) → OnErr r (devices ≡ k.devices)
    → record k { devices = devices; armed = armed_left k.devices k.armed d c } ≡ called k d c rules change
unfolding called
called-rows k d c rules change (Ok x) devices none is ok err =
    let row : errno_of k d c rules ≡ None = accepted (errno_of k d c rules) (sym is) in
    rw (row, ok) refl
called-rows k d c rules change (Err errno) devices none is ok err =
    let row : errno_of k d c rules ≡ Some errno = rejected (errno_of k d c rules) errno (sym is) in
    rw (row, err) refl

-- a call that only asks leaves the devices
pub called-asked : (k : KernelState) (d : ℕ) (c : KernelCall) → call_refusal k.devices k.armed d c ≡ None → record k { armed = armed_left k.devices k.armed d c } ≡ called k d c no_rules same
unfolding called
called-asked k d c none =
    let f = found k.devices k.armed d c none in
    rw (none, f.plugged, same-change k.devices d) refl

pub asked-found : {X : Type 0} (k : KernelState) (d : ℕ) (c : KernelCall) (give : DeviceState → X) (x : DeviceState) → call_refusal k.devices k.armed d c ≡ None → plugged_device k.devices d ≡ Some x → Ok (give x) ≡ asked k d c no_rules give
asked-found k d c give x none is = rw (none, is) refl

pub asked-refused : {X : Type 0} (k : KernelState) (d errno : ℕ) (c : KernelCall) (give : DeviceState → X) → call_refusal k.devices k.armed d c ≡ Some errno → Err errno ≡ asked k d c no_rules give
asked-refused k d errno c give refused = rw (errno-refused k d errno c no_rules refused) refl

-- a reset
pub reset-refused : (k : KernelState) (d errno : ℕ) → call_refusal k.devices k.armed d call.Reset ≡ Some errno → record k { armed = armed_left k.devices k.armed d call.Reset } ≡ after_reset k d
unfolding after_reset
reset-refused k d errno refused = rw (errno-refused k d errno call.Reset no_rules refused) (called-refused k d errno call.Reset no_rules unplugged refused)

pub reset-done :
    (k new : KernelState) (d : ℕ)
    → call_refusal k.devices k.armed d call.Reset ≡ None
    → new.past ≡ after_unplug k.devices k.past d → new.devices ≡ devices_unplugged k.devices d → new.spare + 1 ≡ k.spare
    → new ≡ record k { armed = armed_left k.devices k.armed d call.Reset; past = new.past; devices = new.devices; spare = new.spare }
    → new ≡ after_reset k d
unfolding after_reset called
reset-done k new d none past devices spare rest =
    let f = found k.devices k.armed d call.Reset none in
    let row : errno_of k d call.Reset no_rules ≡ None = rw (none, f.plugged) refl in
    let event : new.past ≡ Unplug d ∷ k.past = rw f.plugged at past in
    let less : new.spare ≡ k.spare - 1 = omega (arith, spare) in
    rest ∙ rw (row, event, devices, less) refl
