-- A call that only asks changes what is armed, and nothing where it answers.
use Rattle.std.proofs.Common.{◌≡◌, ℕ, List, Option, Some, None, Ok, refl, ap}
use Rattle.std.specs.Prelude.{find}
use Rattle.usb_kernel_devices.specs.declared.devices.DeviceState.{DeviceState}
use Rattle.usb_kernel_devices.specs.declared.step.KernelCall.{KernelCall}
use Rattle.usb_kernel_devices.specs.declared.step.KernelCall.TheVariants as call
use Rattle.usb_kernel_devices.specs.Claims.{is_at}
use Rattle.usb_kernel_devices.specs.Refusals.{armed_errno, armed_left}
use Rattle.usb_kernel_devices.specs.Calls.{answer_of, devices_called, same}
use Rattle.usb_kernel.specs.Calls.{errno_of, asked, called, open_by, after_open_by, after_open}
use Rattle.usb_kernel.specs.CallLaws.{AnswersUseNone, OpensUseNone}
use Rattle.usb_kernel.specs.Value.{KernelState}
use Rattle.usb_kernel_devices.proofs.DeviceLemmas.{same-change}
use Rattle.usb_kernel_devices.proofs.QueueLinks.{unarmed}
use Rattle.usb_kernel.proofs.CallsKept.{accepted, keeps-armed}

unrefused : {X : Type 0} (give : DeviceState → X) (e : Option ℕ) (o : Option DeviceState) (x : X) → answer_of give e o ≡ Ok x → e ≡ None
unrefused give (Some errno) o x is = absurd (cc)
unrefused give None o x is = refl

pub answers-use_none : AnswersUseNone
unfolding called
answers-use_none k d c rules none =
    rw (none, same-change k.devices d, keeps-armed k d c rules (accepted k d c rules none)) refl

pub asked-uses_none : {X : Type 0} (k : KernelState) (d : ℕ) (c : KernelCall) (rules : DeviceState → Option ℕ) (give : DeviceState → X) (x : X) → asked k d c rules give ≡ Ok x → called k d c rules same ≡ k
asked-uses_none k d c rules give x is = answers-use_none k d c rules (unrefused give (errno_of k d c rules) _ x is)

open-uses_none : (k : KernelState) (o : Option DeviceState) (d : ℕ) → open_by k o ≡ Ok d → after_open_by k o ≡ k
open-uses_none k None d is = refl
open-uses_none k (Some x) d is =
    rw (unarmed k.armed x.number call.OpenDevice (unrefused (λ (y : DeviceState). y.number) (armed_errno k.armed x.number call.OpenDevice) (Some x) d is)) refl

pub opens-use_none : OpensUseNone
opens-use_none k bus address d is = open-uses_none k (find (is_at bus address) k.devices) d is

-- whatever they answer, only what is armed changes
devices-same : (devices : List DeviceState) (d : ℕ) (e : Option ℕ) → devices_called devices d same e ≡ devices
devices-same devices d None = same-change devices d
devices-same devices d (Some errno) = refl

pub asks-is : (k : KernelState) (d : ℕ) (c : KernelCall) (rules : DeviceState → Option ℕ) → called k d c rules same ≡ record k { armed = (called k d c rules same).armed }
unfolding called
asks-is k d c rules = ap (λ (devices : List DeviceState). record k { devices = devices; armed = armed_left k.devices k.armed d c }) (devices-same k.devices d (errno_of k d c rules))

open-is : (k : KernelState) (o : Option DeviceState) → after_open_by k o ≡ record k { armed = (after_open_by k o).armed }
open-is k None = refl
open-is k (Some x) = refl

pub opens-is : (k : KernelState) (bus address : ℕ) → after_open k bus address ≡ record k { armed = (after_open k bus address).armed }
opens-is k bus address = open-is k (find (is_at bus address) k.devices)

-- a call changes devices and what is armed
pub called-is : (k : KernelState) (d : ℕ) (c : KernelCall) (rules : DeviceState → Option ℕ) (change : DeviceState → DeviceState) → called k d c rules change ≡ record k { devices = (called k d c rules change).devices; armed = (called k d c rules change).armed }
unfolding called
called-is k d c rules change = refl
