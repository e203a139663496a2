-- The calls on devices with the refusals that are armed for them. Each is refused with 19 where no plugged device has the number,
-- else by the first refusal that is armed for it, which is used up, and else by the first of its rules.
use Rattle.std.specs.Prelude.{ℕ, ◌-◌, ◌∷◌, Option, Some, None, find, Result, Err}
use Rattle.usb_kernel.specs.declared.event.Event.TheVariants.{Unplug}
use Rattle.usb_kernel_devices.specs.declared.devices.DeviceState.{DeviceState}
use Rattle.usb_kernel_devices.specs.declared.step.KernelCall.{KernelCall}
use Rattle.usb_kernel_devices.specs.declared.step.KernelCall.TheVariants as call
use Rattle.usb_kernel_devices.specs.Devices.{plugged_device, unplugged}
use Rattle.usb_kernel_devices.specs.Claims.{is_at, no_rules}
use Rattle.usb_kernel_devices.specs.Refusals.{armed_errno, disarmed, call_refusal, armed_left}
use Rattle.usb_kernel_devices.specs.Calls.{◌or_else◌, rules_of, answer_of, devices_called}
use Rattle.usb_kernel.specs.Value.{KernelState}

-- the errno of a call: the refusal that comes before its rules, or that of its rules
abbrev pub errno_of : KernelState → ℕ → KernelCall → (DeviceState → Option ℕ) → Option ℕ
errno_of k d call rules = call_refusal k.devices k.armed d call or_else rules_of rules (plugged_device k.devices d)

-- the answer of a call that gives something of the device
abbrev pub asked : {X : Type 0} → KernelState → ℕ → KernelCall → (DeviceState → Option ℕ) → (DeviceState → X) → Result X ℕ
asked k d call rules give = answer_of give (errno_of k d call rules) (plugged_device k.devices d)

-- what is left of the kernel: the refusal is used up, and the device is changed where the call was not refused
unfoldable pub called : KernelState → ℕ → KernelCall → (DeviceState → Option ℕ) → (DeviceState → DeviceState) → KernelState
called k d call rules change =
    record k { devices = devices_called k.devices d change (errno_of k d call rules); armed = armed_left k.devices k.armed d call }

-- open: 2 where no plugged device has the address, before an armed refusal is looked at
abbrev pub open_by : KernelState → Option DeviceState → Result ℕ ℕ
open_by k None = Err 2
open_by k (Some d) = answer_of (λ d. d.number) (armed_errno k.armed d.number call.OpenDevice) (Some d)

-- its answer: the number of the device
abbrev pub open_answer : KernelState → ℕ → ℕ → Result ℕ ℕ
open_answer k bus address = open_by k (find (is_at bus address) k.devices)

-- the kernel after it, whose refusal is used up
abbrev pub after_open_by : KernelState → Option DeviceState → KernelState
after_open_by k None = k
after_open_by k (Some d) = record k { armed = disarmed k.armed d.number call.OpenDevice }

-- the same, by bus and address
abbrev pub after_open : KernelState → ℕ → ℕ → KernelState
after_open k bus address = after_open_by k (find (is_at bus address) k.devices)

-- reset: no rule of refusal. One that is not refused acts as an unplug, and uses a place of spare
abbrev pub reset_by : KernelState → ℕ → Option ℕ → KernelState
reset_by k d (Some errno) = k
reset_by k d None = record k { past = Unplug d ∷ k.past; spare = k.spare - 1 }

-- the kernel after a reset
unfoldable pub after_reset : KernelState → ℕ → KernelState
after_reset k d = reset_by (called k d call.Reset no_rules unplugged) d (errno_of k d call.Reset no_rules)

-- release: no rule of refusal, and no armed refusal (Claims.antt of usb_kernel_devices)
