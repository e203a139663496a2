-- What the calls with rules of their own make of a kernel. They change no journal.
use Rattle.std.specs.Prelude.{ℕ, Option}
use Rattle.usb_kernel_devices.specs.declared.calls.DeviceCall.{DeviceCall}
use Rattle.usb_kernel_devices.specs.DeviceCalls.{kind_of, call_rules, call_change}
use Rattle.usb_kernel.specs.Value.{KernelState}
use Rattle.usb_kernel.specs.Calls.{errno_of, called}

-- its errno, and the kernel after it
abbrev pub call_errno : KernelState → ℕ → DeviceCall → Option ℕ
call_errno k d c = errno_of k d (kind_of c) (call_rules c)

abbrev pub after_call : KernelState → ℕ → DeviceCall → KernelState
after_call k d c = called k d (kind_of c) (call_rules c) (call_change c)
