-- Armed refusals, and how a call uses them.
use Rattle.std.specs.Prelude.{ℕ, Bool, List, [], ◌∷◌, Option, Some, is_some, find, option_map, ◌==◌, ◌&&◌, if◌then◌else◌}
use Rattle.usb_kernel_devices.specs.declared.devices.DeviceState.{DeviceState}
use Rattle.usb_kernel_devices.specs.declared.step.Armed.{Armed}
use Rattle.usb_kernel_devices.specs.declared.step.KernelCall.{KernelCall}
use Rattle.usb_kernel_devices.specs.declared.step.KernelCall.TheVariants.{OpenDevice, ReadDesc, GetConfig, SetConfig, Reset, Claim, DetachClaim, Detach, Attach, Alt, Halt, Speed, Submit}
use Rattle.usb_kernel_devices.specs.Errnos.{IsErrno}
use Rattle.usb_kernel_devices.specs.Devices.{plugged_device}

-- the calls that can be refused, numbered
abbrev pub call_number : KernelCall → ℕ
call_number OpenDevice = 0
call_number ReadDesc = 1
call_number GetConfig = 2
call_number SetConfig = 3
call_number Reset = 4
call_number Claim = 5
call_number DetachClaim = 6
call_number Detach = 7
call_number Attach = 8
call_number Alt = 9
call_number Halt = 10
call_number Speed = 11
call_number Submit = 12

-- whether a refusal is armed for a call on a device
abbrev pub is_armed_for : ℕ → KernelCall → Armed → Bool
is_armed_for d call a = a.device == d && call_number a.call == call_number call

-- the errno of the first refusal that is armed for a call on a device
abbrev pub armed_errno : List Armed → ℕ → KernelCall → Option ℕ
armed_errno armed d call = option_map (λ a. a.errno) (find (is_armed_for d call) armed)

-- the armed refusals without the first one for a call on a device
abbrev pub disarmed : List Armed → ℕ → KernelCall → List Armed
disarmed [] d call = []
disarmed (a ∷ others) d call = if is_armed_for d call a then others else a ∷ disarmed others d call

-- a call on a device is refused with 19 where no plugged device has the number, and else by the first refusal that is armed for it
abbrev pub call_refusal : List DeviceState → List Armed → ℕ → KernelCall → Option ℕ
call_refusal devices armed d call = if is_some (plugged_device devices d) then armed_errno armed d call else Some 19

-- a call on a plugged device uses up the refusal that was armed for it
abbrev pub armed_left : List DeviceState → List Armed → ℕ → KernelCall → List Armed
armed_left devices armed d call = if is_some (plugged_device devices d) then disarmed armed d call else armed

-- an armed refusal has the number of an error
abbrev pub HasArmedErrno : Armed → Type 0
HasArmedErrno a = IsErrno a.errno
