-- The ranges of the fields of a parsed line's steps, where they are smaller than their types.
use Rattle.std.specs.Prelude.{◌<◌, ◌≤◌, length, IfSome}
use Rattle.usb_kernel_devices.specs.declared.step.KernelStep.{KernelStep}
use Rattle.usb_kernel_devices.specs.declared.step.KernelStep.TheVariants.{Packet, Ack, Echo, Fail, Unplug, Clock, Timer, Reap, Refuse}
use Rattle.usb_kernel.specs.Steps.{HasErrno}

-- the fields of a step
abbrev pub IsStepSized : KernelStep → Type 0
IsStepSized (Packet device endpoint bytes) = (device < 64) × (length bytes ≤ 65536)
IsStepSized (Ack device endpoint) = device < 64
IsStepSized (Echo device output input) = device < 64
IsStepSized (Fail device endpoint errno) = device < 64
IsStepSized (Unplug device) = device < 64
IsStepSized (Clock to) = to ≤ 1000000000000000000
IsStepSized Timer = Unit {0}
IsStepSized (Reap ticket) = IfSome ticket (λ t. t ≤ 4294967295)
IsStepSized (Refuse device call errno) = device < 64

-- the fields of a step, and its errno is one
pub record IsStepInRange (step : KernelStep) : Type 0 where
  pub sized : IsStepSized step
  pub errno : HasErrno step
