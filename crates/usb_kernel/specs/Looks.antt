-- How many records of tickets a step may look at, at most.
use Rattle.std.specs.Prelude.{ℕ, ◌+◌, ◌*◌, Some, None}
use Rattle.usb_kernel_devices.specs.declared.step.KernelStep.{KernelStep}
use Rattle.usb_kernel_devices.specs.declared.step.KernelStep.TheVariants as step
use Rattle.usb_kernel.specs.Value.{KernelState}
use Rattle.usb_kernel.specs.Info.{unreaped}
use Rattle.usb_kernel.specs.Overdue.{overdue_count}

abbrev pub looks : KernelState → KernelStep → ℕ
looks k (step.Packet device endpoint bytes) = 2
looks k (step.Ack device endpoint) = 2
looks k (step.Echo device output input) = 4
looks k (step.Fail device endpoint errno) = 2
looks k (step.Unplug device) = 3 * unreaped k.past
looks k (step.Clock to) = 0
looks k step.Timer = 3 * overdue_count k.clock k.past
looks k (step.Reap (Some ticket)) = 3
looks k (step.Reap None) = unreaped k.past + 3
looks k (step.Refuse device call errno) = 0
