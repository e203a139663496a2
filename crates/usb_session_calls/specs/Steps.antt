-- The steps of a line: they are put into the host, and those that are left when the call answers
-- are applied right after it.
use Rattle.std.specs.Prelude.{List}
use Rattle.usb_kernel_devices.specs.declared.step.KernelStep.{KernelStep}
use Rattle.usb_device_host.specs.HostTurns.{host_rest}
use Rattle.usb_session_calls.specs.State.{State, with_host}
use Rattle.usb_session_calls.specs.Answer.{Answer, answer_with}

-- the steps of a line are put into the host, for its turns
abbrev pub with_steps : State → List KernelStep → State
with_steps state steps = with_host state (record state.host { steps = steps })

-- the steps that are left, the rest, are applied
abbrev pub steps_applied : State → State
steps_applied state = with_host state (host_rest state.host)

-- an answer, and then the steps that are left
abbrev pub then_applied : Answer → Answer
then_applied a = answer_with (steps_applied a.state) a.line

-- a call with the steps of its line
abbrev pub along_steps : State → List KernelStep → (State → Answer) → Answer
along_steps state steps call = then_applied (call (with_steps state steps))

-- a line of steps, and the steps of a barred call: all are applied in order
unfoldable pub stepped_all : State → List KernelStep → State
stepped_all state steps = steps_applied (with_steps state steps)
