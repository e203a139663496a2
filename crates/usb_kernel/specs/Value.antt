-- What a kernel is to its users.
use Rattle.std.specs.Prelude.{ℕ, List}
use Rattle.usb_kernel.specs.declared.event.Event.{Event}
use Rattle.usb_kernel_devices.specs.declared.devices.DeviceState.{DeviceState}
use Rattle.usb_kernel_devices.specs.declared.step.Armed.{Armed}

-- the events so far, the latest first; the devices; the clock in nanoseconds; the armed refusals in the order of arming; and how
-- many places are left, each with room for one more event or armed refusal: a step or a reset uses one, a submission makes its own
pub record KernelState : Type 0 where
  pub past : List Event
  pub devices : List DeviceState
  pub clock : ℕ
  pub armed : List Armed
  pub spare : ℕ
