-- What a bench is to its users, and the host that it makes.
use Rattle.std.specs.Prelude.{ℕ, ◌+◌, List, [], ◌∷◌, ◌++◌, length, None}
use Rattle.usb_enum_sysfs.specs.declared.speed.Speed.{Speed}
use Rattle.usb_enum_sysfs.specs.declared.speed.Speed.TheVariants.{Low, Full, High, Super, SuperPlus}
use Rattle.usb_kernel_devices.specs.declared.devices.SimDevice.{SimDevice}
use Rattle.usb_kernel_devices.specs.declared.step.KernelStep.{KernelStep}
use Rattle.usb_kernel_devices.specs.declared.step.KernelStep.TheVariants.{Reap}
use Rattle.usb_kernel_devices.specs.Devices.{fresh_device}
use Rattle.usb_device_host.specs.HostState.{HostState, host_of}

-- the device, which has the number 0 at the kernel; the steps, in order; and how many places the
-- kernel has beside those of the steps
pub record BenchState : Type 0 where
  pub device : SimDevice
  pub steps : List KernelStep
  pub places : ℕ

-- the codes of speeds, as Linux gives them (`enum usb_device_speed` of linux/usb/ch9.h)
abbrev pub code_of_speed : Speed → ℕ
code_of_speed Low = 1
code_of_speed Full = 2
code_of_speed High = 3
code_of_speed Super = 5
code_of_speed SuperPlus = 6

-- at the start: a device of these descriptors at address 6 of bus 1, of high speed, in the
-- configuration of value 1, with no kernel driver; and no step
abbrev pub bench_of : List ℕ → BenchState
bench_of descriptors =
    record {
      device = record { bus = 1; address = 6; speed = 3; config = 1; bytes = descriptors; drivers = [] };
      steps = [];
      places = 0;
    }

-- with one more step
abbrev pub with_step : BenchState → KernelStep → BenchState
with_step b s = record b { steps = b.steps ++ s ∷ [] }

-- with one more step, and behind it one by which a transfer that it finished is reaped
abbrev pub with_reaped_step : BenchState → KernelStep → BenchState
with_reaped_step b s = with_step (with_step b s) (Reap None)

-- the host: nothing is open, no time has passed, and all steps are to come
abbrev pub host_on : BenchState → HostState
host_on b =
    record (host_of (record {
      past = [];
      devices = fresh_device (0, b.device) ∷ [];
      clock = 0;
      armed = [];
      spare = length b.steps + b.places;
    })) { steps = b.steps }
