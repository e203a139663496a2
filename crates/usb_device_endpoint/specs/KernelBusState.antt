-- What the bus over a kernel alone is to its users.
use Rattle.std.specs.Prelude.{Bool, List, Option}
use Rattle.usb_kernel.specs.Value.{KernelState}
use Rattle.usb_kernel.specs.Holds.{Hold}

-- the kernel; for each ticket what an endpoint holds of it, until it is taken or given up; and for each key whether
-- it is that of an open endpoint
pub record KernelBusState : Type 0 where
  pub kernel : KernelState
  pub holds : List (Option Hold)
  pub keys : List Bool
