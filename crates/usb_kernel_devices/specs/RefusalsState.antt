-- What the armed refusals are to a kernel.
use Rattle.std.specs.Prelude.{ℕ, List}
use Rattle.usb_kernel_devices.specs.declared.step.Armed.{Armed}

-- the refusals in the order of arming, and how many more there is room for
pub record RefusalsState : Type 0 where
  pub armed : List Armed
  pub room : ℕ
