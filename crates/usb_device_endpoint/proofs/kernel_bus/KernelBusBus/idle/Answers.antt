use Rattle.std.proofs.Common.{arith, refl}
use Rattle.std.specs.Prelude.{max}
use Rattle.usb_kernel.proofs.Extends.{extends-turned}
use Rattle.usb_device_endpoint.proofs.kernel_bus.KernelBusBus.idle.Goals as goal

pub returns-clause-state : goal.returns-clause-state
returns-clause-state c =
    let kernel = c.args.self.now.kernel in
    rw c.raise_clock.ensures.bus (record { past = extends-turned (max kernel.clock c.args.until) kernel.past; clock = omega arith; owner = refl; keys = refl })
