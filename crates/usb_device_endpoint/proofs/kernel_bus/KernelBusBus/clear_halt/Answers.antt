use Rattle.std.proofs.Common.{ap, ◌∙◌}
use Rattle.usb_kernel_devices.specs.declared.step.KernelCall.TheVariants as call
use Rattle.usb_kernel_devices.specs.Claims.{no_rules}
use Rattle.usb_kernel.specs.Value.{KernelState}
use Rattle.usb_kernel.proofs.Answered.{asks-is}
use Rattle.usb_device_endpoint.specs.KernelBusFacts.{holds_of}
use Rattle.usb_device_endpoint.specs.KernelBusState.{KernelBusState}
use Rattle.usb_device_endpoint.specs.KernelBusCalls.{bus_of}
use Rattle.usb_device_endpoint.proofs.kernel_bus.KernelBusBus.clear_halt.Goals as goal

pub invariant_of-self : goal.invariant_of-self
invariant_of-self c =
    let past = ap (λ (k : KernelState). k.past) (c.clear_halt.ensures.rest ∙ asks-is c.self.inside.kernel c.args.device call.Halt no_rules) in
    record { slots = rw past c.self.invariant.slots }

pub returns-clause-state : goal.returns-clause-state
returns-clause-state c =
    let before = c.self.inside in
    let with_kernel : KernelState → KernelBusState = λ k. record { kernel = k; holds = holds_of before.slots.items; keys = before.keys.items } in
    ap (λ k. bus_of (with_kernel k)) (c.clear_halt.ensures.rest ∙ asks-is before.kernel c.args.device call.Halt no_rules) ∙ ap bus_of c.self.view_is
