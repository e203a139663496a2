-- A host to which the steps of a line are lent.
use Rattle.std.proofs.Common.{◌≡◌, List, sym, subst}
use Rattle.usb_kernel_devices.specs.declared.step.KernelStep.{KernelStep}
use Rattle.usb_device_endpoint.specs.EndpointState.{EndpointState}
use Rattle.usb_device_endpoint.specs.Handles.{Stands}
use Rattle.usb_device_host.specs.HostState.{HostState}
use Rattle.usb_device_host.specs.HostBus.{bus_of}
use Rattle.usb_device_host.specs.HostFrames.{LineGoesOn}
use Rattle.usb_device_host.proofs.CallFrames.{keeps-open}
use Rattle.usb_device_host.proofs.WaitFrames.{line-keeps}

-- what stands in the host stands in it with the steps
pub stands-lent : (host at : HostState) (steps : List KernelStep) (x : EndpointState) → at ≡ record host { steps = steps } → Stands (bus_of host) x → Stands (bus_of at) x
stands-lent host at steps x is stands =
    subst (λ (h : HostState). Stands (bus_of h) x) (sym is) (record { key_is_open = stands.key_is_open; held = stands.held })

-- a line in which nothing is done
pub line-same : (h : HostState) → LineGoesOn h h
line-same h = line-keeps h h (keeps-open h)
