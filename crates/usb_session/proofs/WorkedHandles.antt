-- Scripts of handles, settings, drivers and configurations, and what is written for them, worked out by hand.
use Rattle.std.proofs.Common.{[], ◌∷◌, codes, refl}
use Rattle.usb_kernel_devices.specs.declared.step.KernelCall.TheVariants.{Halt}
use Rattle.usb_kernel_devices.specs.declared.step.KernelStep.TheVariants.{Refuse}
use Rattle.usb_script_lines.specs.declared.item.Item.TheVariants as item
use Rattle.usb_script.proofs.OnLiterals.{script_on_literals}
use Rattle.usb_session.proofs.WorkedOutput.{output_on_literals, IsWorkedOut}
use Rattle.usb_session.proofs.WorkedDevices.{bulk_device, with_endpoint}

-- a device and an interface with two handles each: the claim ends with the last handle, and a release is refused before
handles_of_one : IsWorkedOut
    (bulk_device
    ∷ (codes "open d0 1 6", item.Open 0 1 6, codes "ok")
    ∷ (codes "clone d1 d0", item.CloneDevice 1 0, codes "ok")
    ∷ (codes "close d0", item.CloseDevice 0, codes "ok")
    ∷ (codes "clone d1 d0", item.CloneDevice 1 0, codes "condition")
    ∷ (codes "claim d1 0 i0", item.Claim 1 0 0, codes "ok")
    ∷ (codes "clone i1 i0", item.CloneInterface 1 0, codes "ok")
    ∷ (codes "clone i1 i0", item.CloneInterface 1 0, codes "condition")
    ∷ (codes "release i0", item.Release 0, codes "error Busy interface is still in use")
    ∷ (codes "close i0", item.CloseInterface 0, codes "ok")
    ∷ (codes "close i0", item.CloseInterface 0, codes "condition")
    ∷ (codes "claim d1 0 i0", item.Claim 1 0 0, codes "error Busy interface is busy (errno 16)")
    ∷ (codes "release i1", item.Release 1, codes "ok")
    ∷ (codes "claim d1 0 i0", item.Claim 1 0 0, codes "ok")
    ∷ (codes "close d0", item.CloseDevice 0, codes "condition")
    ∷ [])
    []
unfolding script_on_literals output_on_literals
handles_of_one = (refl, refl)

-- a setting is set only while no endpoint of the interface lives, and where the device has it; a halt is cleared where the endpoint is open
settings_and_halts : IsWorkedOut
    (with_endpoint
    ((codes "alt i0 0", item.SetAltSetting 0 0, codes "error Busy can't change alternate setting while endpoints are in use")
    ∷ (codes "! refuse k0 halt 5", item.Steps (Refuse 0 Halt 5 ∷ []), [])
    ∷ (codes "halt e0", item.ClearHalt 0, codes "error Other failed to clear halt (errno 5)")
    ∷ (codes "halt e0", item.ClearHalt 0, codes "ok")
    ∷ (codes "close e0", item.CloseEndpoint 0, codes "ok")
    ∷ (codes "halt e0", item.ClearHalt 0, codes "condition")
    ∷ (codes "alt i0 0", item.SetAltSetting 0 0, codes "ok")
    ∷ (codes "alt i0 1", item.SetAltSetting 0 1, codes "error NotFound alternate setting not found (errno 22)")
    ∷ (codes "getalt i0", item.GetAltSetting 0, codes "alt 0")
    ∷ (codes "getalt i1", item.GetAltSetting 1, codes "condition")
    ∷ (codes "ifdesc i0", item.InterfaceDescriptor 0, codes "if 0.0 ff 00 00 ep 81 bulk 64 0 ep 02 bulk 64 0")
    ∷ []))
    []
unfolding script_on_literals output_on_literals
settings_and_halts = (refl, refl)

-- a driver is bound before the first call: a claim is refused until it is detached; the end of a claim that detached it attaches it again
drivers : IsWorkedOut
    (bulk_device
    ∷ (codes "driver k0 0", item.Driver 0 0, [])
    ∷ (codes "open d0 1 6", item.Open 0 1 6, codes "ok")
    ∷ (codes "claim d0 0 i0", item.Claim 0 0 0, codes "error Busy interface is busy (errno 16)")
    ∷ (codes "detachclaim d0 0 i0", item.DetachAndClaim 0 0 0, codes "ok")
    ∷ (codes "attach d0 0", item.AttachDriver 0 0, codes "error Busy kernel driver already attached (errno 16)")
    ∷ (codes "detach d0 0", item.DetachDriver 0 0, codes "error Other no kernel driver attached (errno 61)")
    ∷ (codes "close i0", item.CloseInterface 0, codes "ok")
    ∷ (codes "detach d0 0", item.DetachDriver 0 0, codes "ok")
    ∷ (codes "attach d0 0", item.AttachDriver 0 0, codes "ok")
    ∷ (codes "detach d0 1", item.DetachDriver 0 1, codes "error NotFound interface not found (errno 22)")
    ∷ [])
    []
unfolding script_on_literals output_on_literals
drivers = (refl, refl)

-- the host keeps the configuration that was set or asked for last; a reset ends the device as an unplug does
configurations_and_reset : IsWorkedOut
    (bulk_device
    ∷ (codes "open d0 1 6", item.Open 0 1 6, codes "ok")
    ∷ (codes "speed d0", item.Speed 0, codes "speed High")
    ∷ (codes "active d0", item.ActiveConfiguration 0, codes "config 1")
    ∷ (codes "setconfig d0 7", item.SetConfiguration 0 7, codes "error NotFound configuration not found (errno 22)")
    ∷ (codes "setconfig d0 0", item.SetConfiguration 0 0, codes "ok")
    ∷ (codes "reset d0", item.Reset 0, codes "ok")
    ∷ (codes "reset d0", item.Reset 0, codes "error Disconnected device disconnected (errno 19)")
    ∷ (codes "active d0", item.ActiveConfiguration 0, codes "noconfig device is not configured")
    ∷ (codes "speed d0", item.Speed 0, codes "speed none")
    ∷ (codes "speed d1", item.Speed 1, codes "condition")
    ∷ [])
    []
unfolding script_on_literals output_on_literals
configurations_and_reset = (refl, refl)
