use Rattle.usb_device.proofs.device.Device.get_descriptor.Goals as goal

pub returns-in-Err-Memory-clause-host : goal.returns-in-Err-Memory-clause-host
returns-in-Err-Memory-clause-host c = λ x at.
    let host = rw c.in-Err-Memory.field-0-is at (c.in-Err-Memory.ensures.host x at) in
    host
