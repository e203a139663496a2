use Rattle.usb_device_host.specs.HostState.{HostState}
use Rattle.usb_device_host.specs.HandleStates.{StandsDevice}
use Rattle.usb_device.specs.ControlCalls.{controlled}
use Rattle.usb_device_host.proofs.Left.{left}
use Rattle.usb_device.proofs.FutureFrames.{device-controlled}
use Rattle.usb_device.proofs.device.Device.control_in.Goals as goal

pub returns-clause-stands : goal.returns-clause-stands
returns-clause-stands c =
    let host = c.args.host.now in
    let device = c.device_number-device.result in
    let request = c.in-Ok.request in
    left (λ (g : HostState). StandsDevice g c.args.self.now) c.finish.result c.finish.new.host (controlled host device request c.args.timeout) host c.finish.ensures.host
    (device-controlled host device c.args.self.now request c.args.timeout c.requires.stands) c.requires.stands
