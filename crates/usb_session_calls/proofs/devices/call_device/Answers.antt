use Rattle.usb_device_host.specs.EndpointOpens.{as_asked}
use Rattle.usb_session_calls.proofs.DeviceCalls.{asked-device}
use Rattle.usb_session_calls.proofs.devices.call_device.Goals as goal

pub returns-in-ActiveConfiguration-clause-text : goal.returns-in-ActiveConfiguration-clause-text
returns-in-ActiveConfiguration-clause-text c = λ o at.
    rw c.in-ActiveConfiguration.is
    (c.write_active.ensures.text (as_asked c.args.host.now.kernel o) (asked-device c.args.host.now c.ask_configuration.new.host c.args.device.now o at c.ask_configuration.ensures.host))
