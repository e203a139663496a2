use Rattle.usb_device_host.proofs.LeftDevices.{calls-keep_handles}
use Rattle.usb_device_host.proofs.host.HostBus.calls_keep_handles.Goals as goal

pub returns : goal.returns
returns g = record { law = calls-keep_handles }
