use Rattle.usb_device.proofs.StandLemmas.{opened-stands}
use Rattle.std.proofs.Common.{ℕ, Err}
use Rattle.usb_device_host.specs.Opens.{host_opened}
use Rattle.usb_device_host.proofs.Left.{left}
use Rattle.usb_device.specs.KeptHandles.{HandlesStand}
use Rattle.usb_device.proofs.KeptLemmas.{stand-none, stand-opened}
use Rattle.usb_device.proofs.ForDrivers.{device_apart}
use Rattle.usb_device.proofs.device.Device.open_at.Goals as goal

pub returns-in-Ok-clause-stands : goal.returns-in-Ok-clause-stands
returns-in-Ok-clause-stands c = rw c.in-Ok.ensures.host (opened-stands c.args.host.now c.args.bus c.args.address c.in-Ok.key.serial c.in-Ok.ensures.tried)

pub returns-in-Ok-clause-handles : goal.returns-in-Ok-clause-handles
returns-in-Ok-clause-handles c = rw c.in-Ok.ensures.host (stand-opened c.args.host.now c.args.bus c.args.address)

pub returns-in-Err-clause-handles : goal.returns-in-Err-clause-handles
returns-in-Err-clause-handles c =
    let host = c.args.host.now in
    left {A = ℕ} (HandlesStand host) (Err c.in-Err.error) c.open_device.new.self (host_opened host c.args.bus c.args.address) host c.in-Err.ensures.host (stand-opened host c.args.bus c.args.address) (stand-none host)

pub returns-in-Ok-clause-apart : goal.returns-in-Ok-clause-apart
returns-in-Ok-clause-apart c = λ d stands. device_apart c.args.host.now c.args.bus c.args.address c.in-Ok.key.serial d c.in-Ok.ensures.tried stands
