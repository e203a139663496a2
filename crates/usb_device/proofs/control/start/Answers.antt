use Rattle.std.proofs.Common.{◌≡◌, ap, ◌∙◌, Some}
use Rattle.usb_desc.specs.declared.types.Direction.{Direction}
use Rattle.usb_device_host.specs.declared.controls.StartedControl.{StartedControl}
use Rattle.usb_device.specs.Futures.{fresh_future}
use Rattle.usb_device.proofs.FutureFrames.{started-stands}
use Rattle.usb_device.proofs.KeptLemmas.{stand-started}
use Rattle.usb_device.proofs.control.start.Goals as goal

pub returns-clause-stands : goal.returns-clause-stands
returns-clause-stands c =
    let new = c.in_ok-started.ensures in
    let request = c.args.request in
    let future : c.new.result ≡ fresh_future c.args.host.now request c.args.timeout =
    c.new.ensures.future ∙ (ap (λ (s : StartedControl). record { key = s.key; ticket = Some s.ticket; deadline = s.deadline; direction = c.from_address-direction.result }) new.control ∙ ap (λ (d : Direction). record (fresh_future c.args.host.now request c.args.timeout) { direction = d }) c.from_address-direction.ensures) in
    rw (new.ok, future) (started-stands c.args.host.now c.args.device request c.args.timeout new.count)

pub returns-clause-handles : goal.returns-clause-handles
returns-clause-handles c = rw c.in_ok-started.ensures.ok (stand-started c.args.host.now c.args.device c.args.request c.args.timeout)
