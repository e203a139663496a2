use Rattle.usb_device_ledger.proofs.LedgerLemmas.{either}
use Rattle.usb_device.proofs.FutureFrames.{device-started}
use Rattle.usb_device.proofs.device.Device.start_control_out.Goals as goal

pub returns-clause-stands : goal.returns-clause-stands
returns-clause-stands c =
    let host = c.args.host.now in
    either c.start.result _ _ c.start.ensures.ok c.start.ensures.err
    (λ ok. rw ok (device-started host c.device_number-device.result c.args.self.now c.in_ok-request.request c.args.timeout c.requires.stands))
    (λ err. rw err c.requires.stands)
