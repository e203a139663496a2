use Rattle.std.proofs.Common.{true, false, refl}
use Rattle.usb_io.specs.declared.fault.ReadFault.TheVariants.{TimedOut}
use Rattle.usb_io.specs.Answered.{as_wait}
use Rattle.usb_io.specs.Reads.{reading}
use Rattle.usb_session_streams.proofs.ReadsGoOn.{fill-goes}
use Rattle.usb_session_calls.proofs.filling.poll_fill_bytes.Goals as goal

pub returns-in-Plain : goal.returns-in-Plain
returns-in-Plain g c =
    let holds = c.poll_fill_buf.follows.holds-at-none in
    let on = fill-goes false (reading c.args.host.now c.args.reader.now) (reading c.poll_fill_buf.new.bus c.poll_fill_buf.follows.lender-at-none) 0 (as_wait TimedOut c.poll_fill_buf.result) holds.0.0 in
    ((refl, λ _. tt, (rw c.in-Plain.is holds.0, on, holds.1, holds.2)), record { lent = tt })

pub returns-in-UntilShort : goal.returns-in-UntilShort
returns-in-UntilShort g c =
    let holds = c.poll_fill_until_short.follows.holds-at-none in
    let on = fill-goes true (reading c.args.host.now c.args.reader.now) (reading c.poll_fill_until_short.new.bus c.poll_fill_until_short.follows.lender-at-none) 0 (as_wait TimedOut c.poll_fill_until_short.result) holds.0.0 in
    ((refl, λ _. tt, (rw c.in-UntilShort.is holds.0, on, holds.1, holds.2)), record { lent = tt })
