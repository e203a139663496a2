use Rattle.std.proofs.Common.{true, false, refl}
use Rattle.usb_io.specs.Reads.{reading}
use Rattle.usb_session_streams.proofs.ReadsGoOn.{fill-goes}
use Rattle.usb_session_calls.proofs.filling.fill_bytes.Goals as goal

pub returns-in-Plain : goal.returns-in-Plain
returns-in-Plain g c =
    let holds = c.fill_buf.follows.holds-at-none in
    let on = fill-goes false (reading c.args.host.now c.args.reader.now) (reading c.fill_buf.new.bus c.fill_buf.follows.lender-at-none) c.args.reader.now.timeout c.fill_buf.result holds.0 in
    ((refl, λ _. tt, (rw c.in-Plain.is holds.0, on, holds.1, holds.2)), record { lent = tt })

pub returns-in-UntilShort : goal.returns-in-UntilShort
returns-in-UntilShort g c =
    let holds = c.fill_until_short.follows.holds-at-none in
    let on = fill-goes true (reading c.args.host.now c.args.reader.now) (reading c.fill_until_short.new.bus c.fill_until_short.follows.lender-at-none) c.args.reader.now.timeout c.fill_until_short.result holds.0 in
    ((refl, λ _. tt, (rw c.in-UntilShort.is holds.0, on, holds.1, holds.2)), record { lent = tt })
