use Rattle.std.proofs.Common.{◌+◌, add-one}
use Rattle.std.proofs.lemmas.List.{take_rest}
use Rattle.usb_trace.proofs.TextRead.{first-feed, lines-at}
use Rattle.usb_trace.proofs.text.first_line.Goals as goal

pub returns-clause-lines : goal.returns-clause-lines
returns-clause-lines c =
    let bytes = c.args.bytes.now in
    let at = c.in_ok-at.at in
    let first = first-feed bytes at c.in_ok-at.ensures in
    rw (take_rest bytes (at + 1), add-one) (lines-at bytes at first.0 first.1.0 first.1.1)
