use Rattle.std.proofs.Common.{◌≡◌, None, rules}
use Rattle.usb_script.specs.Parse.{with_first}
use Rattle.usb_script_words.specs.Lines.{lines_of}
use Rattle.usb_script.proofs.ParseOn.{script_of_long, script_of_refused, script_of_read}
use Rattle.usb_script.proofs.script.parse_script.Goals as goal

pub returns-then-bytes-gt-MAX_SCRIPT-clause-answer : goal.returns-then-bytes-gt-MAX_SCRIPT-clause-answer
returns-then-bytes-gt-MAX_SCRIPT-clause-answer c = script_of_long c.args.bytes.now c.if-bytes-gt-MAX_SCRIPT.true

pub returns-in-Err-Malformed-clause-answer : goal.returns-in-Err-Malformed-clause-answer
returns-in-Err-Malformed-clause-answer c =
    let refused : with_first c.loop-rest.items (lines_of c.loop-rest.rest.now) ≡ None = search rules in
    script_of_refused c.args.bytes.now c.loop-rest.rest.now c.loop-rest.items c.loop-rest.line
    c.if-bytes-gt-MAX_SCRIPT.false c.loop-rest.invariant.parsed refused

pub returns-clause-answer : goal.returns-clause-answer
returns-clause-answer c =
    rw c.into_items.ensures.value
    (script_of_read c.args.bytes.now c.loop-rest.rest.now c.loop-rest.items c.loop-rest.line c.if-bytes-gt-MAX_SCRIPT.false c.loop-rest.invariant.parsed (search rules))
