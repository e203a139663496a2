use Rattle.std.proofs.Common.{◌≡◌, ◌<◌, length, Err, ap, ◌∙◌, rules}
use Rattle.usb_script_words.specs.declared.line_error.LineError.TheVariants.{Malformed}
use Rattle.usb_trace.specs.Lines.{lines}
use Rattle.usb_trace.specs.Read.{IsStuck}
use Rattle.usb_trace.proofs.Reading.{line-read, fails-next, text-read}
use Rattle.usb_trace.proofs.TextRead.{stuck-rest, stuck-ended}
use Rattle.usb_trace.proofs.text.read_text.Goals as goal

pub returns-in-Err-Malformed-clause-malformed : goal.returns-in-Err-Malformed-clause-malformed
returns-in-Err-Malformed-clause-malformed c = λ line is.
    let l = c.loop-first in
    let here : l.line ≡ line = cc in
    let bad : c.add_line.result ≡ Err Malformed = c.in-Err-Malformed.is ∙ ap Err c.in-Err-Malformed.field-0-is in
    let next = c.add_line.ensures.stuck bad (lines c.in-Some.behind.now) in
    let stuck : IsStuck l.read.phase (lines l.rest.now) = rw c.in-Some.ensures.lines next in
    rw (← here) (fails-next c.args.bytes.now l.rest.now l.read l.line l.invariant stuck)

pub returns-then-not-is_empty-clause-malformed : goal.returns-then-not-is_empty-clause-malformed
returns-then-not-is_empty-clause-malformed c = λ line is.
    let l = c.loop-first in
    let here : l.line ≡ line = cc in
    let some : 0 < length l.rest.now = search rules in
    rw (← here) (fails-next c.args.bytes.now l.rest.now l.read l.line l.invariant (stuck-rest l.read.phase l.rest.now some (c.first_line.ensures.none c.in_default-first_line.is)))

pub returns-in-Some-finish-clause-text : goal.returns-in-Some-finish-clause-text
returns-in-Some-finish-clause-text c =
    let l = c.loop-first in
    let e = c.in-Some-finish.ensures in
    let none : length l.rest.now ≡ 0 = search rules in
    text-read c.args.bytes.now l.rest.now l.read l.line c.in-Some-finish.text l.invariant none e.phase e.replay e.fates

pub returns-clause-malformed : goal.returns-clause-malformed
returns-clause-malformed c = λ line is.
    let l = c.loop-first in
    let here : l.line ≡ line = cc in
    let none : length l.rest.now ≡ 0 = search rules in
    rw (← here) (fails-next c.args.bytes.now l.rest.now l.read l.line l.invariant (stuck-ended l.read.phase l.rest.now none (c.finish.ensures.none c.in-None.is)))

pub loop-first-preserved : goal.loop-first-preserved
loop-first-preserved c =
    let l = c.loop-first in
    let e = c.in-Some.ensures in
    line-read c.args.bytes.now l.rest.now c.in-Some.behind.now c.in-Some.first.now l.read c.add_line.new.read l.line l.invariant e.parts e.shorter c.in-Ok.ensures.read
