use Rattle.std.proofs.Common.{◌≤◌, length, reverse}
use Rattle.usb_trace_lines.specs.Types.{IsTyped}
use Rattle.usb_trace_lines.proofs.Each.{all-forward, first-more, first-all}
use Rattle.usb_trace_lines.proofs.types.journal_is_typed.Goals as goal

pub loop-event-preserved : goal.loop-event-preserved
loop-event-preserved c =
    let past = c.args.kernel.now.past in
    let within = rw c.journal-event-items.ensures.events at c.loop-event-test.true in
    let is = rw c.journal-event-items.ensures.events at c.event-item.is in
    first-more IsTyped (reverse past) c.loop-event.event-index c.event-item.result within is c.loop-event.invariant c.event_is_typed.ensures.typed

pub returns : goal.returns
returns c =
    let past = c.args.kernel.now.past in
    let whole : length (reverse past) ≤ c.loop-event.event-index = rw c.journal-event-items.ensures.events at c.loop-event-test.false in
    record { typed = all-forward IsTyped past (first-all IsTyped (reverse past) c.loop-event.event-index whole c.loop-event.invariant) }
