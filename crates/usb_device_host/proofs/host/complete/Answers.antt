use Rattle.std.proofs.Common.{ap, sym, set, ◌∙◌}
use Rattle.usb_kernel.specs.Value.{KernelState}
use Rattle.usb_device_host.specs.HostFacts.{host_made}
use Rattle.usb_device_ledger.specs.LedgerState.{LedgerState, slot_with, abandoned_key}
use Rattle.usb_device_host.proofs.Places.{some-at}
use Rattle.usb_device_host.proofs.ArrivalLemmas.{TicketsAgree-none, TicketsAgree-some, came-slot, left-slots, came-none}
use Rattle.usb_device_host.proofs.host.complete.Goals as goal

pub returns-in_default-clause-host : goal.returns-in_default-clause-host
returns-in_default-clause-host c = λ devices steps. rw c.in_default.is (sym (came-none (host_made c.args.kernel.now devices c.args.ledger.now steps)))

pub returns-in_default-clause-agree : goal.returns-in_default-clause-agree
returns-in_default-clause-agree c = λ past agree comes. TicketsAgree-none past c.args.kernel.now.past c.args.ledger.now.slots agree (rw c.in_default.is at comes)

pub returns-clause-host : goal.returns-clause-host
returns-clause-host c = λ devices steps.
    let done = c.in-Some.done in
    let there = some-at c.args.ledger.now.slots done.ticket (c.requires.within done c.in-Some.is) in
    rw c.in-Some.is (came-slot c.args.kernel.now devices c.args.ledger.now steps done there.0 c.complete-ended.new.self c.complete-ended.result c.release.new.kernel there.1 (c.complete-ended.ensures.slots there.0 there.1) (c.complete-ended.ensures.claim there.0 there.1) c.release.ensures.kernel)

pub returns-clause-agree : goal.returns-clause-agree
returns-clause-agree c = λ past agree comes.
    let done = c.in-Some.done in
    let there = some-at c.args.ledger.now.slots done.ticket (c.requires.within done c.in-Some.is) in
    let slots = ap (λ (l : LedgerState). l.slots) (c.complete-ended.ensures.slots there.0 there.1) ∙ left-slots (record c.args.ledger.now { slots = set c.args.ledger.now.slots done.ticket (slot_with done there.0) }) (abandoned_key there.0) in
    let same = ap (λ (k : KernelState). k.past) c.release.ensures.rest in
    rw (slots, same) (TicketsAgree-some past c.args.kernel.now.past c.args.ledger.now.slots done there.0 agree (rw c.in-Some.is at comes) there.1)
