use Rattle.std.proofs.Common.{◌≡◌, ◌++◌, ◌∷◌, [], length, ap, refl, ◌∙◌, arith, Option, ℕ}
use Rattle.usb_xfer.specs.Transfers.{buffer_held}
use Rattle.usb_xfer.specs.declared.transfer.TransferData.{TransferData}
use Rattle.usb_kernel.specs.Value.{KernelState}
use Rattle.usb_kernel.specs.Tickets.{tickets}
use Rattle.usb_kernel.specs.Submits.{submit_refusal, submit_or_refuse, queued_or_refused, submit_result, after_submit, armed_after_submit}
use Rattle.usb_device_endpoint.specs.Routes.{submission_of}
use Rattle.usb_kernel.specs.Holds.{held_at_once}
use Rattle.usb_device_ledger.specs.TicketStates as slot
use Rattle.usb_device_host.specs.HostCalls.{host_submitted}
use Rattle.usb_device_ledger.specs.Slots.{slots_with}
use Rattle.usb_device_ledger.specs.LedgerState.{LedgerState, tickets_in}
use Rattle.usb_device_host.proofs.EnterLemmas.{TicketsAgree-enter, submitted-made}
use Rattle.usb_device_host.proofs.host.Host.submit_transfer.Goals as goal

pub invariant_of-self-in-Ok : goal.invariant_of-self-in-Ok
invariant_of-self-in-Ok c =
    let k = c.self.inside.kernel in
    let l = c.self.inside.ledger in
    let held = c.ticket_from-entry.result.held in
    let sub = submission_of c.args.to c.args.deadline c.take_buffer-buffer.result in
    let transfer : TransferData = record c.args.t { held = held } in
    let refusal : Option ℕ = submit_refusal k.devices k.armed c.args.to.device in
    let ledger : c.hold.new.self ≡ record l { slots = l.slots ++ slot.HeldBy c.args.to.key transfer ∷ []; room = c.hold.new.self.room; slot_count = slots_with (tickets_in l) l.slot_count } =
    c.hold.ensures.slots ∙ rw (c.reserve.ensures.rest, c.take_buffer-buffer.ensures.rest) refl in
    let past : c.submit.new.self.past ≡ submit_or_refuse (length (tickets k.past)) sub refusal ∷ k.past = c.in-Ok.ensures.past ∙ ap (λ s. after_submit k.devices k.armed k.past s) c.submission.ensures.submission in
    let held_is : held ≡ held_at_once (queued_or_refused (length (tickets k.past)) sub refusal) = c.ticket_from-entry.ensures.held ∙ ap held_at_once (c.in-Ok.ensures.submitted ∙ ap (λ s. submit_result k.devices k.armed k.past s) c.submission.ensures.submission) in
    record {
      agree = rw (ap (λ (x : LedgerState). x.slots) ledger, past) (TicketsAgree-enter k.past l.slots sub refusal c.args.to.key transfer c.self.invariant.agree held_is);
      room = omega (arith, ap (λ (x : KernelState). x.spare) c.submit.ensures.rest, c.self.invariant.room);
      errnos = c.self.invariant.errnos;
    }

pub returns-in-Ok-clause-ok : goal.returns-in-Ok-clause-ok
returns-in-Ok-clause-ok c =
    let k = c.self.inside.kernel in
    let l = c.self.inside.ledger in
    let held = c.ticket_from-entry.result.held in
    let sub = submission_of c.args.to c.args.deadline c.take_buffer-buffer.result in
    let transfer : TransferData = record c.args.t { held = held } in
    let refusal : Option ℕ = submit_refusal k.devices k.armed c.args.to.device in
    let ledger : c.hold.new.self ≡ record l { slots = l.slots ++ slot.HeldBy c.args.to.key transfer ∷ []; room = c.hold.new.self.room; slot_count = slots_with (tickets_in l) l.slot_count } =
    c.hold.ensures.slots ∙ rw (c.reserve.ensures.rest, c.take_buffer-buffer.ensures.rest) refl in
    let past : c.submit.new.self.past ≡ submit_or_refuse (length (tickets k.past)) sub refusal ∷ k.past = c.in-Ok.ensures.past ∙ ap (λ s. after_submit k.devices k.armed k.past s) c.submission.ensures.submission in
    let armed = c.in-Ok.ensures.armed ∙ ap (λ s. armed_after_submit k.devices k.armed s) c.submission.ensures.submission in
    let kernel : c.submit.new.self ≡ record k { past = after_submit k.devices k.armed k.past sub; armed = armed_after_submit k.devices k.armed sub } =
    c.submit.ensures.rest ∙ ap (λ p. record k { past = p; armed = c.submit.new.self.armed }) past ∙ ap (λ a. record k { past = after_submit k.devices k.armed k.past sub; armed = a }) armed in
    submitted-made k c.submit.new.self c.self.inside.devices l c.hold.new.self c.self.inside.steps.items c.args.to c.args.deadline c.args.t c.take_buffer-buffer.result held c.hold.new.self.room (ap buffer_held c.take_buffer-buffer.ensures.value) kernel ledger
    ∙ ap (λ h. host_submitted h c.args.to c.args.deadline c.args.t) c.self.view_is
