use Rattle.std.proofs.Common.{◌≡◌, ◌++◌, ◌∷◌, [], Some, None, length, ap, refl, ◌∙◌, arith, Option, ℕ}
use Rattle.usb_xfer.specs.Transfers.{buffer_held}
use Rattle.usb_xfer.specs.declared.transfer.TransferData.{TransferData}
use Rattle.usb_kernel.specs.Value.{KernelState}
use Rattle.usb_kernel.specs.Tickets.{tickets}
use Rattle.usb_kernel.specs.Submits.{submit_or_refuse, queued_or_refused, refuse_result, after_refuse}
use Rattle.usb_device_endpoint.specs.Routes.{submission_of}
use Rattle.usb_kernel.specs.Holds.{held_at_once}
use Rattle.usb_device_ledger.specs.TicketStates as slot
use Rattle.usb_device_host.specs.HostCalls.{host_refused}
use Rattle.usb_device_ledger.specs.Slots.{slots_with}
use Rattle.usb_device_ledger.specs.LedgerState.{LedgerState, tickets_in}
use Rattle.usb_device_host.proofs.EnterLemmas.{TicketsAgree-enter, refused-made}
use Rattle.usb_device_host.proofs.host.Host.refuse_transfer.Goals as goal

pub invariant_of-self-in-Ok : goal.invariant_of-self-in-Ok
invariant_of-self-in-Ok c =
    let k = c.self.inside.kernel in
    let l = c.self.inside.ledger in
    let held = c.ticket_from-entry.result.held in
    let sub = submission_of c.args.to None c.take_buffer-buffer.result in
    let transfer : TransferData = record c.args.t { held = held } in
    let refusal : Option ℕ = Some c.args.errno in
    let ledger : c.hold.new.self ≡ record l { slots = l.slots ++ slot.HeldBy c.args.to.key transfer ∷ []; room = c.hold.new.self.room; slot_count = slots_with (tickets_in l) l.slot_count } =
    c.hold.ensures.slots ∙ rw (c.reserve.ensures.rest, c.take_buffer-buffer.ensures.rest) refl in
    let past : c.refuse.new.self.past ≡ submit_or_refuse (length (tickets k.past)) sub refusal ∷ k.past = c.in-Ok.ensures.past ∙ ap (λ s. after_refuse k.past s c.args.errno) c.submission.ensures.submission in
    let held_is : held ≡ held_at_once (queued_or_refused (length (tickets k.past)) sub refusal) = c.ticket_from-entry.ensures.held ∙ ap held_at_once (c.in-Ok.ensures.submitted ∙ ap (λ s. refuse_result k.past s c.args.errno) c.submission.ensures.submission) in
    record {
      agree = rw (ap (λ (x : LedgerState). x.slots) ledger, past) (TicketsAgree-enter k.past l.slots sub refusal c.args.to.key transfer c.self.invariant.agree held_is);
      room = omega (arith, ap (λ (x : KernelState). x.spare) c.refuse.ensures.rest, c.self.invariant.room);
      errnos = c.self.invariant.errnos;
    }

pub returns-in-Ok-clause-ok : goal.returns-in-Ok-clause-ok
returns-in-Ok-clause-ok c =
    let k = c.self.inside.kernel in
    let l = c.self.inside.ledger in
    let held = c.ticket_from-entry.result.held in
    let sub = submission_of c.args.to None c.take_buffer-buffer.result in
    let transfer : TransferData = record c.args.t { held = held } in
    let refusal : Option ℕ = Some c.args.errno in
    let ledger : c.hold.new.self ≡ record l { slots = l.slots ++ slot.HeldBy c.args.to.key transfer ∷ []; room = c.hold.new.self.room; slot_count = slots_with (tickets_in l) l.slot_count } =
    c.hold.ensures.slots ∙ rw (c.reserve.ensures.rest, c.take_buffer-buffer.ensures.rest) refl in
    let past : c.refuse.new.self.past ≡ submit_or_refuse (length (tickets k.past)) sub refusal ∷ k.past = c.in-Ok.ensures.past ∙ ap (λ s. after_refuse k.past s c.args.errno) c.submission.ensures.submission in
    let kernel : c.refuse.new.self ≡ record k { past = after_refuse k.past sub c.args.errno } = c.refuse.ensures.rest ∙ ap (λ p. record k { past = p }) past in
    refused-made k c.refuse.new.self c.self.inside.devices l c.hold.new.self c.self.inside.steps.items c.args.to c.args.t c.args.errno c.take_buffer-buffer.result held c.hold.new.self.room (ap buffer_held c.take_buffer-buffer.ensures.value) kernel ledger
    ∙ ap (λ h. host_refused h c.args.to c.args.t c.args.errno) c.self.view_is
