use Rattle.std.proofs.Common.{◌≡◌, ℕ, List, Option, Some, ap, arith, sym, ◌∙◌}
use Rattle.std.specs.Prelude.{IsSome}
use Rattle.std.specs.Option.{option_map}
use Rattle.usb_xfer.specs.declared.transfer.Held.{Held as HeldData}
use Rattle.usb_kernel_devices.specs.declared.step.KernelStep.{KernelStep}
use Rattle.usb_kernel.specs.Value.{KernelState}
use Rattle.usb_kernel.specs.TransferCompletions.{transfer_completion}
use Rattle.usb_device_ledger.specs.LedgerState.{LedgerState, slot_data}
use Rattle.usb_device_ledger.specs.declared.opened.OpenDevice.{OpenDevice}
use Rattle.usb_device_ledger.specs.TicketStates as slot
use Rattle.usb_device_host.specs.HostBus.{host_value}
use Rattle.usb_device_host.specs.HeldTransfers.{transfer_held, host_transfer}
use Rattle.usb_device_host.specs.HostFacts.{host_made, TicketsAgree}
use Rattle.usb_device_host.specs.TicketEnds.{host_ended}
use Rattle.usb_device_host.proofs.HostCallLemmas.{HeldSlot, held-slot, hold-of, value-slot, ended-slot, TicketsAgree-end}
use Rattle.usb_device_host.proofs.host.Host.end_ticket.Goals as goal

pub invariant_of-self : goal.invariant_of-self
invariant_of-self c =
    let k = c.self.inside.kernel in
    let l = c.self.inside.ledger in
    let w : HeldSlot l.slots c.args.ticket = held-slot l.slots c.args.ticket (rw (← c.self.view_is) at c.requires.held) in
    let slots = ap (λ (x : LedgerState). x.slots) (c.end-ending.ensures.slots (slot.HeldBy w.key w.transfer) w.at) in
    let past = ap (λ (x : KernelState). x.past) c.release.ensures.rest in
    record {
      agree = rw (slots, past) (TicketsAgree-end k.past l.slots c.args.ticket c.args.end c.self.invariant.agree);
      room = omega (arith, ap (λ (x : KernelState). x.spare) c.release.ensures.rest, c.self.invariant.room);
      errnos = c.self.invariant.errnos;
    }

pub returns-clause-ended : goal.returns-clause-ended
returns-clause-ended c =
    let k = c.self.inside.kernel in
    let l = c.self.inside.ledger in
    let w : HeldSlot l.slots c.args.ticket = held-slot l.slots c.args.ticket (rw (← c.self.view_is) at c.requires.held) in
    let claim = c.end-ending.ensures.claim (slot.HeldBy w.key w.transfer) w.at in
    ended-slot k c.self.inside.devices l c.self.inside.steps.items c.args.ticket w c.args.end c.end-ending.new.self c.end-ending.result.claim c.release.new.kernel (c.end-ending.ensures.slots (slot.HeldBy w.key w.transfer) w.at) claim c.release.ensures.kernel ∙ ap (λ h. host_ended h c.args.ticket c.args.end) c.self.view_is

pub returns-clause-value : goal.returns-clause-value
returns-clause-value c = λ some.
    let k = c.self.inside.kernel in
    let l = c.self.inside.ledger in
    let w : HeldSlot l.slots c.args.ticket = held-slot l.slots c.args.ticket (rw (← c.self.view_is) at c.requires.held) in
    let some' : IsSome (host_value (host_made k c.self.inside.devices l c.self.inside.steps.items) c.args.ticket) = rw (← c.self.view_is) at some in
    c.end-ending.ensures.transfer (slot.HeldBy w.key w.transfer) w.at ∙ value-slot k c.self.inside.devices l c.self.inside.steps.items c.args.ticket w c.self.invariant.agree some' ∙ ap (λ h. host_value h c.args.ticket) c.self.view_is

transfer-slot : (k : KernelState) (devices : List (Option OpenDevice)) (l : LedgerState) (steps : List KernelStep) (t : ℕ) (w : HeldSlot l.slots t) → TicketsAgree k.past l.slots
    → slot_data (slot.HeldBy w.key w.transfer) ≡ host_transfer (host_made k devices l steps) t
transfer-slot k devices l steps t w agree =
    ap (λ (h : HeldData). Some (record w.transfer { held = h })) (agree.each t (slot.HeldBy w.key w.transfer) w.at) ∙ sym (ap (option_map (transfer_held (transfer_completion k.past t))) (hold-of l.slots t w))

pub returns-clause-transfer : goal.returns-clause-transfer
returns-clause-transfer c =
    let k = c.self.inside.kernel in
    let l = c.self.inside.ledger in
    let w : HeldSlot l.slots c.args.ticket = held-slot l.slots c.args.ticket (rw (← c.self.view_is) at c.requires.held) in
    c.end-ending.ensures.transfer (slot.HeldBy w.key w.transfer) w.at ∙ transfer-slot k c.self.inside.devices l c.self.inside.steps.items c.args.ticket w c.self.invariant.agree ∙ ap (λ h. host_transfer h c.args.ticket) c.self.view_is
