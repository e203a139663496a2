use Rattle.std.proofs.Common.{◌≡◌, ◌∙◌, ap, arith, Some}
use Rattle.usb_device_tables.specs.History.{value_at}
use Rattle.usb_device_ledger.specs.Entries.{ClaimedInterface}
use Rattle.usb_device_ledger.specs.OwnerRows.{claim_state}
use Rattle.usb_kernel.specs.Value.{KernelState}
use Rattle.usb_device_host.specs.Handles.{handle_closed}
use Rattle.usb_device_ledger.specs.LedgerState.{LedgerState}
use Rattle.usb_device_tables.proofs.ValueLemmas.{some-of}
use Rattle.usb_device_host.proofs.OpeningLemmas.{closed-made}
use Rattle.usb_device_host.proofs.host.Host.close_handle.Goals as goal

pub invariant_of-self : goal.invariant_of-self
invariant_of-self c =
    let l = c.self.inside.ledger in
    let there = some-of (value_at l.interfaces c.args.interface.serial) (rw (← c.self.view_is) at c.requires.interface) in
    let slots = ap (λ (x : LedgerState). x.slots) (c.close_handle-ended.ensures.interfaces there.0 there.1) in
    let past = ap (λ (x : KernelState). x.past) c.release.ensures.rest in
    record {
      agree = rw (slots, past) c.self.invariant.agree;
      room = omega (arith, ap (λ (x : KernelState). x.spare) c.release.ensures.rest, c.self.invariant.room);
      errnos = c.self.invariant.errnos;
    }

pub returns : goal.returns
returns c =
    let k = c.self.inside.kernel in
    let l = c.self.inside.ledger in
    let claim : ClaimedInterface = claim_state c.interface-claim.result.now in
    let at : value_at l.interfaces c.args.interface.serial ≡ Some claim = c.interface-claim.ensures.claim in
    record { closed = closed-made k c.self.inside.devices c.leave_interface.new.self l c.self.inside.steps.items c.args.interface.serial claim c.close_handle-ended.new.self c.close_handle-ended.result c.release.new.kernel at c.leave_interface.ensures.left (c.close_handle-ended.ensures.interfaces claim at) (c.close_handle-ended.ensures.claim claim at) c.release.ensures.kernel ∙ ap (λ h. handle_closed h c.args.interface.serial) c.self.view_is }
