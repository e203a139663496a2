use Rattle.std.proofs.Common.{ℕ, ◌≡◌, length, Option, Some, ap, ◌∙◌}
use Rattle.std.specs.Prelude.{is_some}
use Rattle.usb_xfer.specs.declared.transfer.TransferData.{TransferData}
use Rattle.usb_xfer.specs.Transfers.{buffer_held}
use Rattle.usb_kernel.specs.Tickets.{tickets}
use Rattle.usb_device_endpoint.specs.BusState.{with_owner}
use Rattle.usb_device_endpoint.specs.KernelBusCalls.{owner_at}
use Rattle.usb_device_endpoint.proofs.HandleLemmas.{with_owner-same}
use Rattle.test_hosts.proofs.endpoints.deadlines.has_greatest_deadline.Goals as goal

pub abandon-requires : goal.abandon-requires
abandon-requires c =
    let before = c.idle.new.self in
    let next = length (tickets before.kernel.past) in
    let held : buffer_held c.new.result.held ≡ Some c.in-Ok-from_slice.buffer = ap (λ (t : TransferData). buffer_held t.held) (c.new.ensures.value ∙ c.set_buffer.ensures.filled) in
    let entered = (c.in-Ok-submit_by.ensures.state c.in-Ok-from_slice.buffer held).1 in
    let owned : owner_at c.submit_by.new.self.holds c.in-Ok-submit_by.ticket ≡ Some c.in-Ok.key =
    ap (λ (f : ℕ → Option ℕ). f c.in-Ok-submit_by.ticket) entered.owner ∙ (ap (with_owner (owner_at before.holds) next c.in-Ok.key) c.in-Ok-submit_by.ensures.ticket ∙ with_owner-same (owner_at before.holds) next c.in-Ok.key) in
    record { stands = ap is_some owned }
