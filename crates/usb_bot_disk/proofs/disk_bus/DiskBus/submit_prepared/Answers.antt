use Rattle.std.proofs.Common.{◌≡◌, ap, drop, ◌∙◌, subst}
use Rattle.std.specs.Option.{ForSome}
use Rattle.usb_xfer.specs.declared.transfer.TransferData.{TransferData}
use Rattle.usb_xfer.specs.Transfers.{buffer_held}
use Rattle.usb_bot_disk.specs.DiskState.{DiskState}
use Rattle.usb_bot_disk.specs.DiskCalls.{length_by, prepared}
use Rattle.usb_bot_disk.proofs.SubmitLemmas.{submitted-is}
use Rattle.usb_bot_disk.proofs.disk_bus.DiskBus.submit_prepared.Goals as goal

pub returns-in-Ok-submit_to_host-clause-ok : goal.returns-in-Ok-submit_to_host-clause-ok
returns-in-Ok-submit_to_host-clause-ok c =
    let b = c.args.self.now in
    let i = c.self-2.inside in
    let n = c.length_by-len.result in
    let mid : DiskState = record { host = i.host; device = i.device; out = i.out; inp = i.inp; machine = i.machine; blanks = i.blanks } in
    let ready : mid ≡ prepared b c.args.to n = c.self-2.view_is ∙ c.in-Ok.ensures.ok in
    let len = subst (λ (x : TransferData). ForSome (buffer_held x.held) (λ buffer. n ≡ length_by c.args.to buffer)) c.deref.ensures c.length_by-len.ensures.length in
    submitted-is b mid c.args.to c.args.deadline c.args.t n c.submit_to_host.new.host c.forget.new.self c.requires.goes.filled len ready c.in-Ok-submit_to_host.ensures.ok
    (c.forget.ensures.left ∙ ap (λ k. drop k i.blanks) c.dropped_by-dropped.ensures.dropped)
