use Rattle.std.proofs.Common.{Some}
use Rattle.std.proofs.lemmas.Result.{on_ok_weaker}
use Rattle.usb_bot_disk.proofs.DiskBusLemmas.{submitted-disk}
use Rattle.usb_bot_disk.proofs.SubmitLemmas.{submitted-number, on_ok_three}
use Rattle.usb_bot_disk.proofs.disk_bus.DiskBusBus.submit_by.Goals as goal

pub returns-clause-state : goal.returns-clause-state
returns-clause-state c =
    let s = c.submit_prepared in
    on_ok_weaker s.result (submitted-disk c.args.self.now s.new.self c.args.to (Some c.args.deadline) c.args.t.held) s.ensures.state

pub returns-clause-left : goal.returns-clause-left
returns-clause-left c =
    let s = c.submit_prepared in
    on_ok_three s.result (λ is turns made. submitted-number c.args.self.now s.new.self c.args.to (Some c.args.deadline) c.args.t c.requires.goes is turns made) s.ensures.state s.ensures.left s.ensures.ok
