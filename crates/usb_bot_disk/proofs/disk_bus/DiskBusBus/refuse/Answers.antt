use Rattle.std.proofs.lemmas.Result.{on_ok_weaker}
use Rattle.usb_bot_disk.specs.DiskState.{DiskState}
use Rattle.usb_bot_disk.specs.DiskCalls.{with_host}
use Rattle.usb_bot_disk.proofs.DiskBusLemmas.{refused-disk, refused-left, on_ok_both}
use Rattle.usb_bot_disk.proofs.disk_bus.DiskBusBus.refuse.Goals as goal

pub returns-clause-state : goal.returns-clause-state
returns-clause-state c =
    let i = c.self.inside in
    let b : DiskState = record { host = i.host; device = i.device; out = i.out; inp = i.inp; machine = i.machine; blanks = i.blanks } in
    rw (← c.self.view_is) (on_ok_weaker c.refuse.result (refused-disk b (with_host b c.refuse.new.self) c.args.to c.args.t.held c.args.errno) c.refuse.ensures.state)

pub returns-clause-left : goal.returns-clause-left
returns-clause-left c =
    let i = c.self.inside in
    let b : DiskState = record { host = i.host; device = i.device; out = i.out; inp = i.inp; machine = i.machine; blanks = i.blanks } in
    let h = c.refuse.new.self in
    rw (← c.self.view_is)
    (on_ok_both c.refuse.result (λ is turns. refused-left b h c.args.to c.args.t c.args.errno c.requires.goes is turns) c.refuse.ensures.state c.refuse.ensures.left)
