-- The end of the message is written behind its bytes.
use Rattle.std.proofs.Common.{sym, subst}
use Rattle.usb_device_host.specs.HostBus.{bus_of}
use Rattle.usb_io.specs.Along.{WritesAlong}
use Rattle.usb_io.specs.Writers.{writing}
use Rattle.usb_io.proofs.AlongLemmas.{writes-trans}
use Rattle.example_messages.specs.Endpoints.{MessagesState}
use Rattle.example_messages.specs.Asking.{WritesBytes}
use Rattle.example_messages.proofs.AskLemmas.{writes-end, end-fails}
use Rattle.example_messages.proofs.messages.Messages.send.Goals as goal
use Rattle.example_messages.proofs.messages.Messages.send.Goals.{in-Ok, in-Err}

pub returns-clause-sent : goal.returns-clause-sent
returns-clause-sent c =
    elim c.match-flush_end.branch [
      | in-Ok w ↦
          rw w.result-is
          (writes-end (bus_of c.args.host.now) (bus_of c.write_all.new.host) _ c.args.self.now.writer c.self.inside.writer _ c.args.request.now c.write_all.new.host c.flush_end.new.bus
          (subst (λ (m : MessagesState). WritesBytes (bus_of c.args.host.now) (bus_of c.write_all.new.host) c.args.self.now.writer m.writer c.args.request.now) (sym c.self.view_is) c.in_ok-write_all.ensures.written)
          w.in-Ok.ensures.tells w.in-Ok.ensures.ok)
      | in-Err w ↦ rw w.result-is tt
    ]

pub returns-clause-failed : goal.returns-clause-failed
returns-clause-failed c =
    elim c.match-flush_end.branch [
      | in-Ok w ↦ rw w.result-is tt
      | in-Err w ↦
          rw (w.result-is, w.write_failed.ensures.fail)
          (end-fails (writing c.write_all.new.host c.self.inside.writer) (writing c.flush_end.new.bus c.flush_end.new.self) w.in-Err.fail w.in-Err.ensures.failed)
    ]

pub returns-clause-along : goal.returns-clause-along
returns-clause-along c =
    let first = subst (λ (m : MessagesState). WritesAlong (bus_of c.args.host.now) (bus_of c.write_all.new.host) c.args.self.now.writer.endpoint m.writer.endpoint) (sym c.self.view_is) c.write_all.ensures.along in
    writes-trans {y = bus_of c.write_all.new.host} {f = c.self.inside.writer.endpoint} first c.flush_end.ensures.goes
