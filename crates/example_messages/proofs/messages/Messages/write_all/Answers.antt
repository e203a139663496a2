-- Each write accepts more of the request.
use Rattle.std.proofs.Common.{refl}
use Rattle.usb_device_host.specs.HostBus.{bus_of}
use Rattle.usb_io.specs.Writers.{writing}
use Rattle.usb_io.proofs.AlongLemmas.{writes-trans}
use Rattle.example_messages.proofs.AskLemmas.{write-few, rest-few, writes-more, write-fails}
use Rattle.example_messages.proofs.messages.Messages.write_all.Goals as goal

pub returns-in-Ok-eq0-clause-along : goal.returns-in-Ok-eq0-clause-along
returns-in-Ok-eq0-clause-along c = writes-trans c.writes.invariant.along c.write.ensures.goes

pub writes-preserved : goal.writes-preserved
writes-preserved c = record {
  within = rest-few c.writes.done c.in-Ok.count c.args.request.now c.writes.invariant.within
      (write-few _ _ _ (writing c.writes.host c.writes.self-inside.writer) (writing c.write.new.bus c.write.new.self) c.in-Ok.count c.in-Ok.ensures.wrote);
  written = writes-more _ (bus_of c.writes.host) _ _ c.writes.self-inside.writer _ c.args.request.now _ c.writes.done c.in-Ok.count refl c.writes.invariant.written
      c.in-Ok.ensures.tells;
  along = writes-trans c.writes.invariant.along c.write.ensures.goes;
  reader = c.writes.invariant.reader;
}

pub returns-in-Err-clause-failed : goal.returns-in-Err-clause-failed
returns-in-Err-clause-failed c =
    rw c.write_failed.ensures.fail (write-fails _ _ _ c.in-Err.fail c.in-Err.ensures.failed)

pub returns-in-Err-clause-along : goal.returns-in-Err-clause-along
returns-in-Err-clause-along c = writes-trans c.writes.invariant.along c.write.ensures.goes
