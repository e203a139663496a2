use Rattle.std.proofs.Common.{◌∙◌, drop, take, take-append-drop}
use Rattle.usb_session_run.proofs.OutsideLemmas.{Wrote_more}
use Rattle.usb_session_run.proofs.writing.offer.Goals as goal

pub loop-rest-preserved : goal.loop-rest-preserved
loop-rest-preserved g c =
    let rest = c.loop-rest.rest.now in
    let count = c.in_ok-count.count in
    let written = c.in_ok-count.ensures in record {
      wrote = rw c.split_at.ensures.back (Wrote_more (g.K.Sink.written c.write.new.self) (take count rest) (drop count rest) c.loop-rest.invariant.wrote written.bytes (take-append-drop count rest));
      quiet = written.cause.none ∙ c.loop-rest.invariant.quiet;
    }
