use Rattle.usb_trace.proofs.Replaying.{replayed-more, stops-next}
use Rattle.usb_trace.proofs.replay.Replay.add.Goals as goal

pub returns-in_default : goal.returns-in_default
returns-in_default c = record {
  more = λ events replayed. replayed-more c.args.self.now events c.args.event c.in_default.not-Going replayed;
}

pub returns : goal.returns
returns c = record {
  more = λ events replayed.
      let r = rw c.in-Going.is at replayed in
      let stop = c.in_ok-place.ensures in
      stops-next events c.in-Going.kernel.past c.args.event c.in-Some.place r.1 (rw c.in-Some.is at stop.idle) (rw c.in-Some.is at stop.place);
}
