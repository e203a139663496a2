-- Each read brings more of the answer, and the last one its end.
use Rattle.std.proofs.Common.{◌∙◌, take, ap, sym, subst}
use Rattle.std.proofs.lemmas.List.{append-nil}
use Rattle.std.proofs.lemmas.Result.{err_from_is_err_and}
use Rattle.usb_device_host.specs.HostBus.{bus_of}
use Rattle.usb_io.specs.Along.{ReadsAlong}
use Rattle.usb_io.specs.Following.{FollowsRead}
use Rattle.usb_io.proofs.ReaderLemmas.{along-trans}
use Rattle.example_messages.specs.Endpoints.{MessagesState}
use Rattle.example_messages.proofs.AskLemmas.{reads-more, reads-end}
use Rattle.example_messages.proofs.messages.Messages.receive.Goals as goal

pub returns-in_err-count-clause-failed : goal.returns-in_err-count-clause-failed
returns-in_err-count-clause-failed c =
    let p = err_from_is_err_and c.from_residual.result c.from_residual.ensures.1 in
    rw (p.1, p.2) (c.in_err-count.ensures.failed _ _)

pub returns-in_err-count-clause-along : goal.returns-in_err-count-clause-along
returns-in_err-count-clause-along c =
    along-trans (bus_of c.args.host.now) (bus_of c.reads.host) (bus_of c.read.new.host) c.args.self.now.reader.endpoint c.reads.self.reader.endpoint c.read.new.self.reader.endpoint
    c.reads.invariant.along c.read.ensures.along

pub returns-in_err-take_end-clause-along : goal.returns-in_err-take_end-clause-along
returns-in_err-take_end-clause-along c =
    subst (λ (m : MessagesState). ReadsAlong (bus_of c.args.host.now) (bus_of c.read.new.host) c.args.self.now.reader.endpoint m.reader.endpoint) (sym c.in_err-take_end.ensures.none)
    (along-trans (bus_of c.args.host.now) (bus_of c.reads.host) (bus_of c.read.new.host) c.args.self.now.reader.endpoint c.reads.self.reader.endpoint c.read.new.self.reader.endpoint
    c.reads.invariant.along c.read.ensures.along)

pub returns-then-count-eq0-clause-along : goal.returns-then-count-eq0-clause-along
returns-then-count-eq0-clause-along c =
    subst (λ (m : MessagesState). ReadsAlong (bus_of c.args.host.now) (bus_of c.read.new.host) c.args.self.now.reader.endpoint m.reader.endpoint) (sym c.in_ok-take_end.ensures.taken)
    (along-trans (bus_of c.args.host.now) (bus_of c.reads.host) (bus_of c.read.new.host) c.args.self.now.reader.endpoint c.reads.self.reader.endpoint c.read.new.self.reader.endpoint
    c.reads.invariant.along c.read.ensures.along)

pub returns-in_err-append-clause-along : goal.returns-in_err-append-clause-along
returns-in_err-append-clause-along c =
    along-trans (bus_of c.args.host.now) (bus_of c.reads.host) (bus_of c.read.new.host) c.args.self.now.reader.endpoint c.reads.self.reader.endpoint c.read.new.self.reader.endpoint
    c.reads.invariant.along c.read.ensures.along

pub reads-preserved : goal.reads-preserved
reads-preserved c = record {
  read = subst (FollowsRead (bus_of c.args.host.now) (bus_of c.read.new.host) c.args.self.now.reader c.read.new.self.reader) (sym c.in_ok-append.ensures.all)
      (reads-more (bus_of c.args.host.now) (bus_of c.reads.host) (bus_of c.read.new.host) _ c.reads.self.reader _ c.reads.answer.items (take c.in_ok-count.count c.read.new.bytes)
      c.read.ensures.along.goes_on.past c.reads.invariant.read c.in_ok-count.ensures.read);
  along = along-trans (bus_of c.args.host.now) (bus_of c.reads.host) (bus_of c.read.new.host) c.args.self.now.reader.endpoint c.reads.self.reader.endpoint c.read.new.self.reader.endpoint
      c.reads.invariant.along c.read.ensures.along;
  writer = c.read.ensures.writer ∙ c.reads.invariant.writer;
}

pub returns-then-count-eq0-clause-answer : goal.returns-then-count-eq0-clause-answer
returns-then-count-eq0-clause-answer c =
    let last = subst (λ n. FollowsRead (bus_of c.reads.host) (bus_of c.read.new.host) c.reads.self.reader c.read.new.self.reader (take n c.read.new.bytes)) c.if-count-eq0.true c.in_ok-count.ensures.read in
    reads-end (bus_of c.args.host.now) (bus_of c.read.new.host) _ c.read.new.self.reader c.take_end.new.self.reader c.reads.answer.items
    (subst (FollowsRead (bus_of c.args.host.now) (bus_of c.read.new.host) c.args.self.now.reader c.read.new.self.reader) (append-nil c.reads.answer.items)
    (reads-more (bus_of c.args.host.now) (bus_of c.reads.host) (bus_of c.read.new.host) _ c.reads.self.reader _ c.reads.answer.items _ c.read.ensures.along.goes_on.past c.reads.invariant.read last))
    c.in_ok-take_end.ensures.end
    (ap (λ (m : MessagesState). m.reader) c.in_ok-take_end.ensures.taken)
