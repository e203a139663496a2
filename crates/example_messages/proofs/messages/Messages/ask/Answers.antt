-- The request is sent, and then its answer is received.
use Rattle.std.proofs.Common.{sym, subst}
use Rattle.std.proofs.lemmas.Result.{IfOk-weaker, IfErr-weaker}
use Rattle.usb_device_host.specs.HostBus.{bus_of}
use Rattle.usb_io.specs.Readers.{ReaderState}
use Rattle.usb_io.specs.Writers.{WriterState}
use Rattle.example_messages.specs.Asking.{WritesMessage, ReadsMessage}
use Rattle.example_messages.proofs.AskLemmas.{writes-later, answer-later, fails-receiving, on-ok}
use Rattle.example_messages.proofs.messages.Messages.ask.Goals as goal

pub returns-clause-sent : goal.returns-clause-sent
returns-clause-sent c =
    on-ok c.receive.result _
    (subst (λ (w : WriterState). WritesMessage (bus_of c.args.host.now) (bus_of c.receive.new.host) c.args.self.now.writer w c.args.request.now) (sym c.receive.ensures.writer)
    (writes-later (bus_of c.args.host.now) (bus_of c.send.new.host) (bus_of c.receive.new.host) c.args.self.now.writer c.send.new.self.writer c.args.request.now
    c.receive.ensures.along.goes_on.past c.in_ok-send.ensures.sent))

pub returns-clause-answer : goal.returns-clause-answer
returns-clause-answer c =
    IfOk-weaker c.receive.result _ _
    (λ answer message. answer-later (bus_of c.args.host.now) (bus_of c.send.new.host) (bus_of c.receive.new.host) c.args.self.now.reader c.receive.new.self.reader answer.items
    c.send.ensures.along.goes_on.past
    (subst (λ (r : ReaderState). ReadsMessage (bus_of c.send.new.host) (bus_of c.receive.new.host) r c.receive.new.self.reader answer.items) c.send.ensures.reader message))
    c.receive.ensures.answer

pub returns-clause-failed : goal.returns-clause-failed
returns-clause-failed c =
    IfErr-weaker c.receive.result _ _
    (λ e failed. fails-receiving c.args.host.now c.send.new.host c.receive.new.host c.args.self.now c.receive.new.self c.send.new.self.reader e
    c.send.ensures.along.goes_on.past c.send.ensures.reader failed)
    c.receive.ensures.failed
