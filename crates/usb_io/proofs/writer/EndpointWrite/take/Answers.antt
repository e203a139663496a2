use Rattle.std.proofs.Common.{◌<◌, length, ap, sym, subst, ◌∙◌}
use Rattle.usb_device_endpoint.proofs.PollLemmas.{took-next}
use Rattle.usb_device_endpoint.proofs.WaitLemmas.{wait-vain}
use Rattle.usb_io.specs.declared.fronts.Taken.TheVariants.{Took}
use Rattle.usb_io.specs.Writers.{WriterState, writing}
use Rattle.usb_io.proofs.Carrying.{tells_taken, tells_missed}
use Rattle.usb_io.proofs.Taking.{taken-once}
use Rattle.usb_io.proofs.writer.EndpointWrite.take.Goals as goal

pub returns-in-Some-clause-came : goal.returns-in-Some-clause-came
returns-in-Some-clause-came g c =
    taken-once g.B.Bus.calls c.args.timeout c.args.bus.now _ c.args.self.now _ c.self.view_is c.in-Some.ensures.waited
    ∙ ap (λ (w : WriterState). (Took c.in-Some.completion.status, writing c.wait_next_complete.new.bus w)) (sym c.keep.ensures.kept)

pub returns-in-None-clause-came : goal.returns-in-None-clause-came
returns-in-None-clause-came g c = taken-once g.B.Bus.calls c.args.timeout c.args.bus.now _ c.args.self.now _ c.self.view_is c.in-None.ensures.waited

pub returns-in-Some-clause-tells : goal.returns-in-Some-clause-tells
returns-in-Some-clause-tells g c =
    let took = took-next g.B.Bus.calls _ c.wait_next_complete.new.bus c.self.inside.endpoint c.wait_next_complete.new.self c.in-Some.completion c.in-Some.ensures.waited in
    tells_taken (g.B.Bus.calls.state c.args.bus.now) (g.B.Bus.calls.state c.wait_next_complete.new.bus) _ c.args.self.now c.wait_next_complete.new.self c.in-Some.completion took.front took.others c.keep.new.self
    c.self.view_is took.was took.next_is c.keep.ensures.kept c.in-Some.ensures.goes_on.past

pub returns-in-None-clause-tells : goal.returns-in-None-clause-tells
returns-in-None-clause-tells g c =
    let some : 0 < length c.self.inside.endpoint.pending = subst (λ (w : WriterState). 0 < length w.endpoint.pending) (sym c.self.view_is) c.requires.some in
    let vain = wait-vain g.B.Bus.calls c.args.timeout c.args.bus.now c.wait_next_complete.new.bus c.self.inside.endpoint c.wait_next_complete.new.self some c.in-None.ensures.waited in
    tells_missed (g.B.Bus.calls.state c.args.bus.now) (g.B.Bus.calls.state c.wait_next_complete.new.bus) _ c.args.self.now c.wait_next_complete.new.self c.self.view_is vain.1 c.in-None.ensures.goes_on.past
