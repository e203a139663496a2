use Rattle.std.proofs.Common.{arith, subst, refl}
use Rattle.usb_device_endpoint.specs.EndpointState.{EndpointState}
use Rattle.usb_device_endpoint.specs.Handles.{KeepsOthers}
use Rattle.usb_device_endpoint.specs.Waits.{front_of, EndedWhy}
use Rattle.usb_device_endpoint.proofs.Frames.{others-same}
use Rattle.usb_device_endpoint.proofs.HandleLemmas.{others_in_turn}
use Rattle.usb_device_endpoint.proofs.WaitLemmas.{wait-vain}
use Rattle.usb_device_endpoint.proofs.BlockingLemmas.{IsFinished-later, time-is_not_up, less-left}
use Rattle.usb_device_endpoint.proofs.SecondLemmas.{seconds-first, seconds-found, seconds-more, wait-same}
use Rattle.usb_device_endpoint.proofs.endpoint.Endpoint.wait_finished.Goals as goal

pub waits-init : goal.waits-init
waits-init g c = record {
  same = refl;
  stands = c.requires.stands;
  others = others-same _ _ _ refl refl;
  finished = c.requires.finished;
  seconds = seconds-first g.B.Bus.calls (front_of c.args.self.now.pending) c.args.bus.now;
  handles = g.met.B.Bus.handles_same c.args.bus.now;
}

pub returns-in-Some-clause-found : goal.returns-in-Some-clause-found
returns-in-Some-clause-found g c =
    let wait = wait-same g.B.Bus.calls 1000000000 c.waits.bus c.waits.self c.args.self.now _ c.waits.invariant.same c.in-Some.ensures.waited in
    seconds-found g.B.Bus.calls c.args.bus.now c.waits.bus _ c.args.self.now _ c.waits.invariant.seconds _ wait

pub waits-smaller : goal.waits-smaller
waits-smaller g c =
    let never = time-is_not_up (g.B.Bus.calls.state c.waits.bus) (front_of c.args.self.now.pending) c.extensions_keep_tickets.ensures.ticket c.extensions_keep_tickets.ensures.status c.finished_can_be_reaped.ensures.reapable c.finished_can_be_reaped.ensures.some c.waits.invariant.finished in
    let why = subst (λ (e : EndpointState). EndedWhy (g.B.Bus.calls.state c.waits.bus) (g.B.Bus.calls.state c.wait_next_complete.new.bus) (front_of e.pending) 1000000000) c.waits.invariant.same c.in_default.ensures.why in
    less-left (g.B.Bus.calls.state c.waits.bus) (g.B.Bus.calls.state c.wait_next_complete.new.bus) (front_of c.args.self.now.pending) 1000000000 never (omega arith) why

pub waits-preserved : goal.waits-preserved
waits-preserved g c =
    let wait = wait-same g.B.Bus.calls 1000000000 c.waits.bus c.waits.self c.args.self.now _ c.waits.invariant.same c.in_default.ensures.waited in
    let vain = wait-vain g.B.Bus.calls 1000000000 c.waits.bus _ c.args.self.now _ c.requires.some wait in
    let others = subst (λ (e : EndpointState). KeepsOthers (g.B.Bus.calls.state c.waits.bus) (g.B.Bus.calls.state c.wait_next_complete.new.bus) e.key) c.waits.invariant.same c.wait_next_complete.ensures.others in
    let never = time-is_not_up (g.B.Bus.calls.state c.waits.bus) (front_of c.args.self.now.pending) c.extensions_keep_tickets.ensures.ticket c.extensions_keep_tickets.ensures.status c.finished_can_be_reaped.ensures.reapable c.finished_can_be_reaped.ensures.some c.waits.invariant.finished in
    let why = subst (λ (e : EndpointState). EndedWhy (g.B.Bus.calls.state c.waits.bus) (g.B.Bus.calls.state c.wait_next_complete.new.bus) (front_of e.pending) 1000000000) c.waits.invariant.same c.in_default.ensures.why in
    let falls = less-left (g.B.Bus.calls.state c.waits.bus) (g.B.Bus.calls.state c.wait_next_complete.new.bus) (front_of c.args.self.now.pending) 1000000000 never (omega arith) why in
    record {
      same = vain.1;
      stands = c.wait_next_complete.ensures.stands;
      others = others_in_turn _ _ _ c.args.self.now.key c.waits.invariant.others others;
      finished = IsFinished-later _ _ (front_of c.args.self.now.pending) c.extensions_keep_tickets.ensures.ticket c.extensions_keep_tickets.ensures.status c.wait_next_complete.ensures.goes_on.past c.waits.invariant.finished;
      seconds = seconds-more g.B.Bus.calls c.args.bus.now c.waits.bus _ c.args.self.now _ c.waits.invariant.seconds c.requires.some wait falls;
      handles = g.met.B.Bus.handles_in_turn c.args.bus.now c.waits.bus _ c.waits.invariant.handles c.wait_next_complete.ensures.handles;
    }
