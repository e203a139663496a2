use Rattle.std.proofs.Common.{◌≡◌, false, sym, ◌∙◌}
use Rattle.usb_device_endpoint.specs.Waits.{is_reaped}
use Rattle.usb_device_host.specs.HostCalls.{host_calls}
use Rattle.usb_device_host.proofs.WaitFrames.{went-nowhere, went-trans}
use Rattle.usb_device_host.proofs.AwaitLemmas.{awaits-first, awaits-found, until-keeps, found-completion, held-went}
use Rattle.usb_device_host.proofs.host.Host.await_ticket.Goals as goal

pub turns-init : goal.turns-init
turns-init c =
    record {
      awaits = awaits-first c.args.ticket c.args.deadline c.args.self.now;
      held = c.requires.held;
      due = c.requires.deadline;
      went = went-nowhere c.args.self.now;
    }

pub turns-preserved : goal.turns-preserved
turns-preserved c =
    let h = c.turns.self in
    let none : is_reaped host_calls c.args.ticket h ≡ false = found-completion h c.args.ticket ∙ (sym c.has_come.ensures.reaped ∙ c.turns-test.true) in
    let keeps = until-keeps c.args.ticket c.args.deadline c.args.self.now h c.turn_until.new.self c.turn_until.ensures.turned none (c.turns.invariant.due none) c.turns.invariant.awaits in
    record {
      awaits = keeps.awaits;
      held = held-went h c.turn_until.new.self c.args.ticket keeps.went c.turns.invariant.held;
      due = λ not_yet. keeps.due;
      went = went-trans c.args.self.now h c.turn_until.new.self c.turns.invariant.went keeps.went;
    }

pub turns-smaller : goal.turns-smaller
turns-smaller c =
    let h = c.turns.self in
    let none : is_reaped host_calls c.args.ticket h ≡ false = found-completion h c.args.ticket ∙ (sym c.has_come.ensures.reaped ∙ c.turns-test.true) in
    (until-keeps c.args.ticket c.args.deadline c.args.self.now h c.turn_until.new.self c.turn_until.ensures.turned none (c.turns.invariant.due none) c.turns.invariant.awaits).less

pub returns-clause-awaited : goal.returns-clause-awaited
returns-clause-awaited c =
    let found = found-completion c.turns.self c.args.ticket ∙ (sym c.has_come.ensures.reaped ∙ c.turns-test.false) in
    sym (awaits-found c.args.ticket c.args.deadline c.args.self.now c.turns.self c.turns.invariant.awaits found)
