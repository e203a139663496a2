use Rattle.std.proofs.Common.{◌≡◌, false, sym, ap, ◌∙◌, arith, inl, inr, refl}
use Rattle.std.specs.Prelude.{is_some}
use Rattle.usb_kernel.specs.Completions.{lowest}
use Rattle.usb_device_endpoint.specs.BusState.{BusState}
use Rattle.usb_kernel.specs.TransferCompletions.{transfer_completion}
use Rattle.usb_device_endpoint.specs.Waits.{front_of, time_is_up, is_reaped}
use Rattle.usb_device_endpoint.proofs.Frames.{Stands-later}
use Rattle.usb_device_endpoint.proofs.PollLemmas.{polled-same, polled-left_at, found-reaped, none-found, option-none}
use Rattle.usb_device_endpoint.proofs.WaitLemmas.{waited-found, waited-late, waited-up, wait_next-is, looks-first, looks-more, Looks-at, Falls-strict, up-is, moved_if, GoesOn-same, GoesOn-trans, GoesOn-turn, late_if, early_if, IsLater-same, IsLater-trans}
use Rattle.usb_device_endpoint.proofs.endpoint.Endpoint.wait_next_complete.Goals as goal

pub turns-init : goal.turns-init
turns-init g c = record {
  same = refl;
  stands = c.requires.stands;
  later = IsLater-same (g.B.Bus.calls.state c.args.bus.now);
  goes_on = GoesOn-same (g.B.Bus.calls.state c.args.bus.now);
  first = inl refl;
  moved = λ later. absurd (omega (arith, later));
  looks = looks-first g.B.Bus.calls (front_of c.args.self.now.pending) c.args.timeout c.args.bus.now;
  handles = g.met.B.Bus.handles_same c.args.bus.now;
}

pub returns-in-Ready-clause-waited : goal.returns-in-Ready-clause-waited
returns-in-Ready-clause-waited g c =
    let poll = polled-same g.B.Bus.calls c.turns.bus c.turns.self c.args.self.now _ c.turns.invariant.same c.in-Ready.ensures.polled in
    let found = found-reaped g.B.Bus.calls c.turns.bus _ c.args.self.now _ _ poll in
    wait_next-is g.B.Bus.calls c.args.timeout c.args.bus.now c.turns.bus c.args.self.now _ (waited-found g.B.Bus.calls (front_of c.args.self.now.pending) c.args.timeout c.args.bus.now c.turns.bus c.turns.invariant.looks found) poll

pub returns-in-Ready-clause-found_why : goal.returns-in-Ready-clause-found_why
returns-in-Ready-clause-found_why g c =
    let poll = polled-same g.B.Bus.calls c.turns.bus c.turns.self c.args.self.now _ c.turns.invariant.same c.in-Ready.ensures.polled in
    let found = found-reaped g.B.Bus.calls c.turns.bus _ c.args.self.now _ _ poll in
    let polled = c.poll_next_complete.ensures.goes_on.left in
    elim c.turns.invariant.first [
      | inl same ↦ inl (ap (λ (b : BusState). is_some (transfer_completion b.past (front_of c.args.self.now.pending))) (sym same) ∙ found)
      | inr less ↦ inr (omega (arith, less, polled))
    ]

pub returns-then-now-start-clause-waited : goal.returns-then-now-start-clause-waited
returns-then-now-start-clause-waited g c =
    let poll = polled-same g.B.Bus.calls c.turns.bus c.turns.self c.args.self.now _ c.turns.invariant.same c.in_default.ensures.polled in
    let left = none-found g.B.Bus.calls c.turns.bus _ c.args.self.now _ c.requires.some poll in
    let clock = ap (λ s. (g.B.Bus.calls.state s).clock) left.0 in
    let late = late_if c.args.timeout (g.B.Bus.calls.state c.turns.bus).clock (g.B.Bus.calls.state c.args.bus.now).clock c.now.result _ c.now-start.result c.if-now-start.true c.now.ensures.clock clock c.now-start.ensures.clock in
    wait_next-is g.B.Bus.calls c.args.timeout c.args.bus.now c.turns.bus c.args.self.now _ (waited-late g.B.Bus.calls (front_of c.args.self.now.pending) c.args.timeout c.args.bus.now c.turns.bus c.turns.invariant.looks left.2 late) poll

pub returns-then-now-start-clause-why : goal.returns-then-now-start-clause-why
returns-then-now-start-clause-why g c =
    let poll = polled-same g.B.Bus.calls c.turns.bus c.turns.self c.args.self.now _ c.turns.invariant.same c.in_default.ensures.polled in
    let left = none-found g.B.Bus.calls c.turns.bus _ c.args.self.now _ c.requires.some poll in
    let clock = ap (λ s. (g.B.Bus.calls.state s).clock) left.0 in
    let polled = c.poll_next_complete.ensures.goes_on.left in
    inr (λ some.
    let later = moved_if c.args.timeout c.now.result _ (g.B.Bus.calls.state c.turns.bus).clock c.now-start.result (g.B.Bus.calls.state c.args.bus.now).clock c.if-now-start.true c.now.ensures.clock clock c.now-start.ensures.clock some in
    let less = c.turns.invariant.moved later in
    omega (arith, polled, less))

pub returns-then-is_time_up-clause-waited : goal.returns-then-is_time_up-clause-waited
returns-then-is_time_up-clause-waited g c =
    let poll = polled-same g.B.Bus.calls c.turns.bus c.turns.self c.args.self.now _ c.turns.invariant.same c.in_default.ensures.polled in
    let left = none-found g.B.Bus.calls c.turns.bus _ c.args.self.now _ c.requires.some poll in
    let clock = ap (λ s. (g.B.Bus.calls.state s).clock) left.0 in
    let early = early_if c.args.timeout (g.B.Bus.calls.state c.turns.bus).clock (g.B.Bus.calls.state c.args.bus.now).clock c.now.result _ c.now-start.result c.if-now-start.false c.now.ensures.clock clock c.now-start.ensures.clock in
    let after = c.turn.ensures.ok ∙ ap g.B.Bus.calls.turned left.0 in
    let gives = c.is_time_up.ensures.up ∙ ap time_is_up (c.turn.ensures.turn ∙ ap g.B.Bus.calls.turn_of left.0) in
    let up = sym gives ∙ c.if-is_time_up.true in
    let still = c.turn.ensures.still (up-is c.turn.result (sym c.is_time_up.ensures.up ∙ c.if-is_time_up.true)) in
    let none : is_reaped g.B.Bus.calls (front_of c.args.self.now.pending) c.turn.new.self ≡ false =
    ap (λ (b : BusState). is_some (transfer_completion b.past (front_of c.args.self.now.pending))) (still ∙ ap g.B.Bus.calls.state left.0) ∙ left.2 in
    wait_next-is g.B.Bus.calls c.args.timeout c.args.bus.now c.turn.new.self c.args.self.now _
    (waited-up g.B.Bus.calls (front_of c.args.self.now.pending) c.args.timeout c.args.bus.now c.turns.bus c.turns.invariant.looks left.2 early up ∙ sym after)
    (polled-left_at g.B.Bus.calls c.turn.new.self c.args.self.now _ none left.1)

pub returns-then-is_time_up-clause-goes_on : goal.returns-then-is_time_up-clause-goes_on
returns-then-is_time_up-clause-goes_on g c = GoesOn-trans _ (g.B.Bus.calls.state c.poll_next_complete.new.bus) _ (GoesOn-trans _ (g.B.Bus.calls.state c.turns.bus) _ c.turns.invariant.goes_on c.poll_next_complete.ensures.goes_on) (GoesOn-turn c.turn.result _ _ c.turn.ensures.state c.turn.ensures.falls)

pub returns-then-is_time_up-clause-handles : goal.returns-then-is_time_up-clause-handles
returns-then-is_time_up-clause-handles g c =
    let polls = g.met.B.Bus.handles_in_turn c.args.bus.now c.turns.bus _ c.turns.invariant.handles c.poll_next_complete.ensures.handles in
    g.met.B.Bus.handles_in_turn c.args.bus.now c.poll_next_complete.new.bus _ polls (rw c.turn.ensures.ok (c.calls_keep_handles.ensures.law.turned c.poll_next_complete.new.bus))

pub returns-then-is_time_up-clause-why : goal.returns-then-is_time_up-clause-why
returns-then-is_time_up-clause-why g c =
    let poll = polled-same g.B.Bus.calls c.turns.bus c.turns.self c.args.self.now _ c.turns.invariant.same c.in_default.ensures.polled in
    let left = none-found g.B.Bus.calls c.turns.bus _ c.args.self.now _ c.requires.some poll in
    let none = c.turn.ensures.time_up (up-is c.turn.result (sym c.is_time_up.ensures.up ∙ c.if-is_time_up.true)) in
    inl (record {
      at = g.B.Bus.calls.state c.turns.bus;
      later = c.turns.invariant.later;
      not_come = option-none (transfer_completion (g.B.Bus.calls.state c.turns.bus).past (front_of c.args.self.now.pending)) left.2;
      none_waits = ap (λ s. lowest (g.B.Bus.calls.state s).past) (sym left.0) ∙ none;
    })

pub turns-preserved : goal.turns-preserved
turns-preserved g c =
    let poll = polled-same g.B.Bus.calls c.turns.bus c.turns.self c.args.self.now _ c.turns.invariant.same c.in_default.ensures.polled in
    let left = none-found g.B.Bus.calls c.turns.bus _ c.args.self.now _ c.requires.some poll in
    let clock = ap (λ s. (g.B.Bus.calls.state s).clock) left.0 in
    let early = early_if c.args.timeout (g.B.Bus.calls.state c.turns.bus).clock (g.B.Bus.calls.state c.args.bus.now).clock c.now.result _ c.now-start.result c.if-now-start.false c.now.ensures.clock clock c.now-start.ensures.clock in
    let after = c.turn.ensures.ok ∙ ap g.B.Bus.calls.turned left.0 in
    let gives = c.is_time_up.ensures.up ∙ ap time_is_up (c.turn.ensures.turn ∙ ap g.B.Bus.calls.turn_of left.0) in
    let state = ap g.B.Bus.calls.state left.0 in
    let less = Falls-strict c.turn.result _ _ (sym c.is_time_up.ensures.up ∙ c.if-is_time_up.false) c.turn.ensures.falls in
    let polled = c.poll_next_complete.ensures.goes_on.left in
    let so_far = c.turns.invariant.goes_on.left in
    let polls = g.met.B.Bus.handles_in_turn c.args.bus.now c.turns.bus _ c.turns.invariant.handles c.poll_next_complete.ensures.handles in
    record {
      same = left.1;
      stands = Stands-later (g.B.Bus.calls.state c.poll_next_complete.new.bus) _ c.poll_next_complete.new.self c.poll_next_complete.ensures.stands c.turn.ensures.state;
      later = IsLater-trans _ (g.B.Bus.calls.state c.turns.bus) _ c.turns.invariant.later (rw state at c.turn.ensures.state);
      first = inr (omega (arith, less, polled, so_far));
      moved = λ later. omega (arith, less, polled, so_far);
      goes_on = GoesOn-trans _ (g.B.Bus.calls.state c.poll_next_complete.new.bus) _ (GoesOn-trans _ (g.B.Bus.calls.state c.turns.bus) _ c.turns.invariant.goes_on c.poll_next_complete.ensures.goes_on) (GoesOn-turn c.turn.result _ _ c.turn.ensures.state c.turn.ensures.falls);
      looks = Looks-at g.B.Bus.calls (front_of c.args.self.now.pending) c.args.timeout c.args.bus.now c.turns.bus c.turn.new.self after
          (λ falls. looks-more g.B.Bus.calls (front_of c.args.self.now.pending) c.args.timeout c.args.bus.now c.turns.bus c.turns.invariant.looks left.2 early (sym gives ∙ c.if-is_time_up.false) falls)
          (omega (arith, less, polled));
      handles = g.met.B.Bus.handles_in_turn c.args.bus.now c.poll_next_complete.new.bus _ polls (rw c.turn.ensures.ok (c.calls_keep_handles.ensures.law.turned c.poll_next_complete.new.bus));
    }
