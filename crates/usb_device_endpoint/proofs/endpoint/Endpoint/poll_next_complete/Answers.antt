use Rattle.std.proofs.Common.{ℕ, Some, None, refl, ap, ◌∙◌, subst}
use Rattle.std.specs.Prelude.{is_some}
use Rattle.usb_device_endpoint.specs.BusState.{BusState}
use Rattle.usb_device_endpoint.specs.EndpointState.{EndpointState}
use Rattle.usb_device_endpoint.specs.Handles.{KeepsOthers}
use Rattle.usb_device_endpoint.specs.Polls.{in_poll}
use Rattle.usb_device_endpoint.proofs.Frames.{others-same}
use Rattle.usb_device_endpoint.proofs.HandleLemmas.{AreHeld-at, KeepsOthers-end, Stands-taken, Stands-left}
use Rattle.usb_device_endpoint.proofs.PollLemmas.{value-came, value-none, polled-took, polled-left, poll-is}
use Rattle.usb_device_endpoint.proofs.endpoint.Endpoint.poll_next_complete.Goals as goal
use Rattle.usb_device_endpoint.proofs.endpoint.Endpoint.poll_next_complete.Goals.{in-Some, in-None}

pub take_completed_from_queue-requires-clause-stands : goal.take_completed_from_queue-requires-clause-stands
take_completed_from_queue-requires-clause-stands g c = λ k d lt.
    let stands = rw (← c.self.view_is) at c.requires.stands in
    let own = AreHeld-at (g.B.Bus.calls.state c.args.bus.now).owner c.self.inside.key c.self.inside.pending.items k d lt stands.held in
    g.met.B.Bus.stands_is c.args.bus.now _ ∙ ap is_some own

pub returns-clause-stands : goal.returns-clause-stands
returns-clause-stands g c =
    let stands = rw (← c.self.view_is) at c.requires.stands in
    elim c.match-take_completed_from_queue.branch [
      | in-Some w ↦
          let took = w.in-Some.ensures.taken in
          let next = ap (g.B.Bus.calls.state) took.rest ∙ g.met.B.Bus.state_taken c.args.bus.now took.front in
          Stands-taken (g.B.Bus.calls.state c.args.bus.now) _ _ _ took.front c.take_completed_from_queue.new.q.items stands took.was next refl
      | in-None w ↦
          let left = w.in-None.ensures.left in
          Stands-left (g.B.Bus.calls.state c.args.bus.now) _ _ _ stands (ap g.B.Bus.calls.state left.rest) refl left.queue
    ]

pub returns-clause-others : goal.returns-clause-others
returns-clause-others g c =
    let old = g.B.Bus.calls.state c.args.bus.now in
    let new = g.B.Bus.calls.state c.take_completed_from_queue.new.s in
    let stands = rw (← c.self.view_is) at c.requires.stands in
    let key = ap (λ (e : EndpointState). e.key) c.self.view_is in
    subst (λ (k : ℕ). KeepsOthers old new k) key
    (elim c.match-take_completed_from_queue.branch [
      | in-Some w ↦
          let took = w.in-Some.ensures.taken in
          let held = rw took.was at stands.held in
          let next = ap (g.B.Bus.calls.state) took.rest ∙ g.met.B.Bus.state_taken c.args.bus.now took.front in
          KeepsOthers-end old old new c.self.inside.key took.front (others-same old old c.self.inside.key refl refl) held.0 next
      | in-None w ↦
          let rest = ap g.B.Bus.calls.state w.in-None.ensures.left.rest in
          others-same old new c.self.inside.key (ap (λ (b : BusState). b.owner) rest) (ap (λ (b : BusState). b.keys) rest)
    ])

pub returns-clause-polled : goal.returns-clause-polled
returns-clause-polled g c =
    let stands = rw (← c.self.view_is) at c.requires.stands in
    elim c.match-take_completed_from_queue.branch [
      | in-Some w ↦
          let took = w.in-Some.ensures.taken in
          let held = rw took.was at stands.held in
          let holds = g.met.B.Bus.value_is c.args.bus.now took.front (ap is_some held.0) in
          let come = value-came (g.B.Bus.calls.state c.args.bus.now).past took.front _ w.in-Some.transfer w.completion_in.result holds took.value_is w.completion_in.ensures.completion in
          poll-is g.B.Bus.calls c.args.bus.now c.take_completed_from_queue.new.s _ c.args.self.now _ c.match-take_completed_from_queue.result (Some w.completion_in.result) c.self.view_is
          (polled-took g.B.Bus.calls c.args.bus.now c.take_completed_from_queue.new.s _ _ took.front c.take_completed_from_queue.new.q.items w.completion_in.result took.was come (took.rest ∙ g.met.B.Bus.taken_is c.args.bus.now took.front) refl)
          (ap in_poll w.result-is)
      | in-None w ↦
          let left = w.in-None.ensures.left in
          let held = rw left.was at stands.held in
          let holds = g.met.B.Bus.value_is c.args.bus.now left.front (ap is_some held.0) in
          let none = value-none (g.B.Bus.calls.state c.args.bus.now).past left.front _ holds left.none in
          poll-is g.B.Bus.calls c.args.bus.now c.take_completed_from_queue.new.s _ c.args.self.now _ c.match-take_completed_from_queue.result None c.self.view_is
          (polled-left g.B.Bus.calls c.args.bus.now c.take_completed_from_queue.new.s _ _ left.front left.others left.was none left.rest refl left.queue)
          (ap in_poll w.result-is)
    ]
