use Rattle.std.proofs.Common.{None, sym, ◌∙◌, subst, arith}
use Rattle.std.proofs.lemmas.Grind.{common_steps}
use Rattle.usb_kernel.specs.Submissions.{IsWhole}
use Rattle.usb_device_endpoint.specs.declared.route.Route.{Route}
use Rattle.usb_device_endpoint.specs.Routes.{submission_of}
use Rattle.usb_device_endpoint.specs.Submitted.{Entered}
use Rattle.usb_device_endpoint.proofs.SubmitLemmas.{IsWhole-valid, Stands-entered, others-entered}
use Rattle.usb_device_endpoint.proofs.endpoint.Endpoint.submit_as.Goals as goal

pub enter-requires-clause-whole : goal.enter-requires-clause-whole
enter-requires-clause-whole g c = λ valid.
    let whole = IsWhole-valid c.args.self.now c.args.buf (sym c.accepts-is_accepted.ensures.valid ∙ valid) in
    subst (λ (to : Route). IsWhole (submission_of to None c.args.buf)) (sym c.route-to.ensures.route) whole

pub returns-in-Ok-clause-stands : goal.returns-in-Ok-clause-stands
returns-in-Ok-clause-stands g c =
    let enters = c.in-Ok.ensures.state in
    let ticket = subst (λ (to : Route). Entered (g.B.Bus.calls.state c.args.bus.now) (g.B.Bus.calls.state c.enter.new.bus) to c.args.deadline c.args.buf enters.refusal) c.route-to.ensures.route enters.ticket in
    Stands-entered (g.B.Bus.calls.state c.args.bus.now) _ c.args.self.now _ c.args.deadline c.args.buf enters.refusal c.requires.stands c.in-Ok.ensures.fresh ticket (grind (arith, common_steps))

pub returns-in-Ok-clause-others : goal.returns-in-Ok-clause-others
returns-in-Ok-clause-others g c =
    let enters = c.in-Ok.ensures.state in
    others-entered (g.B.Bus.calls.state c.args.bus.now) (g.B.Bus.calls.state c.enter.new.bus) c.route-to.result c.args.deadline c.args.buf enters.refusal c.args.self.now.key c.in-Ok.ensures.fresh enters.ticket
