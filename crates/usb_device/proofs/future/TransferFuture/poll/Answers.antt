use Rattle.std.proofs.Common.{sym, subst, ℕ, ap}
use Rattle.std.specs.Prelude.{IsSome}
use Rattle.usb_device_tables.proofs.ValueLemmas.{some-of}
use Rattle.usb_device.specs.Futures.{FutureState, StandsFuture}
use Rattle.usb_device.proofs.FutureFrames.{polled-stands}
use Rattle.usb_device.specs.KeptHandles.{StandBesideKey}
use Rattle.usb_device.proofs.KeptLemmas.{beside-polled}
use Rattle.usb_device.proofs.future.TransferFuture.poll.Goals as goal

pub poll_control-requires-clause-key : goal.poll_control-requires-clause-key
poll_control-requires-clause-key c =
    let stands = subst (StandsFuture c.args.host.now) (sym c.self.view_is) c.requires.stands in
    let t = some-of c.self.inside.pending (subst (λ (f : FutureState). IsSome f.ticket) (sym c.self.view_is) c.requires.unanswered) in
    (stands.on_its_way t.0 t.1).key_is_open

pub returns-clause-stands : goal.returns-clause-stands
returns-clause-stands c =
    let f = c.self.inside in
    let polled = c.poll_control.ensures in
    let stands = subst (StandsFuture c.args.host.now) (sym c.self.view_is) c.requires.stands in
    polled-stands c.poll_control.result c.args.host.now c.poll_control.new.self f.key f.deadline f.direction f.pending c.poll_control.new.pending polled.spent polled.same polled.waits stands

pub returns-clause-handles : goal.returns-clause-handles
returns-clause-handles c =
    let f = c.self.inside in
    let host = c.args.host.now in
    let polled = c.poll_control.ensures in
    let stands = subst (StandsFuture host) (sym c.self.view_is) c.requires.stands in
    let some = subst (λ (f : FutureState). IsSome f.ticket) (sym c.self.view_is) c.requires.unanswered in
    subst (λ (k : ℕ). StandBesideKey host c.poll_control.new.self k) (ap (λ (f : FutureState). f.key) c.self.view_is)
    (beside-polled c.poll_control.result host c.poll_control.new.self f.key f.deadline f.direction f.pending polled.taken polled.same some stands)
