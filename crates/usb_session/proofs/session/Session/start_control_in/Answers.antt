use Rattle.std.proofs.Common.{◌≡◌, ◌∙◌, ap, sym}
use Rattle.usb_session_calls.specs.Controls.{request_for}
use Rattle.usb_session_calls.specs.Names.{set_name}
use Rattle.usb_session_calls.specs.SessionState.{SessionState}
use Rattle.usb_session.specs.SessionFacts.{made_of}
use Rattle.usb_session_calls.specs.TargetCalls.{number_of_target}
use Rattle.usb_session_calls.proofs.Answering.{answers, answers-same}
use Rattle.usb_session_calls.proofs.ControlCode.{number-shown}
use Rattle.usb_session.proofs.FutureCalls.{start-sound, none-sound, start-spare, start-gives, start-none, start-used, start-bars}
use Rattle.usb_session_calls.proofs.NameLemmas.{free_at}
use Rattle.usb_kernel.proofs.Extends.{extends-same}
use Rattle.usb_session.proofs.Later.{later-past}
use Rattle.usb_device_host.specs.HostState.{HostState}
use Rattle.usb_session.proofs.FutureCalls.{start-later}
use Rattle.usb_session.proofs.session.Session.start_control_in.Goals as goal

pub returns-then-bars_control-clause-answered : goal.returns-then-bars_control-clause-answered
returns-then-bars_control-clause-answered c =
    answers-same _ _ _ c.self.view_is c.write_condition.ensures.text
    (λ state r. start-bars (made_of c.self.inside) state c.args.name (request_for c.args.setup c.args.wanted) c.args.timeout c.args.target r (sym c.bars_control.ensures.barred ∙ c.if-bars_control.true))

pub returns-then-not-is_free-clause-answered : goal.returns-then-not-is_free-clause-answered
returns-then-not-is_free-clause-answered c =
    answers-same _ _ _ c.self.view_is c.write_condition-then-not-is_free.ensures.text
    (λ state r. start-used (made_of c.self.inside) state c.args.name (request_for c.args.setup c.args.wanted) c.args.timeout c.args.target r (free_at _ _ _ _ _ _ c.deref.ensures.value c.number.ensures.value c.is_free.ensures.free c.if-not-is_free.true))

pub returns-in_default-clause-answered : goal.returns-in_default-clause-answered
returns-in_default-clause-answered c =
    answers _ _ _ c.self.view_is c.write_condition-in_default.ensures.text
    (λ state r. start-none (made_of c.self.inside) state c.start_in_open.new.host c.args.name (request_for c.args.setup c.args.wanted) c.args.timeout c.args.target
    (number_of_target c.self.inside.host c.deref-2.result.now c.deref-3.result.now c.args.target) r (number-shown c.self.inside.host _ _ _ _ c.args.target c.deref-2.ensures.value c.deref-3.ensures.value)
    (sym c.in_default.is ∙ c.in_ok-future.ensures.future) c.in_ok-future.ensures.ok)

pub invariant_of-self-in_default : goal.invariant_of-self-in_default
invariant_of-self-in_default c =
    none-sound (made_of c.self.inside) c.start_in_open.new.host (request_for c.args.setup c.args.wanted) c.args.timeout
    (number_of_target c.self.inside.host c.deref-2.result.now c.deref-3.result.now c.args.target) c.self.invariant (sym c.in_default.is ∙ c.in_ok-future.ensures.future) c.in_ok-future.ensures.ok

pub invariant_of-self-2 : goal.invariant_of-self-2
invariant_of-self-2 c =
    start-sound (made_of c.self.inside) c.start_in_open.new.host c.put_at.new.names.items c.args.name c.in-Some.future (request_for c.args.setup c.args.wanted) c.args.timeout
    (number_of_target c.self.inside.host c.deref-2.result.now c.deref-3.result.now c.args.target) c.self.invariant
    (free_at _ _ _ _ _ _ c.deref.ensures.value c.number.ensures.value c.is_free.ensures.free c.if-not-is_free.false) (rw (← c.number-2.ensures.value) c.put_at.ensures.after)
    (sym c.in-Some.is ∙ c.in_ok-future.ensures.future) c.in_ok-future.ensures.ok (c.in_ok-future.ensures.stands c.in-Some.future c.in-Some.is)

pub returns-clause-answered : goal.returns-clause-answered
returns-clause-answered c =
    let after : c.put_at.new.names.items ≡ set_name c.self.inside.futures.items c.args.name c.in-Some.future = rw (← c.number-2.ensures.value) c.put_at.ensures.after in
    answers _ _ _ c.self.view_is c.write_ok.ensures.text
    (λ state r. start-gives (made_of c.self.inside) state c.start_in_open.new.host c.put_at.new.names.items c.args.name c.in-Some.future (request_for c.args.setup c.args.wanted) c.args.timeout c.args.target
    (number_of_target c.self.inside.host c.deref-2.result.now c.deref-3.result.now c.args.target) r (sym c.bars_control.ensures.barred ∙ c.if-bars_control.false)
    (free_at _ _ _ _ _ _ c.deref.ensures.value c.number.ensures.value c.is_free.ensures.free c.if-not-is_free.false) (number-shown c.self.inside.host _ _ _ _ c.args.target c.deref-2.ensures.value c.deref-3.ensures.value) after
    (sym c.in-Some.is ∙ c.in_ok-future.ensures.future) c.in_ok-future.ensures.ok)

pub returns-clause-spare : goal.returns-clause-spare
returns-clause-spare c =
    start-spare c.self.inside.host c.start_in_open.new.host (request_for c.args.setup c.args.wanted) c.args.timeout (number_of_target c.self.inside.host c.deref-2.result.now c.deref-3.result.now c.args.target) c.in_ok-future.ensures.ok
    ∙ ap (λ (v : SessionState). v.host.kernel.spare) c.self.view_is

pub returns-then-bars_control-clause-later : goal.returns-then-bars_control-clause-later
returns-then-bars_control-clause-later c = extends-same c.args.self.now.host.kernel.past

pub returns-then-not-is_free-clause-later : goal.returns-then-not-is_free-clause-later
returns-then-not-is_free-clause-later c = extends-same c.args.self.now.host.kernel.past

pub returns-in_default-clause-later : goal.returns-in_default-clause-later
returns-in_default-clause-later c = start-later c.start_in_open.new.host (request_for c.args.setup c.args.wanted) c.args.timeout (number_of_target c.self.inside.host c.deref-2.result.now c.deref-3.result.now c.args.target) c.self.view_is c.in_ok-future.ensures.ok

pub returns-clause-later : goal.returns-clause-later
returns-clause-later c = start-later c.start_in_open.new.host (request_for c.args.setup c.args.wanted) c.args.timeout (number_of_target c.self.inside.host c.deref-2.result.now c.deref-3.result.now c.args.target) c.self.view_is c.in_ok-future.ensures.ok

pub returns-in_err-future-clause-later : goal.returns-in_err-future-clause-later
returns-in_err-future-clause-later c = later-past _ c.self.view_is (ap (λ (h : HostState). h.kernel.past) c.in_err-future.ensures.err)
