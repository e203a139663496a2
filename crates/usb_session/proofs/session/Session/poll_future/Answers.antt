use Rattle.std.proofs.Common.{◌∙◌, ap, sym}
use Rattle.usb_device.specs.Futures.{future_answer}
use Rattle.usb_session_calls.specs.Names.{is_free}
use Rattle.usb_session.specs.Futures.{future_polled, on_future}
use Rattle.usb_session_calls.specs.SessionState.{SessionState}
use Rattle.usb_session.specs.SessionFacts.{made_of}
use Rattle.usb_session_calls.proofs.Answering.{answers}
use Rattle.usb_session.proofs.FutureCalls.{none-gives, polled-sound, polled-spare, polled-gives, pending-same, pending-sound, pending-gives}
use Rattle.usb_session.proofs.FutureCloses.{future-sound_same}
use Rattle.usb_session_calls.proofs.NameLemmas.{freed-free}
use Rattle.usb_session.proofs.Later.{later-same, later-past}
use Rattle.usb_device_host.specs.HostState.{HostState}
use Rattle.usb_session.proofs.FutureCalls.{polled-later}
use Rattle.usb_session.proofs.session.Session.poll_future.Goals as goal

pub invariant_of-self : goal.invariant_of-self
invariant_of-self c =
    future-sound_same (made_of c.self.inside) c.take_at.new.names.items c.number-number.result c.self.invariant (sym c.take_at.ensures.taken ∙ c.in_default.is) c.take_at.ensures.rest

pub returns-in_default-clause-answered : goal.returns-in_default-clause-answered
unfolding on_future
returns-in_default-clause-answered c =
    answers _ _ _ c.self.view_is c.write_condition.ensures.text
    (λ state r. none-gives (made_of c.self.inside) state c.take_at.new.names.items c.args.name (λ f. future_polled state c.args.name f (future_answer state.host f)) r
    (rw c.number-number.ensures.value at (sym c.take_at.ensures.taken ∙ c.in_default.is)) (rw c.number-number.ensures.value at c.take_at.ensures.rest))

pub poll-requires-clause-stands : goal.poll-requires-clause-stands
poll-requires-clause-stands c = c.self.invariant.futures_stand c.number-number.result c.in-Some.future (sym c.take_at.ensures.taken ∙ c.in-Some.is)

pub invariant_of-self-2 : goal.invariant_of-self-2
invariant_of-self-2 c =
    polled-sound (made_of c.self.inside) c.poll.new.host c.close.new.host c.take_at.new.names.items c.number-number.result c.in-Some.future c.poll.new.self c.self.invariant
    (sym c.take_at.ensures.taken ∙ c.in-Some.is) c.take_at.ensures.rest c.in-Ready.ensures.taken c.in-Ready.ensures.spent c.close.ensures.host

pub put_at-requires : goal.put_at-requires
put_at-requires c =
    record { free = ap (λ l. is_free l c.number-number.result) c.take_at.ensures.rest ∙ freed-free c.self.inside.futures.items c.number-number.result c.in-Some.future (sym c.take_at.ensures.taken ∙ c.in-Some.is) }

pub invariant_of-self-in_default-poll : goal.invariant_of-self-in_default-poll
invariant_of-self-in_default-poll c =
    pending-sound (made_of c.self.inside) c.poll.new.host c.put_at.new.names.items c.self.invariant c.in_default-poll.ensures.same_host
    (pending-same (made_of c.self.inside) c.take_at.new.names.items c.put_at.new.names.items c.number-number.result c.in-Some.future c.poll.new.self
    (sym c.take_at.ensures.taken ∙ c.in-Some.is) c.take_at.ensures.rest c.in_default-poll.ensures.same c.put_at.ensures.after)

pub returns-clause-answered : goal.returns-clause-answered
returns-clause-answered c =
    answers _ _ _ c.self.view_is c.write_received.ensures.text
    (λ state r. polled-gives (made_of c.self.inside) state c.poll.new.host c.close.new.host c.take_at.new.names.items c.args.name c.in-Some.future c.poll.new.self _ r
    (rw c.number-number.ensures.value at (sym c.take_at.ensures.taken ∙ c.in-Some.is)) (rw c.number-number.ensures.value at c.take_at.ensures.rest)
    c.in-Ready.ensures.taken c.in-Ready.ensures.spent c.close.ensures.host c.in-Ready.ensures.answer)

pub returns-clause-spare : goal.returns-clause-spare
returns-clause-spare c =
    polled-spare c.self.inside.host c.poll.new.host c.close.new.host c.in-Some.future c.poll.new.self c.in-Ready.ensures.taken c.in-Ready.ensures.spent c.close.ensures.host
    ∙ ap (λ (v : SessionState). v.host.kernel.spare) c.self.view_is

pub returns-in_default-poll-clause-answered : goal.returns-in_default-poll-clause-answered
returns-in_default-poll-clause-answered c =
    answers _ _ _ c.self.view_is c.write_pending.ensures.text
    (λ state r. pending-gives (made_of c.self.inside) state c.poll.new.host c.put_at.new.names.items c.args.name c.in-Some.future r
    (rw c.number-number.ensures.value at (sym c.take_at.ensures.taken ∙ c.in-Some.is)) c.in_default-poll.ensures.same_host
    (pending-same (made_of c.self.inside) c.take_at.new.names.items c.put_at.new.names.items c.number-number.result c.in-Some.future c.poll.new.self
    (sym c.take_at.ensures.taken ∙ c.in-Some.is) c.take_at.ensures.rest c.in_default-poll.ensures.same c.put_at.ensures.after)
    c.in_default-poll.ensures.waits)

pub returns-in_default-clause-later : goal.returns-in_default-clause-later
returns-in_default-clause-later c = later-same c.self.view_is

pub returns-clause-later : goal.returns-clause-later
returns-clause-later c = polled-later c.poll.new.host c.close.new.host c.in-Some.future c.poll.new.self c.self.view_is c.in-Ready.ensures.taken c.in-Ready.ensures.spent c.close.ensures.host

pub returns-in_default-poll-clause-later : goal.returns-in_default-poll-clause-later
returns-in_default-poll-clause-later c = later-past _ c.self.view_is (ap (λ (h : HostState). h.kernel.past) c.in_default-poll.ensures.same_host)
