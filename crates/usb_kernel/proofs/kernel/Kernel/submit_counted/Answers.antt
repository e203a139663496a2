use Rattle.std.proofs.Common.{◌≡◌, ◌∷◌, ◌+◌, ℕ, Some, None, true, false, refl, sym, ap, ◌∙◌, length, reverse, List}
use Rattle.std.specs.Prelude.{is_some}
use Rattle.usb_kernel_devices.specs.Devices.{plugged_device}
use Rattle.usb_kernel_devices.specs.Refusals.{armed_errno, disarmed}
use Rattle.usb_kernel_devices.specs.declared.step.KernelCall.TheVariants as call
use Rattle.usb_kernel.specs.declared.event.Event.{Event}
use Rattle.usb_kernel.specs.declared.submission.Submission.{Submission}
use Rattle.usb_kernel.specs.declared.submission.Submitted.TheVariants.{Queued}
use Rattle.usb_kernel.specs.Value.{KernelState}
use Rattle.usb_kernel.specs.Tickets.{tickets}
use Rattle.usb_kernel.specs.Submissions.{submit_event}
use Rattle.usb_kernel.specs.Rows.{Agrees}
use Rattle.usb_kernel.proofs.Acts.{submit-acts}
use Rattle.usb_kernel.proofs.Deadlines.{tickets-submit}
use Rattle.usb_kernel.proofs.Kept.{past_is, devices_is, armed_is, view-ready, same-spare, fits-places, fits-owed, room-more, number-small, kept-disarmed, kept-ready, kept-ticket, owes-two, next-number}
use Rattle.usb_kernel.proofs.Submitting.{plugged-none, plugged-some, nodev, on_ok, on_ok-err, on_err-ok, rest-both, rest-disarmed, rest-filed}
use Rattle.usb_kernel.proofs.kernel.Kernel.submit_counted.Goals as goal

pub refuse-requires : goal.refuse-requires
refuse-requires g c = record { errno = nodev }

pub returns-then-is_none : goal.returns-then-is_none
returns-then-is_none g c =
    let gone : is_some (plugged_device c.args.self.now.devices c.args.s.device) ≡ false = plugged-none c.plugged.result (plugged_device c.args.self.now.devices c.args.s.device) (c.plugged.ensures.device ∙ ap (λ ds. plugged_device ds c.args.s.device) (c.deref.ensures.value ∙ devices_is c.self.inside c.self.view_is)) c.if-is_none.ensures in
    record {
      submitted = rw gone c.refuse.ensures.submitted;
      number = c.refuse.ensures.number;
      past = rw gone c.refuse.ensures.past;
      armed = rw gone (on_ok c.refuse.result (ap (λ (k : KernelState). k.armed) c.refuse.ensures.rest));
      known = rw gone (on_ok c.refuse.result nodev);
      rest = rest-both c.refuse.new.self c.args.self.now c.refuse.ensures.rest;
      err = c.refuse.ensures.err;
      back = c.refuse.ensures.back;
    }

pub refuse-refused-requires : goal.refuse-refused-requires
refuse-refused-requires g c = record { errno = c.in-Some.ensures.known c.self.invariant.errnos }

pub invariant_of-self : goal.invariant_of-self
invariant_of-self g c = kept-disarmed c.self-in-Some.inside c.disarm.new.self c.self-in-Some.invariant (c.disarm.ensures.errnos c.self-in-Some.invariant.errnos) c.disarm.ensures.room

pub returns-then-is_ok : goal.returns-then-is_ok
returns-then-is_ok g c =
    let here : is_some (plugged_device c.args.self.now.devices c.args.s.device) ≡ true = plugged-some c.plugged.result (plugged_device c.args.self.now.devices c.args.s.device) (c.plugged.ensures.device ∙ ap (λ ds. plugged_device ds c.args.s.device) (c.deref.ensures.value ∙ devices_is c.self.inside c.self.view_is)) c.if-is_none.ensures in
    let errno : armed_errno c.args.self.now.armed c.args.s.device call.Submit ≡ Some c.in-Some.errno = ap (λ xs. armed_errno xs c.args.s.device call.Submit) (sym (armed_is c.self.inside c.self.view_is)) ∙ sym c.in-Some.ensures.errno in
    let k = c.self-in-Some.inside in
    let before = armed_is k c.self-in-Some.view_is ∙ ap (λ (x : KernelState). x.armed) c.refuse-refused.ensures.rest in
    record {
      submitted = rw (here, errno) c.refuse-refused.ensures.submitted;
      number = c.refuse-refused.ensures.number;
      past = rw (here, errno, past_is k c.self-in-Some.view_is) c.refuse-refused.ensures.past;
      armed = rw here (on_ok c.refuse-refused.result (c.disarm.ensures.armed ∙ ap (λ xs. disarmed xs c.args.s.device call.Submit) before));
      known = rw (here, errno) (on_ok c.refuse-refused.result (c.in-Some.ensures.known c.self.invariant.errnos));
      rest = rest-disarmed k c.refuse-refused.new.self c.args.self.now c.disarm.new.self.armed c.self-in-Some.view_is c.refuse-refused.ensures.rest;
      err = on_err-ok _ c.refuse-refused.result c.if-is_ok.ensures.value;
      back = c.refuse-refused.ensures.back;
    }

pub returns-else-is_ok : goal.returns-else-is_ok
returns-else-is_ok g c =
    let here : is_some (plugged_device c.args.self.now.devices c.args.s.device) ≡ true = plugged-some c.plugged.result (plugged_device c.args.self.now.devices c.args.s.device) (c.plugged.ensures.device ∙ ap (λ ds. plugged_device ds c.args.s.device) (c.deref.ensures.value ∙ devices_is c.self.inside c.self.view_is)) c.if-is_none.ensures in
    let errno : armed_errno c.args.self.now.armed c.args.s.device call.Submit ≡ Some c.in-Some.errno = ap (λ xs. armed_errno xs c.args.s.device call.Submit) (sym (armed_is c.self.inside c.self.view_is)) ∙ sym c.in-Some.ensures.errno in
    record {
      submitted = rw (here, errno) c.refuse-refused.ensures.submitted;
      number = c.refuse-refused.ensures.number;
      past = rw (here, errno) c.refuse-refused.ensures.past;
      armed = on_ok-err _ c.refuse-refused.result c.if-is_ok.ensures.value;
      known = rw (here, errno) (on_ok c.refuse-refused.result (c.in-Some.ensures.known c.self.invariant.errnos));
      rest = rest-both c.refuse-refused.new.self c.args.self.now c.refuse-refused.ensures.rest;
      err = c.refuse-refused.ensures.err;
      back = c.refuse-refused.ensures.back;
    }

pub overflow_add-places : goal.overflow_add-places
overflow_add-places g c = fits-places c.self.inside c.self.invariant

pub invariant_of-self-in_default-make_place : goal.invariant_of-self-in_default-make_place
invariant_of-self-in_default-make_place g c = kept-ready c.self.inside _ c.self.invariant c.make_place.ensures.items c.make_place.ensures.len c.make_place.ensures.capacity refl c.make_place.ensures.rows refl refl refl refl

pub returns-in_default-make_place : goal.returns-in_default-make_place
returns-in_default-make_place g c = record {
  submitted = tt;
  number = tt;
  past = tt;
  armed = tt;
  known = tt;
  rest = rest-filed c.self.inside _ c.self.view_is;
  err = view-ready c.self.inside c.make_place.new.journal.items c.make_place.ensures.items c.self.view_is;
  back = refl;
}

pub invariant_of-self-in_default-submitted : goal.invariant_of-self-in_default-submitted
invariant_of-self-in_default-submitted g c = kept-ready c.self.inside _ c.self.invariant c.make_place.ensures.items c.make_place.ensures.len c.make_place.ensures.capacity refl c.make_place.ensures.rows c.in_default-submitted.ensures.err refl refl refl

pub returns-in_default-submitted : goal.returns-in_default-submitted
returns-in_default-submitted g c = record {
  submitted = tt;
  number = tt;
  past = tt;
  armed = tt;
  known = tt;
  rest = rest-filed c.self.inside _ c.self.view_is;
  err = view-ready c.self.inside c.make_place.new.journal.items c.make_place.ensures.items c.self.view_is;
  back = refl;
}

pub add-ticket-requires : goal.add-ticket-requires
add-ticket-requires g c = record { room = c.in-Ok.ensures.ticket; opened = c.in-Ok.ensures.opened; whole = c.requires.whole }

pub overflow_add-self : goal.overflow_add-self
overflow_add-self g c = fits-owed c.make_place.new.journal c.self.inside.spare c.self.inside.owed c.in-Ok.ensures.room

pub put-requires : goal.put-requires
put-requires g c = record { room = room-more c.make_place.new.journal (c.self.inside.spare + c.self.inside.owed) c.in-Ok.ensures.room }

-- the event that was put
event-put : (s : Submission) (event : Event) (next : ℕ) (old ready put : List Event) → put ≡ event ∷ reverse ready → event ≡ submit_event next s → next ≡ length (tickets (reverse old)) → ready ≡ old → put ≡ submit_event (length (tickets (reverse old))) s ∷ reverse old
event-put s event next old ready put items is number same =
    items
    ∙ (ap (λ e. e ∷ reverse ready) (is ∙ ap (λ n. submit_event n s) number)
    ∙ ap (λ (xs : List Event). submit_event (length (tickets (reverse old))) s ∷ reverse xs) same)

pub invariant_of-self-2 : goal.invariant_of-self-2
invariant_of-self-2 g c =
    let past = reverse c.self.inside.journal.items in
    let n = length (tickets past) in
    let agrees : Agrees past c.make_place.new.tickets.rows = rw c.make_place.ensures.rows c.self.invariant.agrees in
    let next = next-number past c.self.inside.tickets.rows c.make_place.new.tickets.rows c.len-next.result c.self.invariant.agrees c.len-next.ensures.len c.make_place.ensures.rows in
    let event : reverse c.put.new.journal.items ≡ submit_event (length (tickets past)) c.args.s ∷ past = event-put c.args.s c.in-Ok-submitted.event c.len-next.result c.self.inside.journal.items c.make_place.new.journal.items (reverse c.put.new.journal.items) c.put.ensures.items c.in-Ok-submitted.ensures.event next c.make_place.ensures.items in
    let here : is_some (plugged_device c.self.inside.devices.items c.args.s.device) ≡ true = plugged-some c.plugged.result (plugged_device c.self.inside.devices.items c.args.s.device) (c.plugged.ensures.device ∙ ap (λ ds. plugged_device ds c.args.s.device) c.deref.ensures.value) c.if-is_none.ensures in
    kept-ticket c.self.inside _ c.make_place.new.journal (submit_event n c.args.s) c.self.invariant c.requires.whole (submit-acts past c.self.inside.devices.items c.args.s c.self.invariant.gone here c.requires.whole) c.self.invariant.gone (c.add-ticket.ensures.agrees past agrees) (c.in-Ok-submitted.ensures.kept past next c.self.invariant.timed) event (tickets-submit past c.args.s n) (owes-two c.self.inside.owed c.self.inside.tickets.rows c.make_place.new.tickets.rows c.add-ticket.new.self.rows c.self.invariant.owes c.make_place.ensures.rows c.add-ticket.ensures.places) (same-spare (c.self.inside.owed + 2)) refl c.in-Ok.ensures.room c.in-Ok.ensures.four c.put.ensures.len c.put.ensures.capacity refl

pub returns : goal.returns
returns g c =
    let past = reverse c.self.inside.journal.items in
    let agrees : Agrees past c.make_place.new.tickets.rows = rw c.make_place.ensures.rows c.self.invariant.agrees in
    let next = next-number past c.self.inside.tickets.rows c.make_place.new.tickets.rows c.len-next.result c.self.invariant.agrees c.len-next.ensures.len c.make_place.ensures.rows in
    let event : reverse c.put.new.journal.items ≡ submit_event (length (tickets past)) c.args.s ∷ past = event-put c.args.s c.in-Ok-submitted.event c.len-next.result c.self.inside.journal.items c.make_place.new.journal.items (reverse c.put.new.journal.items) c.put.ensures.items c.in-Ok-submitted.ensures.event next c.make_place.ensures.items in
    let here : is_some (plugged_device c.args.self.now.devices c.args.s.device) ≡ true = plugged-some c.plugged.result (plugged_device c.args.self.now.devices c.args.s.device) (c.plugged.ensures.device ∙ ap (λ ds. plugged_device ds c.args.s.device) (c.deref.ensures.value ∙ devices_is c.self.inside c.self.view_is)) c.if-is_none.ensures in
    let none : armed_errno c.args.self.now.armed c.args.s.device call.Submit ≡ None = ap (λ xs. armed_errno xs c.args.s.device call.Submit) (sym (armed_is c.self.inside c.self.view_is)) ∙ sym c.in_default.ensures.errno in
    let left : disarmed c.args.self.now.armed c.args.s.device call.Submit ≡ c.self.inside.armed.armed = ap (λ xs. disarmed xs c.args.s.device call.Submit) (sym (armed_is c.self.inside c.self.view_is)) ∙ c.in_default.ensures.none in
    record {
      submitted = rw (here, none) (ap Queued (c.add-ticket.ensures.number past agrees ∙ ap (λ p. length (tickets p)) (past_is c.self.inside c.self.view_is)));
      number = number-small c.add-ticket.result c.self.inside.tickets.rows c.make_place.new.tickets.rows c.add-ticket.ensures.long c.make_place.ensures.rows c.in-Ok.ensures.small;
      past = rw (here, none) (event ∙ ap (λ p. submit_event (length (tickets p)) c.args.s ∷ p) (past_is c.self.inside c.self.view_is));
      armed = rw here (sym left);
      known = rw (here, none) tt;
      rest = rest-filed c.self.inside _ c.self.view_is;
      err = tt;
      back = tt;
    }
