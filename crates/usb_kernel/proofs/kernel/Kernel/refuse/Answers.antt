use Rattle.std.proofs.Common.{◌≡◌, ◌∷◌, ◌+◌, ap, sym, refl, ◌∙◌, length, reverse, List}
use Rattle.std.specs.List.{sum_by}
use Rattle.usb_kernel.specs.declared.event.Event.{Event}
use Rattle.usb_kernel.specs.declared.submission.Submitted.TheVariants.{Refused}
use Rattle.usb_kernel.specs.Tickets.{tickets}
use Rattle.usb_kernel.specs.Submissions.{refuse_event}
use Rattle.usb_kernel.specs.Completions.{refused_done}
use Rattle.usb_kernel.specs.Rows.{Agrees, owed}
use Rattle.usb_kernel.proofs.Fresh.{tickets-refuse}
use Rattle.usb_kernel.proofs.Acts.{refuse-acts}
use Rattle.usb_kernel.proofs.Kept.{past_is, rest-past, view-ready, less-two, fits-places, room-more, number-small, kept-ready, kept-ticket, next-number}
use Rattle.usb_kernel.proofs.kernel.Kernel.refuse.Goals as goal

pub overflow_add-places : goal.overflow_add-places
overflow_add-places c = fits-places c.self.inside c.self.invariant

pub invariant_of-self : goal.invariant_of-self
invariant_of-self c = kept-ready c.self.inside _ c.self.invariant c.make_place.ensures.items c.make_place.ensures.len c.make_place.ensures.capacity refl c.make_place.ensures.rows refl refl refl refl

pub returns-in_default : goal.returns-in_default
returns-in_default c = record {
  submitted = tt;
  number = tt;
  past = tt;
  rest = rest-past c.self.inside _ c.self.view_is;
  err = view-ready c.self.inside c.make_place.new.journal.items c.make_place.ensures.items c.self.view_is;
  back = refl;
}

pub invariant_of-self-in_default-refused : goal.invariant_of-self-in_default-refused
invariant_of-self-in_default-refused c = kept-ready c.self.inside _ c.self.invariant c.make_place.ensures.items c.make_place.ensures.len c.make_place.ensures.capacity refl c.make_place.ensures.rows refl refl refl refl

pub returns-in_default-refused : goal.returns-in_default-refused
returns-in_default-refused c = record {
  submitted = tt;
  number = tt;
  past = tt;
  rest = rest-past c.self.inside _ c.self.view_is;
  err = view-ready c.self.inside c.make_place.new.journal.items c.make_place.ensures.items c.self.view_is;
  back = refl;
}

pub add_refused-done-requires : goal.add_refused-done-requires
add_refused-done-requires c = record { room = c.in-Ok.ensures.ticket }

pub put-requires : goal.put-requires
put-requires c = record { room = room-more c.make_place.new.journal (c.self.inside.spare + c.self.inside.owed) c.in-Ok.ensures.room }

-- the event that was put
event-put : (c : goal.After-put) → reverse c.put.new.journal.items ≡ refuse_event (length (tickets (reverse c.self.inside.journal.items))) c.args.s c.args.errno ∷ reverse c.self.inside.journal.items
event-put c =
    let past = reverse c.self.inside.journal.items in
    let next = next-number past c.self.inside.tickets.rows c.make_place.new.tickets.rows c.len-next.result c.self.invariant.agrees c.len-next.ensures.len c.make_place.ensures.rows in
    c.put.ensures.items
    ∙ (ap (λ e. e ∷ reverse c.make_place.new.journal.items) (c.in-Ok-refused.ensures.event ∙ ap (λ n. refuse_event n c.args.s c.args.errno) next)
    ∙ ap (λ (xs : List Event). refuse_event (length (tickets past)) c.args.s c.args.errno ∷ reverse xs) c.make_place.ensures.items)

pub invariant_of-self-2 : goal.invariant_of-self-2
invariant_of-self-2 c =
    let past = reverse c.self.inside.journal.items in
    let n = length (tickets past) in
    let agrees : Agrees past c.make_place.new.tickets.rows = rw c.make_place.ensures.rows c.self.invariant.agrees in
    let before : reverse c.make_place.new.journal.items ≡ past = ap (λ (xs : List Event). reverse xs) c.make_place.ensures.items in
    let timed = rw (event-put c) at (c.put.ensures.timed c.self.inside.deadlines.keys (rw c.in-Ok-refused.ensures.event refl) (rw before c.self.invariant.timed)) in
    let owes = c.self.invariant.owes ∙ (ap (sum_by owed) (sym c.make_place.ensures.rows) ∙ sym c.add_refused-done.ensures.places) in
    kept-ticket c.self.inside _ c.make_place.new.journal (refuse_event n c.args.s c.args.errno) c.self.invariant c.requires.errno (refuse-acts past c.args.s c.args.errno) c.self.invariant.gone (c.add_refused-done.ensures.agrees past agrees) timed (event-put c) (tickets-refuse past c.args.s n c.args.errno) owes (less-two c.self.inside.owed) refl c.in-Ok.ensures.room c.in-Ok.ensures.four c.put.ensures.len c.put.ensures.capacity refl

pub returns : goal.returns
returns c =
    let past = reverse c.self.inside.journal.items in
    let agrees : Agrees past c.make_place.new.tickets.rows = rw c.make_place.ensures.rows c.self.invariant.agrees in
    record {
      submitted = ap Refused (c.add_refused-done.ensures.number past agrees ∙ ap (λ p. refused_done (length (tickets p)) c.args.s c.args.errno) (past_is c.self.inside c.self.view_is));
      number = number-small c.add_refused-done.result.ticket c.self.inside.tickets.rows c.make_place.new.tickets.rows c.add_refused-done.ensures.long c.make_place.ensures.rows c.in-Ok.ensures.small;
      past = event-put c ∙ ap (λ p. refuse_event (length (tickets p)) c.args.s c.args.errno ∷ p) (past_is c.self.inside c.self.view_is);
      rest = rest-past c.self.inside _ c.self.view_is;
      err = tt;
      back = tt;
    }
