use Rattle.std.proofs.Common.{◌≡◌, Some, refl, sym, ap, ◌∙◌, reverse}
use Rattle.usb_kernel.specs.declared.event.Event.TheVariants.{Reap}
use Rattle.usb_kernel.specs.Rows.{Agrees}
use Rattle.usb_kernel.specs.Completions.{reapable}
use Rattle.usb_kernel.specs.Timers.{without_deadline}
use Rattle.usb_kernel.specs.Deadlines.{KeepsDeadlines}
use Rattle.usb_kernel.specs.Steps.{after_reap}
use Rattle.usb_kernel.proofs.StepLemmas.{after_reap-none, after_reap-some}
use Rattle.usb_kernel.proofs.Acts.{reap-acts}
use Rattle.usb_kernel.proofs.Kept.{past_is, rest-past, owed-left, has-room_owed, kept-event, kept-quiet, used-freed, same-spare}
use Rattle.usb_kernel.proofs.Deadlines.{keeps-reaped}
use Rattle.usb_kernel.proofs.kernel.Kernel.reap_ticket.Goals as goal

pub invariant_of-self : goal.invariant_of-self
invariant_of-self g c =
    let past = reverse c.self.inside.journal.items in
    let none = c.in_err-done.ensures.done past c.self.invariant.agrees in
    let agrees : Agrees past c.take_finished.new.self.rows = rw (after_reap-none past c.args.ticket none) at (c.in_err-done.ensures.agrees past c.self.invariant.agrees) in
    kept-quiet c.self.inside _ c.self.invariant refl c.self.invariant.gone agrees refl c.in_err-done.ensures.places refl (same-spare c.self.inside.spare) refl

pub returns-in_err-done-clause-past : goal.returns-in_err-done-clause-past
returns-in_err-done-clause-past g c =
    let past = reverse c.self.inside.journal.items in
    sym (after_reap-none past c.args.ticket (c.in_err-done.ensures.done past c.self.invariant.agrees)) ∙ ap (λ p. after_reap p c.args.ticket) (past_is c.self.inside c.self.view_is)

pub returns-in_err-done-clause-rest : goal.returns-in_err-done-clause-rest
returns-in_err-done-clause-rest g c = rest-past c.self.inside _ c.self.view_is

pub overflow_sub-self : goal.overflow_sub-self
overflow_sub-self g c = owed-left c.self.inside _ 1 c.self.invariant c.in_ok-done.ensures.places

pub put-requires : goal.put-requires
put-requires g c = record { room = has-room_owed c.self.inside c.self.invariant (owed-left c.self.inside _ 1 c.self.invariant c.in_ok-done.ensures.places) }

pub invariant_of-self-2 : goal.invariant_of-self-2
invariant_of-self-2 g c =
    let past = reverse c.self.inside.journal.items in
    let some : reapable past c.args.ticket ≡ Some c.in_ok-done.done = c.in_ok-done.ensures.done past c.self.invariant.agrees in
    let agrees : Agrees (reverse c.put.new.journal.items) c.take_finished.new.self.rows = rw (c.put.ensures.items, ← after_reap-some past c.args.ticket c.in_ok-done.done some) (c.in_ok-done.ensures.agrees past c.self.invariant.agrees) in
    let keys = c.forget_deadline.ensures.keys ∙ ap (λ o. without_deadline c.self.inside.deadlines.keys o c.args.ticket) (c.in_ok-done.ensures.deadline past c.self.invariant.agrees) in
    let timed : KeepsDeadlines (reverse c.put.new.journal.items) c.forget_deadline.new.deadlines.keys = rw (c.put.ensures.items, keys) (keeps-reaped past c.args.ticket c.in_ok-done.done c.self.inside.deadlines.keys some c.self.invariant.timed) in
    kept-event c.self.inside _ (Reap c.args.ticket) 1 c.self.invariant (c.put.ensures.lawful tt c.self.invariant.lawful) (c.put.ensures.acts (reap-acts past c.args.ticket c.in_ok-done.done some) c.self.invariant.acts) (rw c.put.ensures.items c.self.invariant.gone) agrees timed c.put.ensures.items refl c.in_ok-done.ensures.places refl c.put.ensures.len c.put.ensures.capacity (used-freed c.self.inside.spare c.self.inside.owed (owed-left c.self.inside _ 1 c.self.invariant c.in_ok-done.ensures.places)) (same-spare c.self.inside.spare) refl

pub returns : goal.returns
returns g c =
    let past = reverse c.self.inside.journal.items in
    let some : reapable past c.args.ticket ≡ Some c.in_ok-done.done = c.in_ok-done.ensures.done past c.self.invariant.agrees in
    record {
      done = sym some ∙ ap (λ p. reapable p c.args.ticket) (past_is c.self.inside c.self.view_is);
      past = c.put.ensures.items ∙ (sym (after_reap-some past c.args.ticket c.in_ok-done.done some) ∙ ap (λ p. after_reap p c.args.ticket) (past_is c.self.inside c.self.view_is));
      rest = rest-past c.self.inside _ c.self.view_is;
      looks = c.take_finished.ensures.looks;
    }
