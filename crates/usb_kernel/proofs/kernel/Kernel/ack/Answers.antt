use Rattle.std.proofs.Common.{◌≡◌, ◌∷◌, arith, refl, sym, ap, ◌∙◌, reverse}
use Rattle.usb_kernel.specs.declared.event.Event.TheVariants.{Ack}
use Rattle.usb_kernel.specs.Rows.{Agrees}
use Rattle.usb_kernel.specs.Steps.{after_ack}
use Rattle.usb_kernel.proofs.Acts.{was-so}
use Rattle.usb_kernel.proofs.Kept.{past_is, has_spare, spare-used, rest-spare, owed-left, has-room, kept-event, kept-quiet, used-one, less-spare}
use Rattle.usb_kernel.proofs.kernel.Kernel.ack.Goals as goal

pub overflow_sub-self : goal.overflow_sub-self
overflow_sub-self g c = has_spare c.self.inside c.self.view_is c.requires.spare

pub give_ack-requires : goal.give_ack-requires
give_ack-requires g c = record { roomy = c.self.invariant.agrees.roomy }

pub overflow_sub-self-in-Some : goal.overflow_sub-self-in-Some
overflow_sub-self-in-Some g c = owed-left c.self.inside _ c.in-Some.freed c.self.invariant c.in-Some.ensures.places

pub put-requires : goal.put-requires
put-requires g c = record { room = has-room c.self.inside c.self.invariant (has_spare c.self.inside c.self.view_is c.requires.spare) }

pub invariant_of-self : goal.invariant_of-self
invariant_of-self g c =
    let past = reverse c.self.inside.journal.items in
    let acts : after_ack past c.args.device c.args.endpoint ≡ Ack c.args.device c.args.endpoint ∷ past = c.in-Some.ensures.acts past c.self.invariant.agrees in
    let agrees : Agrees (reverse c.put.new.journal.items) c.give_ack.new.self.rows = rw (c.put.ensures.items, ← acts) (c.in-Some.ensures.agrees past c.self.invariant.agrees) in
    let few = owed-left c.self.inside _ c.in-Some.freed c.self.invariant c.in-Some.ensures.places in
    kept-event c.self.inside _ (Ack c.args.device c.args.endpoint) c.in-Some.freed c.self.invariant (c.put.ensures.lawful tt c.self.invariant.lawful) (c.put.ensures.acts (was-so _ (Ack c.args.device c.args.endpoint) past acts) c.self.invariant.acts) (rw c.put.ensures.items c.self.invariant.gone) agrees (c.put.ensures.timed c.self.inside.deadlines.keys refl c.self.invariant.timed) c.put.ensures.items refl c.in-Some.ensures.places refl c.put.ensures.len c.put.ensures.capacity (used-one c.self.inside.spare c.self.inside.owed c.in-Some.freed (has_spare c.self.inside c.self.view_is c.requires.spare) few) (less-spare c.self.inside.spare) refl

pub invariant_of-self-in_default : goal.invariant_of-self-in_default
invariant_of-self-in_default g c =
    let past = reverse c.self.inside.journal.items in
    let acts : after_ack past c.args.device c.args.endpoint ≡ past = c.in_default.ensures.acts past c.self.invariant.agrees in
    let agrees : Agrees past c.give_ack.new.self.rows = rw acts at (c.in_default.ensures.agrees past c.self.invariant.agrees) in
    kept-quiet c.self.inside _ c.self.invariant refl c.self.invariant.gone agrees refl c.in_default.ensures.places refl (less-spare c.self.inside.spare) refl

pub returns-in-Some : goal.returns-in-Some
returns-in-Some g c =
    let past = reverse c.self.inside.journal.items in
    let acts : after_ack past c.args.device c.args.endpoint ≡ Ack c.args.device c.args.endpoint ∷ past = c.in-Some.ensures.acts past c.self.invariant.agrees in
    record {
      past = c.put.ensures.items ∙ (sym acts ∙ ap (λ p. after_ack p c.args.device c.args.endpoint) (past_is c.self.inside c.self.view_is));
      spare = spare-used c.self.inside c.self.view_is c.requires.spare;
      rest = rest-spare c.self.inside _ _ c.self.view_is;
      looks = omega (arith, c.give_ack.ensures.looks);
    }

pub returns-in_default : goal.returns-in_default
returns-in_default g c =
    let past = reverse c.self.inside.journal.items in
    let acts : after_ack past c.args.device c.args.endpoint ≡ past = c.in_default.ensures.acts past c.self.invariant.agrees in
    record {
      past = sym acts ∙ ap (λ p. after_ack p c.args.device c.args.endpoint) (past_is c.self.inside c.self.view_is);
      spare = spare-used c.self.inside c.self.view_is c.requires.spare;
      rest = rest-spare c.self.inside _ _ c.self.view_is;
      looks = omega (arith, c.give_ack.ensures.looks);
    }
