use Rattle.std.proofs.Common.{◌≡◌, ◌∷◌, arith, refl, sym, ap, ◌∙◌, reverse}
use Rattle.usb_kernel.specs.declared.event.Event.TheVariants.{Fail}
use Rattle.usb_kernel.specs.Rows.{Agrees}
use Rattle.usb_kernel.specs.Steps.{after_fail}
use Rattle.usb_kernel.proofs.Acts.{was-so}
use Rattle.usb_kernel.proofs.Kept.{past_is, has_spare, spare-used, rest-spare, owed-left, has-room, kept-event, kept-quiet, used-one, less-spare}
use Rattle.usb_kernel.proofs.kernel.Kernel.fail.Goals as goal

pub overflow_sub-self : goal.overflow_sub-self
overflow_sub-self g c = has_spare c.self.inside c.self.view_is c.requires.spare

pub fail_oldest-requires : goal.fail_oldest-requires
fail_oldest-requires g c = record { roomy = c.self.invariant.agrees.roomy }

pub overflow_sub-self-then-fail_oldest : goal.overflow_sub-self-then-fail_oldest
overflow_sub-self-then-fail_oldest g c = owed-left c.self.inside _ 1 c.self.invariant c.if-fail_oldest.ensures.places

pub put-requires : goal.put-requires
put-requires g c = record { room = has-room c.self.inside c.self.invariant (has_spare c.self.inside c.self.view_is c.requires.spare) }

pub invariant_of-self : goal.invariant_of-self
invariant_of-self g c =
    let past = reverse c.self.inside.journal.items in
    let acts : after_fail past c.args.device c.args.endpoint c.args.errno ≡ Fail c.args.device c.args.endpoint c.args.errno ∷ past = c.if-fail_oldest.ensures.acts past c.self.invariant.agrees in
    let agrees : Agrees (reverse c.put.new.journal.items) c.fail_oldest.new.self.rows = rw (c.put.ensures.items, ← acts) (c.if-fail_oldest.ensures.agrees past c.self.invariant.agrees) in
    let few = owed-left c.self.inside _ 1 c.self.invariant c.if-fail_oldest.ensures.places in
    kept-event c.self.inside _ (Fail c.args.device c.args.endpoint c.args.errno) 1 c.self.invariant (c.put.ensures.lawful c.requires.errno c.self.invariant.lawful) (c.put.ensures.acts (was-so _ (Fail c.args.device c.args.endpoint c.args.errno) past acts) c.self.invariant.acts) (rw c.put.ensures.items c.self.invariant.gone) agrees (c.put.ensures.timed c.self.inside.deadlines.keys refl c.self.invariant.timed) c.put.ensures.items refl c.if-fail_oldest.ensures.places refl c.put.ensures.len c.put.ensures.capacity (used-one c.self.inside.spare c.self.inside.owed 1 (has_spare c.self.inside c.self.view_is c.requires.spare) few) (less-spare c.self.inside.spare) refl

pub invariant_of-self-else-fail_oldest : goal.invariant_of-self-else-fail_oldest
invariant_of-self-else-fail_oldest g c =
    let past = reverse c.self.inside.journal.items in
    let acts : after_fail past c.args.device c.args.endpoint c.args.errno ≡ past = c.if-fail_oldest.ensures.acts past c.self.invariant.agrees in
    let agrees : Agrees past c.fail_oldest.new.self.rows = rw acts at (c.if-fail_oldest.ensures.agrees past c.self.invariant.agrees) in
    kept-quiet c.self.inside _ c.self.invariant refl c.self.invariant.gone agrees refl c.if-fail_oldest.ensures.places refl (less-spare c.self.inside.spare) refl

pub returns-then-fail_oldest : goal.returns-then-fail_oldest
returns-then-fail_oldest g c =
    let past = reverse c.self.inside.journal.items in
    let acts : after_fail past c.args.device c.args.endpoint c.args.errno ≡ Fail c.args.device c.args.endpoint c.args.errno ∷ past = c.if-fail_oldest.ensures.acts past c.self.invariant.agrees in
    record {
      past = c.put.ensures.items ∙ (sym acts ∙ ap (λ p. after_fail p c.args.device c.args.endpoint c.args.errno) (past_is c.self.inside c.self.view_is));
      spare = spare-used c.self.inside c.self.view_is c.requires.spare;
      rest = rest-spare c.self.inside _ _ c.self.view_is;
      looks = omega (arith, c.fail_oldest.ensures.looks);
    }

pub returns-else-fail_oldest : goal.returns-else-fail_oldest
returns-else-fail_oldest g c =
    let past = reverse c.self.inside.journal.items in
    let acts : after_fail past c.args.device c.args.endpoint c.args.errno ≡ past = c.if-fail_oldest.ensures.acts past c.self.invariant.agrees in
    record {
      past = sym acts ∙ ap (λ p. after_fail p c.args.device c.args.endpoint c.args.errno) (past_is c.self.inside c.self.view_is);
      spare = spare-used c.self.inside c.self.view_is c.requires.spare;
      rest = rest-spare c.self.inside _ _ c.self.view_is;
      looks = omega (arith, c.fail_oldest.ensures.looks);
    }
