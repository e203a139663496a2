use Rattle.std.proofs.Common.{◌≡◌, ◌∷◌, ◌++◌, [], ◌∙◌, arith}
use Rattle.std.proofs.lemmas.Grind.{common_steps}
use Rattle.usb_script.specs.Taken.{taken_of}
use Rattle.usb_script.proofs.TakenLemmas.{taken-more}
use Rattle.usb_script.proofs.order.ItemsBefore.add.Goals as goal
use Rattle.usb_script.proofs.order.ItemsBefore.add.Goals.{then-may_follow, else-may_follow}

pub invariant_of-self : goal.invariant_of-self
invariant_of-self c =
    elim c.if-may_follow.branch [
      | then-may_follow w ↦
          let items : c.if-may_follow.self-inside.items.items ≡ c.self.inside.items.items = grind (arith, common_steps) in
          let taken : c.if-may_follow.self-inside.taken.items ≡ c.self.inside.taken.items ++ taken_of (c.args.item ∷ []) = grind (arith, common_steps) in
          record {
            setup = grind (arith, common_steps);
            places = rw (c.push_reserved.ensures.items, items) (taken ∙ taken-more c.self.inside.items.items c.args.item c.self.inside.taken.items c.self.invariant.places);
          }
      | else-may_follow w ↦ record { setup = grind (arith, common_steps); places = grind (arith, common_steps) }
    ]
