use Rattle.std.proofs.Common.{◌*◌, refl, sym, subst, arith}
use Rattle.usb_live.specs.Cells.{OwnerTakes}
use Rattle.usb_live.proofs.OwnerSteps.{takes_out, fills, refuses, publishes, looks, abandons, takes_it_back}
use Rattle.usb_live.proofs.laws.each_step_of_the_owner_keeps_the_rule.Goals as goal

pub returns-clause-out : goal.returns-clause-out
returns-clause-out c = λ n id i m near side at_home takes_it. takes_out n id i m near side at_home takes_it

pub returns-clause-fill : goal.returns-clause-fill
returns-clause-fill c = λ n id i t m x near side free has ticket. fills n id i _ t m x near side (subst OwnerTakes (sym free) tt) has ticket refl

pub returns-clause-refuse : goal.returns-clause-refuse
returns-clause-refuse c = λ n id i t m x d near side free has ticket done. refuses n id i _ t m x d near side (subst OwnerTakes (sym free) tt) has ticket done refl

pub returns-clause-publish : goal.returns-clause-publish
returns-clause-publish c = λ n id i t m near side at_home is. publishes n id i _ t m near side at_home is refl

pub returns-clause-look : goal.returns-clause-look
returns-clause-look c = λ n id i t m near side is. looks n id i t m near side is

pub returns-clause-abandon : goal.returns-clause-abandon
returns-clause-abandon c = λ n id i t m near side is. abandons n id i _ _ t m near side is refl refl

pub returns-clause-take : goal.returns-clause-take
returns-clause-take c = λ n id i t m near side mine has. takes_it_back n id i (4 * t) m near side (subst OwnerTakes (sym mine) tt) has (omega arith)
