use Rattle.std.proofs.Common.{refl}
use Rattle.usb_live.proofs.HandlerSteps.{takes_out, looks, finishes, reclaims}
use Rattle.usb_live.proofs.laws.each_step_of_the_handler_keeps_the_rule.Goals as goal

pub returns-clause-out : goal.returns-clause-out
returns-clause-out c = λ n id i m near side at_home takes_it. takes_out n id i m near side at_home takes_it

pub returns-clause-look : goal.returns-clause-look
returns-clause-look c = λ n id i m near side. looks n id i m near side

pub returns-clause-finish : goal.returns-clause-finish
returns-clause-finish c = λ n id i t m x d near side works has ticket done. finishes n id i _ t m x d near side works has ticket done refl

pub returns-clause-take : goal.returns-clause-take
returns-clause-take c = λ n id i t m near side works has. reclaims n id i _ t m near side works has refl
